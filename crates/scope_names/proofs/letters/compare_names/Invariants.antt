use Rattle.std.proofs.Common.{length, ◌-◌, ◌≡◌, ◌≤◌}
use Rattle.std.specs.Ordering.{nat_cmp}
use Rattle.std.specs.Cmp.Lexicographic.{slice_cmp}
use Rattle.iec_tables.specs.Words.{raised_all}
use Rattle.scope_names.proofs.Comparing.{rest_cmp}
use Rattle.scope_names.proofs.letters.compare_names.Given as goal

abbrev pub invariant-loop-at : goal.invariant-loop-at
invariant-loop-at l = record {
  in_a : l.at ≤ length l.a;
  in_b : l.at ≤ length l.b;
  rest : rest_cmp l.at l.a l.b ≡ slice_cmp nat_cmp (raised_all l.a) (raised_all l.b);
}

abbrev pub decreases-loop-at : goal.decreases-loop-at
decreases-loop-at l = length l.a - l.at
