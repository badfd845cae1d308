use Rattle.std.proofs.Common.{◌≡◌, ℕ, ◌-◌, ◌/◌, ◌<◌, ◌≤◌, length, get_or}
use Rattle.reference_graph.proofs.numbering.number.Given as goal

abbrev pub invariant-loop-node : goal.invariant-loop-node
invariant-loop-node l = record {
  done : (a : ℕ) → a < l.node → get_or l.groups.items a 0 ≡ get_or l.fn.groups.items a 0 / 2 - 1;
  rest : (a : ℕ) → l.node ≤ a → get_or l.groups.items a 0 ≡ get_or l.fn.groups.items a 0;
  long : length l.groups.items ≡ length l.fn.groups.items;
}
