-- The operators that are left make the sum of the value so far; the value's nodes come behind
-- theirs.
use Rattle.std.proofs.Common.{◌≡◌, ◌+◌, Some, length}
use Rattle.std.specs.Prelude.{map}
use Rattle.first_form.specs.Bare.{bare_expr}
use Rattle.first_form.specs.Nodes.{CountsFrom, expr_nodes}
use Rattle.first_form.specs.FirstForm.{sum}
use Rattle.first_form.specs.steps.Chains.{chained, link_node}
use Rattle.first_form.specs.steps.Known.{known_in}
use Rattle.first_form.specs.steps.Numbering.{Counts}
use Rattle.first_form.proofs.former.Former.sum.Given as goal

abbrev pub invariant-loop-link : goal.invariant-loop-link
invariant-loop-link l = record {
  form : sum (known_in l.declared) l.source ≡ chained (known_in l.declared) l.links
      (Some (bare_expr l.value));
  linked : CountsFrom l.fn.self.next (map link_node l.links);
  counted : Counts (l.fn.self.next + length l.links) (expr_nodes l.value) l.self.next;
}

abbrev pub decreases-loop-link : goal.decreases-loop-link
decreases-loop-link l = length l.links
