use Rattle.std.proofs.Common.{◌≡◌}
use Rattle.std.specs.Prelude.{map}
use Rattle.first_form.specs.FirstForm.{Known, sum}
use Rattle.first_form.specs.steps.Chains.{chained, link_node}
use Rattle.first_form.specs.steps.Numbering.{Counts}
use Rattle.first_form.proofs.former.Former.chain.Given as goal

abbrev pub invariant-loop-first : goal.invariant-loop-first
invariant-loop-first l = record {
  form : (known : Known) → sum known l.source ≡ chained known l.links (sum known l.first);
  counted : Counts l.fn.self.next (map link_node l.links) l.self.next;
}
