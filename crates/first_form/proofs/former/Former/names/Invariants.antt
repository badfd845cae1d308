use Rattle.std.proofs.Common.{Some, [], ◌∷◌, drop}
use Rattle.first_form.specs.Bare.{bare_identifier}
use Rattle.first_form.specs.FirstForm.{identifier}
use Rattle.first_form.proofs.Made.{IsMade}
use Rattle.first_form.proofs.former.Former.names.Given as goal

abbrev pub invariant-loop-source : goal.invariant-loop-source
invariant-loop-source l = IsMade (λ i. Some (identifier i)) bare_identifier (λ i. i.node ∷ [])
    l.sources l.fn.self.next (drop l.source-index l.sources) l.names l.self.next
