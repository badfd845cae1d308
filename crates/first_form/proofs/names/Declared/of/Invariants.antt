use Rattle.std.proofs.Common.{drop}
use Rattle.first_form.specs.Names.{declared_in}
use Rattle.first_form.specs.steps.Known.{known_in, none}
use Rattle.first_form.proofs.Known.{IsAdding}
use Rattle.first_form.proofs.names.Declared.of.Given as goal

abbrev pub invariant-loop-section : goal.invariant-loop-section
invariant-loop-section l =
    IsAdding none (declared_in l.sections) (known_in l.declared)
    (declared_in (drop l.section-index l.sections))
