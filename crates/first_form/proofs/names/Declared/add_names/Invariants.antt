use Rattle.std.proofs.Common.{drop}
use Rattle.first_form.specs.Names.{names_of}
use Rattle.first_form.specs.steps.Known.{known_in}
use Rattle.first_form.proofs.Known.{IsAdding}
use Rattle.first_form.proofs.names.Declared.add_names.Given as goal

abbrev pub invariant-loop-identifier : goal.invariant-loop-identifier
invariant-loop-identifier l = IsAdding (known_in l.fn.self) (names_of l.names) (known_in l.self)
    (names_of (drop l.identifier-index l.names))
