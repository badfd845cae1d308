use Rattle.std.proofs.Common.{drop}
use Rattle.first_form.specs.Names.{declared}
use Rattle.first_form.specs.steps.Known.{known_in}
use Rattle.first_form.proofs.Known.{IsAdding}
use Rattle.first_form.proofs.names.Declared.add_decls.Given as goal

abbrev pub invariant-loop-decl : goal.invariant-loop-decl
invariant-loop-decl l = IsAdding (known_in l.fn.self) (declared l.decls) (known_in l.self)
    (declared (drop l.decl-index l.decls))
