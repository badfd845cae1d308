use Rattle.std.proofs.Common.{drop}
use Rattle.first_form.specs.Bare.{bare_stmt}
use Rattle.first_form.specs.Nodes.{stmt_nodes}
use Rattle.first_form.specs.FirstForm.{stmt}
use Rattle.first_form.specs.steps.Known.{known_in}
use Rattle.first_form.proofs.Made.{IsMade}
use Rattle.first_form.proofs.former.Former.statements.Given as goal

abbrev pub invariant-loop-source : goal.invariant-loop-source
invariant-loop-source l = IsMade (stmt (known_in l.declared)) bare_stmt stmt_nodes l.sources
    l.fn.self.next (drop l.source-index l.sources) l.body l.self.next
