use Rattle.std.proofs.Common.{drop}
use Rattle.first_form.specs.Bare.{bare_decl}
use Rattle.first_form.specs.Nodes.{decl_nodes}
use Rattle.first_form.specs.FirstForm.{decl}
use Rattle.first_form.proofs.Made.{IsMade}
use Rattle.first_form.proofs.former.Former.declarations.Given as goal

abbrev pub invariant-loop-source : goal.invariant-loop-source
invariant-loop-source l =
    IsMade decl bare_decl decl_nodes l.sources l.fn.self.next (drop l.source-index l.sources)
    l.decls l.self.next
