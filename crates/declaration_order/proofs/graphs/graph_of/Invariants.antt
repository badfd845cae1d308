use Rattle.std.proofs.Common.{◌≡◌, take, map}
use Rattle.project_declarations.specs.Rows.{bare_decl}
use Rattle.declaration_order.specs.Leads as spec
use Rattle.declaration_order.specs.Tables.{decls_in}
use Rattle.declaration_order.specs.Wants as wants
use Rattle.declaration_order.proofs.graphs.graph_of.Given as goal

abbrev pub invariant-loop-row : goal.invariant-loop-row
invariant-loop-row l =
    l.graph ≡ map (spec.targets (wants.wanted_of l.wanted) (spec.found_in l.names) (decls_in l.table))
    (map bare_decl (take l.row-index l.row-items))
