use Rattle.std.proofs.Common.{◌≡◌, take, map, flat_map}
use Rattle.declaration_references.specs.References.{bare}
use Rattle.declaration_order.specs.Leads as spec
use Rattle.declaration_order.specs.Tables.{decls_in}
use Rattle.declaration_order.specs.Wants as wants
use Rattle.declaration_order.proofs.graphs.targets.Given as goal

abbrev pub invariant-loop-reference : goal.invariant-loop-reference
invariant-loop-reference l =
    l.list.items ≡ flat_map (spec.target (wants.wanted_of l.wanted) (spec.found_in l.names)
    (decls_in l.table) l.owner) (map bare (take l.reference-index l.references))
