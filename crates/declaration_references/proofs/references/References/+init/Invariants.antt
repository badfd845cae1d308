use Rattle.std.proofs.Common.{◌≡◌, ◌++◌, take, map}
use Rattle.project_declarations.specs.Declarations.{joined}
use Rattle.declaration_references.specs.References as refers
use Rattle.declaration_references.proofs.references.References.+init.Given as goal

abbrev pub invariant-items-loop-item : goal.invariant-items-loop-item
invariant-items-loop-item l =
    l.self ≡ l.fn.self ++ joined (map refers.in_item (take l.item-index l.list))

abbrev pub invariant-field_inits-loop-field : goal.invariant-field_inits-loop-field
invariant-field_inits-loop-field l =
    l.self ≡ l.fn.self ++ joined (map refers.in_field (take l.field-index l.list))
