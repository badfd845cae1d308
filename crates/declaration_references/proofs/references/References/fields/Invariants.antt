use Rattle.std.proofs.Common.{◌≡◌, ◌++◌, take, map}
use Rattle.project_declarations.specs.Declarations.{joined}
use Rattle.declaration_references.specs.References as refers
use Rattle.declaration_references.proofs.references.References.fields.Given as goal

abbrev pub invariant-loop-fields : goal.invariant-loop-fields
invariant-loop-fields l = l.self ≡ l.fn.self ++ joined (map refers.in_fields (take l.fields-index l.list))
