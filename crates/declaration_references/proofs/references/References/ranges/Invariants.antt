use Rattle.std.proofs.Common.{◌≡◌, ◌++◌, take, map}
use Rattle.project_declarations.specs.Declarations.{joined}
use Rattle.declaration_references.specs.References as refers
use Rattle.declaration_references.proofs.references.References.ranges.Given as goal

abbrev pub invariant-loop-range : goal.invariant-loop-range
invariant-loop-range l = l.self ≡ l.fn.self ++ joined (map refers.in_range (take l.range-index l.list))
