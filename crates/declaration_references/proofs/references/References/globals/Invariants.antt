use Rattle.std.proofs.Common.{◌≡◌, ◌++◌, take, map}
use Rattle.declaration_references.specs.References as refers
use Rattle.declaration_references.proofs.references.References.globals.Given as goal

abbrev pub invariant-loop-name : goal.invariant-loop-name
invariant-loop-name l = l.self ≡ l.fn.self ++ map refers.global (take l.name-index l.list)
