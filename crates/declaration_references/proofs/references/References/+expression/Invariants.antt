use Rattle.std.proofs.Common.{◌≡◌, ◌++◌, take, map}
use Rattle.project_declarations.specs.Declarations.{joined}
use Rattle.declaration_references.specs.References as refers
use Rattle.declaration_references.proofs.references.References.+expression.Given as goal

abbrev pub invariant-exprs-loop-expr : goal.invariant-exprs-loop-expr
invariant-exprs-loop-expr l =
    l.self ≡ l.fn.self ++ joined (map refers.in_expr (take l.expr-index l.list))

abbrev pub invariant-arguments-loop-argument : goal.invariant-arguments-loop-argument
invariant-arguments-loop-argument l =
    l.self ≡ l.fn.self ++ joined (map refers.in_argument (take l.argument-index l.list))

abbrev pub invariant-parts-loop-part : goal.invariant-parts-loop-part
invariant-parts-loop-part l =
    l.self ≡ l.fn.self ++ joined (map refers.in_part (take l.part-index l.list))
