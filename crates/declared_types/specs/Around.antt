-- What stands around a specification: the numbers of constants, what the names of types stand for, and
-- the numbers of enumerations.
use Rattle.std.specs.Prelude.{ℕ, List, Option}
use Rattle.st_tree.specs.declared.node.Node.{Node}
use Rattle.st_tree.specs.declared.code.Number.{Number}
use Rattle.st_tree.specs.declared.expression.Expr.{Expr}
use Rattle.link_faults.specs.Checked.{Checked}
use Rattle.expression_types.specs.declared.meaning.ShapeNo.{ShapeNo}
use Rattle.declared_types.specs.declared.outside.ConstantPlace.{ConstantPlace}
use Rattle.declared_types.specs.declared.outside.NamedType.{NamedType}

pub record Around : Type 0 where
  -- the place of the file among the project's files
  pub file : ℕ
  -- the number of an expression that must be constant, at its place
  pub constant : ConstantPlace → Expr → Checked Number
  -- what the name of a type stands for
  pub named : List ℕ → NamedType
  -- the number of the enumeration whose specification stands at a node; none where it lists a value twice
  pub enumeration : Node → Option ShapeNo
