-- What names and types mean where an expression stands. A scope is a function from names, as they are
-- written, to what they stand for there; shapes are the types that aren't elementary, by number.
use Rattle.std.specs.Prelude.{ℕ, Bool, List, Option}
use Rattle.expression_types.specs.declared.meaning.Seen.{Seen}
use Rattle.expression_types.specs.declared.meaning.TypeValue.{TypeValue}
use Rattle.expression_types.specs.declared.meaning.Field.{Field}
use Rattle.expression_types.specs.declared.meaning.Callee.{Callee}
use Rattle.st_tree.specs.declared.code.Number.{Number}
use Rattle.expression_types.specs.declared.meaning.TypedNumber.{TypedNumber}
use Rattle.expression_types.specs.declared.meaning.FunctionNo.{FunctionNo}
use Rattle.expression_types.specs.declared.meaning.ShapeNo.{ShapeNo}
use Rattle.expression_types.specs.declared.meaning.Taken.{Taken}
use Rattle.expression_types.specs.declared.meaning.ValueType.{ValueType}

-- what declarations of constants may use
pub record Names : Type 0 where
  -- the number of a literal's text with a minus directly before it or none; none where no type has it
  pub literal : Bool → List ℕ → Option Number
  -- the type and the number of a typed literal's text
  pub typed_literal : List ℕ → Option TypedNumber
  -- the milliseconds of a time's text
  pub time : List ℕ → Option Number
  -- what a name stands for
  pub seen : List ℕ → Seen
  -- the value of an enumeration, by the name of a type and its own
  pub type_value : List ℕ → List ℕ → TypeValue
  -- two shapes are one type
  pub is_same : ShapeNo → ShapeNo → Bool

-- an input of a function: its name, with letters raised, and what it takes
pub record Input : Type 0 where
  pub name : List ℕ
  pub taken : Taken

-- a function of the project, as calls see it
pub record Function : Type 0 where
  -- in the order of the text
  pub inputs : List Input
  -- the names of all its variables, with letters raised
  pub declared : List (List ℕ)
  -- the type of its result; none where that declaration holds a fault
  pub result : Option ValueType

-- what expressions with parts, operators and calls may use beside them
pub record Parts : Type 0 where
  -- the variable at an address
  pub address : List ℕ → Seen
  -- a part of a shape by its name
  pub field : ShapeNo → List ℕ → Field
  -- an element of a shape under so many indices
  pub element : ShapeNo → ℕ → Option ValueType
  pub is_enumeration : ShapeNo → Bool
  -- what a call of a name calls
  pub callee : List ℕ → Callee
  -- a function of the project by its number
  pub function : FunctionNo → Function

pub record Meanings : Type 0 where
  pub names : Names
  pub parts : Parts

abbrev pub meant : Names → Parts → Meanings
meant names parts = record { names = names; parts = parts }
