-- What names, addresses and shapes are, beside what they are in expressions, where a body stands. Shapes
-- are the types that aren't elementary, by number.
use Rattle.std.specs.Prelude.{ℕ, Bool, List, Option}
use Rattle.expression_types.specs.declared.meaning.ShapeNo.{ShapeNo}
use Rattle.expression_types.specs.Meanings.{Names, Parts, Meanings}
use Rattle.body_rules.specs.declared.outside.ExactType.{ExactType}
use Rattle.body_rules.specs.declared.outside.CounterVariable.{CounterVariable}
use Rattle.body_rules.specs.declared.outside.Called.{Called}
use Rattle.body_rules.specs.declared.outside.BlockPart.{BlockPart}

pub record Surroundings : Type 0 where
  -- the type of the variable for which a path's name stands
  pub variable_type : List ℕ → Option ExactType
  -- the type of the variable at an address
  pub address_type : List ℕ → Option ExactType
  -- the type of a part of a shape by its name
  pub field_type : ShapeNo → List ℕ → Option ExactType
  -- the type of an array's elements
  pub element_type : ShapeNo → Option ExactType
  -- what a path's name stands for may be written to, where no loop around counts it
  pub is_assignable : List ℕ → Bool
  pub is_assignable_at : List ℕ → Bool
  -- the variable with this name is declared at this address
  pub is_declared_at : List ℕ → List ℕ → Bool
  -- the shape is an instance of a block
  pub is_instance : ShapeNo → Bool
  -- what the variable is that a FOR names
  pub counter : List ℕ → CounterVariable
  -- what a name is that is called as a statement
  pub called : List ℕ → Called
  -- what a block has under a name
  pub block_part : ShapeNo → List ℕ → BlockPart
  -- the names of a block's VAR_IN_OUT
  pub in_outs : ShapeNo → List (List ℕ)
  -- a name is that of a step or of an action of the unit's chart
  pub has_step : List ℕ → Bool
  pub has_action : List ℕ → Bool
  -- a name is that of a BOOL variable, the unit's own or else a global one
  pub is_truth : List ℕ → Bool

-- all that is known where a body stands, and its file's place among the project's files
pub record Here : Type 0 where
  pub meanings : Meanings
  pub around : Surroundings
  pub file : ℕ

abbrev pub here : Names → Parts → Surroundings → ℕ → Here
here names parts around file =
    record {
      meanings = record { names = names; parts = parts };
      around = around;
      file = file;
    }
