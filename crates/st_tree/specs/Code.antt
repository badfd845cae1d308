-- The code of a task as plain data, without where its parts lie in memory. The meaning and the analysis are defined on this reading.
use Rattle.std.specs.Prelude.{ℤ}
use Rattle.st_tree.specs.declared.code.Cell.{Cell}
use Rattle.st_tree.specs.declared.code.Operation.{Operation}
use Rattle.st_tree.specs.declared.code.Code.{Code}
use Rattle.st_tree.specs.declared.code.Code.TheVariants as code

-- a list of instructions over a stack of numbers
pub data Instructions : Type 0 where
  Done : Instructions
  -- puts a number on the stack
  Literal : ℤ → Instructions → Instructions
  -- puts what the cell holds on the stack
  Read : Cell → Instructions → Instructions
  -- takes the right operand and the left one, and puts the result on the stack
  Operate : Operation → Instructions → Instructions
  -- takes a number and writes it to the cell
  Write : Cell → Instructions → Instructions

abbrev pub reading : Code → Instructions
reading code.Done = Done
reading (code.Literal' number p rest) = Literal number.value (reading rest)
reading (code.Read' cell p rest) = Read cell (reading rest)
reading (code.Operate' operation p rest) = Operate operation (reading rest)
reading (code.Write' cell p rest) = Write cell (reading rest)
