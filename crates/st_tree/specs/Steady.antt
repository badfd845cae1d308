-- Whether each instruction of a component's code finds what it needs: its cell, and its numbers on the stack. Source: this profile, in which a
-- task waits where a number isn't there to be read or taken, and a write to a cell that isn't there is lost. No code of its own: linked code
-- does.
use Rattle.std.specs.Prelude.{◌≡◌, ◌<◌, ℕ, zero, suc, length, Some, slice_get}
use Rattle.st_tree.specs.declared.code.Cell.{Cell}
use Rattle.st_tree.specs.declared.code.Cell.TheVariants.{Own, Shared}
use Rattle.st_tree.specs.declared.code.TaskCode.{TaskCode}
use Rattle.st_tree.specs.declared.code.Component.{Component}
use Rattle.st_tree.specs.Code.{Instructions, Done, Literal, Read, Operate, Write, reading}

-- the cell is there, of so many own cells and so many shared ones
abbrev pub HasCell : (own shared : ℕ) → Cell → Type 0
HasCell own shared (Own place) = place < own
HasCell own shared (Shared place) = place < shared

-- With so many own cells, so many shared ones and so many numbers on the stack, each instruction finds its cell and the numbers that it takes.
-- At the end the stack is empty: what a statement puts there it takes.
abbrev pub IsSteady : (own shared : ℕ) → (depth : ℕ) → Instructions → Type 0
IsSteady own shared zero Done = Unit {0}
IsSteady own shared (suc depth) Done = ⊥
IsSteady own shared depth (Literal value rest) = IsSteady own shared (suc depth) rest
IsSteady own shared depth (Read cell rest) = HasCell own shared cell × IsSteady own shared (suc depth) rest
IsSteady own shared (suc (suc depth)) (Operate operation rest) = IsSteady own shared (suc depth) rest
IsSteady own shared depth (Operate operation rest) = ⊥
IsSteady own shared (suc depth) (Write cell rest) = HasCell own shared cell × IsSteady own shared depth rest
IsSteady own shared zero (Write cell rest) = ⊥

-- The code of each task is steady from an empty stack on.
abbrev pub IsSteadyComponent : Component → Type 0
IsSteadyComponent component =
    (me : ℕ) (task : TaskCode) → slice_get component.tasks me ≡ Some task → IsSteady (length task.cells) (length component.shared) 0 (reading task.code)
