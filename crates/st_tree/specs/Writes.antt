-- Whether a component's code writes the component's own cells alone. Source: this profile. No code of its own: linked code does.
use Rattle.std.specs.Prelude.{◌≡◌, ◌<◌, ℕ, length, Some, slice_get}
use Rattle.st_tree.specs.declared.code.Cell.TheVariants.{Own, Shared}
use Rattle.st_tree.specs.declared.code.TaskCode.{TaskCode}
use Rattle.st_tree.specs.declared.code.Component.{Component}
use Rattle.st_tree.specs.Code.{Instructions, Done, Literal, Read, Operate, Write, reading}

-- each cell that the instructions write is there, of so many own cells and so many shared ones
abbrev pub HasWritten : ℕ → ℕ → Instructions → Type 0
HasWritten n m Done = Unit {0}
HasWritten n m (Literal value rest) = HasWritten n m rest
HasWritten n m (Read cell rest) = HasWritten n m rest
HasWritten n m (Operate o rest) = HasWritten n m rest
HasWritten n m (Write (Own k) rest) = (k < n) × HasWritten n m rest
HasWritten n m (Write (Shared k) rest) = (k < m) × HasWritten n m rest

-- Each cell that a task writes is a cell of the component. No table is closed where a number is written to a cell that isn't there.
abbrev pub WritesCells : Component → Type 0
WritesCells component =
    (me : ℕ) (task : TaskCode) → slice_get component.tasks me ≡ Some task → HasWritten (length task.cells) (length component.shared) (reading task.code)
