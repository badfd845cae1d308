-- What a copy of code has of its source: the same instructions and cells. Where its parts lie in
-- memory differs. Source: this profile. The code copies the instructions one by one.
use Rattle.std.specs.Prelude.{◌≡◌, List, map}
use Rattle.st_tree.specs.declared.code.CellInfo.{CellInfo}
use Rattle.st_tree.specs.declared.code.TaskCode.{TaskCode}
use Rattle.st_tree.specs.declared.code.Component.{Component}
use Rattle.st_tree.specs.Code.{Instructions, reading}

-- the instructions of a task, and its cells
abbrev pub task_reading : TaskCode → Instructions × List CellInfo
task_reading task = (reading task.code, task.cells)

-- the second component is a copy of the first
pub record IsComponentCopy (source copy : Component) : Type 0 where
  pub tasks : map task_reading copy.tasks ≡ map task_reading source.tasks
  pub shared : copy.shared ≡ source.shared
  pub literals : copy.literals ≡ source.literals
