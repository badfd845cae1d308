-- Configurations, their resources, tasks and program lines. Source: IEC 61131-3, configuration
-- elements, as this profile narrows them: a project has one configuration, with one resource at
-- most, and each program runs under a task.
use Rattle.std.specs.Prelude.{ℕ, Bool, true, false, not, List, [], ◌∷◌, ◌++◌, map, flat_map}
use Rattle.std.specs.Prelude.{drop, slice_get, Option, Some, None}
use Rattle.st_tree.specs.declared.expression.Identifier.{Identifier}
use Rattle.st_tree.specs.declared.file.Config.{Config}
use Rattle.st_tree.specs.declared.file.ProgramLine.{ProgramLine}
use Rattle.st_tree.specs.declared.file.Resource.{Resource}
use Rattle.st_tree.specs.declared.file.SourceTree.{SourceTree}
use Rattle.st_tree.specs.declared.file.Tasks.{Tasks}
use Rattle.st_tree.specs.declared.file.UnitKind.{UnitKind}
use Rattle.scope_names.specs.declared.names.NameRow.{NameRow}
use Rattle.scope_names.specs.Scopes.{first_of}
use Rattle.link_faults.specs.declared.code.LinkCode.TheVariants as code
use Rattle.link_faults.specs.declared.fault.LinkFault.{LinkFault}
use Rattle.expression_types.specs.Meanings.{Meanings}
use Rattle.project_declarations.specs.Named.{each_from}
use Rattle.project_declarations.specs.Declarations.{Placed, joined}
use Rattle.project_declarations.specs.Rows.{bare_unit}
use Rattle.project_declarations.specs.declared.scopes.TheConstants as scope
use Rattle.project_declarations.specs.declared.rows.UnitRow.{UnitRow}
use Rattle.project_declarations.specs.declared.rows.UnitNo.{UnitNo}
use Rattle.project_declarations.specs.declared.rows.What.{What}
use Rattle.project_declarations.specs.declared.rows.What.TheVariants as what
use Rattle.unit_rules.specs.Noted.{fault_at, fault_where}
use Rattle.unit_rules.specs.Twice.{Row}
use Rattle.unit_rules.specs.Parameters.{task_faults}

-- What names stand for in the whole project: the rows of all scopes in their order, and the units.
pub record Outer : Type 0 where
  pub rows : List Row
  pub units : List Placed

abbrev pub outer : List Row → List UnitRow → Outer
outer rows units = record { rows = rows; units = map bare_unit units }

-- ---- program lines

abbrev pub is_there : {A : Type 0} → Option A → Bool
is_there (Some x) = true
is_there None = false

-- a configuration of the project declares the task
abbrev pub is_task : List Row → List ℕ → Bool
is_task rows name = is_there (first_of rows scope.TASKS name)

-- a line names a task, and one that is declared
abbrev pub with_faults : List Row → ℕ → ProgramLine → Option Identifier → List LinkFault
with_faults rows file x None = fault_at file x.node code.OutOfProfile ∷ []
with_faults rows file x (Some task) =
    fault_where (not (is_task rows task.name)) (fault_at file task.node code.Unknown)

abbrev pub program_kind : UnitKind → Bool
program_kind UnitKind.Program = true
program_kind UnitKind.Block = false
program_kind (UnitKind.Function result) = false

abbrev pub is_program : Option Placed → Bool
is_program (Some x) = program_kind x.unit.kind
is_program None = false

abbrev pub is_program_unit : List Placed → UnitNo → Bool
is_program_unit units unit = is_program (slice_get units unit.0)

abbrev pub stands_for_program : List Placed → What → Bool
stands_for_program units (what.Unit unit) = is_program_unit units unit
stands_for_program units (what.«Type» site) = false
stands_for_program units (what.Variable site) = false
stands_for_program units (what.Value site place) = false
stands_for_program units (what.Task site) = false
stands_for_program units (what.Line site) = false
stands_for_program units (what.Step site) = false
stands_for_program units (what.Action site) = false

abbrev pub row_is_program : List Placed → Option Row → Bool
row_is_program units (Some row) = stands_for_program units row.what
row_is_program units None = false

-- the name is a program's, among units and types
abbrev pub names_program : Outer → List ℕ → Bool
names_program p name = row_is_program p.units (first_of p.rows scope.OUTERMOST name)

abbrev pub type_faults : Outer → ℕ → ProgramLine → List LinkFault
type_faults p file x =
    fault_where (not (names_program p x.program.name)) (fault_at file x.node code.WrongCall)

abbrev pub line_faults : Outer → ℕ → ProgramLine → List LinkFault
line_faults p file x = with_faults p.rows file x x.task ++ type_faults p file x

-- ---- configurations

abbrev pub tasks_faults : Meanings → Outer → ℕ → Tasks → List LinkFault
tasks_faults m p file x =
    flat_map (task_faults m file) x.tasks ++ flat_map (line_faults p file) x.lines

abbrev pub resource_faults : Meanings → Outer → ℕ → Resource → List LinkFault
resource_faults m p file x = tasks_faults m p file x.tasks

abbrev pub further_resource : ℕ → Resource → LinkFault
further_resource file x = fault_at file x.node code.OutOfProfile

abbrev pub config_faults : Meanings → Outer → ℕ → Config → List LinkFault
config_faults m p file x =
    map (further_resource file) (drop 1 x.resources)
    ++ (flat_map (resource_faults m p file) x.resources ++ tasks_faults m p file x.tasks)

-- the faults of each configuration of a file
abbrev pub configs_faults : Meanings → Outer → ℕ → SourceTree → List LinkFault
configs_faults m p file tree = flat_map (config_faults m p file) tree.config

abbrev pub further_config : ℕ → Config → LinkFault
further_config file x = fault_at file x.name.node code.Twice

-- what would be the fault of each configuration of a file, were it no project's first
abbrev pub further_configs : ℕ → SourceTree → List LinkFault
further_configs file tree = map (further_config file) tree.config

-- Of files in the order of the project: each configuration but the first one is one too many, and
-- what each of them holds is judged.
abbrev pub configurations_faults : Meanings → Outer → List SourceTree → List LinkFault
configurations_faults m p trees =
    drop 1 (joined (each_from further_configs 0 trees))
    ++ joined (each_from (configs_faults m p) 0 trees)
