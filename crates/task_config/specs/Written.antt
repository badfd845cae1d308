-- The code as it is built, from a map of the names: also where a name has no place, or a numeral is too large. Where a body names declared
-- variables alone and its numerals fit, it is that of `Plan`.
use Rattle.std.specs.Prelude.{◌≡◌, ℕ, ◌^◌, ◌-◌, List, [], ◌∷◌, ◌++◌, if◌then◌else◌, nat_lt, flat_map, position, bytes_eq, unwrap_or, is_some, Option, Some, codes, ℤ, pos, neg_ℤ}
use Rattle.std.specs.BTreeMap.{BTreeMap, get_by}
use Rattle.std.specs.Cmp.Lexicographic.{slice_cmp}
use Rattle.std.specs.Ordering.{nat_cmp}
use Rattle.iec_tables.specs.declared.elem.Elem.TheVariants as elem
use Rattle.first_form.specs.declared.tree.Path.{Path}
use Rattle.first_form.specs.declared.tree.Literal.{Literal as Numeral}
use Rattle.first_form.specs.declared.tree.Expr.{Expr, more_of-Expr, end_of-Expr}
use Rattle.first_form.specs.declared.tree.Expr.TheVariants as expr
use Rattle.first_form.specs.declared.tree.Stmt.{Stmt}
use Rattle.first_form.specs.declared.tree.Stmt.TheVariants.{Assign}
use Rattle.first_form.specs.declared.tree.Unit.{Unit as SourceUnit}
use Rattle.st_tree.specs.declared.code.Cell.{Cell}
use Rattle.st_tree.specs.declared.code.Cell.TheVariants.{Own}
use Rattle.st_tree.specs.declared.code.CellInfo.{CellInfo}
use Rattle.st_tree.specs.declared.code.TaskCode.{TaskCode}
use Rattle.st_tree.specs.declared.code.Component.{Component}
use Rattle.st_tree.specs.Code.{Instructions, Done, Literal, Read, Operate, Write, reading}
use Rattle.task_config.specs.Plan.{unit_cells}

-- ---- the names

-- the place that the map has for a name
abbrev pub place_in : {K : Type 0} → (K → List ℕ) → BTreeMap K ℕ → List ℕ → Option ℕ
place_in bytes map name = get_by (λ key. slice_cmp nat_cmp name (bytes key)) map

-- the place of a variable's name among the cells
abbrev pub place_among : List CellInfo → List ℕ → Option ℕ
place_among cells name = position (λ cell. bytes_eq (codes "MAIN." ++ name) cell.path) cells

-- the places with one more name, of which the first place stays
abbrev pub with_place : (List ℕ → Option ℕ) → List ℕ → ℕ → List ℕ → Option ℕ
with_place place name at q = if is_some (place name) then place q else (if bytes_eq name q then Some at else place q)

-- ---- the code

abbrev pub kept_size : ℕ → ℕ
kept_size size = if nat_lt size (2 ^ 127) then size else 2 ^ 127 - 1

abbrev pub kept_value : Numeral → ℤ
kept_value numeral = if numeral.negative then neg_ℤ (pos (kept_size numeral.size)) else pos (kept_size numeral.size)

abbrev pub written_cell : (List ℕ → Option ℕ) → Path → Cell
written_cell place path = Own (unwrap_or (place path.root.name) (2 ^ 64 - 1))

abbrev pub written_value : (List ℕ → Option ℕ) → Expr → Instructions → Instructions
written_value place (expr.Number node numeral) rest = Literal (kept_value numeral) rest
written_value place (expr.Variable path) rest = Read (written_cell place path) rest
written_value place (expr.Binary' node operator l (more_of-Expr left end_of-Expr) r (more_of-Expr right end_of-Expr)) rest =
    written_value place left (written_value place right (Operate (record { site = record { file = 0; node = node.number }; elem = elem.Int; operator = operator }) rest))

abbrev pub written_stmt : (List ℕ → Option ℕ) → Stmt → Instructions → Instructions
written_stmt place (Assign node target value) rest = written_value place value (Write (written_cell place target) rest)

abbrev pub written_body : (List ℕ → Option ℕ) → List Stmt → Instructions
written_body place [] = Done
written_body place (stmt ∷ body) = written_stmt place stmt (written_body place body)

-- ---- the literals, each right operand before the left one

abbrev pub written_literals : Expr → List ℤ
written_literals (expr.Number node numeral) = kept_value numeral ∷ []
written_literals (expr.Variable path) = []
written_literals (expr.Binary' node operator l (more_of-Expr left end_of-Expr) r (more_of-Expr right end_of-Expr)) = written_literals right ++ written_literals left

abbrev pub literals_of_stmt : Stmt → List ℤ
literals_of_stmt (Assign node target value) = written_literals value

-- ---- the component

pub record IsWrittenTask (unit : SourceUnit) (task : TaskCode) : Type 0 where
  pub cells : task.cells ≡ unit_cells unit
  pub code : reading task.code ≡ written_body (place_among (unit_cells unit)) unit.body

pub record IsWritten (unit : SourceUnit) (component : Component) : Type 0 where
  pub task : TaskCode
  pub tasks : component.tasks ≡ task ∷ []
  pub is_task : IsWrittenTask unit task
  pub shared : component.shared ≡ []
  pub literals : component.literals ≡ flat_map literals_of_stmt unit.body

-- the tasks of these units
abbrev pub AreTasks : List SourceUnit → List TaskCode → Type 0
AreTasks [] [] = Unit {0}
AreTasks [] (task ∷ tasks) = ⊥
AreTasks (unit ∷ units) [] = ⊥
AreTasks (unit ∷ units) (task ∷ tasks) = IsWrittenTask unit task × AreTasks units tasks
