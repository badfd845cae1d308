-- The component of a file: its tasks, their cells and their code. Source: this profile, in which a project with one PROGRAM and no
-- CONFIGURATION has one task MAIN. The code builds instructions from the last one on and looks names up in a map.
use Rattle.std.specs.Prelude.{◌≡◌, ℕ, if◌then◌else◌, bytes_eq, List, [], ◌∷◌, ◌++◌, map, flat_map, position, option_map, option_and_then, ◌↔◌, Option, Some, codes, ℤ, pos, neg_ℤ}
use Rattle.std.specs.List.{Contains}
use Rattle.iec_tables.specs.declared.elem.Elem.{Elem}
use Rattle.iec_tables.specs.declared.elem.Elem.TheVariants as elem
use Rattle.first_form.specs.declared.tree.Identifier.{Identifier}
use Rattle.first_form.specs.declared.tree.Path.{Path}
use Rattle.first_form.specs.declared.tree.Literal.{Literal as Numeral}
use Rattle.first_form.specs.declared.tree.Expr.{Expr, more_of-Expr, end_of-Expr}
use Rattle.first_form.specs.declared.tree.Expr.TheVariants as expr
use Rattle.first_form.specs.declared.tree.Stmt.{Stmt}
use Rattle.first_form.specs.declared.tree.Stmt.TheVariants.{Assign}
use Rattle.first_form.specs.declared.tree.Decl.{Decl}
use Rattle.first_form.specs.declared.tree.Unit.{Unit as SourceUnit}
use Rattle.st_tree.specs.declared.code.Cell.{Cell}
use Rattle.st_tree.specs.declared.code.Cell.TheVariants.{Own}
use Rattle.st_tree.specs.declared.code.CellInfo.{CellInfo}
use Rattle.st_tree.specs.declared.code.TaskCode.{TaskCode}
use Rattle.st_tree.specs.declared.code.Component.{Component}
use Rattle.st_tree.specs.Code.{Instructions, Done, Literal, Read, Operate, Write, reading}
use Rattle.first_form.specs.Names.{unit_names}

-- ---- cells: one a variable, in the order of the declarations, each starting at 0

abbrev pub cell_of : Elem → Identifier → CellInfo
cell_of elem identifier = record { path = codes "MAIN." ++ identifier.name; elem = elem; start = pos 0 }

abbrev pub decl_cells : Decl → List CellInfo
decl_cells decl = map (cell_of decl.spec.elem) decl.names

abbrev pub unit_cells : SourceUnit → List CellInfo
unit_cells unit = flat_map (λ section. flat_map decl_cells section.decls) unit.sections

-- ---- code: each part in the order in which it is taken

abbrev pub numeral_value : Numeral → ℤ
numeral_value numeral = if numeral.negative then neg_ℤ (pos numeral.size) else pos numeral.size

-- the cell of a name, by its place among the names; there is no code where it has none
abbrev pub at_cell : List (List ℕ) → Path → (Cell → Instructions) → Option Instructions
at_cell names path go = option_map (λ place. go (Own place)) (position (bytes_eq path.root.name) names)

-- the instructions that put the value of an expression on the stack, and then go on
abbrev pub value_code : List (List ℕ) → Expr → Instructions → Option Instructions
value_code names (expr.Number node numeral) rest = Some (Literal (numeral_value numeral) rest)
value_code names (expr.Variable path) rest = at_cell names path (λ cell. Read cell rest)
value_code names (expr.Binary' node operator l (more_of-Expr left end_of-Expr) r (more_of-Expr right end_of-Expr)) rest =
    option_and_then (value_code names left)
    (value_code names right (Operate (record { site = record { file = 0; node = node.number }; elem = elem.Int; operator = operator }) rest))

-- a statement, before the instructions that come after it
abbrev pub stmt_code : List (List ℕ) → Stmt → Instructions → Option Instructions
stmt_code names (Assign node target value) rest =
    option_and_then (value_code names value) (at_cell names target (λ cell. Write cell rest))

abbrev pub body_code : List (List ℕ) → List Stmt → Option Instructions
body_code names [] = Some Done
body_code names (stmt ∷ body) = option_and_then (stmt_code names stmt) (body_code names body)

-- ---- the literals of the grid

abbrev pub expr_literals : Expr → List ℤ
expr_literals (expr.Number node numeral) = numeral_value numeral ∷ []
expr_literals (expr.Variable path) = []
expr_literals (expr.Binary' node operator l (more_of-Expr left end_of-Expr) r (more_of-Expr right end_of-Expr)) = expr_literals left ++ expr_literals right

abbrev pub stmt_literals : Stmt → List ℤ
stmt_literals (Assign node target value) = expr_literals value

abbrev pub unit_literals : SourceUnit → List ℤ
unit_literals unit = flat_map stmt_literals unit.body

-- ---- the component

-- The task that runs the unit.
pub record IsTask (unit : SourceUnit) (task : TaskCode) : Type 0 where
  pub code : Some (reading task.code) ≡ body_code (unit_names unit) unit.body
  pub cells : task.cells ≡ unit_cells unit

-- The component of a file of one unit: the task MAIN, no shared cells, and the literals in any order and number.
pub record IsComponent (unit : SourceUnit) (component : Component) : Type 0 where
  pub task : TaskCode
  pub tasks : component.tasks ≡ task ∷ []
  pub is_task : IsTask unit task
  pub shared : component.shared ≡ []
  pub literals : (n : ℤ) → Contains component.literals n ↔ Contains (unit_literals unit) n
