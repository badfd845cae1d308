-- A tree with the number of each node set to 0: what is spelled, before its nodes are numbered.
-- Source: this profile. The code makes no such tree.
use Rattle.std.specs.Prelude.{List, map}
use Rattle.std.specs.Option.{option_map}
use Rattle.st_tree.specs.declared.node.Node.{Node}
use Rattle.st_tree.specs.Places.{node_at}
use Rattle.st_tree.specs.declared.expression.Identifier.{Identifier}
use Rattle.st_tree.specs.declared.expression.Address.{Address}
use Rattle.st_tree.specs.declared.expression.Root.{Root}
use Rattle.st_tree.specs.declared.expression.Root.TheVariants as root
use Rattle.st_tree.specs.declared.expression.Expr.{Expr, fold-Expr}
use Rattle.st_tree.specs.declared.expression.Expr.TheVariants as expr
use Rattle.st_tree.specs.declared.expression.Expr.TheOpen.{Expr-F, Part-F, Argument-F, Path-F}
use Rattle.st_tree.specs.declared.expression.Part.{Part, fold-Part}
use Rattle.st_tree.specs.declared.expression.Part.TheVariants as part
use Rattle.st_tree.specs.declared.expression.Argument.{Argument, fold-Argument}
use Rattle.st_tree.specs.declared.expression.Path.{Path, fold-Path}
use Rattle.st_tree.specs.declared.statement.Point.{Point}
use Rattle.st_tree.specs.declared.statement.Point.TheVariants as point
use Rattle.st_tree.specs.declared.statement.Label.{Label}
use Rattle.st_tree.specs.declared.statement.StmtArgument.{StmtArgument}
use Rattle.st_tree.specs.declared.statement.StmtArgument.TheVariants as stmt_argument
use Rattle.st_tree.specs.declared.statement.Counter.{Counter}
use Rattle.st_tree.specs.declared.statement.Stmt.{Stmt, fold-Stmt}
use Rattle.st_tree.specs.declared.statement.Stmt.TheVariants as stmt
use Rattle.st_tree.specs.declared.statement.Stmt.TheOpen.{Stmt-F, Branch-F, Case-F}
use Rattle.st_tree.specs.declared.statement.Branch.{Branch, fold-Branch}
use Rattle.st_tree.specs.declared.statement.Case.{Case, fold-Case}
use Rattle.st_tree.specs.declared.declaration.TypeName.{TypeName}
use Rattle.st_tree.specs.declared.declaration.TypeName.TheVariants as type_name
use Rattle.st_tree.specs.declared.declaration.Range.{Range}
use Rattle.st_tree.specs.declared.declaration.Spec.{Spec, fold-Spec}
use Rattle.st_tree.specs.declared.declaration.Spec.TheVariants as spec
use Rattle.st_tree.specs.declared.declaration.Spec.TheOpen.{Spec-F}
use Rattle.st_tree.specs.declared.declaration.Init.{Init, fold-Init}
use Rattle.st_tree.specs.declared.declaration.Init.TheVariants as init
use Rattle.st_tree.specs.declared.declaration.Init.TheOpen.{Init-F, Item-F, FieldInit-F}
use Rattle.st_tree.specs.declared.declaration.Item.{Item, fold-Item}
use Rattle.st_tree.specs.declared.declaration.Item.TheVariants as item
use Rattle.st_tree.specs.declared.declaration.FieldInit.{FieldInit, fold-FieldInit}
use Rattle.st_tree.specs.declared.declaration.Decl.{Decl}
use Rattle.st_tree.specs.declared.declaration.Section.{Section}
use Rattle.st_tree.specs.declared.chart.Association.{Association}
use Rattle.st_tree.specs.declared.chart.Step.{Step}
use Rattle.st_tree.specs.declared.chart.StepNames.{StepNames}
use Rattle.st_tree.specs.declared.chart.StepNames.TheVariants as step_names
use Rattle.st_tree.specs.declared.chart.Transition.{Transition}
use Rattle.st_tree.specs.declared.chart.Action.{Action}
use Rattle.st_tree.specs.declared.chart.SfcPart.{SfcPart}
use Rattle.st_tree.specs.declared.chart.SfcPart.TheVariants as sfc_part
use Rattle.st_tree.specs.declared.chart.Sfc.{Sfc}
use Rattle.st_tree.specs.declared.file.Body.{Body}
use Rattle.st_tree.specs.declared.file.Body.TheVariants as body
use Rattle.st_tree.specs.declared.file.UnitKind.{UnitKind}
use Rattle.st_tree.specs.declared.file.UnitKind.TheVariants as unit_kind
use Rattle.st_tree.specs.declared.file.Unit.{Unit}
use Rattle.st_tree.specs.declared.file.Fields.{Fields}
use Rattle.st_tree.specs.declared.file.Shape.{Shape}
use Rattle.st_tree.specs.declared.file.Shape.TheVariants as shape
use Rattle.st_tree.specs.declared.file.TypeDecl.{TypeDecl}
use Rattle.st_tree.specs.declared.file.Types.{Types}
use Rattle.st_tree.specs.declared.file.Globals.{Globals}
use Rattle.st_tree.specs.declared.file.Parameter.{Parameter}
use Rattle.st_tree.specs.declared.file.Task.{Task}
use Rattle.st_tree.specs.declared.file.ProgramLine.{ProgramLine}
use Rattle.st_tree.specs.declared.file.Tasks.{Tasks}
use Rattle.st_tree.specs.declared.file.Resource.{Resource}
use Rattle.st_tree.specs.declared.file.Config.{Config}
use Rattle.st_tree.specs.declared.file.FilePart.{FilePart}
use Rattle.st_tree.specs.declared.file.FilePart.TheVariants as file_part

abbrev pub bare_node : Node → Node
bare_node node = node_at node.start node.end

abbrev pub bare_identifier : Identifier → Identifier
bare_identifier x = record { node = bare_node x.node; name = x.name }

abbrev pub bare_address : Address → Address
bare_address x = record { node = bare_node x.node; name = x.name }

abbrev pub bare_root : Root → Root
bare_root (Root.Name name) = root.Name (bare_identifier name)
bare_root (Root.Address address) = root.Address (bare_address address)

abbrev pub expr_bare : Expr-F Expr Part Argument Path → Expr
expr_bare (Expr-F.Number node minus text) = expr.Number (bare_node node) minus text
expr_bare (Expr-F.Typed node text) = expr.Typed (bare_node node) text
expr_bare (Expr-F.Time node text) = expr.Time (bare_node node) text
expr_bare (Expr-F.Truth node truth) = expr.Truth (bare_node node) truth
expr_bare (Expr-F.Path path) = expr.Path path
expr_bare (Expr-F.Value node name value) =
    expr.Value (bare_node node) (bare_identifier name) (bare_identifier value)
expr_bare (Expr-F.Parenthesized node inner) = expr.Parenthesized (bare_node node) inner
expr_bare (Expr-F.Unary node operator operand) = expr.Unary (bare_node node) operator operand
expr_bare (Expr-F.Binary node operator left right) =
    expr.Binary (bare_node node) operator left right
expr_bare (Expr-F.Call node name arguments) =
    expr.Call (bare_node node) (bare_identifier name) arguments

abbrev pub part_bare : Part-F Expr Part Argument Path → Part
part_bare (Part-F.Field name) = part.Field (bare_identifier name)
part_bare (Part-F.Index node indices) = part.Index (bare_node node) indices

abbrev pub argument_bare : Argument-F Expr Part Argument Path → Argument
argument_bare x = record {
  node = bare_node x.node;
  name = option_map bare_identifier x.name;
  value = x.value;
}

abbrev pub path_bare : Path-F Expr Part Argument Path → Path
path_bare x = record { node = bare_node x.node; root = bare_root x.root; parts = x.parts }

unfoldable pub bare_expr : Expr → Expr
bare_expr = fold-Expr Expr Part Argument Path expr_bare part_bare argument_bare path_bare

unfoldable pub bare_part : Part → Part
bare_part = fold-Part Expr Part Argument Path expr_bare part_bare argument_bare path_bare

unfoldable pub bare_argument : Argument → Argument
bare_argument = fold-Argument Expr Part Argument Path expr_bare part_bare argument_bare path_bare

unfoldable pub bare_path : Path → Path
bare_path = fold-Path Expr Part Argument Path expr_bare part_bare argument_bare path_bare

abbrev pub bare_point : Point → Point
bare_point (Point.Number node minus text) = point.Number (bare_node node) minus text
bare_point (Point.Typed node text) = point.Typed (bare_node node) text
bare_point (Point.Name name) = point.Name (bare_identifier name)
bare_point (Point.Value node name value) =
    point.Value (bare_node node) (bare_identifier name) (bare_identifier value)

abbrev pub bare_label : Label → Label
bare_label x = record {
  node = bare_node x.node;
  first = bare_point x.first;
  last = option_map bare_point x.last;
}

abbrev pub bare_stmt_argument : StmtArgument → StmtArgument
bare_stmt_argument (StmtArgument.Input node name value) =
    stmt_argument.Input (bare_node node) (bare_identifier name) (bare_expr value)
bare_stmt_argument (StmtArgument.Output node name target) =
    stmt_argument.Output (bare_node node) (bare_identifier name) (bare_path target)

abbrev pub bare_counter : Counter → Counter
bare_counter x = record {
  variable = bare_identifier x.variable;
  first = bare_expr x.first;
  last = bare_expr x.last;
  step = option_map bare_expr x.step;
}

abbrev pub stmt_bare : Stmt-F Stmt Branch Case → Stmt
stmt_bare (Stmt-F.Assign node target value) =
    stmt.Assign (bare_node node) (bare_path target) (bare_expr value)
stmt_bare (Stmt-F.Call node name arguments) =
    stmt.Call (bare_node node) (bare_identifier name) (map bare_stmt_argument arguments)
stmt_bare (Stmt-F.Return node) = stmt.Return (bare_node node)
stmt_bare (Stmt-F.Exit node) = stmt.Exit (bare_node node)
stmt_bare (Stmt-F.Continue node) = stmt.Continue (bare_node node)
stmt_bare (Stmt-F.If node branches otherwise) = stmt.If (bare_node node) branches otherwise
stmt_bare (Stmt-F.Case node selector cases otherwise) =
    stmt.Case (bare_node node) (bare_expr selector) cases otherwise
stmt_bare (Stmt-F.For node counter body) = stmt.For (bare_node node) (bare_counter counter) body
stmt_bare (Stmt-F.While node condition body) =
    stmt.While (bare_node node) (bare_expr condition) body
stmt_bare (Stmt-F.Repeat node body condition) =
    stmt.Repeat (bare_node node) body (bare_expr condition)

abbrev pub branch_bare : Branch-F Stmt Branch Case → Branch
branch_bare x = record { condition = bare_expr x.condition; body = x.body }

abbrev pub case_bare : Case-F Stmt Branch Case → Case
case_bare x = record { labels = map bare_label x.labels; body = x.body }

unfoldable pub bare_stmt : Stmt → Stmt
bare_stmt = fold-Stmt Stmt Branch Case stmt_bare branch_bare case_bare

unfoldable pub bare_branch : Branch → Branch
bare_branch = fold-Branch Stmt Branch Case stmt_bare branch_bare case_bare

unfoldable pub bare_case : Case → Case
bare_case = fold-Case Stmt Branch Case stmt_bare branch_bare case_bare

abbrev pub bare_type_name : TypeName → TypeName
bare_type_name (TypeName.Elementary node elem) = type_name.Elementary (bare_node node) elem
bare_type_name (TypeName.Named name) = type_name.Named (bare_identifier name)

abbrev pub bare_range : Range → Range
bare_range x = record {
  node = bare_node x.node;
  lower = bare_expr x.lower;
  upper = bare_expr x.upper;
}

abbrev pub spec_bare : Spec-F Spec → Spec
spec_bare (Spec-F.«Type» node name limits) =
    spec.«Type» (bare_node node) (bare_type_name name) (option_map bare_range limits)
spec_bare (Spec-F.Enumeration node values) =
    spec.Enumeration (bare_node node) (map bare_identifier values)
spec_bare (Spec-F.Array node ranges element) =
    spec.Array (bare_node node) (map bare_range ranges) element

unfoldable pub bare_spec : Spec → Spec
bare_spec = fold-Spec Spec spec_bare

abbrev pub init_bare : Init-F Init Item FieldInit → Init
init_bare (Init-F.Value value) = init.Value (bare_expr value)
init_bare (Init-F.Array node elements) = init.Array (bare_node node) elements
init_bare (Init-F.Structure node fields) = init.Structure (bare_node node) fields

abbrev pub item_bare : Item-F Init Item FieldInit → Item
item_bare (Item-F.One value) = item.One value
item_bare (Item-F.Repeated node count value) = item.Repeated (bare_node node) count value

abbrev pub field_bare : FieldInit-F Init Item FieldInit → FieldInit
field_bare x = record { node = bare_node x.node; name = bare_identifier x.name; value = x.value }

unfoldable pub bare_init : Init → Init
bare_init = fold-Init Init Item FieldInit init_bare item_bare field_bare

unfoldable pub bare_item : Item → Item
bare_item = fold-Item Init Item FieldInit init_bare item_bare field_bare

unfoldable pub bare_field : FieldInit → FieldInit
bare_field = fold-FieldInit Init Item FieldInit init_bare item_bare field_bare

abbrev pub bare_decl : Decl → Decl
bare_decl x = record {
  node = bare_node x.node;
  names = map bare_identifier x.names;
  address = option_map bare_address x.address;
  spec = bare_spec x.spec;
  init = option_map bare_init x.init;
}

abbrev pub bare_section : Section → Section
bare_section x = record {
  node = bare_node x.node;
  kind = x.kind;
  keep = x.keep;
  decls = map bare_decl x.decls;
}

abbrev pub bare_association : Association → Association
bare_association x = record {
  node = bare_node x.node;
  action = bare_identifier x.action;
  qualifier = option_map bare_identifier x.qualifier;
}

abbrev pub bare_step : Step → Step
bare_step x = record {
  node = bare_node x.node;
  name = bare_identifier x.name;
  associations = map bare_association x.associations;
}

abbrev pub bare_step_names : StepNames → StepNames
bare_step_names (StepNames.One name) = step_names.One (bare_identifier name)
bare_step_names (StepNames.Several node names) =
    step_names.Several (bare_node node) (map bare_identifier names)

abbrev pub bare_transition : Transition → Transition
bare_transition x = record {
  node = bare_node x.node;
  name = option_map bare_identifier x.name;
  from = bare_step_names x.from;
  to = bare_step_names x.to;
  condition = bare_expr x.condition;
}

abbrev pub bare_action : Action → Action
bare_action x = record {
  node = bare_node x.node;
  name = bare_identifier x.name;
  body = map bare_stmt x.body;
}

abbrev pub bare_sfc_part : SfcPart → SfcPart
bare_sfc_part (SfcPart.Step step) = sfc_part.Step (bare_step step)
bare_sfc_part (SfcPart.Transition transition) = sfc_part.Transition (bare_transition transition)
bare_sfc_part (SfcPart.Action action) = sfc_part.Action (bare_action action)

abbrev pub bare_sfc : Sfc → Sfc
bare_sfc x = record {
  node = bare_node x.node;
  initial = bare_step x.initial;
  parts = map bare_sfc_part x.parts;
}

abbrev pub bare_body : Body → Body
bare_body (Body.Statements statements) = body.Statements (map bare_stmt statements)
bare_body (Body.Chart chart) = body.Chart (bare_sfc chart)

abbrev pub bare_unit_kind : UnitKind → UnitKind
bare_unit_kind (UnitKind.Function name) = unit_kind.Function (bare_type_name name)
bare_unit_kind UnitKind.Block = unit_kind.Block
bare_unit_kind UnitKind.Program = unit_kind.Program

abbrev pub bare_unit : Unit → Unit
bare_unit x = record {
  node = bare_node x.node;
  name = bare_identifier x.name;
  kind = bare_unit_kind x.kind;
  sections = map bare_section x.sections;
  body = bare_body x.body;
}

abbrev pub bare_fields : Fields → Fields
bare_fields x = record {
  node = bare_node x.node;
  names = map bare_identifier x.names;
  spec = bare_spec x.spec;
  init = option_map bare_init x.init;
}

abbrev pub bare_shape : Shape → Shape
bare_shape (Shape.Spec kind) = shape.Spec (bare_spec kind)
bare_shape (Shape.Structure node members) =
    shape.Structure (bare_node node) (map bare_fields members)

abbrev pub bare_type_decl : TypeDecl → TypeDecl
bare_type_decl x = record {
  node = bare_node x.node;
  name = bare_identifier x.name;
  shape = bare_shape x.shape;
  init = option_map bare_init x.init;
}

abbrev pub bare_types : Types → Types
bare_types x = record { node = bare_node x.node; decls = map bare_type_decl x.decls }

abbrev pub bare_globals : Globals → Globals
bare_globals x = record { node = bare_node x.node; keep = x.keep; decls = map bare_decl x.decls }

abbrev pub bare_parameter : Parameter → Parameter
bare_parameter x = record {
  node = bare_node x.node;
  name = bare_identifier x.name;
  value = bare_expr x.value;
}

abbrev pub bare_task : Task → Task
bare_task x = record {
  node = bare_node x.node;
  name = bare_identifier x.name;
  parameters = map bare_parameter x.parameters;
}

abbrev pub bare_program_line : ProgramLine → ProgramLine
bare_program_line x = record {
  node = bare_node x.node;
  name = bare_identifier x.name;
  task = option_map bare_identifier x.task;
  program = bare_identifier x.program;
}

abbrev pub bare_tasks : Tasks → Tasks
bare_tasks x = record { tasks = map bare_task x.tasks; lines = map bare_program_line x.lines }

abbrev pub bare_resource : Resource → Resource
bare_resource x = record {
  node = bare_node x.node;
  name = bare_identifier x.name;
  kind = bare_identifier x.kind;
  globals = map bare_globals x.globals;
  tasks = bare_tasks x.tasks;
}

abbrev pub bare_config : Config → Config
bare_config x = record {
  node = bare_node x.node;
  name = bare_identifier x.name;
  globals = map bare_globals x.globals;
  resources = map bare_resource x.resources;
  tasks = bare_tasks x.tasks;
}

abbrev pub bare_file_part : FilePart → FilePart
bare_file_part (FilePart.Unit unit) = file_part.Unit (bare_unit unit)
bare_file_part (FilePart.Types types) = file_part.Types (bare_types types)
bare_file_part (FilePart.Globals globals) = file_part.Globals (bare_globals globals)
bare_file_part (FilePart.Config config) = file_part.Config (bare_config config)

-- statements, and parts of a file
abbrev pub bare_stmts : List Stmt → List Stmt
bare_stmts = map bare_stmt

abbrev pub bare_parts : List FilePart → List FilePart
bare_parts = map bare_file_part
