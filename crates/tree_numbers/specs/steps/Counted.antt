-- Trees whose nodes are numbered one after the other as the code numbers them: a node first, then
-- its parts in the order of the text, each with the counter that the one before it left.
use Rattle.std.specs.Prelude.{[], ◌∷◌, ◌++◌, length, map}
use Rattle.std.specs.Option.{option_map}
use Rattle.st_tree.specs.declared.node.Node.{Node}
use Rattle.tree_numbers.specs.NumberedAt.{numbered_at}
use Rattle.tree_numbers.specs.steps.Turns.{Turn, kept, turn1, turn2, turn3, turn4, turn5, each, perhaps}
use Rattle.st_tree.specs.declared.expression.Identifier.{Identifier}
use Rattle.st_tree.specs.declared.expression.Address.{Address}
use Rattle.st_tree.specs.declared.expression.Root.{Root}
use Rattle.st_tree.specs.declared.expression.Root.TheVariants as root
use Rattle.st_tree.specs.declared.expression.Expr.{Expr, fold-Expr}
use Rattle.st_tree.specs.declared.expression.Expr.TheVariants as expr
use Rattle.st_tree.specs.declared.expression.Expr.TheOpen.{Expr-F, Part-F, Argument-F, Path-F}
use Rattle.st_tree.specs.declared.expression.Part.{Part, fold-Part}
use Rattle.st_tree.specs.declared.expression.Part.TheVariants as part
use Rattle.st_tree.specs.declared.expression.Argument.{Argument, fold-Argument}
use Rattle.st_tree.specs.declared.expression.Path.{Path, fold-Path}
use Rattle.st_tree.specs.declared.statement.Point.{Point}
use Rattle.st_tree.specs.declared.statement.Point.TheVariants as point
use Rattle.st_tree.specs.declared.statement.Label.{Label}
use Rattle.st_tree.specs.declared.statement.StmtArgument.{StmtArgument}
use Rattle.st_tree.specs.declared.statement.StmtArgument.TheVariants as stmt_argument
use Rattle.st_tree.specs.declared.statement.Counter.{Counter}
use Rattle.st_tree.specs.declared.statement.Stmt.{Stmt, fold-Stmt}
use Rattle.st_tree.specs.declared.statement.Stmt.TheVariants as stmt
use Rattle.st_tree.specs.declared.statement.Stmt.TheOpen.{Stmt-F, Branch-F, Case-F}
use Rattle.st_tree.specs.declared.statement.Branch.{Branch, fold-Branch}
use Rattle.st_tree.specs.declared.statement.Case.{Case, fold-Case}
use Rattle.st_tree.specs.declared.declaration.TypeName.{TypeName}
use Rattle.st_tree.specs.declared.declaration.TypeName.TheVariants as type_name
use Rattle.st_tree.specs.declared.declaration.Range.{Range}
use Rattle.st_tree.specs.declared.declaration.Spec.{Spec, fold-Spec}
use Rattle.st_tree.specs.declared.declaration.Spec.TheVariants as spec
use Rattle.st_tree.specs.declared.declaration.Spec.TheOpen.{Spec-F}
use Rattle.st_tree.specs.declared.declaration.Init.{Init, fold-Init}
use Rattle.st_tree.specs.declared.declaration.Init.TheVariants as init
use Rattle.st_tree.specs.declared.declaration.Init.TheOpen.{Init-F, Item-F, FieldInit-F}
use Rattle.st_tree.specs.declared.declaration.Item.{Item, fold-Item}
use Rattle.st_tree.specs.declared.declaration.Item.TheVariants as item
use Rattle.st_tree.specs.declared.declaration.FieldInit.{FieldInit, fold-FieldInit}
use Rattle.st_tree.specs.declared.declaration.Decl.{Decl}
use Rattle.st_tree.specs.declared.declaration.Section.{Section}
use Rattle.st_tree.specs.declared.chart.Association.{Association}
use Rattle.st_tree.specs.declared.chart.Step.{Step}
use Rattle.st_tree.specs.declared.chart.StepNames.{StepNames}
use Rattle.st_tree.specs.declared.chart.StepNames.TheVariants as step_names
use Rattle.st_tree.specs.declared.chart.Transition.{Transition}
use Rattle.st_tree.specs.declared.chart.Action.{Action}
use Rattle.st_tree.specs.declared.chart.SfcPart.{SfcPart}
use Rattle.st_tree.specs.declared.chart.SfcPart.TheVariants as sfc_part
use Rattle.st_tree.specs.declared.chart.Sfc.{Sfc}
use Rattle.st_tree.specs.declared.file.Body.{Body}
use Rattle.st_tree.specs.declared.file.Body.TheVariants as body
use Rattle.st_tree.specs.declared.file.UnitKind.{UnitKind}
use Rattle.st_tree.specs.declared.file.UnitKind.TheVariants as unit_kind
use Rattle.st_tree.specs.declared.file.Unit.{Unit}
use Rattle.st_tree.specs.declared.file.Fields.{Fields}
use Rattle.st_tree.specs.declared.file.Shape.{Shape}
use Rattle.st_tree.specs.declared.file.Shape.TheVariants as shape
use Rattle.st_tree.specs.declared.file.TypeDecl.{TypeDecl}
use Rattle.st_tree.specs.declared.file.Types.{Types}
use Rattle.st_tree.specs.declared.file.Globals.{Globals}
use Rattle.st_tree.specs.declared.file.Parameter.{Parameter}
use Rattle.st_tree.specs.declared.file.Task.{Task}
use Rattle.st_tree.specs.declared.file.ProgramLine.{ProgramLine}
use Rattle.st_tree.specs.declared.file.Tasks.{Tasks}
use Rattle.st_tree.specs.declared.file.Resource.{Resource}
use Rattle.st_tree.specs.declared.file.Config.{Config}
use Rattle.st_tree.specs.declared.file.FilePart.{FilePart}
use Rattle.st_tree.specs.declared.file.FilePart.TheVariants as file_part

-- a node with its number, and one node more before the next
abbrev pub counted : Node → Turn Node
counted node c = (
  numbered_at c.comments (length c.starts) node,
  record { comments = c.comments; starts = c.starts ++ node.start ∷ [] },
)

abbrev pub counted_identifier : Identifier → Turn Identifier
counted_identifier x = turn1 (λ node. record { node = node; name = x.name }) (counted x.node)

abbrev pub counted_address : Address → Turn Address
counted_address x = turn1 (λ node. record { node = node; name = x.name }) (counted x.node)

abbrev pub counted_root : Root → Turn Root
counted_root (Root.Name name) = turn1 root.Name (counted_identifier name)
counted_root (Root.Address address) = turn1 root.Address (counted_address address)

abbrev pub expr_counted : Expr-F (Turn Expr) (Turn Part) (Turn Argument) (Turn Path) → Turn Expr
expr_counted (Expr-F.Number node minus text) =
    turn1 (λ node. expr.Number node minus text) (counted node)
expr_counted (Expr-F.Typed node text) = turn1 (λ node. expr.Typed node text) (counted node)
expr_counted (Expr-F.Time node text) = turn1 (λ node. expr.Time node text) (counted node)
expr_counted (Expr-F.Truth node truth) = turn1 (λ node. expr.Truth node truth) (counted node)
expr_counted (Expr-F.Path path) = turn1 expr.Path path
expr_counted (Expr-F.Value node name value) =
    turn3 expr.Value (counted node) (counted_identifier name) (counted_identifier value)
expr_counted (Expr-F.Parenthesized node inner) = turn2 expr.Parenthesized (counted node) inner
expr_counted (Expr-F.Unary node operator operand) =
    turn2 (λ node operand. expr.Unary node operator operand) (counted node) operand
expr_counted (Expr-F.Binary node operator left right) =
    turn3 (λ node left right. expr.Binary node operator left right) (counted node) left right
expr_counted (Expr-F.Call node name arguments) =
    turn3 expr.Call (counted node) (counted_identifier name) (each arguments)

abbrev pub part_counted : Part-F (Turn Expr) (Turn Part) (Turn Argument) (Turn Path) → Turn Part
part_counted (Part-F.Field name) = turn1 part.Field (counted_identifier name)
part_counted (Part-F.Index node indices) = turn2 part.Index (counted node) (each indices)

abbrev pub argument_counted : Argument-F (Turn Expr) (Turn Part) (Turn Argument) (Turn Path) →
    Turn Argument
argument_counted x =
    turn3 (λ node name value. record { node = node; name = name; value = value }) (counted x.node)
    (perhaps (option_map counted_identifier x.name)) x.value

abbrev pub path_counted : Path-F (Turn Expr) (Turn Part) (Turn Argument) (Turn Path) → Turn Path
path_counted x =
    turn3 (λ node root parts. record { node = node; root = root; parts = parts }) (counted x.node)
    (counted_root x.root) (each x.parts)

unfoldable pub counted_expr : Expr → Turn Expr
counted_expr =
    fold-Expr (Turn Expr) (Turn Part) (Turn Argument) (Turn Path) expr_counted part_counted
    argument_counted path_counted

unfoldable pub counted_part : Part → Turn Part
counted_part =
    fold-Part (Turn Expr) (Turn Part) (Turn Argument) (Turn Path) expr_counted part_counted
    argument_counted path_counted

unfoldable pub counted_argument : Argument → Turn Argument
counted_argument =
    fold-Argument (Turn Expr) (Turn Part) (Turn Argument) (Turn Path) expr_counted part_counted
    argument_counted path_counted

unfoldable pub counted_path : Path → Turn Path
counted_path =
    fold-Path (Turn Expr) (Turn Part) (Turn Argument) (Turn Path) expr_counted part_counted
    argument_counted path_counted

abbrev pub counted_point : Point → Turn Point
counted_point (Point.Number node minus text) =
    turn1 (λ node. point.Number node minus text) (counted node)
counted_point (Point.Typed node text) = turn1 (λ node. point.Typed node text) (counted node)
counted_point (Point.Name name) = turn1 point.Name (counted_identifier name)
counted_point (Point.Value node name value) =
    turn3 point.Value (counted node) (counted_identifier name) (counted_identifier value)

abbrev pub counted_label : Label → Turn Label
counted_label x =
    turn3 (λ node first last. record { node = node; first = first; last = last }) (counted x.node)
    (counted_point x.first) (perhaps (option_map counted_point x.last))

abbrev pub counted_stmt_argument : StmtArgument → Turn StmtArgument
counted_stmt_argument (StmtArgument.Input node name value) =
    turn3 stmt_argument.Input (counted node) (counted_identifier name) (counted_expr value)
counted_stmt_argument (StmtArgument.Output node name target) =
    turn3 stmt_argument.Output (counted node) (counted_identifier name) (counted_path target)

abbrev pub counted_counter : Counter → Turn Counter
counted_counter x =
    turn4
    (λ variable first last step. record
    { variable = variable; first = first; last = last; step = step })
    (counted_identifier x.variable) (counted_expr x.first) (counted_expr x.last)
    (perhaps (option_map counted_expr x.step))

abbrev pub stmt_counted : Stmt-F (Turn Stmt) (Turn Branch) (Turn Case) → Turn Stmt
stmt_counted (Stmt-F.Assign node target value) =
    turn3 stmt.Assign (counted node) (counted_path target) (counted_expr value)
stmt_counted (Stmt-F.Call node name arguments) =
    turn3 stmt.Call (counted node) (counted_identifier name)
    (each (map counted_stmt_argument arguments))
stmt_counted (Stmt-F.Return node) = turn1 stmt.Return (counted node)
stmt_counted (Stmt-F.Exit node) = turn1 stmt.Exit (counted node)
stmt_counted (Stmt-F.Continue node) = turn1 stmt.Continue (counted node)
stmt_counted (Stmt-F.If node branches otherwise) =
    turn3 stmt.If (counted node) (each branches) (perhaps (option_map each otherwise))
stmt_counted (Stmt-F.Case node selector cases otherwise) =
    turn4 stmt.Case (counted node) (counted_expr selector) (each cases)
    (perhaps (option_map each otherwise))
stmt_counted (Stmt-F.For node counter body) =
    turn3 stmt.For (counted node) (counted_counter counter) (each body)
stmt_counted (Stmt-F.While node condition body) =
    turn3 stmt.While (counted node) (counted_expr condition) (each body)
stmt_counted (Stmt-F.Repeat node body condition) =
    turn3 stmt.Repeat (counted node) (each body) (counted_expr condition)

abbrev pub branch_counted : Branch-F (Turn Stmt) (Turn Branch) (Turn Case) → Turn Branch
branch_counted x =
    turn2 (λ condition body. record { condition = condition; body = body })
    (counted_expr x.condition) (each x.body)

abbrev pub case_counted : Case-F (Turn Stmt) (Turn Branch) (Turn Case) → Turn Case
case_counted x =
    turn2 (λ labels body. record { labels = labels; body = body })
    (each (map counted_label x.labels)) (each x.body)

unfoldable pub counted_stmt : Stmt → Turn Stmt
counted_stmt =
    fold-Stmt (Turn Stmt) (Turn Branch) (Turn Case) stmt_counted branch_counted case_counted

unfoldable pub counted_branch : Branch → Turn Branch
counted_branch =
    fold-Branch (Turn Stmt) (Turn Branch) (Turn Case) stmt_counted branch_counted case_counted

unfoldable pub counted_case : Case → Turn Case
counted_case =
    fold-Case (Turn Stmt) (Turn Branch) (Turn Case) stmt_counted branch_counted case_counted

abbrev pub counted_type_name : TypeName → Turn TypeName
counted_type_name (TypeName.Elementary node elem) =
    turn1 (λ node. type_name.Elementary node elem) (counted node)
counted_type_name (TypeName.Named name) = turn1 type_name.Named (counted_identifier name)

abbrev pub counted_range : Range → Turn Range
counted_range x =
    turn3 (λ node lower upper. record { node = node; lower = lower; upper = upper })
    (counted x.node) (counted_expr x.lower) (counted_expr x.upper)

abbrev pub spec_counted : Spec-F (Turn Spec) → Turn Spec
spec_counted (Spec-F.«Type» node name limits) =
    turn3 spec.«Type» (counted node) (counted_type_name name)
    (perhaps (option_map counted_range limits))
spec_counted (Spec-F.Enumeration node values) =
    turn2 spec.Enumeration (counted node) (each (map counted_identifier values))
spec_counted (Spec-F.Array node ranges element) =
    turn3 spec.Array (counted node) (each (map counted_range ranges)) element

unfoldable pub counted_spec : Spec → Turn Spec
counted_spec = fold-Spec (Turn Spec) spec_counted

abbrev pub init_counted : Init-F (Turn Init) (Turn Item) (Turn FieldInit) → Turn Init
init_counted (Init-F.Value value) = turn1 init.Value (counted_expr value)
init_counted (Init-F.Array node elements) = turn2 init.Array (counted node) (each elements)
init_counted (Init-F.Structure node fields) = turn2 init.Structure (counted node) (each fields)

abbrev pub item_counted : Item-F (Turn Init) (Turn Item) (Turn FieldInit) → Turn Item
item_counted (Item-F.One value) = turn1 item.One value
item_counted (Item-F.Repeated node count value) =
    turn2 (λ node value. item.Repeated node count value) (counted node) value

abbrev pub field_counted : FieldInit-F (Turn Init) (Turn Item) (Turn FieldInit) → Turn FieldInit
field_counted x =
    turn3 (λ node name value. record { node = node; name = name; value = value }) (counted x.node)
    (counted_identifier x.name) x.value

unfoldable pub counted_init : Init → Turn Init
counted_init =
    fold-Init (Turn Init) (Turn Item) (Turn FieldInit) init_counted item_counted field_counted

unfoldable pub counted_item : Item → Turn Item
counted_item =
    fold-Item (Turn Init) (Turn Item) (Turn FieldInit) init_counted item_counted field_counted

unfoldable pub counted_field : FieldInit → Turn FieldInit
counted_field =
    fold-FieldInit (Turn Init) (Turn Item) (Turn FieldInit) init_counted item_counted field_counted

abbrev pub counted_decl : Decl → Turn Decl
counted_decl x =
    turn5
    (λ node names address spec init. record
    { node = node; names = names; address = address; spec = spec; init = init })
    (counted x.node) (each (map counted_identifier x.names))
    (perhaps (option_map counted_address x.address)) (counted_spec x.spec)
    (perhaps (option_map counted_init x.init))

abbrev pub counted_section : Section → Turn Section
counted_section x =
    turn2 (λ node decls. record { node = node; kind = x.kind; keep = x.keep; decls = decls })
    (counted x.node) (each (map counted_decl x.decls))

abbrev pub counted_association : Association → Turn Association
counted_association x =
    turn3 (λ node action qualifier. record { node = node; action = action; qualifier = qualifier })
    (counted x.node) (counted_identifier x.action)
    (perhaps (option_map counted_identifier x.qualifier))

abbrev pub counted_step : Step → Turn Step
counted_step x =
    turn3
    (λ node name associations. record { node = node; name = name; associations = associations })
    (counted x.node) (counted_identifier x.name) (each (map counted_association x.associations))

abbrev pub counted_step_names : StepNames → Turn StepNames
counted_step_names (StepNames.One name) = turn1 step_names.One (counted_identifier name)
counted_step_names (StepNames.Several node names) =
    turn2 step_names.Several (counted node) (each (map counted_identifier names))

abbrev pub counted_transition : Transition → Turn Transition
counted_transition x =
    turn5
    (λ node name from to condition. record
    { node = node; name = name; from = from; to = to; condition = condition })
    (counted x.node) (perhaps (option_map counted_identifier x.name)) (counted_step_names x.from)
    (counted_step_names x.to) (counted_expr x.condition)

abbrev pub counted_action : Action → Turn Action
counted_action x =
    turn3 (λ node name body. record { node = node; name = name; body = body }) (counted x.node)
    (counted_identifier x.name) (each (map counted_stmt x.body))

abbrev pub counted_sfc_part : SfcPart → Turn SfcPart
counted_sfc_part (SfcPart.Step step) = turn1 sfc_part.Step (counted_step step)
counted_sfc_part (SfcPart.Transition transition) =
    turn1 sfc_part.Transition (counted_transition transition)
counted_sfc_part (SfcPart.Action action) = turn1 sfc_part.Action (counted_action action)

abbrev pub counted_sfc : Sfc → Turn Sfc
counted_sfc x =
    turn3 (λ node initial parts. record { node = node; initial = initial; parts = parts })
    (counted x.node) (counted_step x.initial) (each (map counted_sfc_part x.parts))

abbrev pub counted_body : Body → Turn Body
counted_body (Body.Statements statements) =
    turn1 body.Statements (each (map counted_stmt statements))
counted_body (Body.Chart chart) = turn1 body.Chart (counted_sfc chart)

abbrev pub counted_unit_kind : UnitKind → Turn UnitKind
counted_unit_kind (UnitKind.Function name) = turn1 unit_kind.Function (counted_type_name name)
counted_unit_kind UnitKind.Block = kept unit_kind.Block
counted_unit_kind UnitKind.Program = kept unit_kind.Program

abbrev pub counted_unit : Unit → Turn Unit
counted_unit x =
    turn5
    (λ node name kind sections body. record
    { node = node; name = name; kind = kind; sections = sections; body = body })
    (counted x.node) (counted_identifier x.name) (counted_unit_kind x.kind)
    (each (map counted_section x.sections)) (counted_body x.body)

abbrev pub counted_fields : Fields → Turn Fields
counted_fields x =
    turn4 (λ node names spec init. record { node = node; names = names; spec = spec; init = init })
    (counted x.node) (each (map counted_identifier x.names)) (counted_spec x.spec)
    (perhaps (option_map counted_init x.init))

abbrev pub counted_shape : Shape → Turn Shape
counted_shape (Shape.Spec kind) = turn1 shape.Spec (counted_spec kind)
counted_shape (Shape.Structure node members) =
    turn2 shape.Structure (counted node) (each (map counted_fields members))

abbrev pub counted_type_decl : TypeDecl → Turn TypeDecl
counted_type_decl x =
    turn4 (λ node name shape init. record { node = node; name = name; shape = shape; init = init })
    (counted x.node) (counted_identifier x.name) (counted_shape x.shape)
    (perhaps (option_map counted_init x.init))

abbrev pub counted_types : Types → Turn Types
counted_types x =
    turn2 (λ node decls. record { node = node; decls = decls }) (counted x.node)
    (each (map counted_type_decl x.decls))

abbrev pub counted_globals : Globals → Turn Globals
counted_globals x =
    turn2 (λ node decls. record { node = node; keep = x.keep; decls = decls }) (counted x.node)
    (each (map counted_decl x.decls))

abbrev pub counted_parameter : Parameter → Turn Parameter
counted_parameter x =
    turn3 (λ node name value. record { node = node; name = name; value = value }) (counted x.node)
    (counted_identifier x.name) (counted_expr x.value)

abbrev pub counted_task : Task → Turn Task
counted_task x =
    turn3 (λ node name parameters. record { node = node; name = name; parameters = parameters })
    (counted x.node) (counted_identifier x.name) (each (map counted_parameter x.parameters))

abbrev pub counted_program_line : ProgramLine → Turn ProgramLine
counted_program_line x =
    turn4
    (λ node name task program. record { node = node; name = name; task = task; program = program })
    (counted x.node) (counted_identifier x.name) (perhaps (option_map counted_identifier x.task))
    (counted_identifier x.program)

abbrev pub counted_tasks : Tasks → Turn Tasks
counted_tasks x =
    turn2 (λ tasks lines. record { tasks = tasks; lines = lines }) (each (map counted_task x.tasks))
    (each (map counted_program_line x.lines))

abbrev pub counted_resource : Resource → Turn Resource
counted_resource x =
    turn5
    (λ node name kind globals tasks. record
    { node = node; name = name; kind = kind; globals = globals; tasks = tasks })
    (counted x.node) (counted_identifier x.name) (counted_identifier x.kind)
    (each (map counted_globals x.globals)) (counted_tasks x.tasks)

abbrev pub counted_config : Config → Turn Config
counted_config x =
    turn5
    (λ node name globals resources tasks. record
    { node = node; name = name; globals = globals; resources = resources; tasks = tasks })
    (counted x.node) (counted_identifier x.name) (each (map counted_globals x.globals))
    (each (map counted_resource x.resources)) (counted_tasks x.tasks)

abbrev pub counted_file_part : FilePart → Turn FilePart
counted_file_part (FilePart.Unit unit) = turn1 file_part.Unit (counted_unit unit)
counted_file_part (FilePart.Types types) = turn1 file_part.Types (counted_types types)
counted_file_part (FilePart.Globals globals) = turn1 file_part.Globals (counted_globals globals)
counted_file_part (FilePart.Config config) = turn1 file_part.Config (counted_config config)
