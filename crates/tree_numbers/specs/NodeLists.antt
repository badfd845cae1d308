-- The nodes of a tree as a list: an outer node before those within it, and these in the order of
-- the text. Source: this profile. The code makes no such list; it gives each node its number where
-- it stands.
use Rattle.std.specs.Prelude.{List, [], ◌∷◌, ◌++◌, flat_map, Option, Some, None}
use Rattle.st_tree.specs.declared.node.Node.{Node}
use Rattle.st_tree.specs.declared.expression.Identifier.{Identifier}
use Rattle.st_tree.specs.declared.expression.Address.{Address}
use Rattle.st_tree.specs.declared.expression.Root.{Root}
use Rattle.st_tree.specs.declared.expression.Expr.{Expr, fold-Expr}
use Rattle.st_tree.specs.declared.expression.Expr.TheOpen.{Expr-F, Part-F, Argument-F, Path-F}
use Rattle.st_tree.specs.declared.expression.Argument.{Argument, fold-Argument}
use Rattle.st_tree.specs.declared.expression.Path.{Path, fold-Path}
use Rattle.st_tree.specs.declared.expression.Part.{Part, fold-Part}
use Rattle.st_tree.specs.declared.statement.Stmt.{Stmt, fold-Stmt}
use Rattle.st_tree.specs.declared.statement.Stmt.TheOpen.{Stmt-F, Branch-F, Case-F}
use Rattle.st_tree.specs.declared.statement.Branch.{Branch, fold-Branch}
use Rattle.st_tree.specs.declared.statement.Case.{Case, fold-Case}
use Rattle.st_tree.specs.declared.statement.Counter.{Counter}
use Rattle.st_tree.specs.declared.statement.Label.{Label}
use Rattle.st_tree.specs.declared.statement.Point.{Point}
use Rattle.st_tree.specs.declared.statement.StmtArgument.{StmtArgument}
use Rattle.st_tree.specs.declared.declaration.TypeName.{TypeName}
use Rattle.st_tree.specs.declared.declaration.Range.{Range}
use Rattle.st_tree.specs.declared.declaration.Spec.{Spec, fold-Spec}
use Rattle.st_tree.specs.declared.declaration.Spec.TheOpen.{Spec-F}
use Rattle.st_tree.specs.declared.declaration.Init.{Init, fold-Init}
use Rattle.st_tree.specs.declared.declaration.Init.TheOpen.{Init-F, Item-F, FieldInit-F}
use Rattle.st_tree.specs.declared.declaration.Item.{Item, fold-Item}
use Rattle.st_tree.specs.declared.declaration.FieldInit.{FieldInit, fold-FieldInit}
use Rattle.st_tree.specs.declared.declaration.Decl.{Decl}
use Rattle.st_tree.specs.declared.declaration.Section.{Section}
use Rattle.st_tree.specs.declared.chart.Association.{Association}
use Rattle.st_tree.specs.declared.chart.Step.{Step}
use Rattle.st_tree.specs.declared.chart.StepNames.{StepNames}
use Rattle.st_tree.specs.declared.chart.Transition.{Transition}
use Rattle.st_tree.specs.declared.chart.Action.{Action}
use Rattle.st_tree.specs.declared.chart.SfcPart.{SfcPart}
use Rattle.st_tree.specs.declared.chart.Sfc.{Sfc}
use Rattle.st_tree.specs.declared.file.Body.{Body}
use Rattle.st_tree.specs.declared.file.Unit.{Unit}
use Rattle.st_tree.specs.declared.file.UnitKind.{UnitKind}
use Rattle.st_tree.specs.declared.file.Types.{Types}
use Rattle.st_tree.specs.declared.file.TypeDecl.{TypeDecl}
use Rattle.st_tree.specs.declared.file.Shape.{Shape}
use Rattle.st_tree.specs.declared.file.Fields.{Fields}
use Rattle.st_tree.specs.declared.file.Globals.{Globals}
use Rattle.st_tree.specs.declared.file.Config.{Config}
use Rattle.st_tree.specs.declared.file.Resource.{Resource}
use Rattle.st_tree.specs.declared.file.Tasks.{Tasks}
use Rattle.st_tree.specs.declared.file.Task.{Task}
use Rattle.st_tree.specs.declared.file.Parameter.{Parameter}
use Rattle.st_tree.specs.declared.file.ProgramLine.{ProgramLine}
use Rattle.st_tree.specs.declared.file.FilePart.{FilePart}

-- the nodes of what may be there
abbrev pub nodes_if : {A : Type 0} → (A → List Node) → Option A → List Node
nodes_if nodes None = []
nodes_if nodes (Some x) = nodes x

-- the lists one behind the other
abbrev pub joined : List (List Node) → List Node
joined = flat_map (λ (nodes : List Node). nodes)

abbrev pub nodes_of_identifier : Identifier → List Node
nodes_of_identifier x = x.node ∷ []

abbrev pub nodes_of_address : Address → List Node
nodes_of_address x = x.node ∷ []

abbrev pub nodes_of_root : Root → List Node
nodes_of_root (Root.Name x) = nodes_of_identifier x
nodes_of_root (Root.Address x) = nodes_of_address x

-- expressions, with the list of its nodes in the place of each part that is again one
abbrev pub expr_nodes : Expr-F (List Node) (List Node) (List Node) (List Node) → List Node
expr_nodes (Expr-F.Number node minus text) = node ∷ []
expr_nodes (Expr-F.Typed node text) = node ∷ []
expr_nodes (Expr-F.Time node text) = node ∷ []
expr_nodes (Expr-F.Truth node truth) = node ∷ []
expr_nodes (Expr-F.Path path) = path
expr_nodes (Expr-F.Value node name value) =
    node ∷ (nodes_of_identifier name ++ nodes_of_identifier value)
expr_nodes (Expr-F.Parenthesized node inner) = node ∷ inner
expr_nodes (Expr-F.Unary node operator operand) = node ∷ operand
expr_nodes (Expr-F.Binary node operator left right) = node ∷ (left ++ right)
expr_nodes (Expr-F.Call node name arguments) = node ∷ (nodes_of_identifier name ++ joined arguments)

abbrev pub part_nodes : Part-F (List Node) (List Node) (List Node) (List Node) → List Node
part_nodes (Part-F.Field name) = nodes_of_identifier name
part_nodes (Part-F.Index node indices) = node ∷ joined indices

abbrev pub argument_nodes : Argument-F (List Node) (List Node) (List Node) (List Node) → List Node
argument_nodes x = x.node ∷ (nodes_if nodes_of_identifier x.name ++ x.value)

abbrev pub path_nodes : Path-F (List Node) (List Node) (List Node) (List Node) → List Node
path_nodes x = x.node ∷ (nodes_of_root x.root ++ joined x.parts)

unfoldable pub nodes_of_expr : Expr → List Node
nodes_of_expr =
    fold-Expr (List Node) (List Node) (List Node) (List Node)
    expr_nodes part_nodes argument_nodes path_nodes

unfoldable pub nodes_of_part : Part → List Node
nodes_of_part =
    fold-Part (List Node) (List Node) (List Node) (List Node)
    expr_nodes part_nodes argument_nodes path_nodes

unfoldable pub nodes_of_argument : Argument → List Node
nodes_of_argument =
    fold-Argument (List Node) (List Node) (List Node) (List Node)
    expr_nodes part_nodes argument_nodes path_nodes

unfoldable pub nodes_of_path : Path → List Node
nodes_of_path =
    fold-Path (List Node) (List Node) (List Node) (List Node)
    expr_nodes part_nodes argument_nodes path_nodes

abbrev pub nodes_of_point : Point → List Node
nodes_of_point (Point.Number node minus text) = node ∷ []
nodes_of_point (Point.Typed node text) = node ∷ []
nodes_of_point (Point.Name name) = nodes_of_identifier name
nodes_of_point (Point.Value node name value) =
    node ∷ (nodes_of_identifier name ++ nodes_of_identifier value)

abbrev pub nodes_of_label : Label → List Node
nodes_of_label x = x.node ∷ (nodes_of_point x.first ++ nodes_if nodes_of_point x.last)

abbrev pub nodes_of_stmt_argument : StmtArgument → List Node
nodes_of_stmt_argument (StmtArgument.Input node name value) =
    node ∷ (nodes_of_identifier name ++ nodes_of_expr value)
nodes_of_stmt_argument (StmtArgument.Output node name target) =
    node ∷ (nodes_of_identifier name ++ nodes_of_path target)

abbrev pub nodes_of_counter : Counter → List Node
nodes_of_counter x =
    nodes_of_identifier x.variable
    ++ (nodes_of_expr x.first ++ (nodes_of_expr x.last ++ nodes_if nodes_of_expr x.step))

-- statements, with the list of its nodes in the place of each part that is again one
abbrev pub stmt_nodes : Stmt-F (List Node) (List Node) (List Node) → List Node
stmt_nodes (Stmt-F.Assign node target value) = node ∷ (nodes_of_path target ++ nodes_of_expr value)
stmt_nodes (Stmt-F.Call node name arguments) =
    node ∷ (nodes_of_identifier name ++ flat_map nodes_of_stmt_argument arguments)
stmt_nodes (Stmt-F.Return node) = node ∷ []
stmt_nodes (Stmt-F.Exit node) = node ∷ []
stmt_nodes (Stmt-F.Continue node) = node ∷ []
stmt_nodes (Stmt-F.If node branches otherwise) =
    node ∷ (joined branches ++ nodes_if joined otherwise)
stmt_nodes (Stmt-F.Case node selector branches otherwise) =
    node ∷ (nodes_of_expr selector ++ (joined branches ++ nodes_if joined otherwise))
stmt_nodes (Stmt-F.For node counter body) = node ∷ (nodes_of_counter counter ++ joined body)
stmt_nodes (Stmt-F.While node condition body) = node ∷ (nodes_of_expr condition ++ joined body)
stmt_nodes (Stmt-F.Repeat node body condition) = node ∷ (joined body ++ nodes_of_expr condition)

abbrev pub branch_nodes : Branch-F (List Node) (List Node) (List Node) → List Node
branch_nodes x = nodes_of_expr x.condition ++ joined x.body

abbrev pub case_nodes : Case-F (List Node) (List Node) (List Node) → List Node
case_nodes x = flat_map nodes_of_label x.labels ++ joined x.body

unfoldable pub nodes_of_stmt : Stmt → List Node
nodes_of_stmt = fold-Stmt (List Node) (List Node) (List Node) stmt_nodes branch_nodes case_nodes

unfoldable pub nodes_of_branch : Branch → List Node
nodes_of_branch = fold-Branch (List Node) (List Node) (List Node) stmt_nodes branch_nodes case_nodes

unfoldable pub nodes_of_case : Case → List Node
nodes_of_case = fold-Case (List Node) (List Node) (List Node) stmt_nodes branch_nodes case_nodes

abbrev pub nodes_of_stmts : List Stmt → List Node
nodes_of_stmts = flat_map nodes_of_stmt

abbrev pub nodes_of_type_name : TypeName → List Node
nodes_of_type_name (TypeName.Elementary node elem) = node ∷ []
nodes_of_type_name (TypeName.Named name) = nodes_of_identifier name

abbrev pub nodes_of_range : Range → List Node
nodes_of_range x = x.node ∷ (nodes_of_expr x.lower ++ nodes_of_expr x.upper)

-- types, with the list of its nodes in the place of the type of an array's elements
abbrev pub spec_nodes : Spec-F (List Node) → List Node
spec_nodes (Spec-F.«Type» node name limits) =
    node ∷ (nodes_of_type_name name ++ nodes_if nodes_of_range limits)
spec_nodes (Spec-F.Enumeration node values) = node ∷ flat_map nodes_of_identifier values
spec_nodes (Spec-F.Array node ranges element) = node ∷ (flat_map nodes_of_range ranges ++ element)

unfoldable pub nodes_of_spec : Spec → List Node
nodes_of_spec = fold-Spec (List Node) spec_nodes

-- initial values, with the list of its nodes in the place of each part that is again one
abbrev pub init_nodes : Init-F (List Node) (List Node) (List Node) → List Node
init_nodes (Init-F.Value value) = nodes_of_expr value
init_nodes (Init-F.Array node elements) = node ∷ joined elements
init_nodes (Init-F.Structure node fields) = node ∷ joined fields

abbrev pub item_nodes : Item-F (List Node) (List Node) (List Node) → List Node
item_nodes (Item-F.One value) = value
item_nodes (Item-F.Repeated node count value) = node ∷ value

abbrev pub field_nodes : FieldInit-F (List Node) (List Node) (List Node) → List Node
field_nodes x = x.node ∷ (nodes_of_identifier x.name ++ x.value)

unfoldable pub nodes_of_init : Init → List Node
nodes_of_init = fold-Init (List Node) (List Node) (List Node) init_nodes item_nodes field_nodes

unfoldable pub nodes_of_item : Item → List Node
nodes_of_item = fold-Item (List Node) (List Node) (List Node) init_nodes item_nodes field_nodes

unfoldable pub nodes_of_field : FieldInit → List Node
nodes_of_field =
    fold-FieldInit (List Node) (List Node) (List Node) init_nodes item_nodes field_nodes

abbrev pub nodes_of_decl : Decl → List Node
nodes_of_decl x =
    x.node ∷ (flat_map nodes_of_identifier x.names
    ++ (nodes_if nodes_of_address x.address ++ (nodes_of_spec x.spec ++ nodes_if nodes_of_init x.init)))

abbrev pub nodes_of_section : Section → List Node
nodes_of_section x = x.node ∷ flat_map nodes_of_decl x.decls

abbrev pub nodes_of_association : Association → List Node
nodes_of_association x =
    x.node ∷ (nodes_of_identifier x.action ++ nodes_if nodes_of_identifier x.qualifier)

abbrev pub nodes_of_step : Step → List Node
nodes_of_step x =
    x.node ∷ (nodes_of_identifier x.name ++ flat_map nodes_of_association x.associations)

abbrev pub nodes_of_step_names : StepNames → List Node
nodes_of_step_names (StepNames.One name) = nodes_of_identifier name
nodes_of_step_names (StepNames.Several node names) = node ∷ flat_map nodes_of_identifier names

abbrev pub nodes_of_transition : Transition → List Node
nodes_of_transition x =
    x.node ∷ (nodes_if nodes_of_identifier x.name
    ++ (nodes_of_step_names x.from ++ (nodes_of_step_names x.to ++ nodes_of_expr x.condition)))

abbrev pub nodes_of_action : Action → List Node
nodes_of_action x = x.node ∷ (nodes_of_identifier x.name ++ nodes_of_stmts x.body)

abbrev pub nodes_of_sfc_part : SfcPart → List Node
nodes_of_sfc_part (SfcPart.Step x) = nodes_of_step x
nodes_of_sfc_part (SfcPart.Transition x) = nodes_of_transition x
nodes_of_sfc_part (SfcPart.Action x) = nodes_of_action x

abbrev pub nodes_of_sfc : Sfc → List Node
nodes_of_sfc x = x.node ∷ (nodes_of_step x.initial ++ flat_map nodes_of_sfc_part x.parts)

abbrev pub nodes_of_body : Body → List Node
nodes_of_body (Body.Statements statements) = nodes_of_stmts statements
nodes_of_body (Body.Chart chart) = nodes_of_sfc chart

-- the type of a function's result
abbrev pub nodes_of_unit_kind : UnitKind → List Node
nodes_of_unit_kind (UnitKind.Function name) = nodes_of_type_name name
nodes_of_unit_kind UnitKind.Block = []
nodes_of_unit_kind UnitKind.Program = []

abbrev pub nodes_of_unit : Unit → List Node
nodes_of_unit x =
    x.node ∷ (nodes_of_identifier x.name
    ++ (nodes_of_unit_kind x.kind ++ (flat_map nodes_of_section x.sections ++ nodes_of_body x.body)))

abbrev pub nodes_of_fields : Fields → List Node
nodes_of_fields x =
    x.node ∷ (flat_map nodes_of_identifier x.names
    ++ (nodes_of_spec x.spec ++ nodes_if nodes_of_init x.init))

abbrev pub nodes_of_shape : Shape → List Node
nodes_of_shape (Shape.Spec kind) = nodes_of_spec kind
nodes_of_shape (Shape.Structure node members) = node ∷ flat_map nodes_of_fields members

abbrev pub nodes_of_type_decl : TypeDecl → List Node
nodes_of_type_decl x =
    x.node ∷ (nodes_of_identifier x.name ++ (nodes_of_shape x.shape ++ nodes_if nodes_of_init x.init))

abbrev pub nodes_of_types : Types → List Node
nodes_of_types x = x.node ∷ flat_map nodes_of_type_decl x.decls

abbrev pub nodes_of_globals : Globals → List Node
nodes_of_globals x = x.node ∷ flat_map nodes_of_decl x.decls

abbrev pub nodes_of_parameter : Parameter → List Node
nodes_of_parameter x = x.node ∷ (nodes_of_identifier x.name ++ nodes_of_expr x.value)

abbrev pub nodes_of_task : Task → List Node
nodes_of_task x = x.node ∷ (nodes_of_identifier x.name ++ flat_map nodes_of_parameter x.parameters)

abbrev pub nodes_of_program_line : ProgramLine → List Node
nodes_of_program_line x =
    x.node ∷ (nodes_of_identifier x.name
    ++ (nodes_if nodes_of_identifier x.task ++ nodes_of_identifier x.program))

abbrev pub nodes_of_tasks : Tasks → List Node
nodes_of_tasks x = flat_map nodes_of_task x.tasks ++ flat_map nodes_of_program_line x.lines

abbrev pub nodes_of_resource : Resource → List Node
nodes_of_resource x =
    x.node ∷ (nodes_of_identifier x.name
    ++ (nodes_of_identifier x.kind ++ (flat_map nodes_of_globals x.globals ++ nodes_of_tasks x.tasks)))

abbrev pub nodes_of_config : Config → List Node
nodes_of_config x =
    x.node ∷ (nodes_of_identifier x.name
    ++ (flat_map nodes_of_globals x.globals
    ++ (flat_map nodes_of_resource x.resources ++ nodes_of_tasks x.tasks)))

abbrev pub nodes_of_file_part : FilePart → List Node
nodes_of_file_part (FilePart.Unit x) = nodes_of_unit x
nodes_of_file_part (FilePart.Types x) = nodes_of_types x
nodes_of_file_part (FilePart.Globals x) = nodes_of_globals x
nodes_of_file_part (FilePart.Config x) = nodes_of_config x

abbrev pub nodes_of_parts : List FilePart → List Node
nodes_of_parts = flat_map nodes_of_file_part
