-- What stands in a tree: of a tree of each kind its own node, if it has one; the text of the token
-- that it is made of, if it is made of one; and the trees directly within it. Source: this profile.
-- The code has no such type; it descends from type to type.
use Rattle.std.specs.Prelude.{◌≡◌, ◌⊎◌, ℕ, List, [], ◌∷◌, ◌++◌, map, Contains, Option, Some, None}
use Rattle.token_grammar.specs.declared.token.TokenKind.{TokenKind}
use Rattle.token_grammar.specs.declared.token.TokenKind.TheVariants as k
use Rattle.st_tree.specs.declared.node.Node.{Node}
use Rattle.st_tree.specs.declared.expression.Identifier.{Identifier}
use Rattle.st_tree.specs.declared.expression.Address.{Address}
use Rattle.st_tree.specs.declared.expression.Root.{Root}
use Rattle.st_tree.specs.declared.expression.Expr.{Expr, out-Expr}
use Rattle.st_tree.specs.declared.expression.Expr.TheOpen.{Expr-F, Part-F}
use Rattle.st_tree.specs.declared.expression.Part.{Part, out-Part}
use Rattle.st_tree.specs.declared.expression.Argument.{Argument}
use Rattle.st_tree.specs.declared.expression.Path.{Path}
use Rattle.st_tree.specs.declared.statement.Point.{Point}
use Rattle.st_tree.specs.declared.statement.Label.{Label}
use Rattle.st_tree.specs.declared.statement.StmtArgument.{StmtArgument}
use Rattle.st_tree.specs.declared.statement.Counter.{Counter}
use Rattle.st_tree.specs.declared.statement.Stmt.{Stmt, out-Stmt}
use Rattle.st_tree.specs.declared.statement.Stmt.TheOpen.{Stmt-F}
use Rattle.st_tree.specs.declared.statement.Branch.{Branch}
use Rattle.st_tree.specs.declared.statement.Case.{Case}
use Rattle.st_tree.specs.declared.declaration.TypeName.{TypeName}
use Rattle.st_tree.specs.declared.declaration.Range.{Range}
use Rattle.st_tree.specs.declared.declaration.Spec.{Spec, out-Spec}
use Rattle.st_tree.specs.declared.declaration.Spec.TheOpen.{Spec-F}
use Rattle.st_tree.specs.declared.declaration.Init.{Init, out-Init}
use Rattle.st_tree.specs.declared.declaration.Init.TheOpen.{Init-F, Item-F}
use Rattle.st_tree.specs.declared.declaration.Item.{Item, out-Item}
use Rattle.st_tree.specs.declared.declaration.FieldInit.{FieldInit}
use Rattle.st_tree.specs.declared.declaration.Decl.{Decl}
use Rattle.st_tree.specs.declared.declaration.Section.{Section}
use Rattle.st_tree.specs.declared.chart.Association.{Association}
use Rattle.st_tree.specs.declared.chart.Step.{Step}
use Rattle.st_tree.specs.declared.chart.StepNames.{StepNames}
use Rattle.st_tree.specs.declared.chart.Transition.{Transition}
use Rattle.st_tree.specs.declared.chart.Action.{Action}
use Rattle.st_tree.specs.declared.chart.SfcPart.{SfcPart}
use Rattle.st_tree.specs.declared.chart.Sfc.{Sfc}
use Rattle.st_tree.specs.declared.file.Body.{Body}
use Rattle.st_tree.specs.declared.file.UnitKind.{UnitKind}
use Rattle.st_tree.specs.declared.file.Unit.{Unit as UnitTree}
use Rattle.st_tree.specs.declared.file.Fields.{Fields}
use Rattle.st_tree.specs.declared.file.Shape.{Shape}
use Rattle.st_tree.specs.declared.file.TypeDecl.{TypeDecl}
use Rattle.st_tree.specs.declared.file.Types.{Types}
use Rattle.st_tree.specs.declared.file.Globals.{Globals}
use Rattle.st_tree.specs.declared.file.Parameter.{Parameter}
use Rattle.st_tree.specs.declared.file.Task.{Task}
use Rattle.st_tree.specs.declared.file.ProgramLine.{ProgramLine}
use Rattle.st_tree.specs.declared.file.Tasks.{Tasks}
use Rattle.st_tree.specs.declared.file.Resource.{Resource}
use Rattle.st_tree.specs.declared.file.Config.{Config}
use Rattle.st_tree.specs.declared.file.FilePart.{FilePart}
use Rattle.st_tree.specs.declared.file.SourceTree.{SourceTree}

-- a tree of any kind
pub data Tree : Type 0 where
  identifier : Identifier → Tree
  address : Address → Tree
  root : Root → Tree
  expr : Expr → Tree
  part : Part → Tree
  argument : Argument → Tree
  path : Path → Tree
  point : Point → Tree
  label : Label → Tree
  stmt_argument : StmtArgument → Tree
  counter : Counter → Tree
  stmt : Stmt → Tree
  branch : Branch → Tree
  one_case : Case → Tree
  type_name : TypeName → Tree
  range : Range → Tree
  spec : Spec → Tree
  init : Init → Tree
  item : Item → Tree
  field_init : FieldInit → Tree
  decl : Decl → Tree
  section : Section → Tree
  association : Association → Tree
  step : Step → Tree
  step_names : StepNames → Tree
  transition : Transition → Tree
  action : Action → Tree
  sfc_part : SfcPart → Tree
  sfc : Sfc → Tree
  body : Body → Tree
  unit_kind : UnitKind → Tree
  unit : UnitTree → Tree
  fields : Fields → Tree
  shape : Shape → Tree
  type_decl : TypeDecl → Tree
  types : Types → Tree
  globals : Globals → Tree
  parameter : Parameter → Tree
  task : Task → Tree
  program_line : ProgramLine → Tree
  tasks : Tasks → Tree
  resource : Resource → Tree
  config : Config → Tree
  file_part : FilePart → Tree

pub record Layer : Type 0 where
  -- its own node
  pub node : Option Node
  -- the kind and the bytes of the token that it is made of
  pub text : Option (TokenKind × List ℕ)
  -- the trees directly within it
  pub parts : List Tree

-- a tree with a node and nothing within
abbrev pub alone : Node → Layer
alone node = record { node = Some node; text = None; parts = [] }

-- a tree with a node that is made of a token
abbrev pub made_of : Node → TokenKind → List ℕ → Layer
made_of node kind text = record { node = Some node; text = Some (kind, text); parts = [] }

-- a tree with a node around these
abbrev pub around : Node → List Tree → Layer
around node parts = record { node = Some node; text = None; parts = parts }

-- a tree that is these, with no node of its own
abbrev pub only : List Tree → Layer
only parts = record { node = None; text = None; parts = parts }

-- what may be there
abbrev pub if_there : {A : Type 0} → (A → Tree) → Option A → List Tree
if_there make None = []
if_there make (Some x) = make x ∷ []

-- ---- expressions

abbrev pub root_layer : Root → Layer
root_layer (Root.Name x) = only (identifier x ∷ [])
root_layer (Root.Address x) = only (address x ∷ [])

abbrev pub expr_layer : Expr-F Expr Part Argument Path → Layer
expr_layer (Expr-F.Number node minus text) = made_of node k.Number text
expr_layer (Expr-F.Typed node text) = made_of node k.TypedNumber text
expr_layer (Expr-F.Time node text) = made_of node k.Duration text
expr_layer (Expr-F.Truth node truth) = alone node
expr_layer (Expr-F.Path x) = only (path x ∷ [])
expr_layer (Expr-F.Value node name value) = around node (identifier name ∷ identifier value ∷ [])
expr_layer (Expr-F.Parenthesized node inner) = around node (expr inner ∷ [])
expr_layer (Expr-F.Unary node operator operand) = around node (expr operand ∷ [])
expr_layer (Expr-F.Binary node operator left right) = around node (expr left ∷ expr right ∷ [])
expr_layer (Expr-F.Call node name arguments) =
    around node (identifier name ∷ map argument arguments)

abbrev pub part_layer : Part-F Expr Part Argument Path → Layer
part_layer (Part-F.Field name) = only (identifier name ∷ [])
part_layer (Part-F.Index node indices) = around node (map expr indices)

abbrev pub argument_layer : Argument → Layer
argument_layer x = around x.node (if_there identifier x.name ++ expr x.value ∷ [])

abbrev pub path_layer : Path → Layer
path_layer x = around x.node (root x.root ∷ map part x.parts)

-- ---- statements

abbrev pub point_layer : Point → Layer
point_layer (Point.Number node minus text) = made_of node k.Number text
point_layer (Point.Typed node text) = made_of node k.TypedNumber text
point_layer (Point.Name name) = only (identifier name ∷ [])
point_layer (Point.Value node name value) = around node (identifier name ∷ identifier value ∷ [])

abbrev pub label_layer : Label → Layer
label_layer x = around x.node (point x.first ∷ if_there point x.last)

abbrev pub stmt_argument_layer : StmtArgument → Layer
stmt_argument_layer (StmtArgument.Input node name value) =
    around node (identifier name ∷ expr value ∷ [])
stmt_argument_layer (StmtArgument.Output node name target) =
    around node (identifier name ∷ path target ∷ [])

abbrev pub counter_layer : Counter → Layer
counter_layer x = only (identifier x.variable ∷ expr x.first ∷ expr x.last ∷ if_there expr x.step)

-- the statements of a list that may be there
abbrev pub stmts_if : Option (List Stmt) → List Tree
stmts_if None = []
stmts_if (Some found) = map stmt found

abbrev pub stmt_layer : Stmt-F Stmt Branch Case → Layer
stmt_layer (Stmt-F.Assign node target value) = around node (path target ∷ expr value ∷ [])
stmt_layer (Stmt-F.Call node name arguments) =
    around node (identifier name ∷ map stmt_argument arguments)
stmt_layer (Stmt-F.Return node) = alone node
stmt_layer (Stmt-F.Exit node) = alone node
stmt_layer (Stmt-F.Continue node) = alone node
stmt_layer (Stmt-F.If node branches otherwise) =
    around node (map branch branches ++ stmts_if otherwise)
stmt_layer (Stmt-F.Case node selector cases otherwise) =
    around node (expr selector ∷ (map one_case cases ++ stmts_if otherwise))
stmt_layer (Stmt-F.For node counts found) = around node (counter counts ∷ map stmt found)
stmt_layer (Stmt-F.While node condition found) = around node (expr condition ∷ map stmt found)
stmt_layer (Stmt-F.Repeat node found condition) =
    around node (map stmt found ++ expr condition ∷ [])

abbrev pub branch_layer : Branch → Layer
branch_layer x = only (expr x.condition ∷ map stmt x.body)

abbrev pub case_layer : Case → Layer
case_layer x = only (map label x.labels ++ map stmt x.body)

-- ---- declarations

abbrev pub type_name_layer : TypeName → Layer
type_name_layer (TypeName.Elementary node elem) = alone node
type_name_layer (TypeName.Named name) = only (identifier name ∷ [])

abbrev pub spec_layer : Spec-F Spec → Layer
spec_layer (Spec-F.«Type» node name limits) = around node (type_name name ∷ if_there range limits)
spec_layer (Spec-F.Enumeration node values) = around node (map identifier values)
spec_layer (Spec-F.Array node ranges element) = around node (map range ranges ++ spec element ∷ [])

abbrev pub init_layer : Init-F Init Item FieldInit → Layer
init_layer (Init-F.Value value) = only (expr value ∷ [])
init_layer (Init-F.Array node elements) = around node (map item elements)
init_layer (Init-F.Structure node values) = around node (map field_init values)

abbrev pub item_layer : Item-F Init Item FieldInit → Layer
item_layer (Item-F.One value) = only (init value ∷ [])
item_layer (Item-F.Repeated node count value) =
    record { node = Some node; text = Some (k.Number, count); parts = init value ∷ [] }

abbrev pub field_init_layer : FieldInit → Layer
field_init_layer x = around x.node (identifier x.name ∷ init x.value ∷ [])

abbrev pub decl_layer : Decl → Layer
decl_layer x =
    around x.node (map identifier x.names
    ++ (if_there address x.address ++ (spec x.spec ∷ if_there init x.init)))

abbrev pub fields_layer : Fields → Layer
fields_layer x = around x.node (map identifier x.names ++ (spec x.spec ∷ if_there init x.init))

abbrev pub shape_layer : Shape → Layer
shape_layer (Shape.Spec x) = only (spec x ∷ [])
shape_layer (Shape.Structure node members) = around node (map fields members)

-- ---- charts

abbrev pub step_names_layer : StepNames → Layer
step_names_layer (StepNames.One name) = only (identifier name ∷ [])
step_names_layer (StepNames.Several node names) = around node (map identifier names)

abbrev pub transition_layer : Transition → Layer
transition_layer x =
    around x.node (if_there identifier x.name
    ++ (step_names x.from ∷ step_names x.to ∷ expr x.condition ∷ []))

abbrev pub sfc_part_layer : SfcPart → Layer
sfc_part_layer (SfcPart.Step x) = only (step x ∷ [])
sfc_part_layer (SfcPart.Transition x) = only (transition x ∷ [])
sfc_part_layer (SfcPart.Action x) = only (action x ∷ [])

-- ---- files

abbrev pub body_layer : Body → Layer
body_layer (Body.Statements statements) = only (map stmt statements)
body_layer (Body.Chart chart) = only (sfc chart ∷ [])

abbrev pub unit_kind_layer : UnitKind → Layer
unit_kind_layer (UnitKind.Function name) = only (type_name name ∷ [])
unit_kind_layer UnitKind.Block = only []
unit_kind_layer UnitKind.Program = only []

abbrev pub program_line_layer : ProgramLine → Layer
program_line_layer x =
    around x.node (identifier x.name ∷ (if_there identifier x.task ++ identifier x.program ∷ []))

abbrev pub resource_layer : Resource → Layer
resource_layer x =
    around x.node (identifier x.name ∷ identifier x.kind ∷ (map globals x.globals
    ++ tasks x.tasks ∷ []))

abbrev pub config_layer : Config → Layer
config_layer x =
    around x.node (identifier x.name ∷ (map globals x.globals
    ++ (map resource x.resources ++ tasks x.tasks ∷ [])))

abbrev pub file_part_layer : FilePart → Layer
file_part_layer (FilePart.Unit x) = only (unit x ∷ [])
file_part_layer (FilePart.Types x) = only (types x ∷ [])
file_part_layer (FilePart.Globals x) = only (globals x ∷ [])
file_part_layer (FilePart.Config x) = only (config x ∷ [])

-- ---- all of them

abbrev pub layer_of : Tree → Layer
layer_of (identifier x) = made_of x.node k.Name x.name
layer_of (address x) = made_of x.node k.Address x.name
layer_of (root x) = root_layer x
layer_of (expr x) = expr_layer (out-Expr x)
layer_of (part x) = part_layer (out-Part x)
layer_of (argument x) = argument_layer x
layer_of (path x) = path_layer x
layer_of (point x) = point_layer x
layer_of (label x) = label_layer x
layer_of (stmt_argument x) = stmt_argument_layer x
layer_of (counter x) = counter_layer x
layer_of (stmt x) = stmt_layer (out-Stmt x)
layer_of (branch x) = branch_layer x
layer_of (one_case x) = case_layer x
layer_of (type_name x) = type_name_layer x
layer_of (range x) = around x.node (expr x.lower ∷ expr x.upper ∷ [])
layer_of (spec x) = spec_layer (out-Spec x)
layer_of (init x) = init_layer (out-Init x)
layer_of (item x) = item_layer (out-Item x)
layer_of (field_init x) = field_init_layer x
layer_of (decl x) = decl_layer x
layer_of (section x) = around x.node (map decl x.decls)
layer_of (association x) = around x.node (identifier x.action ∷ if_there identifier x.qualifier)
layer_of (step x) = around x.node (identifier x.name ∷ map association x.associations)
layer_of (step_names x) = step_names_layer x
layer_of (transition x) = transition_layer x
layer_of (action x) = around x.node (identifier x.name ∷ map stmt x.body)
layer_of (sfc_part x) = sfc_part_layer x
layer_of (sfc x) = around x.node (step x.initial ∷ map sfc_part x.parts)
layer_of (body x) = body_layer x
layer_of (unit_kind x) = unit_kind_layer x
layer_of (unit x) =
    around x.node (identifier x.name ∷ unit_kind x.kind ∷ (map section x.sections
    ++ body x.body ∷ []))
layer_of (fields x) = fields_layer x
layer_of (shape x) = shape_layer x
layer_of (type_decl x) = around x.node (identifier x.name ∷ shape x.shape ∷ if_there init x.init)
layer_of (types x) = around x.node (map type_decl x.decls)
layer_of (globals x) = around x.node (map decl x.decls)
layer_of (parameter x) = around x.node (identifier x.name ∷ expr x.value ∷ [])
layer_of (task x) = around x.node (identifier x.name ∷ map parameter x.parameters)
layer_of (program_line x) = program_line_layer x
layer_of (tasks x) = only (map task x.tasks ++ map program_line x.lines)
layer_of (resource x) = resource_layer x
layer_of (config x) = config_layer x
layer_of (file_part x) = file_part_layer x

-- The second tree stands within the first.
pub data Encloses : Tree → Tree → Type 0 where
  directly : {outer inner : Tree} → Contains (layer_of outer).parts inner → Encloses outer inner
  further : {outer middle inner : Tree} → Contains (layer_of outer).parts middle →
      Encloses middle inner → Encloses outer inner

-- the trees of a file that stand within no other
abbrev pub tops_of : SourceTree → List Tree
tops_of tree =
    map unit tree.units ++ (map types tree.types
    ++ (map globals tree.globals ++ map config tree.config))

-- The tree stands in the file.
abbrev pub IsPartOf : SourceTree → Tree → Type 0
IsPartOf tree x = (top : Tree) × Contains (tops_of tree) top × ((x ≡ top) ⊎ Encloses top x)
