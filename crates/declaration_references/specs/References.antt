-- The names by which a declaration refers to other declarations. Source: IEC 61131-3, declarations of
-- types and variables; this profile: the type, the bounds and the initial value of a declaration lead
-- to others by the names of variables and types, wherever they stand in an expression, and a
-- VAR_EXTERNAL leads to its global.
use Rattle.std.specs.Prelude.{ℕ, List, [], ◌∷◌, ◌++◌, map}
use Rattle.st_tree.specs.declared.expression.Identifier.{Identifier}
use Rattle.st_tree.specs.declared.expression.Root.{Root}
use Rattle.st_tree.specs.declared.expression.Expr.{Expr, fold-Expr}
use Rattle.st_tree.specs.declared.expression.Expr.TheOpen.{Expr-F, Part-F, Argument-F, Path-F}
use Rattle.st_tree.specs.declared.expression.Part.{Part, fold-Part}
use Rattle.st_tree.specs.declared.expression.Argument.{Argument, fold-Argument}
use Rattle.st_tree.specs.declared.expression.Path.{Path, fold-Path}
use Rattle.st_tree.specs.declared.declaration.TypeName.{TypeName}
use Rattle.st_tree.specs.declared.declaration.Range.{Range}
use Rattle.st_tree.specs.declared.declaration.Spec.{Spec, fold-Spec}
use Rattle.st_tree.specs.declared.declaration.Spec.TheOpen.{Spec-F}
use Rattle.st_tree.specs.declared.declaration.Init.{Init, fold-Init}
use Rattle.st_tree.specs.declared.declaration.Init.TheOpen.{Init-F, Item-F, FieldInit-F}
use Rattle.st_tree.specs.declared.declaration.Item.{Item, fold-Item}
use Rattle.st_tree.specs.declared.declaration.FieldInit.{FieldInit, fold-FieldInit}
use Rattle.st_tree.specs.declared.declaration.SectionKind.{SectionKind}
use Rattle.st_tree.specs.declared.declaration.SectionKind.TheVariants as section
use Rattle.st_tree.specs.declared.declaration.Decl.{Decl}
use Rattle.st_tree.specs.declared.file.TypeDecl.{TypeDecl}
use Rattle.st_tree.specs.declared.file.Shape.{Shape}
use Rattle.st_tree.specs.declared.file.Fields.{Fields}
use Rattle.project_declarations.specs.Named.{if_some}
use Rattle.project_declarations.specs.Declarations.{joined, Declaration, Written, written_type, written_variables, written_result}
use Rattle.project_declarations.specs.declared.rows.Owner.{Owner}
use Rattle.declaration_references.specs.declared.references.Reference.{Reference}
use Rattle.declaration_references.specs.declared.references.ReferenceKind.{ReferenceKind}
use Rattle.declaration_references.specs.declared.references.ReferenceKind.TheVariants as kind

-- a name and what it refers to
pub record Referred : Type 0 where
  pub name : List ℕ
  pub kind : ReferenceKind

abbrev pub bare : Reference → Referred
bare row = record { name = row.name.now; kind = row.kind }

abbrev pub Referring : Type 0
Referring = List Referred

abbrev pub by : ReferenceKind → Identifier → Referred
by k x = record { name = x.name; kind = k }

-- ---- expressions: the variables that paths begin with, and the types of values

abbrev pub root_names : Root → Referring
root_names (Root.Name x) = by kind.Variable x ∷ []
root_names (Root.Address x) = []

abbrev pub expr_names : Expr-F Referring Referring Referring Referring → Referring
expr_names (Expr-F.Number node negative text) = []
expr_names (Expr-F.Typed node text) = []
expr_names (Expr-F.Time node text) = []
expr_names (Expr-F.Truth node truth) = []
expr_names (Expr-F.Path path) = path
expr_names (Expr-F.Value node name value_name) = by kind.ValueType name ∷ []
expr_names (Expr-F.Parenthesized node inner) = inner
expr_names (Expr-F.Unary node op operand) = operand
expr_names (Expr-F.Binary node op left right) = left ++ right
expr_names (Expr-F.Call node name arguments) = joined arguments

abbrev pub part_names : Part-F Referring Referring Referring Referring → Referring
part_names (Part-F.Field name) = []
part_names (Part-F.Index node indices) = joined indices

abbrev pub argument_names : Argument-F Referring Referring Referring Referring → Referring
argument_names x = x.value

abbrev pub path_names : Path-F Referring Referring Referring Referring → Referring
path_names x = root_names x.root ++ joined x.parts

unfoldable pub in_expr : Expr → Referring
in_expr =
    fold-Expr Referring Referring Referring Referring expr_names part_names argument_names path_names

unfoldable pub in_part : Part → Referring
in_part =
    fold-Part Referring Referring Referring Referring expr_names part_names argument_names path_names

unfoldable pub in_argument : Argument → Referring
in_argument =
    fold-Argument Referring Referring Referring Referring expr_names part_names argument_names
    path_names

unfoldable pub in_path : Path → Referring
in_path =
    fold-Path Referring Referring Referring Referring expr_names part_names argument_names path_names

-- ---- specifications

abbrev pub type_names : TypeName → Referring
type_names (TypeName.Elementary node elem) = []
type_names (TypeName.Named x) = by kind.«Type» x ∷ []

abbrev pub in_range : Range → Referring
in_range x = in_expr x.lower ++ in_expr x.upper

abbrev pub spec_names : Spec-F Referring → Referring
spec_names (Spec-F.«Type» node name range) = type_names name ++ if_some in_range range
spec_names (Spec-F.Enumeration node names) = []
spec_names (Spec-F.Array node ranges element) = joined (map in_range ranges) ++ element

unfoldable pub in_spec : Spec → Referring
in_spec = fold-Spec Referring spec_names

-- ---- initial values

abbrev pub init_names : Init-F Referring Referring Referring → Referring
init_names (Init-F.Value value) = in_expr value
init_names (Init-F.Array node items) = joined items
init_names (Init-F.Structure node fields) = joined fields

abbrev pub item_names : Item-F Referring Referring Referring → Referring
item_names (Item-F.One init) = init
item_names (Item-F.Repeated node count init) = init

abbrev pub field_names : FieldInit-F Referring Referring Referring → Referring
field_names x = x.value

unfoldable pub in_init : Init → Referring
in_init = fold-Init Referring Referring Referring init_names item_names field_names

unfoldable pub in_item : Item → Referring
in_item = fold-Item Referring Referring Referring init_names item_names field_names

unfoldable pub in_field : FieldInit → Referring
in_field = fold-FieldInit Referring Referring Referring init_names item_names field_names

-- ---- declarations

abbrev pub in_fields : Fields → Referring
in_fields x = in_spec x.spec ++ if_some in_init x.init

abbrev pub in_shape : Shape → Referring
in_shape (Shape.Spec spec) = in_spec spec
in_shape (Shape.Structure node fields) = joined (map in_fields fields)

abbrev pub in_type_decl : TypeDecl → Referring
in_type_decl x = in_shape x.shape ++ if_some in_init x.init

abbrev pub global : Identifier → Referred
global = by kind.Global

abbrev pub globals_of : SectionKind → List Identifier → Referring
globals_of section.Var names = []
globals_of section.Input names = []
globals_of section.Output names = []
globals_of section.InOut names = []
globals_of section.External names = map global names
globals_of section.Temp names = []

-- the globals of the names that a VAR_EXTERNAL declares
abbrev pub externals : Owner → List Identifier → Referring
externals Owner.«Type» names = []
externals (Owner.Global keep) names = []
externals (Owner.Local local) names = globals_of local.kind names
externals (Owner.Result unit) names = []

abbrev pub in_decl : Owner → Decl → Referring
in_decl owner x = externals owner x.names ++ (in_spec x.spec ++ if_some in_init x.init)

abbrev pub in_written : Owner → Written → Referring
in_written owner (written_type x) = in_type_decl x
in_written owner (written_variables x) = in_decl owner x
in_written owner (written_result x) = type_names x

abbrev pub in_declaration : Declaration → Referring
in_declaration x = in_written x.owner x.source
