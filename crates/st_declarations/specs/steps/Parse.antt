-- Declarations as functions on lexemes: a step on the way from the code to the grammar.
use Rattle.std.specs.Prelude.{ℕ, zero, suc, Bool, ◌||◌, List, [], ◌∷◌, ◌++◌, Option, Some, None, Err}
use Rattle.token_grammar.specs.declared.token.TokenKind.{TokenKind}
use Rattle.token_grammar.specs.declared.token.TokenKind.TheVariants as k
use Rattle.token_grammar.specs.Texts.{Lexeme}
use Rattle.token_grammar.specs.declared.fault.ParseError.TheVariants.{TooDeep}
use Rattle.token_grammar.specs.steps.Parsers.{Parser, ◌>>=◌, pure, take, enter, scoped, node, choose, repeated, sees_in, sees_two, sees_three}
use Rattle.iec_tables.specs.declared.elem.Elem.{Elem}
use Rattle.iec_tables.specs.declared.elem.Elem.TheVariants as e
use Rattle.st_tree.specs.declared.expression.Identifier.{Identifier}
use Rattle.st_tree.specs.declared.expression.Address.{Address}
use Rattle.st_tree.specs.declared.declaration.TypeName.{TypeName}
use Rattle.st_tree.specs.declared.declaration.TypeName.TheVariants as type
use Rattle.st_tree.specs.declared.declaration.Range.{Range}
use Rattle.st_tree.specs.declared.declaration.Spec.{Spec}
use Rattle.st_tree.specs.declared.declaration.Init.{Init}
use Rattle.st_tree.specs.declared.declaration.Init.TheVariants as init
use Rattle.st_tree.specs.declared.declaration.Item.{Item}
use Rattle.st_tree.specs.declared.declaration.Item.TheVariants as item
use Rattle.st_tree.specs.declared.declaration.FieldInit.{FieldInit}
use Rattle.st_tree.specs.declared.declaration.Decl.{Decl}
use Rattle.st_tree.specs.declared.declaration.SectionKind.{SectionKind}
use Rattle.st_tree.specs.declared.declaration.SectionKind.TheVariants as section_kind
use Rattle.st_tree.specs.declared.declaration.Keep.{Keep}
use Rattle.st_tree.specs.declared.declaration.Keep.TheVariants as keep_kind
use Rattle.st_tree.specs.declared.declaration.Section.{Section}
use Rattle.st_tree.specs.declared.file.Types.{Types}
use Rattle.st_tree.specs.declared.file.TypeDecl.{TypeDecl}
use Rattle.st_tree.specs.declared.file.Shape.{Shape}
use Rattle.st_tree.specs.declared.file.Shape.TheVariants as shape_kind
use Rattle.st_tree.specs.declared.file.Fields.{Fields}
use Rattle.st_tree.specs.declared.file.Globals.{Globals}
use Rattle.st_tree.specs.declared.file.Config.{Config}
use Rattle.st_tree.specs.declared.file.Resource.{Resource}
use Rattle.st_tree.specs.declared.file.Tasks.{Tasks}
use Rattle.st_tree.specs.declared.file.Task.{Task}
use Rattle.st_tree.specs.declared.file.Parameter.{Parameter}
use Rattle.st_tree.specs.declared.file.ProgramLine.{ProgramLine}
use Rattle.st_expr.specs.steps.Parse.{word, identifier, address, names, any_expression as expression}
use Rattle.st_declarations.specs.Trees.{make_elementary, make_range, make_type, make_enumeration, make_array, make_elements, make_structure, make_repeated, make_field_init, make_decl, make_section, make_globals, make_fields, make_struct, make_type_decl, make_types, make_parameter, make_task, make_line, tasks_of, make_resource, make_config}

-- ---- lists

unfoldable pub more : {A : Type 0} → Parser A → List A → Parser (List A)
more one found = one >>= λ x. pure (found ++ x ∷ [])

-- { one }, as long as a lexeme of the kind comes next
unfoldable pub each : {A : Type 0} → TokenKind → Parser A → Parser (List A)
each kind one = repeated (sees_in kind) (more one) []

unfoldable pub more_behind : {A : Type 0} → Parser A → List A → Parser (List A)
more_behind one found = take k.Comma >>= λ _. one >>= λ x. pure (found ++ x ∷ [])

-- one { "," one }
unfoldable pub commas : {A : Type 0} → Parser A → Parser (List A)
commas one = one >>= λ x. repeated (sees_in k.Comma) (more_behind one) (x ∷ [])

-- ---- types

unfoldable pub elem_as : TokenKind → Elem → Parser TypeName
elem_as kind x = node make_elementary (take kind >>= λ _. pure x)

-- one of the 14 type names
unfoldable pub unsigned_or_time : Parser TypeName
unsigned_or_time = choose (sees_in k.Usint) (elem_as k.Usint e.Usint)
    (choose (sees_in k.Uint) (elem_as k.Uint e.Uint)
    (choose (sees_in k.Udint) (elem_as k.Udint e.Udint)
    (choose (sees_in k.Ulint) (elem_as k.Ulint e.Ulint) (elem_as k.Time e.Time))))

unfoldable pub number_or_time : Parser TypeName
number_or_time = choose (sees_in k.Sint) (elem_as k.Sint e.Sint)
    (choose (sees_in k.Int) (elem_as k.Int e.Int)
    (choose (sees_in k.Dint) (elem_as k.Dint e.Dint)
    (choose (sees_in k.Lint) (elem_as k.Lint e.Lint) unsigned_or_time)))

unfoldable pub elementary : Parser TypeName
elementary = choose (sees_in k.Bool) (elem_as k.Bool e.Bool)
    (choose (sees_in k.Byte) (elem_as k.Byte e.Byte)
    (choose (sees_in k.Word) (elem_as k.Word e.Word)
    (choose (sees_in k.Dword) (elem_as k.Dword e.Dword)
    (choose (sees_in k.Lword) (elem_as k.Lword e.Lword) number_or_time))))

-- typename = name | one of the 14 type names
unfoldable pub typename : Parser TypeName
typename = choose (sees_in k.Name) (identifier >>= λ i. pure (type.Named i)) elementary

-- range = expr ".." expr
unfoldable pub range : Parser Range
range = node make_range (expression >>= λ a. take k.DotDot >>= λ _. expression >>= λ b. pure (a, b))

-- "(" range ")"
unfoldable pub bounds : Parser (Option Range)
bounds = scoped (enter k.OpenParenthesis >>= λ _. range >>= λ r. take k.CloseParenthesis >>= λ _.
    pure (Some r))

unfoldable pub optional_bounds : Parser (Option Range)
optional_bounds = choose (sees_in k.OpenParenthesis) bounds (pure None)

-- typename [ "(" range ")" ]
unfoldable pub plain_spec : Parser Spec
plain_spec = node make_type (typename >>= λ t. optional_bounds >>= λ r. pure (t, r))

-- "(" names ")"
unfoldable pub enumeration : Parser Spec
enumeration =
    node make_enumeration (scoped (enter k.OpenParenthesis >>= λ _. names >>= λ ns.
    take k.CloseParenthesis >>= λ _. pure ns))

-- "[" range { "," range } "]"
unfoldable pub ranges : Parser (List Range)
ranges = scoped (enter k.OpenBracket >>= λ _. commas range >>= λ rs. take k.CloseBracket >>= λ _.
    pure rs)

-- ARRAY "[" range { "," range } "]" OF spec, in which ARRAY counts in the depth up to the end
unfoldable pub array : Parser Spec → Parser Spec
array inner =
    node make_array (scoped (enter k.Array >>= λ _. ranges >>= λ rs. take k.Of >>= λ _.
    inner >>= λ s. pure (rs, s)))

-- spec = typename [ "(" range ")" ] | "(" names ")" | ARRAY "[" range { "," range } "]" OF spec
unfoldable pub any_spec : Parser Spec → Parser Spec
any_spec inner = choose (sees_in k.Array) (array inner)
    (choose (sees_in k.OpenParenthesis) enumeration plain_spec)

-- specs nest less deep than the number
unfoldable pub spec_within : ℕ → Parser Spec
spec_within zero = λ i. Err (record { code = TooDeep; rest = i.rest })
spec_within (suc n) = any_spec (spec_within n)

unfoldable pub spec : Parser Spec
spec = spec_within 257

-- ---- initial values

module _ (inner : Parser Init) where
  -- number "(" init ")"
  unfoldable pub repeated_item : Parser Item
  repeated_item = node make_repeated (word k.Number >>= λ text.
      scoped (enter k.OpenParenthesis >>= λ _. inner >>= λ x. take k.CloseParenthesis >>= λ _.
      pure (text, x)))

  -- item = init | number "(" init ")"
  unfoldable pub one_item : Parser Item
  one_item = choose (sees_two k.Number k.OpenParenthesis) repeated_item
      (inner >>= λ x. pure (item.One x))

  -- "[" item { "," item } "]"
  unfoldable pub elements : Parser Init
  elements = node make_elements (scoped (enter k.OpenBracket >>= λ _. commas one_item >>= λ xs.
      take k.CloseBracket >>= λ _. pure xs))

  -- name ":=" init
  unfoldable pub field_init : Parser FieldInit
  field_init = node make_field_init (identifier >>= λ i. take k.Becomes >>= λ _. inner >>= λ x.
      pure (i, x))

  -- "(" name ":=" init { "," name ":=" init } ")"
  unfoldable pub structure : Parser Init
  structure = node make_structure (scoped (enter k.OpenParenthesis >>= λ _.
      commas field_init >>= λ xs. take k.CloseParenthesis >>= λ _. pure xs))

  -- init = expr | "[" item { "," item } "]" | "(" name ":=" init { "," name ":=" init } ")"
  unfoldable pub any_init : Parser Init
  any_init = choose (sees_in k.OpenBracket) elements
      (choose (sees_three k.OpenParenthesis k.Name k.Becomes) structure
      (expression >>= λ x. pure (init.Value x)))

-- initial values nest less deep than the number
unfoldable pub init_within : ℕ → Parser Init
init_within zero = λ i. Err (record { code = TooDeep; rest = i.rest })
init_within (suc n) = any_init (init_within n)

unfoldable pub initial : Parser Init
initial = init_within 257

-- ":=" init
unfoldable pub becomes : Parser (Option Init)
becomes = take k.Becomes >>= λ _. initial >>= λ x. pure (Some x)

unfoldable pub optional_init : Parser (Option Init)
optional_init = choose (sees_in k.Becomes) becomes (pure None)

-- ---- declarations

-- AT address
unfoldable pub located : Parser (Option Address)
located = take k.At >>= λ _. address >>= λ a. pure (Some a)

unfoldable pub optional_address : Parser (Option Address)
optional_address = choose (sees_in k.At) located (pure None)

-- decl = names [ AT address ] ":" spec [ ":=" init ] ";"
unfoldable pub decl : Parser Decl
decl = node make_decl (names >>= λ ns. optional_address >>= λ a. take k.Colon >>= λ _. spec >>= λ s.
    optional_init >>= λ i. take k.Semicolon >>= λ _. pure (ns, a, s, i))

-- keep = CONSTANT | RETAIN | NON_RETAIN
unfoldable pub keep_as : TokenKind → Keep → Parser (Option Keep)
keep_as kind x = take kind >>= λ _. pure (Some x)

-- [ keep ]
unfoldable pub keep : Parser (Option Keep)
keep = choose (sees_in k.Constant) (keep_as k.Constant keep_kind.Constant)
    (choose (sees_in k.Retain) (keep_as k.Retain keep_kind.Retain)
    (choose (sees_in k.NonRetain) (keep_as k.NonRetain keep_kind.NonRetain) (pure None)))

-- VAR | VAR_INPUT | VAR_OUTPUT | VAR_IN_OUT | VAR_EXTERNAL | VAR_TEMP
unfoldable pub section_as : TokenKind → SectionKind → Parser SectionKind
section_as kind x = take kind >>= λ _. pure x

unfoldable pub section_word : Parser SectionKind
section_word = choose (sees_in k.Var) (section_as k.Var section_kind.Var)
    (choose (sees_in k.VarInput) (section_as k.VarInput section_kind.Input)
    (choose (sees_in k.VarOutput) (section_as k.VarOutput section_kind.Output)
    (choose (sees_in k.VarInOut) (section_as k.VarInOut section_kind.InOut)
    (choose (sees_in k.VarExternal) (section_as k.VarExternal section_kind.External)
    (section_as k.VarTemp section_kind.Temp)))))

-- whether a section comes next
unfoldable pub sees_section : List Lexeme → Bool
sees_section ts =
    sees_in k.Var ts || (sees_in k.VarInput ts ||
    (sees_in k.VarOutput ts || (sees_in k.VarInOut ts ||
    (sees_in k.VarExternal ts || sees_in k.VarTemp ts))))

-- section = ( VAR | VAR_INPUT | VAR_OUTPUT | VAR_IN_OUT | VAR_EXTERNAL | VAR_TEMP ) [ keep ] { decl
-- } END_VAR
unfoldable pub section : Parser Section
section = node make_section (section_word >>= λ kind. keep >>= λ kp. each k.Name decl >>= λ ds.
    take k.EndVar >>= λ _. pure (kind, kp, ds))

-- { section }
unfoldable pub sections : Parser (List Section)
sections = repeated sees_section (more section) []

-- globals = VAR_GLOBAL [ keep ] { decl } END_VAR
unfoldable pub globals : Parser Globals
globals = node make_globals (take k.VarGlobal >>= λ _. keep >>= λ kp. each k.Name decl >>= λ ds.
    take k.EndVar >>= λ _. pure (kp, ds))

-- ---- types of the user

-- names ":" spec [ ":=" init ] ";"
unfoldable pub fields : Parser Fields
fields = node make_fields (names >>= λ ns. take k.Colon >>= λ _. spec >>= λ s.
    optional_init >>= λ i. take k.Semicolon >>= λ _. pure (ns, s, i))

-- struct = STRUCT { names ":" spec [ ":=" init ] ";" } END_STRUCT
unfoldable pub struct_shape : Parser Shape
struct_shape = node make_struct (take k.Struct >>= λ _. each k.Name fields >>= λ found.
    take k.EndStruct >>= λ _. pure found)

unfoldable pub shape : Parser Shape
shape = choose (sees_in k.Struct) struct_shape (spec >>= λ s. pure (shape_kind.Spec s))

-- name ":" ( spec | struct ) [ ":=" init ] ";"
unfoldable pub type_decl : Parser TypeDecl
type_decl = node make_type_decl (identifier >>= λ name. take k.Colon >>= λ _. shape >>= λ s.
    optional_init >>= λ i. take k.Semicolon >>= λ _. pure (name, s, i))

-- types = TYPE { name ":" ( spec | struct ) [ ":=" init ] ";" } END_TYPE
unfoldable pub types : Parser Types
types = node make_types (take k.Type >>= λ _. each k.Name type_decl >>= λ found.
    take k.EndType >>= λ _. pure found)

-- ---- configurations

-- name ":=" expr
unfoldable pub parameter : Parser Parameter
parameter = node make_parameter (identifier >>= λ name. take k.Becomes >>= λ _. expression >>= λ x.
    pure (name, x))

-- "(" name ":=" expr { "," name ":=" expr } ")"
unfoldable pub parameters : Parser (List Parameter)
parameters = scoped (enter k.OpenParenthesis >>= λ _. commas parameter >>= λ found.
    take k.CloseParenthesis >>= λ _. pure found)

-- TASK name "(" name ":=" expr { "," name ":=" expr } ")" ";"
unfoldable pub task : Parser Task
task = node make_task (take k.Task >>= λ _. identifier >>= λ name. parameters >>= λ found.
    take k.Semicolon >>= λ _. pure (name, found))

-- WITH name
unfoldable pub with_task : Parser (Option Identifier)
with_task = take k.With >>= λ _. identifier >>= λ i. pure (Some i)

unfoldable pub optional_task : Parser (Option Identifier)
optional_task = choose (sees_in k.With) with_task (pure None)

-- PROGRAM name [ WITH name ] ":" name ";"
unfoldable pub program_line : Parser ProgramLine
program_line = node make_line (take k.Program >>= λ _. identifier >>= λ name. optional_task >>= λ t.
    take k.Colon >>= λ _. identifier >>= λ program. take k.Semicolon >>= λ _.
    pure (name, t, program))

-- tasks = { TASK name "(" name ":=" expr { "," name ":=" expr } ")" ";" } { PROGRAM name [ WITH
-- name ] ":" name ";" }
unfoldable pub tasks : Parser Tasks
tasks = each k.Task task >>= λ found. each k.Program program_line >>= λ lines.
    pure (tasks_of found lines)

-- RESOURCE name ON name { globals } tasks END_RESOURCE
unfoldable pub resource : Parser Resource
resource = node make_resource (take k.Resource >>= λ _. identifier >>= λ name. take k.On >>= λ _.
    identifier >>= λ kind. each k.VarGlobal globals >>= λ gs. tasks >>= λ ts.
    take k.EndResource >>= λ _. pure (name, kind, gs, ts))

-- config = CONFIGURATION name { globals } { RESOURCE name ON name { globals } tasks END_RESOURCE }
-- tasks END_CONFIGURATION
unfoldable pub config : Parser Config
config = node make_config (take k.Configuration >>= λ _. identifier >>= λ name.
    each k.VarGlobal globals >>= λ gs. each k.Resource resource >>= λ rs. tasks >>= λ ts.
    take k.EndConfiguration >>= λ _. pure (name, gs, rs, ts))
