-- The grammar of declarations. Source: the textual grammar of IEC 61131-3:2013, narrowed to this
-- profile. A rule with a part that may be
-- left out is written as that part or nothing. The code descends by a look at the next token, or at
-- the next two or three.
use Rattle.std.specs.Prelude.{ℕ, zero, suc, List, [], ◌∷◌, ◌++◌, Option, Some, None}
use Rattle.token_grammar.specs.declared.token.TokenKind.{TokenKind}
use Rattle.token_grammar.specs.declared.token.TokenKind.TheVariants as k
use Rattle.token_grammar.specs.Grammar.{Rule, ◌>>=◌, ◌or◌, give, token, scoped, node, many}
use Rattle.iec_tables.specs.declared.elem.Elem.{Elem}
use Rattle.iec_tables.specs.declared.elem.Elem.TheVariants as e
use Rattle.st_tree.specs.declared.expression.Identifier.{Identifier}
use Rattle.st_tree.specs.declared.expression.Address.{Address}
use Rattle.st_tree.specs.declared.declaration.TypeName.{TypeName}
use Rattle.st_tree.specs.declared.declaration.TypeName.TheVariants as type
use Rattle.st_tree.specs.declared.declaration.Range.{Range}
use Rattle.st_tree.specs.declared.declaration.Spec.{Spec}
use Rattle.st_tree.specs.declared.declaration.Init.{Init}
use Rattle.st_tree.specs.declared.declaration.Init.TheVariants as init
use Rattle.st_tree.specs.declared.declaration.Item.{Item}
use Rattle.st_tree.specs.declared.declaration.Item.TheVariants as item
use Rattle.st_tree.specs.declared.declaration.FieldInit.{FieldInit}
use Rattle.st_tree.specs.declared.declaration.Decl.{Decl}
use Rattle.st_tree.specs.declared.declaration.SectionKind.{SectionKind}
use Rattle.st_tree.specs.declared.declaration.SectionKind.TheVariants as section_kind
use Rattle.st_tree.specs.declared.declaration.Keep.{Keep}
use Rattle.st_tree.specs.declared.declaration.Keep.TheVariants as keep_kind
use Rattle.st_tree.specs.declared.declaration.Section.{Section}
use Rattle.st_tree.specs.declared.file.Types.{Types}
use Rattle.st_tree.specs.declared.file.TypeDecl.{TypeDecl}
use Rattle.st_tree.specs.declared.file.Shape.{Shape}
use Rattle.st_tree.specs.declared.file.Shape.TheVariants as shape_kind
use Rattle.st_tree.specs.declared.file.Fields.{Fields}
use Rattle.st_tree.specs.declared.file.Globals.{Globals}
use Rattle.st_tree.specs.declared.file.Config.{Config}
use Rattle.st_tree.specs.declared.file.Resource.{Resource}
use Rattle.st_tree.specs.declared.file.Tasks.{Tasks}
use Rattle.st_tree.specs.declared.file.Task.{Task}
use Rattle.st_tree.specs.declared.file.Parameter.{Parameter}
use Rattle.st_tree.specs.declared.file.ProgramLine.{ProgramLine}
use Rattle.st_expr.specs.Grammar.{word, opening, identifier, address, names, expression}
use Rattle.st_declarations.specs.Trees.{make_elementary, make_range, make_type, make_enumeration, make_array, make_elements, make_structure, make_repeated, make_field_init, make_decl, make_section, make_globals, make_fields, make_struct, make_type_decl, make_types, make_parameter, make_task, make_line, tasks_of, make_resource, make_config}

-- ---- lists

-- { one }
abbrev pub each : {A : Type 0} → Rule A → Rule (List A)
each one = many (λ found. one >>= λ x. give (found ++ x ∷ [])) []

-- one { "," one }
abbrev pub commas : {A : Type 0} → Rule A → Rule (List A)
commas one =
    one >>= λ first. many (λ found. token k.Comma >>= λ _. one >>= λ x. give (found ++ x ∷ []))
    (first ∷ [])

-- ---- types

abbrev pub elem_as : TokenKind → Elem → Rule TypeName
elem_as kind x = node make_elementary (token kind >>= λ _. give x)

-- one of the 14 type names
abbrev pub unsigned_or_time : Rule TypeName
unsigned_or_time = elem_as k.Usint e.Usint or (elem_as k.Uint e.Uint
    or (elem_as k.Udint e.Udint or (elem_as k.Ulint e.Ulint or elem_as k.Time e.Time)))

abbrev pub number_or_time : Rule TypeName
number_or_time = elem_as k.Sint e.Sint or (elem_as k.Int e.Int
    or (elem_as k.Dint e.Dint or (elem_as k.Lint e.Lint or unsigned_or_time)))

abbrev pub elementary : Rule TypeName
elementary = elem_as k.Bool e.Bool or (elem_as k.Byte e.Byte
    or (elem_as k.Word e.Word or (elem_as k.Dword e.Dword
    or (elem_as k.Lword e.Lword or number_or_time))))

-- typename = name | one of the 14 type names
abbrev pub typename : Rule TypeName
typename = (identifier >>= λ i. give (type.Named i)) or elementary

-- range = expr ".." expr
abbrev pub range : Rule Range
range = node make_range (expression >>= λ a. token k.DotDot >>= λ _. expression >>= λ b.
    give (a, b))

-- "(" range ")"
abbrev pub bounds : Rule (Option Range)
bounds = scoped (opening k.OpenParenthesis >>= λ _. range >>= λ r. token k.CloseParenthesis >>= λ _.
    give (Some r))

abbrev pub optional_bounds : Rule (Option Range)
optional_bounds = bounds or give None

-- typename [ "(" range ")" ]
abbrev pub plain_spec : Rule Spec
plain_spec = node make_type (typename >>= λ t. optional_bounds >>= λ r. give (t, r))

-- "(" names ")"
abbrev pub enumeration : Rule Spec
enumeration =
    node make_enumeration (scoped (opening k.OpenParenthesis >>= λ _. names >>= λ ns.
    token k.CloseParenthesis >>= λ _. give ns))

-- "[" range { "," range } "]"
abbrev pub ranges : Rule (List Range)
ranges = scoped (opening k.OpenBracket >>= λ _. commas range >>= λ rs. token k.CloseBracket >>= λ _.
    give rs)

-- ARRAY "[" range { "," range } "]" OF spec, in which ARRAY counts in the depth up to the end
abbrev pub array : Rule Spec → Rule Spec
array inner =
    node make_array (scoped (opening k.Array >>= λ _. ranges >>= λ rs. token k.Of >>= λ _.
    inner >>= λ s. give (rs, s)))

-- spec = typename [ "(" range ")" ] | "(" names ")" | ARRAY "[" range { "," range } "]" OF spec
abbrev pub any_spec : Rule Spec → Rule Spec
any_spec inner = array inner or (enumeration or plain_spec)

-- specs nest less deep than the number
unfoldable pub spec_within : ℕ → Rule Spec
spec_within zero d w x e = ⊥
spec_within (suc n) d w x e = any_spec (spec_within n) d w x e

-- a spec, in which specs nest to whatever depth
abbrev pub spec : Rule Spec
spec d w x e = (n : ℕ) × spec_within n d w x e

-- ---- initial values

module _ (inner : Rule Init) where
  -- number "(" init ")"
  abbrev pub repeated_item : Rule Item
  repeated_item = node make_repeated (word k.Number >>= λ text.
      scoped (opening k.OpenParenthesis >>= λ _. inner >>= λ x. token k.CloseParenthesis >>= λ _.
      give (text, x)))

  -- item = init | number "(" init ")"
  abbrev pub one_item : Rule Item
  one_item = repeated_item or (inner >>= λ x. give (item.One x))

  -- "[" item { "," item } "]"
  abbrev pub elements : Rule Init
  elements = node make_elements (scoped (opening k.OpenBracket >>= λ _. commas one_item >>= λ xs.
      token k.CloseBracket >>= λ _. give xs))

  -- name ":=" init
  abbrev pub field_init : Rule FieldInit
  field_init = node make_field_init (identifier >>= λ i. token k.Becomes >>= λ _. inner >>= λ x.
      give (i, x))

  -- "(" name ":=" init { "," name ":=" init } ")"
  abbrev pub structure : Rule Init
  structure = node make_structure (scoped (opening k.OpenParenthesis >>= λ _.
      commas field_init >>= λ xs. token k.CloseParenthesis >>= λ _. give xs))

  -- init = expr | "[" item { "," item } "]" | "(" name ":=" init { "," name ":=" init } ")"
  abbrev pub any_init : Rule Init
  any_init = elements or (structure or (expression >>= λ x. give (init.Value x)))

-- initial values nest less deep than the number
unfoldable pub init_within : ℕ → Rule Init
init_within zero d w x e = ⊥
init_within (suc n) d w x e = any_init (init_within n) d w x e

-- an initial value, in which initial values nest to whatever depth
abbrev pub initial : Rule Init
initial d w x e = (n : ℕ) × init_within n d w x e

-- ":=" init
abbrev pub becomes : Rule (Option Init)
becomes = token k.Becomes >>= λ _. initial >>= λ x. give (Some x)

abbrev pub optional_init : Rule (Option Init)
optional_init = becomes or give None

-- ---- declarations

-- AT address
abbrev pub located : Rule (Option Address)
located = token k.At >>= λ _. address >>= λ a. give (Some a)

abbrev pub optional_address : Rule (Option Address)
optional_address = located or give None

-- decl = names [ AT address ] ":" spec [ ":=" init ] ";"
abbrev pub decl : Rule Decl
decl = node make_decl (names >>= λ ns. optional_address >>= λ a. token k.Colon >>= λ _.
    spec >>= λ s. optional_init >>= λ i. token k.Semicolon >>= λ _. give (ns, a, s, i))

-- keep = CONSTANT | RETAIN | NON_RETAIN
abbrev pub keep_as : TokenKind → Keep → Rule (Option Keep)
keep_as kind x = token kind >>= λ _. give (Some x)

-- [ keep ]
abbrev pub keep : Rule (Option Keep)
keep = keep_as k.Constant keep_kind.Constant or (keep_as k.Retain keep_kind.Retain
    or (keep_as k.NonRetain keep_kind.NonRetain or give None))

-- VAR | VAR_INPUT | VAR_OUTPUT | VAR_IN_OUT | VAR_EXTERNAL | VAR_TEMP
abbrev pub section_as : TokenKind → SectionKind → Rule SectionKind
section_as kind x = token kind >>= λ _. give x

abbrev pub section_word : Rule SectionKind
section_word = section_as k.Var section_kind.Var
    or (section_as k.VarInput section_kind.Input or (section_as k.VarOutput section_kind.Output
    or (section_as k.VarInOut section_kind.InOut
    or (section_as k.VarExternal section_kind.External
    or section_as k.VarTemp section_kind.Temp))))

-- section = ( VAR | VAR_INPUT | VAR_OUTPUT | VAR_IN_OUT | VAR_EXTERNAL | VAR_TEMP ) [ keep ] { decl
-- } END_VAR
abbrev pub section : Rule Section
section = node make_section (section_word >>= λ kind. keep >>= λ kp. each decl >>= λ ds.
    token k.EndVar >>= λ _. give (kind, kp, ds))

-- { section }
abbrev pub sections : Rule (List Section)
sections = each section

-- globals = VAR_GLOBAL [ keep ] { decl } END_VAR
abbrev pub globals : Rule Globals
globals = node make_globals (token k.VarGlobal >>= λ _. keep >>= λ kp. each decl >>= λ ds.
    token k.EndVar >>= λ _. give (kp, ds))

-- ---- types of the user

-- names ":" spec [ ":=" init ] ";"
abbrev pub fields : Rule Fields
fields = node make_fields (names >>= λ ns. token k.Colon >>= λ _. spec >>= λ s.
    optional_init >>= λ i. token k.Semicolon >>= λ _. give (ns, s, i))

-- struct = STRUCT { names ":" spec [ ":=" init ] ";" } END_STRUCT
abbrev pub struct_shape : Rule Shape
struct_shape = node make_struct (token k.Struct >>= λ _. each fields >>= λ found.
    token k.EndStruct >>= λ _. give found)

abbrev pub shape : Rule Shape
shape = struct_shape or (spec >>= λ s. give (shape_kind.Spec s))

-- name ":" ( spec | struct ) [ ":=" init ] ";"
abbrev pub type_decl : Rule TypeDecl
type_decl = node make_type_decl (identifier >>= λ name. token k.Colon >>= λ _. shape >>= λ s.
    optional_init >>= λ i. token k.Semicolon >>= λ _. give (name, s, i))

-- types = TYPE { name ":" ( spec | struct ) [ ":=" init ] ";" } END_TYPE
abbrev pub types : Rule Types
types = node make_types (token k.Type >>= λ _. each type_decl >>= λ found. token k.EndType >>= λ _.
    give found)

-- ---- configurations

-- name ":=" expr
abbrev pub parameter : Rule Parameter
parameter = node make_parameter (identifier >>= λ name. token k.Becomes >>= λ _. expression >>= λ x.
    give (name, x))

-- "(" name ":=" expr { "," name ":=" expr } ")"
abbrev pub parameters : Rule (List Parameter)
parameters = scoped (opening k.OpenParenthesis >>= λ _. commas parameter >>= λ found.
    token k.CloseParenthesis >>= λ _. give found)

-- TASK name "(" name ":=" expr { "," name ":=" expr } ")" ";"
abbrev pub task : Rule Task
task = node make_task (token k.Task >>= λ _. identifier >>= λ name. parameters >>= λ found.
    token k.Semicolon >>= λ _. give (name, found))

-- WITH name
abbrev pub with_task : Rule (Option Identifier)
with_task = token k.With >>= λ _. identifier >>= λ i. give (Some i)

abbrev pub optional_task : Rule (Option Identifier)
optional_task = with_task or give None

-- PROGRAM name [ WITH name ] ":" name ";"
abbrev pub program_line : Rule ProgramLine
program_line = node make_line (token k.Program >>= λ _. identifier >>= λ name.
    optional_task >>= λ t. token k.Colon >>= λ _. identifier >>= λ program.
    token k.Semicolon >>= λ _. give (name, t, program))

-- tasks = { TASK name "(" name ":=" expr { "," name ":=" expr } ")" ";" } { PROGRAM name [ WITH
-- name ] ":" name ";" }
abbrev pub tasks : Rule Tasks
tasks = each task >>= λ found. each program_line >>= λ lines. give (tasks_of found lines)

-- RESOURCE name ON name { globals } tasks END_RESOURCE
abbrev pub resource : Rule Resource
resource = node make_resource (token k.Resource >>= λ _. identifier >>= λ name. token k.On >>= λ _.
    identifier >>= λ kind. each globals >>= λ gs. tasks >>= λ ts. token k.EndResource >>= λ _.
    give (name, kind, gs, ts))

-- config = CONFIGURATION name { globals } { RESOURCE name ON name { globals } tasks END_RESOURCE }
-- tasks END_CONFIGURATION
abbrev pub config : Rule Config
config = node make_config (token k.Configuration >>= λ _. identifier >>= λ name.
    each globals >>= λ gs. each resource >>= λ rs. tasks >>= λ ts. token k.EndConfiguration >>= λ _.
    give (name, gs, rs, ts))
