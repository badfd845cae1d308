-- Initial values as they are written. Source: IEC 61131-3, initial values of variables, arrays and
-- structures; which faults stand is this profile's. What is written for a whole array or structure gets
-- a row in a table; elements and fields to which it gives nothing have those of their own specification.
use Rattle.std.specs.Prelude.{ℕ, suc, ◌+◌, ◌-◌, nat_le, int_le, Bool, true, false, ◌&&◌, if◌then◌else◌, List, [], ◌∷◌, ◌++◌, map, length, replicate, slice_get, slice_set, Option, Some, None}
use Rattle.std.specs.Ordering.{is_eq, nat_cmp}
use Rattle.std.specs.Cmp.Lexicographic.{slice_cmp}
use Rattle.iec_tables.specs.Words.{raised_all}
use Rattle.st_tree.specs.declared.node.Node.{Node}
use Rattle.st_tree.specs.declared.code.Number.{Number}
use Rattle.st_tree.specs.declared.expression.Identifier.{Identifier}
use Rattle.st_tree.specs.declared.expression.Expr.{Expr}
use Rattle.st_tree.specs.declared.declaration.Init.{Init, fold-Init}
use Rattle.st_tree.specs.declared.declaration.Init.TheOpen.{Init-F, Item-F, FieldInit-F}
use Rattle.st_tree.specs.declared.declaration.Item.{Item, fold-Item}
use Rattle.st_tree.specs.declared.declaration.FieldInit.{FieldInit, fold-FieldInit}
use Rattle.link_faults.specs.declared.code.LinkCode.TheVariants as code
use Rattle.link_faults.specs.declared.fault.LinkFault.{LinkFault}
use Rattle.link_faults.specs.Checked.{Checked, Good, Bad, faults, unusable, provided, bind}
use Rattle.expression_types.specs.Lists.{faults_of}
use Rattle.expression_types.specs.declared.meaning.ShapeNo.{ShapeNo}
use Rattle.declared_types.specs.Around.{Around}
use Rattle.declared_types.specs.Ranges.{site_of, wrong_at, all_of}
use Rattle.declared_types.specs.declared.given.Bounds.{Bounds}
use Rattle.declared_types.specs.declared.given.DeclType.{DeclType}
use Rattle.declared_types.specs.declared.given.DeclType.TheVariants as ty
use Rattle.declared_types.specs.declared.given.Initial.{Initial}
use Rattle.declared_types.specs.declared.given.Initial.TheVariants as initial
use Rattle.declared_types.specs.declared.given.Given.{Given}
use Rattle.declared_types.specs.declared.forms.ArrayForm.{ArrayForm}
use Rattle.declared_types.specs.BareForms.{BareForm, Field}
use Rattle.declared_types.specs.BareForms as form
use Rattle.declared_types.specs.declared.outside.ConstantPlace.TheVariants as place
use Rattle.initial_values.specs.Nodes.{expr_node}
use Rattle.initial_values.specs.declared.written.Run.{Run}
use Rattle.initial_values.specs.declared.written.Part.{Part}
use Rattle.initial_values.specs.declared.written.FieldAt.{FieldAt}
use Rattle.project_declarations.specs.Declarations.{joined}
use Rattle.initial_values.specs.declared.written.Written.{Written}
use Rattle.initial_values.specs.declared.written.Written.TheVariants as written

-- what stands around, the numbers of repeat counts, and the table of forms
pub record Ground : Type 0 where
  pub around : Around
  pub repeats : List ℕ → ℕ
  pub forms : List BareForm

-- what is written, and the rows that it adds to the table of these values
pub record Made (A : Type 0) : Type 0 where
  pub told : Checked A
  pub rows : List Written

abbrev pub without_rows : {A : Type 0} → Checked A → Made A
without_rows x = record { told = x; rows = [] }

-- a row under its number, behind those that its parts added
abbrev pub with_row : ℕ → List Written → Checked Written → Made Initial
with_row before inner (Good row) =
    record {
      told = Good (initial.Written (record { 0 = before + length inner }));
      rows = inner ++ (row ∷ []);
    }
with_row before inner (Bad fs) = record { told = Bad fs; rows = inner }

-- ---- single values

abbrev pub number : Number → Initial
number n = initial.Number n

-- a value of a scalar lies within its bounds
abbrev pub within : Around → Node → Bounds → Number → Checked Initial
within o node b n =
    provided (int_le b.low n.value && int_le n.value b.high) (number n) (site_of o node) code.BadBound

abbrev pub no_value : Number → Checked Initial
no_value n = unusable

-- an expression; it is no value of an array, a structure or an instance
abbrev pub value_of : Around → DeclType → Expr → Checked Initial
value_of o (ty.Scalar b) e = bind (o.constant (place.Elem b.elem) e) (within o (expr_node e) b)
value_of o (ty.Enumeration shape) e = bind (o.constant (place.Enumeration shape) e) (λ n. Good (number n))
value_of o (ty.Array shape) e = bind (o.constant place.Nothing e) no_value
value_of o (ty.Structure shape) e = bind (o.constant place.Nothing e) no_value
value_of o (ty.Instance shape) e = bind (o.constant place.Nothing e) no_value

-- ---- forms

abbrev pub array_of_form : Option BareForm → Option ArrayForm
array_of_form None = None
array_of_form (Some (form.Standard block)) = None
array_of_form (Some (form.Block unit)) = None
array_of_form (Some (form.Enumeration count)) = None
array_of_form (Some (form.Array a)) = Some a
array_of_form (Some (form.Structure fields)) = None

abbrev pub fields_of_form : Option BareForm → Option (List Field)
fields_of_form None = None
fields_of_form (Some (form.Standard block)) = None
fields_of_form (Some (form.Block unit)) = None
fields_of_form (Some (form.Enumeration count)) = None
fields_of_form (Some (form.Array a)) = None
fields_of_form (Some (form.Structure fields)) = Some fields

abbrev pub row_at : List BareForm → ShapeNo → Option BareForm
row_at forms shape = slice_get forms shape.0

-- the array, or the structure, of a type that is one
abbrev pub array_in : List BareForm → DeclType → Option ArrayForm
array_in forms (ty.Array shape) = array_of_form (row_at forms shape)
array_in forms (ty.Scalar b) = None
array_in forms (ty.Enumeration shape) = None
array_in forms (ty.Structure shape) = None
array_in forms (ty.Instance shape) = None

abbrev pub fields_in : List BareForm → DeclType → Option (List Field)
fields_in forms (ty.Structure shape) = fields_of_form (row_at forms shape)
fields_in forms (ty.Scalar b) = None
fields_in forms (ty.Enumeration shape) = None
fields_in forms (ty.Array shape) = None
fields_in forms (ty.Instance shape) = None

-- ---- arrays

-- a value for what has this type, where there are so many rows before
abbrev pub At : Type 0 → Type 0
At A = Given → ℕ → Made A

-- an item: how often it stands there, and its value
pub record ItemRead : Type 0 where
  pub count : ℕ
  pub value : At Initial

abbrev pub run_of : ℕ → Initial → Run
run_of count value = record { count = count; value = value }

abbrev pub run_made : ℕ → Made Initial → Made Run
run_made count m = record { told = bind m.told (λ v. Good (run_of count v)); rows = m.rows }

-- each item for the element of an array
abbrev pub runs_made : Given → ℕ → List ItemRead → List (Made Run)
runs_made element before [] = []
runs_made element before (i ∷ is) =
    run_made i.count (i.value element before)
    ∷ runs_made element (before + length (i.value element before).rows) is

abbrev pub told_by : {A : Type 0} → Made A → Checked A
told_by m = m.told

abbrev pub all_told : {A : Type 0} → List (Made A) → List (Checked A)
all_told ms = map told_by ms

abbrev pub all_rows : {A : Type 0} → List (Made A) → List Written
all_rows [] = []
all_rows (m ∷ ms) = m.rows ++ all_rows ms

abbrev pub total_of : List ItemRead → ℕ
total_of [] = 0
total_of (i ∷ is) = i.count + total_of is

-- elements that are left out have the value of their own specification
abbrev pub elements : ArrayForm → ℕ → List Run → Checked Written
elements a total runs =
    Good (written.Elements (runs ++ (run_of (a.count - total) a.element.value ∷ [])))

-- there aren't more values than elements
abbrev pub elements_told : Around → Node → ArrayForm → ℕ → List (Checked Run) → Checked Written
elements_told o node a total runs =
    if nat_le total a.count then bind (all_of runs) (elements a total)
    else Bad (faults_of runs ++ faults {A = Written} (wrong_at o node code.BadBound))

abbrev pub array_runs : Around → Node → ArrayForm → ℕ → ℕ → List (Made Run) → Made Initial
array_runs o node a total before runs =
    with_row before (all_rows runs) (elements_told o node a total (all_told runs))

abbrev pub array_value : Around → Node → Option ArrayForm → List ItemRead → ℕ → Made Initial
array_value o node None items before = without_rows (wrong_at o node code.WrongType)
array_value o node (Some a) items before =
    array_runs o node a (total_of items) before (runs_made a.element before items)

-- ---- structures

-- what is written for a field
pub record FieldRead : Type 0 where
  pub name : Identifier
  pub value : At Initial

abbrev pub is_named : List ℕ → Field → Bool
is_named name f = is_eq (slice_cmp nat_cmp (raised_all f.name) (raised_all name))

-- the first field of a name, its place counted from a number on
abbrev pub field_from : ℕ → List Field → List ℕ → Option FieldAt
field_from k [] name = None
field_from k (f ∷ fs) name =
    if is_named name f then Some (record { place = k; given = f.given })
    else field_from (suc k) fs name

abbrev pub field_named : List Field → List ℕ → Option FieldAt
field_named fields name = field_from 0 fields name

abbrev pub is_taken : Option Bool → Bool
is_taken None = false
is_taken (Some b) = b

abbrev pub part_of : ℕ → Initial → Part
part_of k value = record { place = k; value = value }

-- a field that was written before is told at its name
abbrev pub part_told : Around → Node → ℕ → Bool → Checked Initial → Checked Part
part_told o node k true told = Bad (faults {A = Part} (wrong_at o node code.Twice) ++ faults told)
part_told o node k false told = bind told (λ v. Good (part_of k v))

abbrev pub part_made : Around → Node → ℕ → Bool → Made Initial → Made Part
part_made o node k taken m = record { told = part_told o node k taken m.told; rows = m.rows }

-- what is written for one field, which the structure has or has not
abbrev pub part_for : Around → ℕ → List Bool → FieldRead → Option FieldAt → Made Part
part_for o before taken f None = without_rows (wrong_at o f.name.node code.Unknown)
part_for o before taken f (Some at) =
    part_made o f.name.node at.place (is_taken (slice_get taken at.place)) (f.value at.given before)

-- which fields are written, one more of them
abbrev pub taken_after : List Bool → Option FieldAt → List Bool
taken_after taken None = taken
taken_after taken (Some at) = slice_set taken at.place true

-- all of them, with how many rows there are before and which fields are written before
abbrev pub parts_made : Around → List Field → ℕ → List Bool → List FieldRead → List (Made Part)
parts_made o fields before taken [] = []
parts_made o fields before taken (f ∷ fs) =
    part_for o before taken f (field_named fields f.name.name)
    ∷ parts_made o fields
    (before + length (part_for o before taken f (field_named fields f.name.name)).rows)
    (taken_after taken (field_named fields f.name.name)) fs

abbrev pub own_value : Field → Initial
own_value f = f.given.value

-- each field has the value that is written for it, else its own
abbrev pub written_over : List Initial → List Part → List Initial
written_over values [] = values
written_over values (p ∷ ps) = written_over (slice_set values p.place p.value) ps

abbrev pub fields_row : List Field → List Part → Checked Written
fields_row fields parts = Good (written.Fields (written_over (map own_value fields) parts))

abbrev pub none_taken : List Field → List Bool
none_taken fields = replicate (length fields) false

abbrev pub structure_parts : List Field → ℕ → List (Made Part) → Made Initial
structure_parts fields before parts =
    with_row before (all_rows parts) (bind (all_of (all_told parts)) (fields_row fields))

abbrev pub structure_value : Around → Node → Option (List Field) → List FieldRead → ℕ → Made Initial
structure_value o node None fs before = without_rows (wrong_at o node code.WrongType)
structure_value o node (Some fields) fs before =
    structure_parts fields before (parts_made o fields before (none_taken fields) fs)

-- ---- initial values

abbrev pub init_in : Ground → Init-F (At Initial) ItemRead FieldRead → At Initial
init_in g (Init-F.Value e) given before = without_rows (value_of g.around given.ty e)
init_in g (Init-F.Array node items) given before =
    array_value g.around node (array_in g.forms given.ty) items before
init_in g (Init-F.Structure node fs) given before =
    structure_value g.around node (fields_in g.forms given.ty) fs before

abbrev pub item_in : Ground → Item-F (At Initial) ItemRead FieldRead → ItemRead
item_in g (Item-F.One value) = record { count = 1; value = value }
item_in g (Item-F.Repeated node count value) = record { count = g.repeats count; value = value }

abbrev pub field_in : FieldInit-F (At Initial) ItemRead FieldRead → FieldRead
field_in f = record { name = f.name; value = f.value }

unfoldable pub initial_value : Ground → Init → At Initial
initial_value g = fold-Init (At Initial) ItemRead FieldRead (init_in g) (item_in g) field_in

unfoldable pub item_value : Ground → Item → ItemRead
item_value g = fold-Item (At Initial) ItemRead FieldRead (init_in g) (item_in g) field_in

unfoldable pub field_value : Ground → FieldInit → FieldRead
field_value g = fold-FieldInit (At Initial) ItemRead FieldRead (init_in g) (item_in g) field_in

-- ---- initial values of what has no type

-- what the expressions break whatever their place asks
abbrev pub alone_in : Around → Init-F (List LinkFault) (List LinkFault) (List LinkFault) → List LinkFault
alone_in o (Init-F.Value e) = faults (o.constant place.Any e)
alone_in o (Init-F.Array node items) = joined items
alone_in o (Init-F.Structure node fs) = joined fs

abbrev pub item_alone : Item-F (List LinkFault) (List LinkFault) (List LinkFault) → List LinkFault
item_alone (Item-F.One value) = value
item_alone (Item-F.Repeated node count value) = value

abbrev pub field_alone : FieldInit-F (List LinkFault) (List LinkFault) (List LinkFault) → List LinkFault
field_alone f = f.value

unfoldable pub alone : Around → Init → List LinkFault
alone o = fold-Init (List LinkFault) (List LinkFault) (List LinkFault) (alone_in o) item_alone field_alone

unfoldable pub alone_item : Around → Item → List LinkFault
alone_item o =
    fold-Item (List LinkFault) (List LinkFault) (List LinkFault) (alone_in o) item_alone field_alone

unfoldable pub alone_field : Around → FieldInit → List LinkFault
alone_field o =
    fold-FieldInit (List LinkFault) (List LinkFault) (List LinkFault) (alone_in o) item_alone
    field_alone
