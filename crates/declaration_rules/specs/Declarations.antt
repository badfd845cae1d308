-- What declarations give. Source: IEC 61131-3, declarations of variables, of data types and of functions,
-- directly represented variables; which faults stand, and where, is this profile's.
use Rattle.std.specs.Prelude.{ℕ, ◌+◌, max, Bool, true, false, if◌then◌else◌, List, [], ◌∷◌, ◌++◌, map, length, Option, Some, None}
use Rattle.iec_tables.specs.declared.elem.Elem.{Elem}
use Rattle.st_tree.specs.declared.node.Node.{Node}
use Rattle.st_tree.specs.declared.expression.Identifier.{Identifier}
use Rattle.st_tree.specs.declared.expression.Address.{Address}
use Rattle.st_tree.specs.declared.declaration.Spec.{Spec}
use Rattle.st_tree.specs.declared.declaration.Init.{Init}
use Rattle.st_tree.specs.declared.declaration.Decl.{Decl}
use Rattle.st_tree.specs.declared.declaration.TypeName.{TypeName}
use Rattle.st_tree.specs.declared.file.TypeDecl.{TypeDecl}
use Rattle.st_tree.specs.declared.file.Shape.{Shape}
use Rattle.st_tree.specs.declared.file.Fields.{Fields}
use Rattle.link_faults.specs.declared.code.LinkCode.TheVariants as code
use Rattle.link_faults.specs.Checked.{Checked, Good, Bad, faults, unusable, provided, bind}
use Rattle.declared_types.specs.Around.{Around}
use Rattle.declared_types.specs.Ranges.{site_of, wrong_at, all_of}
use Rattle.declared_types.specs.Specifications as types
use Rattle.declared_types.specs.declared.given.DeclType.{DeclType}
use Rattle.declared_types.specs.declared.given.DeclType.TheVariants as ty
use Rattle.declared_types.specs.declared.given.Initial.{Initial}
use Rattle.declared_types.specs.declared.given.Initial.TheVariants as initial
use Rattle.declared_types.specs.declared.given.Given.{Given}
use Rattle.declared_types.specs.BareForms.{BareForm, Field, Structure}
use Rattle.expression_types.specs.Lists.{faults_of}
use Rattle.project_declarations.specs.Declarations.{joined}
use Rattle.initial_values.specs.Nodes.{init_node}
use Rattle.initial_values.specs.Initials as values
use Rattle.initial_values.specs.declared.written.Written.{Written}

-- what stands around a declaration
pub record Surroundings : Type 0 where
  pub around : Around
  pub repeats : List ℕ → ℕ
  -- an initial value names the next declaration on a way that leads back to this one
  pub leads_back : Init → Bool
  -- the structure at a node has two fields of one name
  pub has_field_twice : Node → Bool
  -- an address holds a variable of a type
  pub address_holds : List ℕ → Elem → Bool

-- What a declaration gives, and the rows that it adds to both tables.
pub record Made : Type 0 where
  pub told : Checked Given
  pub forms : List BareForm
  pub rows : List Written

abbrev pub bare : Checked Given → Made
bare x = record { told = x; forms = []; rows = [] }

-- ---- types with initial values

abbrev pub ground : Surroundings → List BareForm → values.Ground
ground s forms = record { around = s.around; repeats = s.repeats; forms = forms }

abbrev pub valued : Given → Initial → Given
valued g v = record { ty = g.ty; value = v; size = g.size }

-- an initial value for what has a type, or has none, where there are so many rows before
abbrev pub with_value : Surroundings → List BareForm → ℕ → Init → Checked Given → values.Made Given
with_value s forms before i (Good g) =
    record {
      told = bind (values.initial_value (ground s forms) i g before).told (λ v. Good (valued g v));
      rows = (values.initial_value (ground s forms) i g before).rows;
    }
with_value s forms before i (Bad fs) = values.without_rows (Bad (fs ++ values.alone s.around i))

-- what leads back isn't constant, and isn't read
abbrev pub not_constant : Surroundings → Init → Checked Given → values.Made Given
not_constant s i told =
    values.without_rows (Bad (faults told
    ++ faults {A = Given} (wrong_at s.around (init_node i) code.NotConstant)))

abbrev pub written : Surroundings → List BareForm → ℕ → Init → Checked Given → values.Made Given
written s forms before i told =
    if s.leads_back i then not_constant s i told else with_value s forms before i told

abbrev pub if_written : Surroundings → List BareForm → ℕ → Option Init → Checked Given → values.Made Given
if_written s forms before None told = values.without_rows told
if_written s forms before (Some i) told = written s forms before i told

-- what is made of a type's specification, once its initial value is read
abbrev pub with_init : Surroundings → List BareForm → ℕ → Option Init → types.Made → Made
with_init s forms before i m =
    record {
      told = (if_written s (forms ++ m.forms) before i m.told).told;
      forms = m.forms;
      rows = (if_written s (forms ++ m.forms) before i m.told).rows;
    }

-- a specification with its initial value, where there are these forms and so many rows before
abbrev pub variable : Surroundings → Bool → List BareForm → ℕ → Spec → Option Init → Made
variable s may_be forms before spec i =
    with_init s forms before i (types.made s.around spec may_be (length forms))

-- ---- variables at addresses

abbrev pub is_held : Surroundings → Address → DeclType → Bool
is_held s a (ty.Scalar b) = s.address_holds a.name b.elem
is_held s a (ty.Enumeration shape) = false
is_held s a (ty.Array shape) = false
is_held s a (ty.Structure shape) = false
is_held s a (ty.Instance shape) = false

-- told at the first name
abbrev pub wrong_size : Surroundings → List Identifier → Checked Given
wrong_size s [] = unusable
wrong_size s (name ∷ names) = wrong_at s.around name.node code.WrongType

abbrev pub held : Surroundings → Address → List Identifier → Given → Checked Given
held s a names g = if is_held s a g.ty then Good g else wrong_size s names

-- where an address may stand the type fits its size; else it is out of profile
abbrev pub at_address : Surroundings → Bool → Decl → Option Address → Checked Given → Checked Given
at_address s may_stand d None told = told
at_address s true d (Some a) told = bind told (held s a d.names)
at_address s false d (Some a) told =
    Bad (faults told ++ faults {A = Given} (wrong_at s.around d.node code.OutOfProfile))

abbrev pub located : Surroundings → Bool → Decl → Made → Made
located s may_stand d m =
    record {
      told = at_address s may_stand d d.address m.told;
      forms = m.forms;
      rows = m.rows;
    }

-- variables that are declared together, at an address or at none
abbrev pub variables : Surroundings → Bool → Bool → List BareForm → ℕ → Decl → Made
variables s may_be may_stand forms before d =
    located s may_stand d (variable s may_be forms before d.spec d.init)

-- ---- results of functions: neither an array nor a structure nor an instance

abbrev pub is_single : DeclType → Bool
is_single (ty.Scalar b) = true
is_single (ty.Enumeration shape) = true
is_single (ty.Array shape) = false
is_single (ty.Structure shape) = false
is_single (ty.Instance shape) = false

abbrev pub single_result : Surroundings → Node → Given → Checked Given
single_result s node g = provided (is_single g.ty) g (site_of s.around node) code.OutOfProfile

-- an instance is as much out of profile as a result as elsewhere
abbrev pub result : Surroundings → Node → TypeName → Checked Given
result s node name =
    bind (types.of_type_name s.around false node name) (single_result s node)

-- ---- structures

-- fields that are declared together, and what their specification gives
pub record FieldGroup : Type 0 where
  pub names : List Identifier
  pub made : Made

-- no field is an instance
abbrev pub group_at : Surroundings → List BareForm → ℕ → Fields → FieldGroup
group_at s forms before g =
    record { names = g.names; made = variable s false forms before g.spec g.init }

-- each group behind the rows of those before it
abbrev pub groups : Surroundings → List BareForm → ℕ → List Fields → List FieldGroup
groups s forms before [] = []
groups s forms before (g ∷ gs) =
    group_at s forms before g
    ∷ groups s (forms ++ (group_at s forms before g).made.forms)
    (before + length (group_at s forms before g).made.rows) gs

abbrev pub field_of : Given → Identifier → Field
field_of given i = record { name = i.name; given = given }

abbrev pub fields_of : Given → List Identifier → List Field
fields_of given names = map (field_of given) names

abbrev pub group_fields : FieldGroup → Checked (List Field)
group_fields g = bind g.made.told (λ given. Good (fields_of given g.names))

abbrev pub all_groups : List FieldGroup → List (Checked (List Field))
all_groups gs = map group_fields gs

abbrev pub forms_in : List FieldGroup → List BareForm
forms_in [] = []
forms_in (g ∷ gs) = g.made.forms ++ forms_in gs

abbrev pub rows_in : List FieldGroup → List Written
rows_in [] = []
rows_in (g ∷ gs) = g.made.rows ++ rows_in gs

-- as many elements as the largest field has
abbrev pub size_of : List Field → ℕ
size_of [] = 1
size_of (f ∷ fs) = max f.given.size (size_of fs)

abbrev pub structure_given : ℕ → List Field → Given
structure_given k fields =
    record {
      ty = ty.Structure (record { 0 = k });
      value = initial.Own;
      size = size_of fields;
    }

-- two fields of one name are told elsewhere
abbrev pub structure_fields : Surroundings → Node → List FieldGroup → Checked (List Field)
structure_fields s node gs =
    if s.has_field_twice node then Bad (faults_of (all_groups gs))
    else bind (all_of (all_groups gs)) (λ fss. Good (joined fss))

-- the structure's row stands behind those of its fields
abbrev pub with_fields : ℕ → List BareForm → List Written → Checked (List Field) → Made
with_fields before inner rows (Good fields) =
    record {
      told = Good (structure_given (before + length inner) fields);
      forms = inner ++ (Structure fields ∷ []);
      rows = rows;
    }
with_fields before inner rows (Bad fs) = record { told = Bad fs; forms = inner; rows = rows }

abbrev pub structure_of : Surroundings → ℕ → Node → List FieldGroup → Made
structure_of s before node gs =
    with_fields before (forms_in gs) (rows_in gs) (structure_fields s node gs)

abbrev pub structure : Surroundings → List BareForm → ℕ → Node → List Fields → Made
structure s forms before node list = structure_of s (length forms) node (groups s forms before list)

-- ---- data types

-- an initial value for what is made of a type
abbrev pub initialised : Surroundings → List BareForm → ℕ → Option Init → Made → Made
initialised s forms before i m =
    record {
      told = (if_written s (forms ++ m.forms) (before + length m.rows) i m.told).told;
      forms = m.forms;
      rows = m.rows ++ (if_written s (forms ++ m.forms) (before + length m.rows) i m.told).rows;
    }

abbrev pub without_rows : types.Made → Made
without_rows m = record { told = m.told; forms = m.forms; rows = [] }

abbrev pub shape_made : Surroundings → List BareForm → ℕ → Shape → Made
shape_made s forms before (Shape.Spec spec) = without_rows (types.made s.around spec false (length forms))
shape_made s forms before (Shape.Structure node list) = structure s forms before node list

-- a data type that is declared
abbrev pub data_type : Surroundings → List BareForm → ℕ → TypeDecl → Made
data_type s forms before d = initialised s forms before d.init (shape_made s forms before d.shape)
