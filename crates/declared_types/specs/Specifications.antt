-- What specifications give. Source: IEC 61131-3, data type declarations: elementary types, subranges,
-- enumerations and arrays; default initial values. How many dimensions and elements an array may have,
-- and which faults stand, is this profile's.
use Rattle.std.specs.Prelude.{ℕ, suc, ◌+◌, ◌*◌, nat_le, nat_lt, ℤ, pos, ◌-ℤ◌, int_le, unsigned_abs, Bool, false, ◌&&◌, if◌then◌else◌, List, [], ◌∷◌, ◌++◌, map, length, Option, Some, None}
use Rattle.iec_tables.specs.declared.elem.Elem.{Elem}
use Rattle.iec_tables.specs.Types.{low_of, high_of}
use Rattle.st_tree.specs.declared.node.Node.{Node}
use Rattle.st_tree.specs.declared.declaration.TypeName.{TypeName}
use Rattle.st_tree.specs.declared.declaration.Range.{Range}
use Rattle.st_tree.specs.declared.declaration.Spec.{Spec, fold-Spec}
use Rattle.st_tree.specs.declared.declaration.Spec.TheOpen.{Spec-F}
use Rattle.link_faults.specs.declared.code.LinkCode.TheVariants as code
use Rattle.link_faults.specs.Checked.{Checked, Good, Bad, faults, unusable, provided, bind, both}
use Rattle.expression_types.specs.Lists.{faults_of, with_all}
use Rattle.expression_types.specs.declared.meaning.ShapeNo.{ShapeNo}
use Rattle.declared_types.specs.Around.{Around}
use Rattle.declared_types.specs.Ranges.{site_of, wrong_at, bounds, all_of}
use Rattle.declared_types.specs.declared.given.Bounds.{Bounds}
use Rattle.declared_types.specs.declared.given.DeclType.{DeclType}
use Rattle.declared_types.specs.declared.given.DeclType.TheVariants as ty
use Rattle.declared_types.specs.declared.given.Initial.{Initial}
use Rattle.declared_types.specs.declared.given.Initial.TheVariants as initial
use Rattle.declared_types.specs.declared.given.Given.{Given}
use Rattle.declared_types.specs.declared.forms.Dim.{Dim}
use Rattle.declared_types.specs.declared.forms.ArrayForm.{ArrayForm}
use Rattle.declared_types.specs.BareForms.{BareForm}
use Rattle.declared_types.specs.BareForms as form
use Rattle.declared_types.specs.declared.outside.ConstantPlace.TheVariants as place
use Rattle.declared_types.specs.declared.outside.NamedType.{NamedType}
use Rattle.declared_types.specs.declared.outside.NamedType.TheVariants as named

-- ---- elementary types and names of types

abbrev pub number : ℤ → Initial
number z = initial.Number (record { value = z })

abbrev pub single : DeclType → Initial → Given
single t value = record { ty = t; value = value; size = 1 }

abbrev pub scalar : Elem → ℤ → ℤ → DeclType
scalar t low high = ty.Scalar (record { elem = t; low = low; high = high })

-- all its numbers, from 0
abbrev pub elementary : Elem → Given
elementary t = single (scalar t (low_of t) (high_of t)) (number (pos 0))

-- an instance, which stands only where one may
abbrev pub instance_of : Around → Bool → Node → ShapeNo → Checked Given
instance_of o may_be node shape =
    provided may_be (single (ty.Instance shape) initial.Own) (site_of o node) code.OutOfProfile

-- a type by its name; what has no place here is told at the specification or at the name
abbrev pub of_name : Around → Bool → Node → Node → NamedType → Checked Given
of_name o may_be node name_node (named.Is given) = Good given
of_name o may_be node name_node named.Faulty = unusable
of_name o may_be node name_node named.LeadsBack = wrong_at o node code.OutOfProfile
of_name o may_be node name_node (named.Block shape) = instance_of o may_be node shape
of_name o may_be node name_node named.NoType = wrong_at o name_node code.WrongCall
of_name o may_be node name_node named.LeftOut = wrong_at o name_node code.OutOfProfile
of_name o may_be node name_node named.Unknown = wrong_at o name_node code.Unknown

abbrev pub of_type_name : Around → Bool → Node → TypeName → Checked Given
of_type_name o may_be node (TypeName.Elementary name_node elem) = Good (elementary elem)
of_type_name o may_be node (TypeName.Named name) = of_name o may_be node name.node (o.named name.name)

-- ---- subranges

-- The bounds lie in those of the type. What has a range of its own begins at its lower bound.
abbrev pub within : Around → Node → Bounds → Dim → Checked Given
within o node b d =
    provided (int_le b.low d.low && int_le d.high b.high)
    (single (scalar b.elem d.low d.high) (number d.low)) (site_of o node) code.BadBound

-- only what is elementary, or a subrange, has ranges; what the bounds break is told all the same
abbrev pub no_range : Around → Node → Range → Checked Given
no_range o node range = with_all (wrong_at o node code.WrongType) (bounds o place.Any range ∷ [])

abbrev pub narrowed_type : Around → Node → Range → DeclType → Checked Given
narrowed_type o node range (ty.Scalar b) =
    bind (bounds o (place.Elem b.elem) range) (within o range.node b)
narrowed_type o node range (ty.Enumeration shape) = no_range o node range
narrowed_type o node range (ty.Array shape) = no_range o node range
narrowed_type o node range (ty.Structure shape) = no_range o node range
narrowed_type o node range (ty.Instance shape) = no_range o node range

abbrev pub narrowed_given : Around → Node → Range → Checked Given → Checked Given
narrowed_given o node range (Good given) = narrowed_type o node range given.ty
narrowed_given o node range (Bad fs) = with_all (Bad fs) (bounds o place.Any range ∷ [])

abbrev pub narrowed : Around → Node → Option Range → Checked Given → Checked Given
narrowed o node None given = given
narrowed o node (Some range) given = narrowed_given o node range given

-- ---- enumerations: they begin at their first value

abbrev pub enumerated : Option ShapeNo → Checked Given
enumerated None = unusable
enumerated (Some shape) = Good (single (ty.Enumeration shape) (number (pos 0)))

-- ---- arrays

abbrev pub max_dims : ℕ
max_dims = 3

abbrev pub max_elements : ℕ
max_elements = 65536

-- how many numbers a dimension has; its lower bound isn't above the upper one
abbrev pub length_of : Dim → ℕ
length_of d = suc (unsigned_abs (d.high -ℤ d.low))

-- how many elements dimensions have together
abbrev pub count_of : List Dim → ℕ
count_of [] = 1
count_of (d ∷ ds) = length_of d * count_of ds

abbrev pub array_of : List Dim → Given → ArrayForm
array_of ds element =
    record {
      dims = ds;
      count = count_of ds;
      element = element;
      size = count_of ds * element.size;
    }

-- its elements, those of nested arrays multiplied, aren't too many
abbrev pub is_small : List Dim → Given → Bool
is_small ds element =
    nat_le (count_of ds) max_elements && nat_le (count_of ds * element.size) max_elements

abbrev pub small_array : Around → Node → List Dim → Given → Checked ArrayForm
small_array o node ds element =
    provided (is_small ds element) (array_of ds element) (site_of o node) code.BadBound

abbrev pub dims_in : Around → List Range → List (Checked Dim)
dims_in o ranges = map (bounds o place.Integer) ranges

abbrev pub too_many : Around → Node → List Range → Checked Given → Checked ArrayForm
too_many o node ranges element =
    Bad (faults_of (dims_in o ranges) ++ (faults element ++ faults {A = Given} (wrong_at o node code.BadBound)))

-- an array over these ranges
abbrev pub array : Around → Node → List Range → Checked Given → Checked ArrayForm
array o node ranges element =
    if nat_lt max_dims (length ranges) then too_many o node ranges element
    else both (all_of (dims_in o ranges)) element (small_array o node)

-- ---- specifications

-- What a specification gives, and the rows that it adds to the table of forms.
pub record Made : Type 0 where
  pub told : Checked Given
  pub forms : List BareForm

abbrev pub without_forms : Checked Given → Made
without_forms x = record { told = x; forms = [] }

-- the array under a number: its elements have the initial values of their own specification
abbrev pub array_given : ℕ → ArrayForm → Given
array_given k a =
    record {
      ty = ty.Array (record { 0 = k });
      value = initial.Own;
      size = a.size;
    }

-- the array's row stands behind those of its elements
abbrev pub array_made : ℕ → List BareForm → Checked ArrayForm → Made
array_made before inner (Good a) =
    record {
      told = Good (array_given (before + length inner) a);
      forms = inner ++ (form.Array a ∷ []);
    }
array_made before inner (Bad fs) = record { told = Bad fs; forms = inner }

-- by whether an instance may stand there, and how many rows there are before
abbrev pub MadeAt : Type 0
MadeAt = Bool → ℕ → Made

abbrev pub array_at : Around → Node → List Range → ℕ → Made → Made
array_at o node ranges before element =
    array_made before element.forms (array o node ranges element.told)

-- no instance is the element of an array
abbrev pub made_in : Around → Spec-F MadeAt → MadeAt
made_in o (Spec-F.«Type» node name range) may_be before =
    without_forms (narrowed o node range (of_type_name o may_be node name))
made_in o (Spec-F.Enumeration node names) may_be before = without_forms (enumerated (o.enumeration node))
made_in o (Spec-F.Array node ranges element) may_be before =
    array_at o node ranges before (element false before)

unfoldable pub made : Around → Spec → MadeAt
made o = fold-Spec MadeAt (made_in o)
