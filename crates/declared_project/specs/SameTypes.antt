-- Types that are the same. Source: this profile: a VAR_EXTERNAL has the very type of its global. Arrays are
-- the same where their dimensions and their elements' types are.
use Rattle.std.specs.Prelude.{ℕ, zero, suc, nat_eq, ℤ, int_le, Bool, true, false, ◌&&◌, if◌then◌else◌, List, [], ◌∷◌, length, slice_get, Option, Some, None}
use Rattle.iec_tables.specs.declared.elem.Elem.{Elem}
use Rattle.iec_tables.specs.Conversions.{converts_to}
use Rattle.declared_types.specs.declared.given.Bounds.{Bounds}
use Rattle.declared_types.specs.declared.given.DeclType.{DeclType}
use Rattle.declared_types.specs.declared.given.DeclType.TheVariants as ty
use Rattle.declared_types.specs.declared.forms.Dim.{Dim}
use Rattle.declared_types.specs.declared.forms.ArrayForm.{ArrayForm}
use Rattle.declared_types.specs.BareForms.{BareForm}
use Rattle.declared_types.specs.BareForms as form
use Rattle.expression_types.specs.declared.meaning.ShapeNo.{ShapeNo}

abbrev pub same_elem : Elem → Elem → Bool
same_elem a b = converts_to a b && converts_to b a

abbrev pub same_number : ℤ → ℤ → Bool
same_number a b = int_le a b && int_le b a

abbrev pub same_bounds : Bounds → Bounds → Bool
same_bounds a b =
    same_elem a.elem b.elem && (same_number a.low b.low && same_number a.high b.high)

abbrev pub same_dim : Dim → Dim → Bool
same_dim a b = same_number a.low b.low && same_number a.high b.high

abbrev pub same_dims : List Dim → List Dim → Bool
same_dims [] [] = true
same_dims [] (b ∷ bs) = false
same_dims (a ∷ more) [] = false
same_dims (a ∷ more) (b ∷ others) = same_dim a b && same_dims more others

abbrev pub array_there : Option BareForm → Option ArrayForm
array_there None = None
array_there (Some (form.Array a)) = Some a
array_there (Some (form.Standard b)) = None
array_there (Some (form.Block u)) = None
array_there (Some (form.Enumeration n)) = None
array_there (Some (form.Structure fs)) = None

abbrev pub array_at : List BareForm → ShapeNo → Option ArrayForm
array_at forms s = array_there (slice_get forms s.0)

-- the types of the elements of two arrays of the same dimensions
abbrev pub elements_of : Option ArrayForm → Option ArrayForm → (DeclType → DeclType → Bool) → Bool
elements_of None b same = false
elements_of (Some a) None same = false
elements_of (Some a) (Some b) same =
    if same_dims a.dims b.dims then same a.element.ty b.element.ty else false

abbrev pub same_shape : ShapeNo → ShapeNo → Bool
same_shape a b = nat_eq a.0 b.0

-- Over so many arrays of arrays at most. Another enumeration, structure or block has another number.
abbrev pub same_by : (DeclType → DeclType → Bool) → List BareForm → DeclType → DeclType → Bool
same_by more forms (ty.Scalar a) (ty.Scalar b) = same_bounds a b
same_by more forms (ty.Enumeration a) (ty.Enumeration b) = same_shape a b
same_by more forms (ty.Structure a) (ty.Structure b) = same_shape a b
same_by more forms (ty.Instance a) (ty.Instance b) = same_shape a b
same_by more forms (ty.Array a) (ty.Array b) = elements_of (array_at forms a) (array_at forms b) more
same_by more forms a b = false

abbrev pub same_within : List BareForm → ℕ → DeclType → DeclType → Bool
same_within forms zero a b = false
same_within forms (suc left) a b = same_by (same_within forms left) forms a b

-- Each array has a place in the table behind that of its elements' type.
abbrev pub same_types : List BareForm → DeclType → DeclType → Bool
same_types forms a b = same_within forms (suc (length forms)) a b
