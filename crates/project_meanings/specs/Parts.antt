-- Fields and elements of variables. Source: IEC 61131-3, structured data types, arrays and instances of
-- function blocks, as this profile narrows them: of an instance its inputs and outputs are seen, of a step
-- its flag X; a step's time T is left out.
use Rattle.std.specs.Prelude.{ℕ, nat_eq, bytes_eq, codes, Bool, true, false, if◌then◌else◌, List, length, slice_get, Option, Some, None}
use Rattle.std.specs.List.{find}
use Rattle.iec_tables.specs.Words.{raised_all}
use Rattle.iec_tables.specs.declared.elem.Elem.TheVariants as elem
use Rattle.st_tree.specs.declared.declaration.SectionKind.{SectionKind}
use Rattle.st_tree.specs.declared.declaration.SectionKind.TheVariants as section
use Rattle.standard_names.specs.Blocks as blocks
use Rattle.standard_names.specs.declared.block.StandardBlock.{StandardBlock}
use Rattle.project_declarations.specs.declared.rows.Owner.{Owner}
use Rattle.project_declarations.specs.declared.rows.Owner.TheVariants as owner
use Rattle.project_declarations.specs.declared.rows.UnitNo.{UnitNo}
use Rattle.expression_types.specs.declared.meaning.Field.{Field}
use Rattle.expression_types.specs.declared.meaning.Field.TheVariants as field
use Rattle.expression_types.specs.declared.meaning.ShapeNo.{ShapeNo}
use Rattle.expression_types.specs.declared.meaning.ValueType.{ValueType}
use Rattle.expression_types.specs.declared.meaning.ValueType.TheVariants as value
use Rattle.declared_types.specs.BareForms.{BareForm}
use Rattle.declared_types.specs.BareForms as form
use Rattle.declared_types.specs.declared.forms.ArrayForm.{ArrayForm}
use Rattle.declared_types.specs.declared.given.Given.{Given}
use Rattle.declared_names.specs.Project.{Known, owner_at, given_at, number_in_unit}
use Rattle.declared_names.specs.Shapes.{value_type}
use Rattle.project_meanings.specs.Whole.{Whole, Body}

-- ---- steps

abbrev pub step_field : List ℕ → Field
step_field name =
    if bytes_eq (codes "X") (raised_all name) then field.Is (value.Elem elem.Bool)
    else if bytes_eq (codes "T") (raised_all name) then field.LeftOut else field.Unknown

abbrev pub is_step_shape : Option Body → ShapeNo → Bool
is_step_shape None s = false
is_step_shape (Some b) s = nat_eq b.step.0 s.0

-- ---- structures

abbrev pub is_field : List ℕ → form.Field → Bool
is_field name f = bytes_eq (raised_all f.name) (raised_all name)

abbrev pub of_field : Option form.Field → Field
of_field None = field.Unknown
of_field (Some f) = field.Is (value_type f.given.ty)

abbrev pub structure_field : List form.Field → List ℕ → Field
structure_field fields name = of_field (find (is_field name) fields)

-- ---- blocks of the standard

abbrev pub is_part : List ℕ → blocks.Seen → Bool
is_part name part = bytes_eq part.0 (raised_all name)

abbrev pub of_part : Option blocks.Seen → Field
of_part None = field.Unknown
of_part (Some part) = field.Is (value.Elem part.1)

abbrev pub standard_field : StandardBlock → List ℕ → Field
standard_field block name = of_part (find (is_part name) (blocks.parts_of block))

-- ---- blocks of the project

abbrev pub is_shown_kind : SectionKind → Bool
is_shown_kind section.Input = true
is_shown_kind section.Output = true
is_shown_kind section.Var = false
is_shown_kind section.InOut = false
is_shown_kind section.External = false
is_shown_kind section.Temp = false

-- inputs and outputs are seen from outside
abbrev pub is_shown : Option Owner → Bool
is_shown (Some (owner.Local local)) = is_shown_kind local.kind
is_shown (Some (owner.Global keep)) = false
is_shown (Some owner.«Type») = false
is_shown (Some (owner.Result unit)) = false
is_shown None = false

abbrev pub of_given : Option Given → Field
of_given None = field.Faulty
of_given (Some g) = field.Is (value_type g.ty)

abbrev pub of_number : Known → Option ℕ → Field
of_number k None = field.Unknown
of_number k (Some n) =
    if is_shown (owner_at k.project n) then of_given (given_at k n) else field.Unknown

abbrev pub block_field : Known → UnitNo → List ℕ → Field
block_field k unit name = of_number k (number_in_unit k.project unit name)

-- ---- parts of any type

abbrev pub form_field : Known → List ℕ → Option BareForm → Field
form_field k name None = field.NoParts
form_field k name (Some (form.Standard block)) = standard_field block name
form_field k name (Some (form.Block unit)) = block_field k unit name
form_field k name (Some (form.Enumeration count)) = field.NoParts
form_field k name (Some (form.Array a)) = field.NoParts
form_field k name (Some (form.Structure fields)) = structure_field fields name

abbrev pub field_there : Whole → ShapeNo → List ℕ → Field
field_there w s name =
    if is_step_shape w.body s then step_field name
    else form_field w.known name (slice_get w.forms s.0)

-- ---- elements

-- an index for each dimension
abbrev pub array_element : ArrayForm → ℕ → Option ValueType
array_element a indices =
    if nat_eq (length a.dims) indices then Some (value_type a.element.ty) else None

abbrev pub form_element : ℕ → Option BareForm → Option ValueType
form_element indices None = None
form_element indices (Some (form.Standard block)) = None
form_element indices (Some (form.Block unit)) = None
form_element indices (Some (form.Enumeration count)) = None
form_element indices (Some (form.Array a)) = array_element a indices
form_element indices (Some (form.Structure fields)) = None

abbrev pub element_there : Whole → ShapeNo → ℕ → Option ValueType
element_there w s indices = form_element indices (slice_get w.forms s.0)
