-- The numbers of types that aren't elementary, and what each is. Source: this profile: the blocks of the
-- standard come first, then those of the project under the numbers of its units, then the enumerations
-- in the order of the declarations that list them; arrays and structures are numbered as they are computed.
use Rattle.std.specs.Prelude.{ℕ, ◌+◌, ◌-◌, nat_eq, nat_lt, Bool, true, false, ◌&&◌, if◌then◌else◌, List, [], ◌∷◌, ◌++◌, length, map, Option, Some, None}
use Rattle.standard_names.specs.declared.block.StandardBlock.{StandardBlock}
use Rattle.standard_names.specs.declared.block.StandardBlock.TheVariants as block
use Rattle.type_parts.specs.Parts.{Enumeration, enumerations_of}
use Rattle.project_declarations.specs.Named.{each_from, unit_no}
use Rattle.project_declarations.specs.Declarations.{Placed}
use Rattle.project_declarations.specs.declared.rows.UnitNo.{UnitNo}
use Rattle.expression_types.specs.declared.meaning.ShapeNo.{ShapeNo}
use Rattle.expression_types.specs.declared.meaning.ValueType.{ValueType}
use Rattle.expression_types.specs.declared.meaning.ValueType.TheVariants as value
use Rattle.declared_types.specs.BareForms.{BareForm}
use Rattle.declared_types.specs.BareForms as form
use Rattle.declared_types.specs.declared.given.DeclType.{DeclType}
use Rattle.declared_types.specs.declared.given.DeclType.TheVariants as ty
use Rattle.declared_names.specs.Project.{Project}

abbrev pub shape : ℕ → ShapeNo
shape n = record { 0 = n }

-- ---- blocks of the standard, in the order of their names

abbrev pub block_number : StandardBlock → ℕ
block_number block.Ctd = 0
block_number block.Ctu = 1
block_number block.FTrig = 2
block_number block.Rs = 3
block_number block.RTrig = 4
block_number block.Sr = 5
block_number block.Tof = 6
block_number block.Ton = 7
block_number block.Tp = 8

abbrev pub block_forms : List BareForm
block_forms =
    form.Standard block.Ctd ∷ form.Standard block.Ctu ∷ form.Standard block.FTrig
    ∷ form.Standard block.Rs ∷ form.Standard block.RTrig ∷ form.Standard block.Sr
    ∷ form.Standard block.Tof ∷ form.Standard block.Ton ∷ form.Standard block.Tp ∷ []

abbrev pub standard_shape : StandardBlock → ShapeNo
standard_shape b = shape (block_number b)

-- ---- units

abbrev pub unit_shape : UnitNo → ShapeNo
unit_shape unit = shape (9 + unit.0)

abbrev pub unit_forms : List Placed → List BareForm
unit_forms units = each_from (λ k (x : Placed). form.Block (unit_no k)) 0 units

-- ---- enumerations

abbrev pub enumerations : Project → List Enumeration
enumerations p = enumerations_of p.decls

abbrev pub first_listed : Project → ℕ
first_listed p = 9 + length p.units

abbrev pub enumeration_shape : Project → ℕ → ShapeNo
enumeration_shape p k = shape (first_listed p + k)

-- the number of the enumeration that a shape is
abbrev pub shape_listed : Project → ShapeNo → Option ℕ
shape_listed p s =
    if nat_lt s.0 (first_listed p) then None
    else if nat_lt (s.0 - first_listed p) (length (enumerations p))
    then Some (s.0 - first_listed p) else None

abbrev pub is_listed : Option ℕ → Bool
is_listed None = false
is_listed (Some k) = true

-- Values of one enumeration have one type; no other values that aren't elementary have.
abbrev pub is_same : Project → ShapeNo → ShapeNo → Bool
is_same p a b = is_listed (shape_listed p a) && nat_eq a.0 b.0

abbrev pub listed_form : Enumeration → BareForm
listed_form e = form.Enumeration (length e.values)

-- the forms that are known before any declaration is computed
abbrev pub first_forms : Project → List BareForm
first_forms p = (block_forms ++ unit_forms p.units) ++ map listed_form (enumerations p)

-- ---- the types of values

-- a subrange counts as its base type
abbrev pub value_type : DeclType → ValueType
value_type (ty.Scalar b) = value.Elem b.elem
value_type (ty.Enumeration s) = value.Other s
value_type (ty.Array s) = value.Other s
value_type (ty.Structure s) = value.Other s
value_type (ty.Instance s) = value.Other s
