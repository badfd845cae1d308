-- What the name of a type stands for in a declaration. Source: IEC 61131-3, declarations of types, as this
-- profile narrows them: units, types and the names of the standard share one scope; a type that leads back
-- by specifications alone holds itself.
use Rattle.std.specs.Prelude.{ℕ, Bool, true, false, if◌then◌else◌, List, slice_get, Option, Some, None}
use Rattle.st_tree.specs.declared.file.UnitKind.{UnitKind}
use Rattle.standard_names.specs.declared.block.StandardBlock.{StandardBlock}
use Rattle.standard_types.specs.Names.{block_named, is_function_name, is_left_out_type}
use Rattle.project_declarations.specs.Declarations.{Placed}
use Rattle.project_declarations.specs.declared.scopes.TheConstants as scope
use Rattle.project_declarations.specs.declared.rows.UnitNo.{UnitNo}
use Rattle.project_declarations.specs.declared.rows.What.{What}
use Rattle.project_declarations.specs.declared.rows.What.TheVariants as what
use Rattle.declaration_order.specs.LeadBack.{lead_together_by_type}
use Rattle.declared_types.specs.declared.given.Given.{Given}
use Rattle.declared_types.specs.declared.outside.NamedType.{NamedType}
use Rattle.declared_types.specs.declared.outside.NamedType.TheVariants as named
use Rattle.declared_names.specs.Project.{Project, Known, Here, finds, number_there, given_at}
use Rattle.declared_names.specs.Shapes.{standard_shape, unit_shape}

abbrev pub if_whole : Option Given → NamedType
if_whole None = named.Faulty
if_whole (Some g) = named.Is g

abbrev pub of_number : Known → Here → Option ℕ → NamedType
of_number k h None = named.Unknown
of_number k h (Some m) =
    if lead_together_by_type k.project.components h.number m then named.LeadsBack
    else if_whole (given_at k m)

abbrev pub of_kind : UnitNo → UnitKind → NamedType
of_kind unit UnitKind.Block = named.Block (unit_shape unit)
of_kind unit UnitKind.Program = named.NoType
of_kind unit (UnitKind.Function result) = named.NoType

abbrev pub of_unit : UnitNo → Option Placed → NamedType
of_unit unit None = named.Unknown
of_unit unit (Some x) = of_kind unit x.unit.kind

abbrev pub unit_named : Project → UnitNo → NamedType
unit_named p unit = of_unit unit (slice_get p.units unit.0)

abbrev pub of_standard : List ℕ → Option StandardBlock → NamedType
of_standard name (Some b) = named.Block (standard_shape b)
of_standard name None =
    if is_function_name name then named.NoType
    else if is_left_out_type name then named.LeftOut else named.Unknown

abbrev pub standard_named : List ℕ → NamedType
standard_named name = of_standard name (block_named name)

abbrev pub of_what : Known → Here → List ℕ → Option What → NamedType
of_what k h name (Some (what.«Type» site)) = of_number k h (number_there k.project (Some site))
of_what k h name (Some (what.Unit unit)) = unit_named k.project unit
of_what k h name (Some other) = standard_named name
of_what k h name None = standard_named name

abbrev pub named_here : Known → Here → List ℕ → NamedType
named_here k h name = of_what k h name (finds k.project scope.OUTERMOST name)
