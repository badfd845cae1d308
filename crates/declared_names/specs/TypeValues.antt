-- What `Type#value` stands for. Source: IEC 61131-3, enumerated data types, as this profile narrows them:
-- the value names its type, and leads nowhere by it. A type that waits for the very declaration that names
-- its value is known by how it is written: as an enumeration, or by the names of types alone.
use Rattle.std.specs.Prelude.{ℕ, zero, suc, pos, nat_eq, Bool, true, false, ◌&&◌, not, if◌then◌else◌, List, length, slice_get, Option, Some, None}
use Rattle.st_tree.specs.declared.declaration.Spec.{Spec}
use Rattle.st_tree.specs.declared.declaration.TypeName.{TypeName}
use Rattle.st_tree.specs.declared.file.Shape.{Shape}
use Rattle.project_declarations.specs.Named.{site_of}
use Rattle.project_declarations.specs.Declarations.{Declaration, Written, written_type, written_variables, written_result}
use Rattle.project_declarations.specs.declared.scopes.TheConstants as scope
use Rattle.project_declarations.specs.declared.rows.What.{What}
use Rattle.project_declarations.specs.declared.rows.What.TheVariants as what
use Rattle.declaration_order.specs.Leads.{type_named}
use Rattle.declaration_order.specs.LeadBack.{lead_together, name_together}
use Rattle.type_parts.specs.Places.{number_of_site, place_of_value}
use Rattle.expression_types.specs.declared.meaning.TypeValue.{TypeValue}
use Rattle.expression_types.specs.declared.meaning.TypeValue.TheVariants as typed
use Rattle.expression_types.specs.declared.meaning.ValueType.TheVariants as value
use Rattle.declared_types.specs.declared.given.Given.{Given}
use Rattle.declared_types.specs.declared.given.DeclType.{DeclType}
use Rattle.declared_types.specs.declared.given.DeclType.TheVariants as ty
use Rattle.declared_names.specs.declared.written.WrittenType.{WrittenType}
use Rattle.declared_names.specs.declared.written.WrittenType.TheVariants as written
use Rattle.declared_names.specs.Project.{Project, Known, Here, finds, number_there, given_at}
use Rattle.declared_names.specs.Shapes.{enumerations, enumeration_shape, shape_listed}

-- ---- types as they are written

-- an enumeration, another type by its name alone, or neither
abbrev pub in_spec : Project → ℕ → Spec → WrittenType
in_spec p file (Spec.Enumeration node names) =
    written.Listed (number_of_site (enumerations p) (site_of file node))
in_spec p file (Spec.«Type» node (TypeName.Named x) None) =
    written.Named (number_there p (type_named (finds p) x.name))
in_spec p file other = written.Neither

abbrev pub in_shape : Project → ℕ → Shape → WrittenType
in_shape p file (Shape.Spec spec) = in_spec p file spec
in_shape p file (Shape.Structure node fields) = written.Neither

abbrev pub in_source : Project → ℕ → Written → WrittenType
in_source p file (written_type x) = in_shape p file x.shape
in_source p file (written_variables x) = written.Neither
in_source p file (written_result x) = written.Neither

abbrev pub in_declaration : Project → Option Declaration → WrittenType
in_declaration p None = written.Neither
in_declaration p (Some d) = in_source p d.file d.source

abbrev pub followed : (ℕ → Option ℕ) → WrittenType → Option ℕ
followed next (written.Listed e) = e
followed next (written.Named (Some n)) = next n
followed next (written.Named None) = None
followed next written.Neither = None

-- the enumeration that the type of a number is, over so many names at most
abbrev pub enumeration_within : Project → ℕ → ℕ → Option ℕ
enumeration_within p zero n = None
enumeration_within p (suc left) n =
    followed (enumeration_within p left) (in_declaration p (slice_get p.decls n))

abbrev pub written_enumeration : Project → ℕ → Option ℕ
written_enumeration p n = enumeration_within p (length p.decls) n

-- ---- values

abbrev pub of_place : Project → ℕ → Option ℕ → TypeValue
of_place p e None = typed.UnknownValue
of_place p e (Some at) =
    typed.Is (record { ty = value.Other (enumeration_shape p e); number = record { value = pos at } })

abbrev pub of_enumeration : Project → List ℕ → Option ℕ → TypeValue
of_enumeration p name None = typed.NoEnumeration
of_enumeration p name (Some e) = of_place p e (place_of_value (enumerations p) e name)

abbrev pub of_type : Project → List ℕ → DeclType → TypeValue
of_type p name (ty.Enumeration s) = of_enumeration p name (shape_listed p s)
of_type p name (ty.Scalar b) = typed.NoEnumeration
of_type p name (ty.Array s) = typed.NoEnumeration
of_type p name (ty.Structure s) = typed.NoEnumeration
of_type p name (ty.Instance s) = typed.NoEnumeration

abbrev pub of_given : Project → List ℕ → Option Given → TypeValue
of_given p name None = typed.Faulty
of_given p name (Some g) = of_type p name g.ty

-- the type leads to another declaration, which leads back to it
abbrev pub leads_back : Known → Here → ℕ → Bool
leads_back k h m = not (nat_eq m h.number) && lead_together k.project.components h.number m

abbrev pub of_declaration : Known → Here → List ℕ → ℕ → TypeValue
of_declaration k h name m =
    if leads_back k h m then typed.Faulty
    else if name_together k.project.components h.number m
    then of_enumeration k.project name (written_enumeration k.project m)
    else of_given k.project name (given_at k m)

abbrev pub of_number : Known → Here → List ℕ → Option ℕ → TypeValue
of_number k h name None = typed.Faulty
of_number k h name (Some m) = of_declaration k h name m

abbrev pub of_what : Known → Here → List ℕ → Option What → TypeValue
of_what k h name None = typed.UnknownType
of_what k h name (Some (what.«Type» site)) = of_number k h name (number_there k.project (Some site))
of_what k h name (Some other) = typed.NoEnumeration

abbrev pub type_value_here : Known → Here → List ℕ → List ℕ → TypeValue
type_value_here k h type_name name = of_what k h name (finds k.project scope.OUTERMOST type_name)
