-- Enumerations by where they are listed, and what declarations list twice. Source: this profile: the
-- values of one enumeration, and the fields of one structure, differ in their names.
use Rattle.std.specs.Prelude.{ℕ, Bool, if◌then◌else◌, Option, Some, None}
use Rattle.st_tree.specs.declared.node.Node.{Node}
use Rattle.project_declarations.specs.Named.{site_of}
use Rattle.type_parts.specs.Places.{number_of_site, has_value_twice}
use Rattle.type_parts.specs.Places as places
use Rattle.expression_types.specs.declared.meaning.ShapeNo.{ShapeNo}
use Rattle.declared_names.specs.Project.{Project, Here}
use Rattle.declared_names.specs.Shapes.{enumerations, enumeration_shape}

abbrev pub unless_twice : Project → Option ℕ → Option ShapeNo
unless_twice p None = None
unless_twice p (Some e) =
    if has_value_twice (enumerations p) e then None else Some (enumeration_shape p e)

-- the enumeration whose values are listed at a node; none where it lists one twice
abbrev pub enumeration_here : Project → Here → Node → Option ShapeNo
enumeration_here p h node = unless_twice p (number_of_site (enumerations p) (site_of h.file node))

-- the structure that a declaration declares has two fields of one name
abbrev pub has_field_twice : Project → Here → Bool
has_field_twice p h = places.has_field_twice_at p.decls h.number
