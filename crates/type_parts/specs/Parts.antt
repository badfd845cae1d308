-- What declarations list: the enumerations, each with the names of its values, and the names of the
-- fields of structures. Source: the textual grammar of IEC 61131-3, as this profile narrows it.
use Rattle.std.specs.Prelude.{ℕ, List, [], ◌∷◌, map, flat_map}
use Rattle.st_tree.specs.declared.node.Site.{Site}
use Rattle.st_tree.specs.declared.expression.Identifier.{Identifier}
use Rattle.st_tree.specs.declared.declaration.Spec.{Spec, fold-Spec}
use Rattle.st_tree.specs.declared.declaration.Spec.TheOpen.{Spec-F}
use Rattle.st_tree.specs.declared.file.Shape.{Shape}
use Rattle.st_tree.specs.declared.file.Fields.{Fields}
use Rattle.project_declarations.specs.Named.{site_of}
use Rattle.project_declarations.specs.Declarations.{Declaration, Written, written_type}
use Rattle.project_declarations.specs.Declarations.{written_variables, written_result}

-- an enumeration: where its values are listed, and their names as they are written
pub record Enumeration : Type 0 where
  pub site : Site
  pub values : List (List ℕ)

abbrev pub names_of : List Identifier → List (List ℕ)
names_of names = map (λ (x : Identifier). x.name) names

-- ---- enumerations

-- the one that a specification lists, also as that of an array's elements
abbrev pub spec_lists : ℕ → Spec-F (List Enumeration) → List Enumeration
spec_lists file (Spec-F.«Type» node name limits) = []
spec_lists file (Spec-F.Enumeration node names) =
    record { site = site_of file node; values = names_of names } ∷ []
spec_lists file (Spec-F.Array node ranges element) = element

unfoldable pub in_spec : ℕ → Spec → List Enumeration
in_spec file = fold-Spec (List Enumeration) (spec_lists file)

abbrev pub in_fields : ℕ → Fields → List Enumeration
in_fields file x = in_spec file x.spec

abbrev pub in_shape : ℕ → Shape → List Enumeration
in_shape file (Shape.Spec spec) = in_spec file spec
in_shape file (Shape.Structure node fields) = flat_map (in_fields file) fields

abbrev pub in_written : ℕ → Written → List Enumeration
in_written file (written_type x) = in_shape file x.shape
in_written file (written_variables x) = in_spec file x.spec
in_written file (written_result x) = []

abbrev pub in_declaration : Declaration → List Enumeration
in_declaration d = in_written d.file d.source

-- those of declarations, in their order and that of the text
abbrev pub enumerations_of : List Declaration → List Enumeration
enumerations_of decls = flat_map in_declaration decls

-- ---- fields

abbrev pub fields_names : Fields → List (List ℕ)
fields_names x = names_of x.names

abbrev pub shape_fields : Shape → List (List ℕ)
shape_fields (Shape.Spec spec) = []
shape_fields (Shape.Structure node fields) = flat_map fields_names fields

abbrev pub written_fields : Written → List (List ℕ)
written_fields (written_type x) = shape_fields x.shape
written_fields (written_variables x) = []
written_fields (written_result x) = []

-- the names of the fields of the structure that a declaration declares, as they are written
abbrev pub fields_of : Declaration → List (List ℕ)
fields_of d = written_fields d.source
