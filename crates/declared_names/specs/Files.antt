-- What the files of a project declare, as one project.
use Rattle.std.specs.Prelude.{◌≡◌, List, map}
use Rattle.std.specs.List.Sorted.{IsPermutation, IsSorted}
use Rattle.st_tree.specs.declared.file.SourceTree.{SourceTree}
use Rattle.scope_names.specs.Scopes.{row_cmp}
use Rattle.project_declarations.specs.Declarations.{units_of, decls_of, names_of}
use Rattle.project_declarations.specs.Rows.{bare_name}
use Rattle.declaration_order.specs.LeadBack.{AreDeclComponents}
use Rattle.declared_names.specs.Project.{Project, finds}

-- The names of files in order, their units and declarations, and which of these lead to one another.
pub record IsProject (files : List SourceTree) (p : Project) : Type 0 where
  pub names_are : IsPermutation (names_of files) (map bare_name p.names)
  pub names_sorted : IsSorted row_cmp p.names
  pub units_are : p.units ≡ units_of files
  pub decls_are : p.decls ≡ decls_of files
  pub components : AreDeclComponents (finds p) p.decls p.components
