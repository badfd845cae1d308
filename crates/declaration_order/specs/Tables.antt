-- The tables of the code as the declarations and the numbers in them.
use Rattle.std.specs.Prelude.{List, map}
use Rattle.declaration_order.specs.LeadBack.{Components}
use Rattle.declaration_order.specs.declared.leading.DeclComponents.{DeclComponents}
use Rattle.project_declarations.specs.Declarations.{Declaration}
use Rattle.project_declarations.specs.Rows.{bare_decl}
use Rattle.declaration_order.specs.declared.declared.DeclTable.{DeclTable}

abbrev pub decls_in : DeclTable → List Declaration
decls_in table = map bare_decl table.rows.items

abbrev pub components_in : DeclComponents → Components
components_in found =
    record { all = found.all; by_type = found.by_type; by_names = found.by_names }
