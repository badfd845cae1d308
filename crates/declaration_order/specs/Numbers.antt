-- The numbers of declarations: each is known by its place in the list of all, and found by its site.
use Rattle.std.specs.Prelude.{ℕ, Bool, List, Option}
use Rattle.std.specs.List.{position_from}
use Rattle.std.specs.Ordering.{is_eq}
use Rattle.st_tree.specs.declared.node.Node.{Node}
use Rattle.st_tree.specs.declared.node.Site.{Site}
use Rattle.scope_names.specs.Scopes.{site_cmp}
use Rattle.project_declarations.specs.Named.{site_of, node_of_type_name}
use Rattle.project_declarations.specs.Declarations.{Declaration, Written, written_type, written_variables, written_result}

abbrev pub written_node : Written → Node
written_node (written_type x) = x.node
written_node (written_variables x) = x.node
written_node (written_result x) = node_of_type_name x

abbrev pub decl_node : Declaration → Node
decl_node x = written_node x.source

abbrev pub decl_site : Declaration → Site
decl_site x = site_of x.file (decl_node x)

abbrev pub stands_at : Site → Declaration → Bool
stands_at site x = is_eq (site_cmp (decl_site x) site)

-- the number of the first declaration at a site
abbrev pub number_at : List Declaration → Site → Option ℕ
number_at decls site = position_from (stands_at site) 0 decls
