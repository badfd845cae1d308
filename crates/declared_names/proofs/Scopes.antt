-- The unit's own variables, by the number of their scope.
use Rattle.std.proofs.Common.{◌≡◌, ℕ, List, Option, Some, None, refl}
use Rattle.st_tree.specs.declared.node.Site.{Site}
use Rattle.project_declarations.specs.declared.rows.Owner.{Owner}
use Rattle.project_declarations.specs.declared.rows.Owner.TheVariants as owner
use Rattle.declaration_order.specs.Leads.{Finds, own_named, variable_site}
use Rattle.declared_names.specs.Project.{own_scope}

abbrev pub in_scope : Finds → Option ℕ → List ℕ → Option Site
in_scope finds None name = None
in_scope finds (Some scope) name = variable_site (finds scope name)

pub own_by_scope : (finds : Finds) (o : Owner) (name : List ℕ)
    → own_named finds o name ≡ in_scope finds (own_scope o) name
own_by_scope finds (owner.Local local) name = refl
own_by_scope finds (owner.Result unit) name = refl
own_by_scope finds (owner.Global keep) name = refl
own_by_scope finds owner.«Type» name = refl
