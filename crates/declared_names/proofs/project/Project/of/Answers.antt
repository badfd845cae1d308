use Rattle.std.proofs.Common.{◌∙◌, map, subst}
use Rattle.std.specs.List.Sorted.{IsPermutation}
use Rattle.std.proofs.lemmas.List.Sorted.{IsPermutation-map}
use Rattle.project_declarations.specs.Rows.{bare_name}
use Rattle.declared_names.proofs.project.Project.of.Goals as goal

pub returns : goal.returns
returns c =
    record {
      names_are =
          subst (λ ns. IsPermutation ns (map bare_name c.of-names.result)) c.in_ok-units.ensures.names
          (IsPermutation-map bare_name _ _ c.of-names.ensures.permutation);
      names_sorted = c.of-names.ensures.sorted;
      units_are = c.in_ok-units.ensures.units;
      decls_are = c.in_ok-table.ensures ∙ c.in_ok-units.ensures.decls;
      components = c.in_ok-components.ensures;
    }
