-- The depth of types in a table.
use Rattle.std.proofs.Common.{◌≡◌, ◌+◌, ◌∙◌, List, length, suc, sym, ap, add-one}
use Rattle.declared_types.specs.BareForms.{bare_forms}
use Rattle.declared_types.specs.declared.forms.Form.{Form}
use Rattle.declared_types.specs.declared.given.DeclType.{DeclType}
use Rattle.declared_types.proofs.Told.{bare_length}
use Rattle.declared_project.specs.SameTypes.{same_within, same_types}

pub whole_depth : (forms : List Form) (a b : DeclType)
    → same_within (bare_forms forms) (length forms + 1) a b ≡ same_types (bare_forms forms) a b
whole_depth forms a b =
    ap (λ n. same_within (bare_forms forms) n a b)
    (add-one (length forms) ∙ ap suc (sym (bare_length forms)))
