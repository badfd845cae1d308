-- Declarations that are numbered from the last one on.
use Rattle.std.proofs.Common.{◌≡◌, ℕ, suc, ◌+◌, ◌<◌, List, ◌∷◌, length, get_or, drop, Some, sym, ap, ◌∙◌, add-one, drop-cons, cond}
use Rattle.std.specs.BTreeMap.{BTreeMap, Updates}
use Rattle.std.specs.List.{position_from}
use Rattle.project_declarations.specs.Declarations.{Declaration}
use Rattle.declaration_order.specs.Numbers.{stands_at, decl_site}
use Rattle.declaration_order.specs.steps.Numbered.{key_cmp, key_of, AreNumbers}

-- one declaration more, before those that are numbered
pub numbers_more : (decls : List Declaration) (k : ℕ) (x : Declaration) (old new : BTreeMap (ℕ × ℕ) ℕ)
    → k < length decls → x ≡ get_or decls k x → AreNumbers (k + 1) (drop (k + 1) decls) old
    → Updates key_cmp old new (key_of (decl_site x)) (Some k) → AreNumbers k (drop k decls) new
numbers_more decls k x old new l is h u site =
    let e : drop k decls ≡ x ∷ drop (k + 1) decls =
    rw add-one (drop-cons decls k x l ∙ ap (λ y. y ∷ drop (suc k) decls) (sym is)) in
    u.0 (key_of site)
    ∙ ap (cond (stands_at site x) (Some k)) (h site)
    ∙ ap (position_from (stands_at site) k) (sym e)
