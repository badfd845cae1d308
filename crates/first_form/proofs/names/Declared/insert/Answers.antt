use Rattle.std.proofs.Common.{◌≡◌, ℕ, Bool, List, true, false, cond, sym, subst, ◌∙◌}
use Rattle.std.specs.Prelude.{bytes_eq}
use Rattle.std.specs.List.{list_any}
use Rattle.std.specs.Ordering.{is_eq, nat_cmp}
use Rattle.std.specs.Cmp.{eq_by_cmp_equiv}
use Rattle.std.specs.Cmp.Lexicographic.{slice_cmp, bytes_decides, nat_list_cmp_total, nat_list_eq_equiv}
use Rattle.std.specs.Map.{IsKeyTest, AreApart}
use Rattle.std.specs.Set.{KeepsOthers}
use Rattle.std.proofs.lemmas.Bool.{cases_Bool, cond-true, cond-false}
use Rattle.std.proofs.lemmas.Map.Text.{is_eq-slice_cmp}
use Rattle.std.proofs.Common.{inl, inr}
use Rattle.first_form.specs.steps.Known.{known_in}
use Rattle.first_form.proofs.Known.{known_one}
use Rattle.first_form.proofs.names.Declared.insert.Goals as goal

apart : (name q key : List ℕ) → bytes_eq name q ≡ false → is_eq (slice_cmp nat_cmp name key) ≡ true
    → is_eq (slice_cmp nat_cmp q key) ≡ false
apart name q key other same =
    is_eq-slice_cmp q key
    ∙ (nat_list_eq_equiv.symm q key
    ∙ sym (nat_list_eq_equiv.congr name key q (sym (is_eq-slice_cmp name key) ∙ same)) ∙ other)

keeps : {K : Type 0} (eq : K → K → Bool) (test : K → Bool) (old new : List K)
    → KeepsOthers eq test old new → (other : K → Bool) → IsKeyTest eq other → AreApart test other
    → list_any other new ≡ list_any other old
unfolding KeepsOthers
keeps eq test old new h = h

pub returns : goal.returns
returns c =
    let name = c.args.name.items in
    let h = c.in_ok-insert.ensures.updates in
    let old = known_in c.args.self.now in
    let new = known_in (record { names = c.insert.new.self }) in
    let same : (q : List ℕ) → bytes_eq name q ≡ true → new q ≡ cond (bytes_eq name q) true (old q) =
    λ q e. subst (λ (bytes : List ℕ). new bytes ≡ true) ((bytes_decides name q).0 e) h.1
    ∙ sym (cond-true (bytes_eq name q) true (old q) e) in
    let others : (q : List ℕ) → bytes_eq name q ≡ false → new q ≡ cond (bytes_eq name q) true
    (old q) =
    λ q e. keeps _ _ _ _ h.3 _ (λ x y. (eq_by_cmp_equiv nat_list_cmp_total).congr q x.items y.items)
    (λ key. apart name q key.items e) ∙ sym (cond-false (bytes_eq name q) true (old q) e) in
    known_one old new name
    (λ q. elim (cases_Bool (bytes_eq name q)) [ inl e ↦ same q e | inr e ↦ others q e ])
