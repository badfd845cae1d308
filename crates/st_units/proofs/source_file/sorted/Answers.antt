use Rattle.std.proofs.Common.{◌≡◌, ℕ, List, [], ◌∷◌, ◌++◌, length, take, drop, refl, sym, ap, subst, ◌∙◌, arith}
use Rattle.std.specs.List.Sorted.{IsNonDecreasing}
use Rattle.std.proofs.lemmas.List.Sorted.{IsNonDecreasingBy-from_sort}
use Rattle.st_units.proofs.source_file.sorted.Goals as goal

-- what is written over a whole list is that list
whole : (ts us : List ℕ) → length ts ≡ length us → take (length us) (ts ++ drop (length ts) us) ≡ ts
whole [] [] e = refl
whole [] (u ∷ us) e = absurd (omega (arith, e))
whole (t ∷ ts) [] e = absurd (omega (arith, e))
whole (t ∷ ts) (u ∷ us) e = ap (λ (l : List ℕ). t ∷ l) (whole ts us (omega (arith, e)))

pub returns-clause-rising : goal.returns-clause-rising
returns-clause-rising c =
    let places = c.args.places in
    let new = c.sort_unstable.new.self in
    let long : length new ≡ length places =
    c.sort_unstable.ensures.len ∙ ap length c.as_mut_slice.ensures.value in
    subst IsNonDecreasing (sym (whole new places long))
    (IsNonDecreasingBy-from_sort (λ x. x) new c.sort_unstable.ensures.sorted)
