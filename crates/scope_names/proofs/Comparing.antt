-- Names compared byte by byte from a place on.
use Rattle.std.proofs.Common.{◌≡◌, ℕ, zero, suc, ◌+◌, ◌-◌, ◌<◌, ◌≤◌, ◌⊎◌, inl, inr, List, [], ◌∷◌, length, get_or, drop, arith, ap, ◌∙◌, sym, refl, add-one, length-drop}
use Rattle.std.proofs.lemmas.Bool.Decides.{nat_tests}
use Rattle.std.specs.Ordering.{nat_cmp, ordering_then}
use Rattle.std.specs.Cmp.{nat_cmp_is}
use Rattle.std.specs.declared.cmp.Ordering.{Ordering}
use Rattle.std.specs.declared.cmp.Ordering.TheVariants.{Less, Equal, Greater}
use Rattle.std.specs.Cmp.Lexicographic.{slice_cmp}
use Rattle.iec_tables.specs.Letters.{raised}
use Rattle.iec_tables.specs.Words.{raised_all}

-- names from a place on, in order
abbrev pub rest_cmp : ℕ → List ℕ → List ℕ → Ordering
rest_cmp at a b = slice_cmp nat_cmp (raised_all (drop at a)) (raised_all (drop at b))

one : (at : ℕ) (a b : List ℕ) → at < length a → at < length b
    → rest_cmp at a b ≡ ordering_then (nat_cmp (raised (get_or a at 0)) (raised (get_or b at 0))) (rest_cmp (suc at) a b)
one at [] b h k = absurd (omega arith)
one at (x ∷ xs) [] h k = absurd (omega arith)
one zero (x ∷ xs) (y ∷ ys) h k = refl
one (suc at) (x ∷ xs) (y ∷ ys) h k = one at xs ys (omega arith) (omega arith)

-- bytes at a place that tie let the rest decide
pub tied : (at : ℕ) (a b : List ℕ) → at < length a → at < length b
    → Equal ≡ nat_cmp (raised (get_or a at 0)) (raised (get_or b at 0)) → rest_cmp (at + 1) a b ≡ rest_cmp at a b
tied at a b h k e = rw add-one (sym (one at a b h k ∙ ap (λ r. ordering_then r (rest_cmp (suc at) a b)) (sym e)))

-- bytes that don't tie decide
pub decided : (at : ℕ) (a b : List ℕ) (r : Ordering) → at < length a → at < length b
    → r ≡ nat_cmp (raised (get_or a at 0)) (raised (get_or b at 0)) → ¬ (r ≡ Equal) → r ≡ rest_cmp at a b
decided at a b Less h k e n = sym (one at a b h k ∙ ap (λ r. ordering_then r (rest_cmp (suc at) a b)) (sym e))
decided at a b Equal h k e n = absurd (n refl)
decided at a b Greater h k e n = sym (one at a b h k ∙ ap (λ r. ordering_then r (rest_cmp (suc at) a b)) (sym e))

less : (m n k : ℕ) → k ≤ m → k ≤ n → nat_cmp m n ≡ nat_cmp (m - k) (n - k)
less m n k h l = grind (arith, nat_tests)

-- where one name is at its end, the lengths decide
shorter : (us vs : List ℕ) → (length us ≡ 0) ⊎ (length vs ≡ 0)
    → slice_cmp nat_cmp (raised_all us) (raised_all vs) ≡ nat_cmp (length us) (length vs)
shorter [] [] h = refl
shorter [] (v ∷ vs) h = nat_cmp_is 0 (length (v ∷ vs)) Less (omega arith)
shorter (u ∷ us) [] h = nat_cmp_is (length (u ∷ us)) 0 Greater (omega arith)
shorter (u ∷ us) (v ∷ vs) h = absurd (elim h [ inl e ↦ omega arith | inr e ↦ omega arith ])

pub ended : (at : ℕ) (a b : List ℕ) → at ≤ length a → at ≤ length b → (at < length a → length b ≤ at)
    → nat_cmp (length a) (length b) ≡ rest_cmp at a b
ended at a b h k e =
    let la : length (drop at a) ≡ length a - at = length-drop at a in
    let lb : length (drop at b) ≡ length b - at = length-drop at b in
    let out : (length (drop at a) ≡ 0) ⊎ (length (drop at b) ≡ 0) = grind arith in
    less (length a) (length b) at h k ∙ sym (shorter (drop at a) (drop at b) out ∙ ap (λ n. nat_cmp n (length (drop at b))) la ∙ ap (nat_cmp (length a - at)) lb)
