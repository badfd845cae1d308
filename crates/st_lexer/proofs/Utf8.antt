-- A text is UTF-8, or there is a longest front of it that is.
use Rattle.std.proofs.Common.{◌≡◌, ℕ, zero, suc, ◌<◌, Bool, true, false, ◌⊎◌, inl, inr, List, [], ◌∷◌, length, take, refl, sym, subst, arith}
use Rattle.std.specs.Str.{IsUtf8, IsValidUpTo, is_utf8}
use Rattle.std.proofs.lemmas.Str.{IsUtf8-from_is_utf8, is_utf8-from_IsUtf8}
use Rattle.std.proofs.lemmas.List.{take_all}
use Rattle.st_lexer.proofs.Tests.{clash}

empty_text : IsUtf8 []
empty_text = ([], (refl, refl))

not_utf8 : (bs : List ℕ) → is_utf8 bs ≡ false → IsUtf8 bs → ⊥
not_utf8 bs e u = clash (is_utf8 bs) (is_utf8-from_IsUtf8 bs u) e

-- the longest front up to n
longest : (bs : List ℕ) (n : ℕ) → n < length bs → ((m : ℕ) → n < m → IsUtf8 (take m bs) → ⊥) → (k : ℕ) × IsValidUpTo bs k
longest bs zero lt h = (zero, record { short = lt; front = empty_text; longest = h })
longest bs (suc n) lt h = by (is_utf8 (take (suc n) bs)) refl (λ g. longest bs n (omega (arith, lt)) g)
  where
    same_or_more : (n m : ℕ) → n < m → (m ≡ suc n) ⊎ (suc n < m)
    same_or_more n m l = grind arith

    by : (v : Bool) → is_utf8 (take (suc n) bs) ≡ v → (((m : ℕ) → n < m → IsUtf8 (take m bs) → ⊥) → (k : ℕ) × IsValidUpTo bs k) → (k : ℕ) × IsValidUpTo bs k
    by true e go = (suc n, record { short = lt; front = IsUtf8-from_is_utf8 (take (suc n) bs) e; longest = h })
    by false e go = go (λ m l u. elim (same_or_more n m l) [
      | inl s ↦ not_utf8 (take (suc n) bs) e (subst (λ (j : ℕ). IsUtf8 (take j bs)) s u)
      | inr more ↦ h m more u
    ])

pub valid_or : (bs : List ℕ) → IsUtf8 bs ⊎ ((k : ℕ) × IsValidUpTo bs k)
valid_or bs = by (is_utf8 bs) refl
  where
    none : is_utf8 bs ≡ false → (n : ℕ) → length bs ≡ suc n → (k : ℕ) × IsValidUpTo bs k
    none e n len = longest bs n (omega (arith, len)) (λ m l u. not_utf8 bs e (subst IsUtf8 (take_all m bs (omega (arith, len, l))) u))

    some : is_utf8 bs ≡ false → (n : ℕ) → length bs ≡ n → (k : ℕ) × IsValidUpTo bs k
    some e zero len = absurd (empty bs e len)
      where
        empty : (xs : List ℕ) → is_utf8 xs ≡ false → length xs ≡ 0 → ⊥
        empty [] x l = not_utf8 [] x empty_text
        empty (y ∷ ys) x l = omega (arith, l)
    some e (suc n) len = none e n len

    by : (v : Bool) → is_utf8 bs ≡ v → IsUtf8 bs ⊎ ((k : ℕ) × IsValidUpTo bs k)
    by true e = inl (IsUtf8-from_is_utf8 bs e)
    by false e = inr (some e (length bs) refl)

pub not_both : (bs : List ℕ) (k : ℕ) → IsUtf8 bs → IsValidUpTo bs k → ⊥
not_both bs k u v = v.longest (length bs) v.short (subst IsUtf8 (sym (take_all (length bs) bs (omega arith))) u)

pub one_place : (bs : List ℕ) (j k : ℕ) → IsValidUpTo bs j → IsValidUpTo bs k → j ≡ k
one_place bs j k x y = by (order j k)
  where
    order : (j k : ℕ) → (j ≡ k) ⊎ ((j < k) ⊎ (k < j))
    order j k = grind arith

    by : (j ≡ k) ⊎ ((j < k) ⊎ (k < j)) → j ≡ k
    by (inl e) = e
    by (inr (inl l)) = absurd (x.longest k l y.front)
    by (inr (inr l)) = absurd (y.longest j l x.front)
