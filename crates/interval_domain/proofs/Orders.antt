-- Orders of numbers as tests, and back.
use Rattle.std.proofs.Common.{◌≡◌, inl, inr, ℕ, ◌<◌, nat_eq, Bool, true, false, ◌&&◌, ℤ, ◌≤ℤ◌, ◌<ℤ◌, int_le, int_lt, arith, sym, refl, ◌∙◌}
use Rattle.std.specs.Ordering.{int_eq}
use Rattle.std.proofs.lemmas.Int.{ints, by_lt_z}
use Rattle.std.proofs.lemmas.Bool.{cases_Bool}
use Rattle.std.proofs.lemmas.Bool.Decides.{Decides-int_eq, nat_tests}

pub not-none : (n : ℕ) → 0 < n → nat_eq n 0 ≡ false
not-none n h = grind (arith, nat_tests)

pub lt-yes : (a b : ℤ) → a <ℤ b → int_lt a b ≡ true
lt-yes a b h = grind (arith, ints)

pub lt-no : (a b : ℤ) → b ≤ℤ a → int_lt a b ≡ false
lt-no a b h = grind (arith, ints)

pub le-yes : (a b : ℤ) → a ≤ℤ b → int_le a b ≡ true
le-yes a b h = grind (arith, ints)

pub le-no : (a b : ℤ) → b <ℤ a → int_le a b ≡ false
le-no a b h = grind (arith, ints)

pub lt-is : (a b : ℤ) → int_lt a b ≡ true → a <ℤ b
lt-is a b h = by_lt_z a b (λ s. s) (λ s. let w : true ≡ false = sym h ∙ lt-no a b s in cc)

pub le-is : (a b : ℤ) → int_le a b ≡ true → a ≤ℤ b
le-is a b h = by_lt_z b a (λ s. let w : true ≡ false = sym h ∙ le-no a b s in cc) (λ s. s)

pub eq-is : (a b : ℤ) → int_eq a b ≡ true → a ≡ b
eq-is a b h = (Decides-int_eq a b).0 h

pub eq-yes : (a b : ℤ) → a ≡ b → int_eq a b ≡ true
eq-yes a b h = (Decides-int_eq a b).1 h

pub eq-no : (a b : ℤ) → (a ≡ b → ⊥) → int_eq a b ≡ false
eq-no a b n = elim (cases_Bool (int_eq a b)) [ inl e ↦ absurd (n (eq-is a b e)) | inr e ↦ e ]

pub and-is : (p q : Bool) → (p && q) ≡ true → (p ≡ true) × (q ≡ true)
and-is true q h = (refl, h)
and-is false q h = cc

pub through : (a b c : ℤ) → a ≤ℤ b → b ≤ℤ c → a ≤ℤ c
through a b c h k = omega (arith, ints)

pub itself : (a : ℤ) → a ≤ℤ a
itself a = omega (arith, ints)
