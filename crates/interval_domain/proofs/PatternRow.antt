-- The row of all operators on patterns: exact where both operands are single, else what another function
-- gives for their bounds.
use Rattle.std.proofs.Common.{◌≡◌, inl, inr, Bool, true, false, ◌&&◌, ℤ, ◌≤ℤ◌, arith, sym, ◌∙◌}
use Rattle.std.specs.Ordering.{int_eq}
use Rattle.std.proofs.lemmas.Bool.{cases_Bool}
use Rattle.std.proofs.lemmas.Int.{ints}
use Rattle.interval_domain.specs.Interval.{Interval, Empty, Span, Holds, IsWithin, IsOrdered}
use Rattle.interval_domain.specs.Bits.{exact_or, pattern_at, pattern_row}
use Rattle.interval_domain.specs.Laws.{of_two, same}
use Rattle.interval_domain.proofs.Bounds.{ordered-low, ordered-high}
use Rattle.interval_domain.proofs.Orders.{eq-is, eq-yes, and-is, through}
use Rattle.interval_domain.proofs.Strict.{Contains, held-where, grows-where}

-- What the other function gives for bounds holds each result of numbers between them, and grows with them.
-- Left and right operands are of the numbers of P and Q.
pub record IsPatternOperator (P Q : ℤ → Type 0) (op : ℤ → ℤ → ℤ) (other : (a b c d : ℤ) → Interval) : Type 0 where
  pub held : (a b c d x y : ℤ) → P x → Q y → a ≤ℤ x → x ≤ℤ b → c ≤ℤ y → y ≤ℤ d → Holds (other a b c d) (op x y)
  pub grows : (a b c d e f g n : ℤ) → P b → Q d → e ≤ℤ a → b ≤ℤ f → g ≤ℤ c → d ≤ℤ n
      → IsWithin (other a b c d) (other e f g n)

-- each number that the interval holds is one of P
abbrev pub AreAll : (ℤ → Type 0) → Interval → Type 0
AreAll P i = (x : ℤ) → Holds i x → P x

-- ---- one number, or another interval

same-held : (z v : ℤ) → z ≡ v → Holds (Span z z) v
same-held z v e = (omega (arith, ints), omega (arith, ints))

single-within : (z : ℤ) (j : Interval) → Holds j z → IsWithin (Span z z) j
single-within z Empty h = absurd h
single-within z (Span a b) h = h

squeezed : (a b x : ℤ) → a ≡ b → a ≤ℤ x → x ≤ℤ b → a ≡ x
squeezed a b x e h k = omega (arith, ints)

exact_or-held : (op : ℤ → ℤ → ℤ) (a b c d x y : ℤ) (other : Interval) → a ≤ℤ x → x ≤ℤ b → c ≤ℤ y → y ≤ℤ d
    → Holds other (op x y) → Holds (exact_or a b c d (op a c) other) (op x y)
exact_or-held op a b c d x y other h k l m held =
    elim (cases_Bool (int_eq a b && int_eq c d)) [
      | inl e ↦
          let both = and-is (int_eq a b) (int_eq c d) e in
          let p : a ≡ x = squeezed a b x (eq-is a b both.0) h k in
          let q : c ≡ y = squeezed c d y (eq-is c d both.1) l m in
          rw e (same-held (op a c) (op x y) (λ n. op (p n) (q n)))
      | inr e ↦ rw e held
    ]

still-single : (a b e f : ℤ) → a ≤ℤ b → e ≤ℤ a → b ≤ℤ f → int_eq e f ≡ true → int_eq a b ≡ true
still-single a b e f o h k s = let same : e ≡ f = eq-is e f s in eq-yes a b (omega (arith, ints))

both-true : (p q : Bool) → p ≡ true → q ≡ true → (p && q) ≡ true
both-true p q h k = rw h k

exact_or-larger : (op : ℤ → ℤ → ℤ) (a b c d e f g n : ℤ) (small large : Interval)
    → a ≤ℤ b → c ≤ℤ d → e ≤ℤ a → b ≤ℤ f → g ≤ℤ c → d ≤ℤ n
    → Holds large (op a c) → IsWithin small large
    → IsWithin (exact_or a b c d (op a c) small) (exact_or e f g n (op e g) large)
exact_or-larger op a b c d e f g n small large o p h k l m held within =
    elim (cases_Bool (int_eq a b && int_eq c d)) [
      | inl u ↦
          rw u (single-within (op a c) (exact_or e f g n (op e g) large)
          (exact_or-held op e f g n a c large h (through a b f o k) l (through c d n p m) held))
      | inr u ↦
          rw u (elim (cases_Bool (int_eq e f && int_eq g n)) [
            | inl v ↦
                let both = and-is (int_eq e f) (int_eq g n) v in
                let wrong : true ≡ false =
                sym (both-true (int_eq a b) (int_eq c d) (still-single a b e f o h k both.0)
                (still-single c d g n p l m both.1)) ∙ u in cc
            | inr v ↦ rw v within
          ])
    ]

-- ---- the laws of the row

pub pattern-held : (P Q : ℤ → Type 0) (op : ℤ → ℤ → ℤ) (other : (a b c d : ℤ) → Interval)
    → IsPatternOperator P Q op other
    → (i j : Interval) → AreAll P i → AreAll Q j → Contains (of_two op i j) same (pattern_row op other i j)
pattern-held P Q op other is = held-where same op (pattern_at op other) (AreAll P) (AreAll Q) at
  where
    at : (a b c d x y : ℤ) → AreAll P (Span a b) → AreAll Q (Span c d) → a ≤ℤ x → x ≤ℤ b → c ≤ℤ y → y ≤ℤ d
        → Holds (pattern_at op other a b c d) (op x y)
    at a b c d x y p q h k l m =
        exact_or-held op a b c d x y (other a b c d) h k l m (is.held a b c d x y (p x (h, k)) (q y (l, m)) h k l m)

-- an interval in order, of numbers of P
abbrev AreOrdered : (ℤ → Type 0) → Interval → Interval → Type 0
AreOrdered P i k = IsOrdered i × AreAll P i

pub pattern-grows : (P Q : ℤ → Type 0) (op : ℤ → ℤ → ℤ) (other : (a b c d : ℤ) → Interval)
    → IsPatternOperator P Q op other
    → (i j k l : Interval) → IsOrdered i → IsOrdered j → AreAll P i → AreAll Q j
    → IsWithin i k → IsWithin j l → IsWithin (pattern_row op other i j) (pattern_row op other k l)
pattern-grows P Q op other is i j k l o p v w =
    grows-where (pattern_at op other) (AreOrdered P) (AreOrdered Q) at i j k l (o, v) (p, w)
  where
    at : (a b c d e f g n : ℤ) → AreOrdered P (Span a b) (Span e f) → AreOrdered Q (Span c d) (Span g n)
        → e ≤ℤ a → b ≤ℤ f → g ≤ℤ c → d ≤ℤ n → IsWithin (pattern_at op other a b c d) (pattern_at op other e f g n)
    at a b c d e f g n (o, v) (p, w) h k l m =
        exact_or-larger op a b c d e f g n (other a b c d) (other e f g n) o p h k l m
        (is.held e f g n a c (v a (ordered-low a b o)) (w c (ordered-low c d p)) h (through a b f o k) l
        (through c d n p m))
        (is.grows a b c d e f g n (v b (ordered-high a b o)) (w d (ordered-high c d p)) h k l m)
