-- AND, OR and XOR on BOOL: the values that occur, by computing the rows of all pairs of operands.
use Rattle.std.proofs.Common.{◌≡◌, ◌⊎◌, inl, inr, refl, zero, suc, Bool, true, false, ◌&&◌, ◌||◌, ◌^◌, ◌-◌, ℕ, ℤ, pos, negsuc, ◌≤ℤ◌, arith, subst, sym}
use Rattle.std.specs.Ordering.{int_eq}
use Rattle.std.proofs.lemmas.Int.{ints}
use Rattle.iec_tables.specs.declared.elem.Elem.{Elem}
use Rattle.iec_tables.specs.Types.{width_of}
use Rattle.interval_domain.specs.Interval.{Interval, Empty, Span, Holds, holds, IsWithin, IsOrdered}
use Rattle.interval_domain.specs.Bits.{bits_range, patterns_in, digits, and_of, or_of, xor_of, and_other, or_other, xor_other, pattern_row}
use Rattle.interval_domain.specs.Laws.{of_two, same}
use Rattle.interval_domain.proofs.Between.{meet-right, meet-ordered}
use Rattle.interval_domain.proofs.Bounds.{both-ends}
use Rattle.interval_domain.proofs.Orders.{le-is, eq-is, and-is, through}
use Rattle.interval_domain.proofs.Strict.{IsLeastFor}

-- ---- a test: some operands give both bounds

abbrev pub is_result : (ℤ → ℤ → ℤ) → Interval → Interval → (x y z : ℤ) → Bool
is_result op i j x y z = holds i x && holds j y && int_eq (op x y) z

abbrev pub occurs : (ℤ → ℤ → ℤ) → Interval → Interval → ℤ → Bool
occurs op i j z =
    is_result op i j (pos 0) (pos 0) z || is_result op i j (pos 0) (pos 1) z
    || is_result op i j (pos 1) (pos 0) z || is_result op i j (pos 1) (pos 1) z

abbrev pub ends_occur : (ℤ → ℤ → ℤ) → Interval → Interval → Interval → Bool
ends_occur op i j Empty = true
ends_occur op i j (Span low high) = occurs op i j low && occurs op i j high

holds-is : (i : Interval) (z : ℤ) → holds i z ≡ true → Holds i z
holds-is Empty z h = cc
holds-is (Span a b) z h = let both = and-is _ _ h in (le-is a z both.0, le-is z b both.1)

result-is : (op : ℤ → ℤ → ℤ) (i j : Interval) (x y z : ℤ) → is_result op i j x y z ≡ true → of_two op i j z
result-is op i j x y z h =
    let all = and-is (holds i x && holds j y) (int_eq (op x y) z) h in
    let both = and-is (holds i x) (holds j y) all.0 in
    (x, y, holds-is i x both.0, holds-is j y both.1, eq-is (op x y) z all.1)

one-of-four : (p q r s : Bool) → (p || q || r || s) ≡ true → ((p ≡ true) ⊎ (q ≡ true)) ⊎ ((r ≡ true) ⊎ (s ≡ true))
one-of-four true q r s h = inl (inl refl)
one-of-four false true r s h = inl (inr refl)
one-of-four false false true s h = inr (inl refl)
one-of-four false false false s h = inr (inr h)

occurs-is : (op : ℤ → ℤ → ℤ) (i j : Interval) (z : ℤ) → occurs op i j z ≡ true → of_two op i j z
occurs-is op i j z h =
    elim (one-of-four (is_result op i j (pos 0) (pos 0) z) (is_result op i j (pos 0) (pos 1) z)
    (is_result op i j (pos 1) (pos 0) z) (is_result op i j (pos 1) (pos 1) z) h) [
      | inl (inl e) ↦ result-is op i j (pos 0) (pos 0) z e
      | inl (inr e) ↦ result-is op i j (pos 0) (pos 1) z e
      | inr (inl e) ↦ result-is op i j (pos 1) (pos 0) z e
      | inr (inr e) ↦ result-is op i j (pos 1) (pos 1) z e
    ]

ends-least : (op : ℤ → ℤ → ℤ) (i j r : Interval) → ends_occur op i j r ≡ true → IsLeastFor (of_two op i j) same r
ends-least op i j Empty h k all = tt
ends-least op i j (Span a b) h k all =
    let both = and-is (occurs op i j a) (occurs op i j b) h in
    both-ends a b k (all a (occurs-is op i j a both.0)) (all b (occurs-is op i j b both.1))

-- ---- the intervals of truth values

data IsTruths : Interval → Type 0 where
  never : IsTruths (Span (pos 0) (pos 0))
  always : IsTruths (Span (pos 1) (pos 1))
  either : IsTruths (Span (pos 0) (pos 1))

zero-or-one : (z : ℤ) → pos 0 ≤ℤ z → z ≤ℤ pos 1 → (z ≡ pos 0) ⊎ (z ≡ pos 1)
zero-or-one (pos zero) h k = inl refl
zero-or-one (pos (suc zero)) h k = inr refl
zero-or-one (pos (suc (suc n))) h k = absurd (omega (arith, ints))
zero-or-one (negsuc n) h k = absurd (omega (arith, ints))

truths-of : (a b : ℤ) → a ≤ℤ b → pos 0 ≤ℤ a → b ≤ℤ pos 1 → IsTruths (Span a b)
truths-of a b o h k =
    elim (zero-or-one a h (through a b (pos 1) o k)) [
      | inl e ↦ elim (zero-or-one b (through (pos 0) a b h o) k) [
        | inl f ↦ subst (λ (i : Interval). IsTruths i) (λ n. Span (sym e n) (sym f n)) never
        | inr f ↦ subst (λ (i : Interval). IsTruths i) (λ n. Span (sym e n) (sym f n)) either
      ]
      | inr e ↦ elim (zero-or-one b (through (pos 0) a b h o) k) [
        | inl f ↦ absurd (omega (arith, ints))
        | inr f ↦ subst (λ (i : Interval). IsTruths i) (λ n. Span (sym e n) (sym f n)) always
      ]
    ]

abbrev pub of-each : (Interval → Bool) → Bool
of-each p = p (Span (pos 0) (pos 0)) && p (Span (pos 1) (pos 1)) && p (Span (pos 0) (pos 1))

first-two : (p : Interval → Bool) → of-each p ≡ true → (p (Span (pos 0) (pos 0)) ≡ true)
    × (p (Span (pos 1) (pos 1)) ≡ true)
first-two p h =
    and-is (p (Span (pos 0) (pos 0))) (p (Span (pos 1) (pos 1)))
    (and-is (p (Span (pos 0) (pos 0)) && p (Span (pos 1) (pos 1))) (p (Span (pos 0) (pos 1))) h).0

each : (p : Interval → Bool) (i : Interval) → of-each p ≡ true → IsTruths i → p i ≡ true
each p _ h never = (first-two p h).0
each p _ h always = (first-two p h).1
each p _ h either = (and-is (p (Span (pos 0) (pos 0)) && p (Span (pos 1) (pos 1))) (p (Span (pos 0) (pos 1))) h).1

-- ---- the table of an operator: of all pairs

abbrev pub table : (ℤ → ℤ → ℤ) → (other : (a b c d : ℤ) → Interval) → Bool
table op other = of-each (λ i. of-each (λ j. ends_occur op i j (pattern_row op other i j)))

table-least : (op : ℤ → ℤ → ℤ) (other : (a b c d : ℤ) → Interval) → table op other ≡ true
    → (i j : Interval) → IsTruths i → IsTruths j → IsLeastFor (of_two op i j) same (pattern_row op other i j)
table-least op other h i j s t =
    ends-least op i j (pattern_row op other i j)
    (each (λ j. ends_occur op i j (pattern_row op other i j)) j
    (each (λ i. of-each (λ j. ends_occur op i j (pattern_row op other i j))) i h s) t)

pub and-table : table and_of and_other ≡ true
and-table = refl

pub or-table : table or_of or_other ≡ true
unfolding digits
or-table = refl

pub xor-table : table xor_of xor_other ≡ true
unfolding digits
xor-table = refl

-- ---- of operands that are cut to the patterns of a type of one bit

bool-least : (op : ℤ → ℤ → ℤ) (other : (a b c d : ℤ) → Interval) → table op other ≡ true
    → (i j : Interval) → IsOrdered i → IsOrdered j → IsWithin i (Span (pos 0) (pos 1))
    → IsWithin j (Span (pos 0) (pos 1))
    → IsLeastFor (of_two op i j) same (pattern_row op other i j)
bool-least op other h Empty j o p v w = λ k all. tt
bool-least op other h (Span a b) Empty o p v w = λ k all. tt
bool-least op other h (Span a b) (Span c d) o p v w =
    table-least op other h (Span a b) (Span c d) (truths-of a b o v.0 v.1) (truths-of c d p w.0 w.1)

cut-truths : (t : Elem) (i : Interval) → width_of t ≡ 1 → IsWithin (patterns_in (width_of t) i) (Span (pos 0) (pos 1))
cut-truths t i one =
    subst (λ (w : ℕ). IsWithin (patterns_in (width_of t) i) (Span (pos 0) (pos (2 ^ w - 1)))) one
    (meet-right i (bits_range t))

pub cut-least : (op : ℤ → ℤ → ℤ) (other : (a b c d : ℤ) → Interval) → table op other ≡ true
    → (t : Elem) (i j : Interval) → width_of t ≡ 1
    → IsLeastFor (of_two op (patterns_in (width_of t) i) (patterns_in (width_of t) j)) same
    (pattern_row op other (patterns_in (width_of t) i) (patterns_in (width_of t) j))
cut-least op other h t i j one =
    bool-least op other h (patterns_in (width_of t) i) (patterns_in (width_of t) j)
    (meet-ordered i (bits_range t)) (meet-ordered j (bits_range t)) (cut-truths t i one) (cut-truths t j one)
