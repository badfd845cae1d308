-- Patterns that are shifted and turned, and the laws of SHL, SHR, ROL and ROR.
use Rattle.std.proofs.Common.{◌≡◌, ap, ◌∙◌, ℕ, ◌+◌, ◌*◌, ◌/◌, ◌%◌, ◌-◌, ◌^◌, ◌≤◌, ◌<◌, ℤ, pos, negsuc, ◌≤ℤ◌, unsigned_abs, arith, subst, sym}
use Rattle.std.proofs.Math.Nat.{pow-le-pow_right}
use Rattle.std.proofs.lemmas.Nat.{mul-add-lt, mod_below, pow_pos, pow-add, shr_below}
use Rattle.std.proofs.lemmas.Int.{ints}
use Rattle.interval_domain.specs.Interval.{Interval, Span, Holds, IsWithin, IsOrdered}
use Rattle.interval_domain.specs.Bits.{patterns, patterns_in}
use Rattle.interval_domain.specs.Laws.{any, same, of_two}
use Rattle.interval_domain.specs.Shifts.{moved, turns, turned, shl_of, shr_of, rol_of, ror_of, any_pattern, shr_at, shr_row, cut_row}
use Rattle.interval_domain.proofs.Laws.{span-holds, span-within, meet-within}
use Rattle.interval_domain.proofs.Between.{meet-right, meet-ordered}
use Rattle.interval_domain.proofs.Orders.{through, itself}
use Rattle.interval_domain.proofs.PatternRow.{IsPatternOperator}
use Rattle.interval_domain.proofs.Patterns.{size-up}
use Rattle.interval_domain.proofs.Quotients.{div-up, div-down}
use Rattle.interval_domain.proofs.Strict.{Contains, GrowsTwo, held-where, grows-where}

-- ---- patterns

turned-below : (w x p : ℕ) → p ≤ w → x < 2 ^ w → turned w x p < 2 ^ w
turned-below w x p h k =
    let whole : (w - p) + p ≡ w = omega arith in
    let split : 2 ^ w ≡ 2 ^ (w - p) * 2 ^ p = ap (λ n. 2 ^ n) (sym whole) ∙ pow-add 2 (w - p) p in
    let fits : x < 2 ^ ((w - p) + p) = subst (λ (n : ℕ). x < 2 ^ n) (sym whole) k in
    subst (λ (n : ℕ). turned w x p < n) (sym split)
    (mul-add-lt (x % 2 ^ p) (2 ^ (w - p)) (x / 2 ^ p) (2 ^ p) (mod_below x (2 ^ p) (pow_pos p))
    (shr_below x (w - p) p fits))

-- what the code computes
pub turned-at : (w x p r q : ℕ) → p ≤ w → x < 2 ^ w → q ≡ 2 ^ p → r ≡ (x % q) * 2 ^ (w - p) → r + x / 2 ^ p < 2 ^ w
turned-at w x p r q h k e f =
    subst (λ (n : ℕ). n + x / 2 ^ p < 2 ^ w) (sym (f ∙ ap (λ m. (x % m) * 2 ^ (w - p)) e)) (turned-below w x p h k)

pub word-above : (w : ℕ) → w ≤ 64 → 2 ^ w ≤ 2 ^ 64
word-above w h = pow-le-pow_right {n = 2} (omega arith) h

turns-below : (w : ℕ) (n : ℤ) → 0 < w → turns w n < w
turns-below w (pos n) h = mod_below n w h
turns-below w (negsuc n) h = h

natural-pattern : (w m : ℕ) → m < 2 ^ w → Holds (patterns w) (pos m)
natural-pattern w m h = bounds m (2 ^ w) h
  where
    bounds : (m p : ℕ) → m < p → (pos 0 ≤ℤ pos m) × (pos m ≤ℤ pos (p - 1))
    bounds m p h = (omega (arith, ints), omega (arith, ints))

pattern-size : (w : ℕ) (x : ℤ) → Holds (patterns w) x → unsigned_abs x < 2 ^ w
pattern-size w (pos x) h = below x (2 ^ w) (pow_pos w) h.1
  where
    below : (x p : ℕ) → 0 < p → pos x ≤ℤ pos (p - 1) → x < p
    below x p h k = omega (arith, ints)
pattern-size w (negsuc x) h = absurd (omega (arith, ints, h.0))

-- ---- SHL, ROL and ROR: the result of a pattern is one

pattern-op : (op : ℕ → ℤ → ℤ → ℤ) (w : ℕ) → ((x n : ℤ) → Holds (patterns w) x → Holds (patterns w) (op w x n))
    → IsPatternOperator (Holds (patterns w)) any (op w) (any_pattern w)
pattern-op op w keeps = record {
  held = λ a b c d x n p q h k l m. keeps x n p;
  grows = λ a b c d e f g n p q h k l m. (itself (pos 0), itself (pos (2 ^ w - 1)));
}

pub shl-operator : (w : ℕ) → IsPatternOperator (Holds (patterns w)) any (shl_of w) (any_pattern w)
shl-operator w =
    pattern-op shl_of w (λ x n h. natural-pattern w _
    (mod_below (unsigned_abs x * 2 ^ moved w n) (2 ^ w) (pow_pos w)))

turned-pattern : (w place : ℕ) (x : ℤ) → place ≤ w → Holds (patterns w) x
    → Holds (patterns w) (pos (turned w (unsigned_abs x) place))
turned-pattern w place x h p =
    natural-pattern w (turned w (unsigned_abs x) place) (turned-below w (unsigned_abs x) place h (pattern-size w x p))

pub rol-operator : (w : ℕ) → 0 < w → IsPatternOperator (Holds (patterns w)) any (rol_of w) (any_pattern w)
rol-operator w p = pattern-op rol_of w (λ x n. turned-pattern w (w - turns w n) x (omega arith))

pub ror-operator : (w : ℕ) → 0 < w → IsPatternOperator (Holds (patterns w)) any (ror_of w) (any_pattern w)
ror-operator w p =
    pattern-op ror_of w (λ x n. let below : turns w n < w = turns-below w n p in turned-pattern w (turns w n) x
    (omega arith))

-- ---- SHR

moved-up : (w : ℕ) (m n : ℤ) → m ≤ℤ n → moved w m ≤ moved w n
moved-up w (pos m) (pos n) h = omega (arith, ints)
moved-up w (pos m) (negsuc n) h = absurd (omega (arith, ints))
moved-up w (negsuc m) n h = omega arith

pos-le : (m n : ℕ) → m ≤ n → pos m ≤ℤ pos n
pos-le m n h = omega (arith, ints)

-- a greater number by a less count
shr-up : (w : ℕ) (a x m n : ℤ) → pos 0 ≤ℤ a → a ≤ℤ x → n ≤ℤ m → shr_of w a m ≤ℤ shr_of w x n
shr-up w a x m n p h k =
    let first : unsigned_abs a / 2 ^ moved w m ≤ unsigned_abs x / 2 ^ moved w m =
    div-up (unsigned_abs a) (unsigned_abs x) (2 ^ moved w m) (pow_pos (moved w m)) (size-up a x p h) in
    let powers : 2 ^ moved w n ≤ 2 ^ moved w m = pow-le-pow_right {n = 2} (omega arith) (moved-up w n m k) in
    let second : unsigned_abs x / 2 ^ moved w m ≤ unsigned_abs x / 2 ^ moved w n =
    div-down (unsigned_abs x) (2 ^ moved w n) (2 ^ moved w m) (pow_pos (moved w n)) powers in
    pos-le (unsigned_abs a / 2 ^ moved w m) (unsigned_abs x / 2 ^ moved w n)
    (joined (unsigned_abs a / 2 ^ moved w m) (unsigned_abs x / 2 ^ moved w m)
    (unsigned_abs x / 2 ^ moved w n) first second)
  where
    joined : (a b c : ℕ) → a ≤ b → b ≤ c → a ≤ c
    joined a b c h k = omega arith

pub cut-held-shr : (w : ℕ) (i j : Interval)
    → Contains (of_two (shr_of w) (patterns_in w i) j) same (cut_row shr_row w i j)
cut-held-shr w i j =
    held-where same (shr_of w) (shr_at w) (λ i. IsWithin i (patterns w)) (λ j. Unit {0}) at
    (patterns_in w i) j (meet-right i (patterns w)) tt
  where
    at : (a b c d x n : ℤ) → IsWithin (Span a b) (patterns w) → Unit {0} → a ≤ℤ x → x ≤ℤ b → c ≤ℤ n → n ≤ℤ d
        → Holds (shr_at w a b c d) (shr_of w x n)
    at a b c d x n p u h k l m =
        span-holds (shr_of w a d) (shr_of w b c) (shr_of w x n)
        (shr-up w a x d n p.0 h m) (shr-up w x b n c (through (pos 0) a x p.0 h) k l)

abbrev ArePatterns : ℕ → Interval → Interval → Type 0
ArePatterns w i k = IsOrdered i × IsWithin i (patterns w) × IsWithin k (patterns w)

pub cut-larger-shr : (w : ℕ) (i j : Interval) → GrowsTwo (cut_row shr_row w) i j
cut-larger-shr w i j k l h m =
    grows-where (shr_at w) (ArePatterns w) (λ j l. Unit {0}) at (patterns_in w i) j (patterns_in w k) l
    (meet-ordered i (patterns w), meet-right i (patterns w), meet-right k (patterns w)) tt
    (meet-within i k (patterns w) h) m
  where
    at : (a b c d e f g n : ℤ) → ArePatterns w (Span a b) (Span e f) → Unit {0} → e ≤ℤ a → b ≤ℤ f → g ≤ℤ c → d ≤ℤ n
        → IsWithin (shr_at w a b c d) (shr_at w e f g n)
    at a b c d e f g n (o, p, q) u h k l m =
        span-within (shr_of w a d) (shr_of w b c) (shr_of w e n) (shr_of w f g)
        (shr-up w e a n d q.0 h m) (shr-up w b f c g (through (pos 0) a b p.0 o) k l)
