-- Remainders of numbers between others, and the laws of MOD.
use Rattle.std.proofs.Common.{◌≡◌, refl, ℕ, zero, suc, max, ◌%◌, ◌≤◌, ◌<◌, ℤ, pos, negsuc, ◌≤ℤ◌, ◌<ℤ◌, ◌+ℤ◌, ◌-ℤ◌, ◌*ℤ◌, int_div, unsigned_abs, arith, subst, sym}
use Rattle.std.specs.Int.RustNames.{int_rem}
use Rattle.std.proofs.Math.Nat.{mod-lt, mod-le}
use Rattle.std.proofs.lemmas.Int.{ints, clamps, by_lt_z, quot-rem}
use Rattle.interval_domain.specs.Interval.{Interval, Empty, Span, Holds, IsWithin, IsOrdered, span}
use Rattle.interval_domain.specs.Arithmetic.{remainder_of, remainders, least_remainder, greatest_remainder, modulo_at, modulo_row, IsDivisor}
use Rattle.interval_domain.specs.Laws.{of_division, same}
use Rattle.interval_domain.proofs.Laws.{span-holds, span-within}
use Rattle.interval_domain.proofs.Orders.{not-none, lt-yes, lt-no}
use Rattle.interval_domain.proofs.Strict.{Contains, GrowsTwo, grows-where}

-- ---- one remainder

from-sum : (x q r : ℤ) → q +ℤ r ≡ x → x -ℤ q ≡ r
from-sum x q r e = omega (arith, ints)

remainder-is : (x y : ℤ) → remainder_of x y ≡ int_rem x y
remainder-is x y = from-sum x (int_div x y *ℤ y) (int_rem x y) (quot-rem x y)

-- between 0 and the number, and of less size than m
pub record IsRest (x : ℤ) (m : ℕ) (r : ℤ) : Type 0 where
  pub low : (pos 1 -ℤ pos m) ≤ℤ r
  pub high : r ≤ℤ (pos m -ℤ pos 1)
  pub above : pos 0 ≤ℤ x → (pos 0 ≤ℤ r) × (r ≤ℤ x)
  pub below : x <ℤ pos 0 → (x ≤ℤ r) × (r ≤ℤ pos 0)

rest-of : (x y : ℤ) (m : ℕ) → 0 < unsigned_abs y → unsigned_abs y ≤ m → IsRest x m (int_rem x y)
rest-of (pos x) y m h k =
    let l : x % unsigned_abs y ≤ x = mod-le x (unsigned_abs y) in
    let s : x % unsigned_abs y < unsigned_abs y = mod-lt x h in
    record {
      low = omega (arith, ints);
      high = omega (arith, ints);
      above = λ p. (omega (arith, ints), omega (arith, ints));
      below = λ p. absurd (omega (arith, ints));
    }
rest-of (negsuc x) y m h k =
    let l : suc x % unsigned_abs y ≤ suc x = mod-le (suc x) (unsigned_abs y) in
    let s : suc x % unsigned_abs y < unsigned_abs y = mod-lt (suc x) h in
    record {
      low = omega (arith, ints);
      high = omega (arith, ints);
      above = λ p. absurd (omega (arith, ints));
      below = λ p. (omega (arith, ints), omega (arith, ints));
    }

size-above : (y : ℤ) → IsDivisor y → 0 < unsigned_abs y
size-above (pos zero) n = absurd (n refl)
size-above (pos (suc k)) n = omega arith
size-above (negsuc k) n = omega arith

size-within : (c d y : ℤ) → c ≤ℤ y → y ≤ℤ d → unsigned_abs y ≤ max (unsigned_abs c) (unsigned_abs d)
size-within (pos c) (pos d) (pos y) h k = omega (arith, ints)
size-within (pos c) (pos d) (negsuc y) h k = absurd (omega (arith, ints))
size-within (pos c) (negsuc d) (pos y) h k = absurd (omega (arith, ints))
size-within (pos c) (negsuc d) (negsuc y) h k = absurd (omega (arith, ints))
size-within (negsuc c) (pos d) (pos y) h k = omega (arith, ints)
size-within (negsuc c) (pos d) (negsuc y) h k = omega (arith, ints)
size-within (negsuc c) (negsuc d) (pos y) h k = absurd (omega (arith, ints))
size-within (negsuc c) (negsuc d) (negsuc y) h k = omega (arith, ints)

-- ---- the bounds

least-le : (a x : ℤ) (m : ℕ) (r : ℤ) → 0 < m → a ≤ℤ x → IsRest x m r → least_remainder a m ≤ℤ r
least-le a x m r p h k =
    let low : (pos 1 -ℤ pos m) ≤ℤ r = k.low in
    by_lt_z a (pos 0)
    (λ s. rw (lt-yes a (pos 0) s)
    (by_lt_z x (pos 0)
    (λ u. let b : (x ≤ℤ r) × (r ≤ℤ pos 0) = k.below u in omega (arith, ints, clamps))
    (λ u. let b : (pos 0 ≤ℤ r) × (r ≤ℤ x) = k.above u in omega (arith, ints, clamps))))
    (λ s. rw (lt-no a (pos 0) s) (k.above (omega (arith, ints))).0)

greatest-ge : (b x : ℤ) (m : ℕ) (r : ℤ) → 0 < m → x ≤ℤ b → IsRest x m r → r ≤ℤ greatest_remainder b m
greatest-ge b x m r p h k =
    let high : r ≤ℤ (pos m -ℤ pos 1) = k.high in
    by_lt_z (pos 0) b
    (λ s. rw (lt-yes (pos 0) b s)
    (by_lt_z x (pos 0)
    (λ u. let c : (x ≤ℤ r) × (r ≤ℤ pos 0) = k.below u in omega (arith, ints, clamps))
    (λ u. let c : (pos 0 ≤ℤ r) × (r ≤ℤ x) = k.above u in omega (arith, ints, clamps))))
    (λ s. rw (lt-no (pos 0) b s)
    (by_lt_z x (pos 0)
    (λ u. (k.below u).1)
    (λ u. let c : (pos 0 ≤ℤ r) × (r ≤ℤ x) = k.above u in omega (arith, ints))))

pub remainders-of : (a b : ℤ) (m : ℕ) → 0 < m → remainders a b m ≡ span (least_remainder a m) (greatest_remainder b m)
remainders-of a b m h = rw (not-none m h) refl

held-at : (a b c d x y : ℤ) → IsDivisor y → a ≤ℤ x → x ≤ℤ b → c ≤ℤ y → y ≤ℤ d
    → Holds (modulo_at a b c d) (remainder_of x y)
held-at a b c d x y n h k l m =
    let size : ℕ = max (unsigned_abs c) (unsigned_abs d) in
    let above : 0 < unsigned_abs y = size-above y n in
    let within : unsigned_abs y ≤ size = size-within c d y l m in
    let some : 0 < size = omega arith in
    let rest = rest-of x y size above within in
    subst (λ (i : Interval). Holds i (remainder_of x y)) (sym (remainders-of a b size some))
    (subst (λ (r : ℤ). Holds (span (least_remainder a size) (greatest_remainder b size)) r) (sym (remainder-is x y))
    (span-holds (least_remainder a size) (greatest_remainder b size) (int_rem x y)
    (least-le a x size (int_rem x y) some h rest) (greatest-ge b x size (int_rem x y) some k rest)))

pub held-modulo : (i j : Interval) → Contains (of_division remainder_of i j) same (modulo_row i j)
held-modulo Empty j z (x, y, h, k, n, e) = absurd h
held-modulo (Span a b) Empty z (x, y, h, k, n, e) = absurd k
held-modulo (Span a b) (Span c d) z (x, y, h, k, n, e) =
    subst (λ (v : ℤ). Holds (modulo_at a b c d) v) e (held-at a b c d x y n h.0 h.1 k.0 k.1)

-- ---- larger operands

least-falls : (e a : ℤ) (k m : ℕ) → 0 < m → m ≤ k → e ≤ℤ a → least_remainder e k ≤ℤ least_remainder a m
least-falls e a k m p q h =
    by_lt_z e (pos 0)
    (λ s. rw (lt-yes e (pos 0) s)
    (by_lt_z a (pos 0)
    (λ u. rw (lt-yes a (pos 0) u) (omega (arith, ints, clamps)))
    (λ u. rw (lt-no a (pos 0) u) (omega (arith, ints, clamps)))))
    (λ s. let above : pos 0 ≤ℤ a = omega (arith, ints) in rw (lt-no e (pos 0) s, lt-no a (pos 0) above)
    (omega (arith, ints)))

greatest-rises : (b f : ℤ) (k m : ℕ) → 0 < m → m ≤ k → b ≤ℤ f → greatest_remainder b m ≤ℤ greatest_remainder f k
greatest-rises b f k m p q h =
    by_lt_z (pos 0) b
    (λ s. let above : pos 0 <ℤ f = omega (arith, ints) in rw (lt-yes (pos 0) b s, lt-yes (pos 0) f above)
    (omega (arith, ints, clamps)))
    (λ s. rw (lt-no (pos 0) b s)
    (by_lt_z (pos 0) f
    (λ u. rw (lt-yes (pos 0) f u) (omega (arith, ints, clamps)))
    (λ u. rw (lt-no (pos 0) f u) (omega (arith, ints)))))

remainders-within : (a b e f : ℤ) (m k : ℕ) → m ≤ k → e ≤ℤ a → b ≤ℤ f → IsWithin (remainders a b m) (remainders e f k)
remainders-within a b e f zero k h l r = tt
remainders-within a b e f (suc m) zero h l r = absurd (omega arith)
remainders-within a b e f (suc m) (suc k) h l r =
    rw (not-none (suc m) (omega arith), not-none (suc k) (omega arith))
    (span-within (least_remainder a (suc m)) (greatest_remainder b (suc m)) (least_remainder e (suc k))
    (greatest_remainder f (suc k))
    (least-falls e a (suc k) (suc m) (omega arith) h l) (greatest-rises b f (suc k) (suc m) (omega arith) h r))

pub larger-modulo : (i j : Interval) → IsOrdered j → GrowsTwo modulo_row i j
larger-modulo i j o k l =
    grows-where modulo_at (λ i k. Unit {0}) (λ j l. IsOrdered j) at i j k l tt o
  where
    at : (a b c d e f g n : ℤ) → Unit {0} → c ≤ℤ d → e ≤ℤ a → b ≤ℤ f → g ≤ℤ c → d ≤ℤ n
        → IsWithin (modulo_at a b c d) (modulo_at e f g n)
    at a b c d e f g n u o h k l m =
        let low : unsigned_abs c ≤ max (unsigned_abs g) (unsigned_abs n) = size-within g n c l
        (omega (arith, ints)) in
        let high : unsigned_abs d ≤ max (unsigned_abs g) (unsigned_abs n) = size-within g n d
        (omega (arith, ints)) m in
        remainders-within a b e f (max (unsigned_abs c) (unsigned_abs d)) (max (unsigned_abs g) (unsigned_abs n))
        (omega arith) h k
