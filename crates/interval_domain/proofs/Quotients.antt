-- Quotients of numbers between others, and the laws of `/`.
use Rattle.std.proofs.Common.{◌≡◌, ◌⊎◌, inl, inr, refl, ℕ, zero, suc, ◌/◌, ◌≤◌, ◌<◌, ℤ, pos, negsuc, ◌≤ℤ◌, ◌<ℤ◌, int_div, arith, subst, sym}
use Rattle.std.specs.Int.{int_max, int_min}
use Rattle.std.proofs.Math.Nat.{mul-le-mul_left, div-mul-le_self}
use Rattle.std.proofs.lemmas.Nat.{le-div}
use Rattle.std.proofs.lemmas.Int.{ints, clamps, by_lt_z}
use Rattle.interval_domain.specs.Interval.{Interval, Empty, Span, Holds, IsWithin, IsOrdered, span}
use Rattle.interval_domain.specs.Operators.{kept}
use Rattle.interval_domain.specs.Arithmetic.{quotient_of, quotients, below_zero, above_zero, div_raw, IsDivisor}
use Rattle.interval_domain.specs.Laws.{of_division}
use Rattle.interval_domain.specs.Stored.{span-ordered, span-reversed}
use Rattle.interval_domain.proofs.Between.{IsBetween, between-kept, between-held, hull_of-within, hull-left, hull-right}
use Rattle.interval_domain.proofs.Bounds.{ordered-low, ordered-high}
use Rattle.interval_domain.proofs.Strict.{Contains, IsLeastFor, GrowsTwo, least-grows-division}
use Rattle.interval_domain.proofs.Within.{hull_least}

-- ---- natural numbers

pub div-up : (a b m : ℕ) → 0 < m → a ≤ b → a / m ≤ b / m
div-up a b m p h = le-div (a / m) b m p (omega (arith, div-mul-le_self a m))

pub div-down : (a p q : ℕ) → 0 < p → p ≤ q → a / q ≤ a / p
div-down a p q h k = le-div (a / q) a p h (omega (arith, mul-le-mul_left (a / q) k, div-mul-le_self a q))

-- ---- by one divisor

by-positive : (k : ℕ) (x z : ℤ) → x ≤ℤ z → int_div x (pos (suc k)) ≤ℤ int_div z (pos (suc k))
by-positive k (pos x) (pos z) h =
    let l : x / suc k ≤ z / suc k = div-up x z (suc k) (omega arith) (omega (arith, ints)) in omega (arith, ints)
by-positive k (pos x) (negsuc z) h = absurd (omega (arith, ints))
by-positive k (negsuc x) (pos z) h = omega (arith, ints)
by-positive k (negsuc x) (negsuc z) h =
    let l : suc z / suc k ≤ suc x / suc k = div-up (suc z) (suc x) (suc k) (omega arith) (omega (arith, ints)) in
    omega (arith, ints)

by-negative : (k : ℕ) (x z : ℤ) → x ≤ℤ z → int_div z (negsuc k) ≤ℤ int_div x (negsuc k)
by-negative k (pos x) (pos z) h =
    let l : x / suc k ≤ z / suc k = div-up x z (suc k) (omega arith) (omega (arith, ints)) in omega (arith, ints)
by-negative k (pos x) (negsuc z) h = absurd (omega (arith, ints))
by-negative k (negsuc x) (pos z) h = omega (arith, ints)
by-negative k (negsuc x) (negsuc z) h =
    let l : suc z / suc k ≤ suc x / suc k = div-up (suc z) (suc x) (suc k) (omega arith) (omega (arith, ints)) in
    omega (arith, ints)

by-first : (a b x y : ℤ) → IsDivisor y → a ≤ℤ x → x ≤ℤ b → IsBetween (int_div a y) (int_div b y) (int_div x y)
by-first a b x (pos zero) n h k = absurd (n refl)
by-first a b x (pos (suc m)) n h k = inl (by-positive m a x h, by-positive m x b k)
by-first a b x (negsuc m) n h k = inr (by-negative m x b k, by-negative m a x h)

-- ---- of one number, by divisors of one sign

of-positive : (x : ℤ) (c d y : ℕ) → 0 < c → c ≤ y → y ≤ d
    → IsBetween (int_div x (pos c)) (int_div x (pos d)) (int_div x (pos y))
of-positive (pos x) c d y p h k =
    let l : x / y ≤ x / c = div-down x c y p h in let m : x / d ≤ x / y = div-down x y d (omega arith) k in
    inr (omega (arith, ints), omega (arith, ints))
of-positive (negsuc x) c d y p h k =
    let l : suc x / y ≤ suc x / c = div-down (suc x) c y p h in let m : suc x / d ≤ suc x / y = div-down (suc x) y d
    (omega arith) k in
    inl (omega (arith, ints), omega (arith, ints))

of-negative : (x : ℤ) (c d y : ℕ) → y ≤ c → d ≤ y
    → IsBetween (int_div x (negsuc c)) (int_div x (negsuc d)) (int_div x (negsuc y))
of-negative (pos x) c d y h k =
    let l : x / suc c ≤ x / suc y = div-down x (suc y) (suc c) (omega arith) (omega arith) in
    let m : x / suc y ≤ x / suc d = div-down x (suc d) (suc y) (omega arith) (omega arith) in
    inr (omega (arith, ints), omega (arith, ints))
of-negative (negsuc x) c d y h k =
    let l : suc x / suc c ≤ suc x / suc y = div-down (suc x) (suc y) (suc c) (omega arith) (omega arith) in
    let m : suc x / suc y ≤ suc x / suc d = div-down (suc x) (suc d) (suc y) (omega arith) (omega arith) in
    inl (omega (arith, ints), omega (arith, ints))

-- all from c to d have one sign
abbrev HasOneSign : ℤ → ℤ → Type 0
HasOneSign c d = (pos 0 <ℤ c) ⊎ (d <ℤ pos 0)

by-second : (x c d y : ℤ) → HasOneSign c d → c ≤ℤ y → y ≤ℤ d → IsBetween (int_div x c) (int_div x d) (int_div x y)
by-second x (pos c) (pos d) (pos y) (inl s) h k =
    of-positive x c d y (omega (arith, ints)) (omega (arith, ints)) (omega (arith, ints))
by-second x (pos c) (pos d) (pos y) (inr s) h k = absurd (omega (arith, ints))
by-second x (pos c) (pos d) (negsuc y) s h k = absurd (omega (arith, ints))
by-second x (pos c) (negsuc d) y s h k = absurd (omega (arith, ints))
by-second x (negsuc c) (pos d) y (inl s) h k = absurd (omega (arith, ints))
by-second x (negsuc c) (pos d) y (inr s) h k = absurd (omega (arith, ints))
by-second x (negsuc c) (negsuc d) (pos y) s h k = absurd (omega (arith, ints))
by-second x (negsuc c) (negsuc d) (negsuc y) s h k = of-negative x c d y (omega (arith, ints)) (omega (arith, ints))

sign-divides : (c d y : ℤ) → HasOneSign c d → c ≤ℤ y → y ≤ℤ d → IsDivisor y
sign-divides c d y (inl s) h k e = absurd (let z : y ≡ pos 0 = e in omega (arith, ints))
sign-divides c d y (inr s) h k e = absurd (let z : y ≡ pos 0 = e in omega (arith, ints))

-- ---- on intervals

held-part : (a b c d x y : ℤ) → HasOneSign c d → Holds (Span a b) x → Holds (Span c d) y
    → Holds (quotients (Span a b) (Span c d)) (kept (quotient_of x y))
held-part a b c d x y s h k =
    let n : IsDivisor y = sign-divides c d y s k.0 k.1 in
    between-held (kept (int_div a c)) (kept (int_div a d)) (kept (int_div b c)) (kept (int_div b d))
    (kept (int_div a y)) (kept (int_div b y)) (kept (int_div x y))
    (between-kept (int_div a c) (int_div a d) (int_div a y) (by-second a c d y s k.0 k.1))
    (between-kept (int_div b c) (int_div b d) (int_div b y) (by-second b c d y s k.0 k.1))
    (between-kept (int_div a y) (int_div b y) (int_div x y) (by-first a b x y n h.0 h.1))

held-below : (a b c d x y : ℤ) → y <ℤ pos 0 → Holds (Span a b) x → Holds (Span c d) y
    → Holds (quotients (Span a b) (below_zero (Span c d))) (kept (quotient_of x y))
held-below a b c d x y s h k =
    subst (λ (j : Interval). Holds (quotients (Span a b) j) (kept (quotient_of x y)))
    (sym (span-ordered c (int_min d (negsuc 0)) (omega (arith, ints, clamps))))
    (held-part a b c (int_min d (negsuc 0)) x y (inr (omega (arith, ints, clamps))) h
    (k.0, omega (arith, ints, clamps)))

held-above : (a b c d x y : ℤ) → pos 0 <ℤ y → Holds (Span a b) x → Holds (Span c d) y
    → Holds (quotients (Span a b) (above_zero (Span c d))) (kept (quotient_of x y))
held-above a b c d x y s h k =
    subst (λ (j : Interval). Holds (quotients (Span a b) j) (kept (quotient_of x y)))
    (sym (span-ordered (int_max c (pos 1)) d (omega (arith, ints, clamps))))
    (held-part a b (int_max c (pos 1)) d x y (inl (omega (arith, ints, clamps))) h (omega (arith, ints, clamps), k.1))

above-or-zero : (y : ℤ) → IsDivisor y → pos 0 ≤ℤ y → pos 0 <ℤ y
above-or-zero (pos zero) n h = absurd (n refl)
above-or-zero (pos (suc k)) n h = omega (arith, ints)
above-or-zero (negsuc k) n h = absurd (omega (arith, ints))

held-quotient : (i j : Interval) (x y : ℤ) → Holds i x → Holds j y → IsDivisor y
    → Holds (div_raw i j) (kept (quotient_of x y))
held-quotient Empty j x y h k n = absurd h
held-quotient (Span a b) Empty x y h k n = absurd k
held-quotient (Span a b) (Span c d) x y h k n =
    by_lt_z y (pos 0)
    (λ s. hull-left (quotients (Span a b) (below_zero (Span c d))) (quotients (Span a b) (above_zero (Span c d)))
    (kept (quotient_of x y)) (held-below a b c d x y s h k))
    (λ s. hull-right (quotients (Span a b) (below_zero (Span c d))) (quotients (Span a b) (above_zero (Span c d)))
    (kept (quotient_of x y)) (held-above a b c d x y (above-or-zero y n s) h k))

pub held-div : (i j : Interval) → Contains (of_division quotient_of i j) kept (div_raw i j)
held-div i j z (x, y, h, k, n, e) =
    subst (λ (v : ℤ). Holds (div_raw i j) (kept v)) e (held-quotient i j x y h k n)

-- the part by divisors in order that are in j
part-within : (a b c d : ℤ) (k : Interval) → a ≤ℤ b
    → ((x y : ℤ) → Holds (Span a b) x → Holds (Span c d) y → Holds k (kept (quotient_of x y)))
    → IsWithin (quotients (Span a b) (span c d)) k
part-within a b c d k p all =
    by_lt_z d c
    (λ r. subst (λ (j : Interval). IsWithin (quotients (Span a b) j) k) (sym (span-reversed c d r)) tt)
    (λ o. subst (λ (j : Interval). IsWithin (quotients (Span a b) j) k) (sym (span-ordered c d o))
    (hull_of-within (kept (int_div a c)) (kept (int_div a d)) (kept (int_div b c)) (kept (int_div b d)) k
    (all a c (ordered-low a b p) (ordered-low c d o)) (all a d (ordered-low a b p) (ordered-high c d o))
    (all b c (ordered-high a b p) (ordered-low c d o)) (all b d (ordered-high a b p) (ordered-high c d o))))

not-zero : (c d y : ℤ) → (d ≤ℤ negsuc 0) ⊎ (pos 1 ≤ℤ c) → c ≤ℤ y → y ≤ℤ d → IsDivisor y
not-zero c d y (inl s) h k = sign-divides c d y (inr (omega (arith, ints))) h k
not-zero c d y (inr s) h k = sign-divides c d y (inl (omega (arith, ints))) h k

least-quotient : (i j : Interval) → IsOrdered i → (k : Interval)
    → ((x y : ℤ) → Holds i x → Holds j y → IsDivisor y → Holds k (kept (quotient_of x y))) → IsWithin (div_raw i j) k
least-quotient Empty j p k all = tt
least-quotient (Span a b) Empty p k all = tt
least-quotient (Span a b) (Span c d) p k all =
    hull_least (quotients (Span a b) (below_zero (Span c d))) (quotients (Span a b) (above_zero (Span c d))) k
    (part-within a b c (int_min d (negsuc 0)) k p
    (λ x y h l. all x y h (l.0, omega (arith, ints, clamps, l.1))
    (not-zero c (int_min d (negsuc 0)) y (inl (omega (arith, ints, clamps))) l.0 l.1)))
    (part-within a b (int_max c (pos 1)) d k p
    (λ x y h l. all x y h (omega (arith, ints, clamps, l.0), l.1)
    (not-zero (int_max c (pos 1)) d y (inr (omega (arith, ints, clamps))) l.0 l.1)))

pub least-div : (i j : Interval) → IsOrdered i → IsLeastFor (of_division quotient_of i j) kept (div_raw i j)
least-div i j p k all = least-quotient i j p k (λ x y h l n. all (quotient_of x y) (x, y, h, l, n, refl))

pub larger-div : (i j : Interval) → IsOrdered i → GrowsTwo div_raw i j
larger-div i j p = least-grows-division kept quotient_of div_raw held-div i j (least-div i j p)
