-- Products of numbers between others, and the laws of `*`.
use Rattle.std.proofs.Common.{inl, inr, ℕ, suc, ◌*◌, ◌≤◌, ℤ, pos, negsuc, ◌≤ℤ◌, ◌*ℤ◌, arith, refl}
use Rattle.std.proofs.Math.Nat.{mul-le-mul_left}
use Rattle.std.proofs.Math.IntN.{*ℤ_comm}
use Rattle.std.proofs.lemmas.Int.{ints}
use Rattle.interval_domain.specs.Interval.{Interval, Span, Holds, IsOrdered}
use Rattle.interval_domain.specs.Operators.{kept}
use Rattle.interval_domain.specs.Arithmetic.{product_of, mul_at, mul_raw}
use Rattle.interval_domain.specs.Laws.{of_two}
use Rattle.interval_domain.proofs.Between.{IsBetween, between-kept, between-held, hull_of-within}
use Rattle.interval_domain.proofs.Bounds.{ordered-low, ordered-high}
use Rattle.interval_domain.proofs.Strict.{Contains, IsLeastFor, GrowsTwo, held-two, least-two, least-grows-two}

scaled : (n c d : ℕ) → c ≤ d → n * c ≤ n * d
scaled n c d h = mul-le-mul_left n h

up-by : (n : ℕ) (c y : ℤ) → c ≤ℤ y → (pos n *ℤ c) ≤ℤ (pos n *ℤ y)
up-by n (pos c) (pos y) h = let k : n * c ≤ n * y = scaled n c y (omega (arith, ints)) in omega (arith, ints)
up-by n (pos c) (negsuc y) h = absurd (omega (arith, ints))
up-by n (negsuc c) (pos y) h = omega (arith, ints)
up-by n (negsuc c) (negsuc y) h =
    let k : n * suc y ≤ n * suc c = scaled n (suc y) (suc c) (omega (arith, ints)) in omega (arith, ints)

down-by : (n : ℕ) (c y : ℤ) → c ≤ℤ y → (negsuc n *ℤ y) ≤ℤ (negsuc n *ℤ c)
down-by n (pos c) (pos y) h =
    let k : suc n * c ≤ suc n * y = scaled (suc n) c y (omega (arith, ints)) in omega (arith, ints)
down-by n (pos c) (negsuc y) h = absurd (omega (arith, ints))
down-by n (negsuc c) (pos y) h = omega (arith, ints)
down-by n (negsuc c) (negsuc y) h =
    let k : suc n * suc y ≤ suc n * suc c = scaled (suc n) (suc y) (suc c) (omega (arith, ints)) in
    omega (arith, ints)

by-second : (x c d y : ℤ) → c ≤ℤ y → y ≤ℤ d → IsBetween (x *ℤ c) (x *ℤ d) (x *ℤ y)
by-second (pos n) c d y h k = inl (up-by n c y h, up-by n y d k)
by-second (negsuc n) c d y h k = inr (down-by n y d k, down-by n c y h)

by-first : (a b x y : ℤ) → a ≤ℤ x → x ≤ℤ b → IsBetween (a *ℤ y) (b *ℤ y) (x *ℤ y)
by-first a b x y h k = rw (*ℤ_comm a y, *ℤ_comm b y, *ℤ_comm x y) (by-second y a b x h k)

pub held-mul : (i j : Interval) → Contains (of_two product_of i j) kept (mul_raw i j)
held-mul = held-two kept product_of mul_at at
  where
    at : (a b c d x y : ℤ) → a ≤ℤ x → x ≤ℤ b → c ≤ℤ y → y ≤ℤ d → Holds (mul_at a b c d) (kept (product_of x y))
    at a b c d x y h k l m =
        between-held (kept (a *ℤ c)) (kept (a *ℤ d)) (kept (b *ℤ c)) (kept (b *ℤ d)) (kept (a *ℤ y)) (kept (b *ℤ y))
        (kept (x *ℤ y))
        (between-kept (a *ℤ c) (a *ℤ d) (a *ℤ y) (by-second a c d y l m))
        (between-kept (b *ℤ c) (b *ℤ d) (b *ℤ y) (by-second b c d y l m))
        (between-kept (a *ℤ y) (b *ℤ y) (x *ℤ y) (by-first a b x y h k))

pub least-mul : (i j : Interval) → IsOrdered i → IsOrdered j → IsLeastFor (of_two product_of i j) kept (mul_raw i j)
least-mul = least-two (λ i j. of_two product_of i j) kept mul_at at
  where
    at : (a b c d : ℤ) → a ≤ℤ b → c ≤ℤ d → IsLeastFor (of_two product_of (Span a b) (Span c d)) kept (mul_at a b c d)
    at a b c d p q k all =
        hull_of-within (kept (a *ℤ c)) (kept (a *ℤ d)) (kept (b *ℤ c)) (kept (b *ℤ d)) k
        (all (a *ℤ c) (a, c, ordered-low a b p, ordered-low c d q, refl))
        (all (a *ℤ d) (a, d, ordered-low a b p, ordered-high c d q, refl))
        (all (b *ℤ c) (b, c, ordered-high a b p, ordered-low c d q, refl))
        (all (b *ℤ d) (b, d, ordered-high a b p, ordered-high c d q, refl))

pub larger-mul : (i j : Interval) → IsOrdered i → IsOrdered j → GrowsTwo mul_raw i j
larger-mul i j p q = least-grows-two kept product_of mul_raw held-mul i j (least-mul i j p q)
