-- Bit patterns between others, and what AND, OR, XOR and NOT make of them.
use Rattle.std.proofs.Common.{◌≡◌, inl, inr, refl, ap, ◌∙◌, int_le, ℕ, zero, suc, ◌+◌, ◌*◌, ◌/◌, ◌%◌, ◌-◌, ◌^◌, ◌≤◌, ◌<◌, Bool, ℤ, pos, negsuc, ◌≤ℤ◌, ◌-ℤ◌, unsigned_abs, bit_and, bit_or, bit_xor, FitsSigned, to_z, arith, subst, sym}
use Rattle.std.specs.Int.{int_max, int_min}
use Rattle.std.specs.Int.Count.{count_leading_zeros, leading_unique}
use Rattle.std.proofs.Math.Nat.{pow-le-pow_right, pow-suc}
use Rattle.std.proofs.lemmas.Nat.{and_le_l, and_le_r, or_lt, xor_lt, le_or_l, le_or_r, div-add-mod', mod_below, one_shl, pow_pos}
use Rattle.std.proofs.lemmas.Bool.{cases_lt}
use Rattle.std.proofs.lemmas.Int.{ints, clamps, to_z_pos}
use mir.Syntax.{w128}
use Rattle.iec_tables.specs.declared.elem.Elem.{Elem}
use Rattle.iec_tables.specs.Types.{width_of}
use Rattle.interval_domain.specs.Interval.{Interval, Empty, Span, IsWithin}
use Rattle.interval_domain.specs.Bits.{all_ones, bits_range, patterns_in, words, and_of, or_of, xor_of, not_of, digits, ones_above, IsOnesAbove, and_other, or_other, xor_other, mirrored_at, cut_not_row}
use Rattle.interval_domain.specs.Laws.{of_one, same}
use Rattle.interval_domain.proofs.Between.{holds-within, meet-right}
use Rattle.interval_domain.proofs.EachType.{for-each-type}
use Rattle.interval_domain.proofs.Laws.{span-holds, span-within, meet-within}
use Rattle.interval_domain.proofs.Orders.{le-is, not-none, through, itself}
use Rattle.interval_domain.proofs.PatternRow.{IsPatternOperator, AreAll}
use Rattle.interval_domain.proofs.Strict.{Contains, GrowsOne, held-one, rises-one}

-- ---- binary digits

halved : (n : ℕ) → (n / 2 * 2 ≤ n) × (n ≤ n / 2 * 2 + 1)
halved n =
    let e : n / 2 * 2 + n % 2 ≡ n = div-add-mod' n 2 in let r : n % 2 < 2 = mod_below n 2 (omega arith) in
    (omega arith, omega arith)

half-up : (n m : ℕ) → n ≤ m → n / 2 ≤ m / 2
half-up n m h = let a = halved n in let b = halved m in omega arith

digits-more : (k n : ℕ) → 0 < n → digits (suc k) n ≡ suc (digits k (n / 2))
unfolding digits
digits-more k n h = rw (not-none n h) refl

digits-zero : (k : ℕ) → digits k 0 ≡ 0
unfolding digits
digits-zero zero = refl
digits-zero (suc k) = refl

pub digits-rise : (k n m : ℕ) → n ≤ m → digits k n ≤ digits k m
unfolding digits
digits-rise zero n m h = omega arith
digits-rise (suc k) zero m h = omega (arith, digits-zero (suc k))
digits-rise (suc k) (suc n) zero h = absurd (omega arith)
digits-rise (suc k) (suc n) (suc m) h =
    omega (
      arith,
      digits-more k (suc n) (omega arith),
      digits-more k (suc m) (omega arith),
      digits-rise k (suc n / 2)
          (suc m / 2) (half-up (suc n) (suc m) h),
    )

-- the power of the digits is the least above the number
even-above : (p h n : ℕ) → h * 2 ≤ n → n ≤ h * 2 + 1 → h < p → n < 2 * p
even-above p h n a b c = omega arith

power-below : (d h n : ℕ) → 2 ^ d ≤ 2 * h + 1 → h * 2 ≤ n → 0 < n → 2 ^ d ≤ n
power-below zero h n a b c = omega arith
power-below (suc d) h n a b c = let e : 2 ^ suc d ≡ 2 ^ d * 2 = pow-suc 2 d in omega arith

step-bounds : (d h n : ℕ) → (h < 2 ^ d) × (2 ^ d ≤ 2 * h + 1) → (h * 2 ≤ n) × (n ≤ h * 2 + 1) → 0 < n
    → (n < 2 ^ suc d) × (2 ^ suc d ≤ 2 * n + 1)
step-bounds d h n a b c =
    let e : 2 ^ suc d ≡ 2 ^ d * 2 = pow-suc 2 d in
    let l : 2 ^ d ≤ n = power-below d h n a.1 b.0 c in (omega arith, omega arith)

digits-bounds : (k n : ℕ) → n < 2 ^ k → (n < 2 ^ digits k n) × (2 ^ digits k n ≤ 2 * n + 1)
unfolding digits
digits-bounds zero n h = (h, omega arith)
digits-bounds (suc k) zero h = (omega arith, omega arith)
digits-bounds (suc k) (suc n) h =
    let e : 2 ^ suc k ≡ 2 ^ k * 2 = pow-suc 2 k in
    let half = halved (suc n) in
    let below : suc n / 2 < 2 ^ k = omega arith in
    subst (λ (d : ℕ). (suc n < 2 ^ d) × (2 ^ d ≤ 2 * suc n + 1)) (sym (digits-more k (suc n) (omega arith)))
    (step-bounds (digits k (suc n / 2)) (suc n / 2) (suc n) (digits-bounds k (suc n / 2) below) half (omega arith))

digits-le : (k n : ℕ) → digits k n ≤ k
unfolding digits
digits-le zero n = omega arith
digits-le (suc k) zero = omega (arith, digits-zero (suc k))
digits-le (suc k) (suc n) = omega (arith, digits-more k (suc n) (omega arith), digits-le k (suc n / 2))

-- ---- what the code computes

few-digits : (d n : ℕ) → n < 2 ^ 127 → 2 ^ d ≤ 2 * n + 1 → d < 128
few-digits d n h k =
    elim (cases_lt d 128) [
      | inl l ↦ l
      | inr l ↦ let more : 2 ^ 128 ≤ 2 ^ d = pow-le-pow_right {n = 2} (omega arith) l in absurd (omega arith)
    ]

leading-digits : (n : ℕ) → n < 2 ^ 127 → (128 - count_leading_zeros 128 n ≡ digits 128 n) × (digits 128 n < 128)
leading-digits n h =
    let wide : n < 2 ^ 128 = omega arith in
    let bounds = digits-bounds 128 n wide in
    let le : digits 128 n ≤ 128 = digits-le 128 n in
    let whole : (128 - digits 128 n) + digits 128 n ≡ 128 = omega arith in
    let e : 128 - digits 128 n ≡ count_leading_zeros 128 n = leading_unique 128 n (128 - digits 128 n)
    (digits 128 n) whole bounds.0 bounds.1 in
    (omega arith, few-digits (digits 128 n) n h bounds.1)

-- a natural number of 127 bits
abbrev pub IsSmall : ℤ → Type 0
IsSmall z = (pos 0 ≤ℤ z) × FitsSigned w128 z

small-size : (z : ℤ) → IsSmall z → unsigned_abs z < 2 ^ 127
small-size (pos n) h = h.1.sfits
small-size (negsuc n) h = absurd (omega (arith, ints, h.0))

fits-natural : (n : ℕ) → n < 2 ^ 127 → FitsSigned w128 (pos n)
fits-natural n h = record { sfits = h }

pub shift-below : (z : ℤ) → IsSmall z → 128 - count_leading_zeros 128 (unsigned_abs z) < 128
shift-below z h = let e = leading-digits (unsigned_abs z) (small-size z h) in omega arith

pub shifted : (z : ℤ) → IsSmall z
    → 1 * 2 ^ (128 - count_leading_zeros 128 (unsigned_abs z)) % 340282366920938463463374607431768211456 ≡ 2 ^ digits 128 (unsigned_abs z)
shifted z h =
    let e = leading-digits (unsigned_abs z) (small-size z h) in
    ap (λ k. 1 * 2 ^ k % 340282366920938463463374607431768211456) e.0 ∙ one_shl (digits 128 (unsigned_abs z)) 128 e.1

power-fits : (d : ℕ) → d < 128 → 2 ^ d - 1 < 2 ^ 127
power-fits d h =
    let l : 2 ^ d ≤ 2 ^ 127 = pow-le-pow_right {n = 2} (omega arith) {j = 127} (omega arith) in
    let p : 0 < 2 ^ d = pow_pos d in omega arith

pub shifted-some : (z : ℤ) → IsSmall z
    → 1 ≤ 1 * 2 ^ (128 - count_leading_zeros 128 (unsigned_abs z)) % 340282366920938463463374607431768211456
shifted-some z h =
    let p : 0 < 2 ^ digits 128 (unsigned_abs z) = pow_pos (digits 128 (unsigned_abs z)) in omega (arith, shifted z h)

pub shifted-fits : (z : ℤ) → IsSmall z
    → FitsSigned w128 (pos (1 * 2 ^ (128 - count_leading_zeros 128 (unsigned_abs z)) % 340282366920938463463374607431768211456 - 1))
shifted-fits z h =
    let e = leading-digits (unsigned_abs z) (small-size z h) in
    let l : 2 ^ digits 128 (unsigned_abs z) - 1 < 2 ^ 127 = power-fits (digits 128 (unsigned_abs z)) e.1 in
    fits-natural _ (omega (arith, shifted z h))

pub shifted-is : (z : ℤ) → IsSmall z
    → to_z w128 (1 * 2 ^ (128 - count_leading_zeros 128 (unsigned_abs z)) % 340282366920938463463374607431768211456 - 1) ≡ ones_above z
shifted-is z h =
    to_z_pos w128 _ (shifted-fits z h).sfits ∙ ap (λ n. pos (n - 1)) (shifted z h)

pub or-fits : (x y : ℤ) → IsSmall x → IsSmall y → FitsSigned w128 (pos (bit_or (unsigned_abs x) (unsigned_abs y)))
or-fits x y h k = fits-natural _ (or_lt 127 (unsigned_abs x) (unsigned_abs y) (small-size x h) (small-size y k))

pub xor-fits : (x y : ℤ) → IsSmall x → IsSmall y → FitsSigned w128 (pos (bit_xor (unsigned_abs x) (unsigned_abs y)))
xor-fits x y h k = fits-natural _ (xor_lt 127 (unsigned_abs x) (unsigned_abs y) (small-size x h) (small-size y k))

size-is : (z : ℤ) → pos 0 ≤ℤ z → pos (unsigned_abs z) ≡ z
size-is (pos n) h = refl
size-is (negsuc n) h = absurd (omega (arith, ints))

at-most : (m k n : ℕ) → 2 ^ m ≤ 2 * n + 1 → n < 2 ^ k → m ≤ k
at-most m k n h l =
    elim (cases_lt k m) [
      | inl more ↦
          let e : 2 ^ suc k ≡ 2 ^ k * 2 = pow-suc 2 k in
          let up : 2 ^ suc k ≤ 2 ^ m = pow-le-pow_right {n = 2} (omega arith) more in absurd (omega arith)
      | inr le ↦ le
    ]

less-ones : (p q : ℕ) → p ≤ q → pos (p - 1) ≤ℤ pos (q - 1)
less-ones p q h = omega (arith, ints)

below-power : (n p : ℕ) → 0 < p → pos n ≤ℤ pos (p - 1) → n < p
below-power n p h k = omega (arith, ints)

power-above : (n p : ℕ) → n < p → pos n ≤ℤ pos (p - 1)
power-above n p h = omega (arith, ints)

ones-of : (n : ℕ) → n < 2 ^ 128 → IsOnesAbove (pos n) (ones_above (pos n))
ones-of n h =
    let bounds = digits-bounds 128 n h in
    record {
      ones = (digits 128 n, refl);
      above = power-above n (2 ^ digits 128 n) bounds.0;
      least = λ k l. less-ones (2 ^ digits 128 n) (2 ^ k)
          (pow-le-pow_right {n = 2} (omega arith)
          (at-most (digits 128 n) k n bounds.1 (below-power n (2 ^ k) (pow_pos k) l)));
    }

pub ones_above-is : (z r : ℤ) → IsSmall z → r ≡ ones_above z → IsOnesAbove z r
ones_above-is z r h e =
    let small : unsigned_abs z < 2 ^ 127 = small-size z h in
    let same : pos (unsigned_abs z) ≡ z = size-is z h.0 in
    subst (λ (r : ℤ). IsOnesAbove z r) (sym e)
    (subst (λ (z : ℤ). IsOnesAbove z (ones_above z)) same (ones-of (unsigned_abs z) (omega arith)))

-- ---- AND, OR and XOR of natural numbers

pub size-up : (x z : ℤ) → pos 0 ≤ℤ x → x ≤ℤ z → unsigned_abs x ≤ unsigned_abs z
size-up (pos x) (pos z) h k = omega (arith, ints)
size-up (pos x) (negsuc z) h k = absurd (omega (arith, ints))
size-up (negsuc x) z h k = absurd (omega (arith, ints))

power-up : (d e : ℕ) → d ≤ e → 2 ^ d ≤ 2 ^ e
power-up d e h = pow-le-pow_right {n = 2} (omega arith) h

-- a pattern has no more digits than a number above it
digits-hold : (x z : ℤ) → pos 0 ≤ℤ x → x ≤ℤ pos (2 ^ 64 - 1) → x ≤ℤ z
    → unsigned_abs x < 2 ^ digits 128 (unsigned_abs z)
digits-hold x z h k l =
    let s : pos (unsigned_abs x) ≡ x = size-is x h in
    let small : unsigned_abs x < 2 ^ 128 = omega (arith, ints) in
    let own : unsigned_abs x < 2 ^ digits 128 (unsigned_abs x) = (digits-bounds 128 (unsigned_abs x) small).0 in
    let more : 2 ^ digits 128 (unsigned_abs x) ≤ 2 ^ digits 128 (unsigned_abs z) =
    power-up (digits 128 (unsigned_abs x)) (digits 128 (unsigned_abs z))
    (digits-rise 128 (unsigned_abs x) (unsigned_abs z) (size-up x z h l)) in
    omega arith

ones-rise : (x z : ℤ) → pos 0 ≤ℤ x → x ≤ℤ z → ones_above x ≤ℤ ones_above z
ones-rise x z h k =
    let more : 2 ^ digits 128 (unsigned_abs x) ≤ 2 ^ digits 128 (unsigned_abs z) =
    power-up (digits 128 (unsigned_abs x)) (digits 128 (unsigned_abs z))
    (digits-rise 128 (unsigned_abs x) (unsigned_abs z) (size-up x z h k)) in
    natural-le (2 ^ digits 128 (unsigned_abs x)) (2 ^ digits 128 (unsigned_abs z)) more
  where
    natural-le : (p q : ℕ) → p ≤ q → pos (p - 1) ≤ℤ pos (q - 1)
    natural-le p q h = omega (arith, ints)

-- patterns
abbrev pub IsPattern : ℤ → Type 0
IsPattern z = (pos 0 ≤ℤ z) × (z ≤ℤ pos (2 ^ 64 - 1))

and-bounds : (x y b d : ℤ) → IsPattern x → IsPattern y → x ≤ℤ b → y ≤ℤ d → (pos 0 ≤ℤ and_of x y)
    × (and_of x y ≤ℤ int_min b d)
and-bounds x y b d p q h k =
    let sx : pos (unsigned_abs x) ≡ x = size-is x p.0 in
    let sy : pos (unsigned_abs y) ≡ y = size-is y q.0 in
    let l : bit_and (unsigned_abs x) (unsigned_abs y) ≤ unsigned_abs x = and_le_l (unsigned_abs x) (unsigned_abs y) in
    let r : bit_and (unsigned_abs x) (unsigned_abs y) ≤ unsigned_abs y = and_le_r (unsigned_abs x) (unsigned_abs y) in
    bounds x y b d (unsigned_abs x) (unsigned_abs y) (bit_and (unsigned_abs x) (unsigned_abs y)) sx sy l r h k
  where
    bounds : (x y b d : ℤ) (m n r : ℕ) → pos m ≡ x → pos n ≡ y → r ≤ m → r ≤ n → x ≤ℤ b → y ≤ℤ d → (pos 0 ≤ℤ pos r)
        × (pos r ≤ℤ int_min b d)
    bounds x y b d m n r e f g i j k = (omega (arith, ints), omega (arith, ints, clamps))

below-ones : (r p : ℕ) → r < p → pos r ≤ℤ pos (p - 1)
below-ones r p h = omega (arith, ints)

-- what lies below the greater of two
le-greater-left : (x b d : ℤ) → x ≤ℤ b → x ≤ℤ int_max b d
le-greater-left x b d h = omega (arith, ints, clamps)

le-greater-right : (y b d : ℤ) → y ≤ℤ d → y ≤ℤ int_max b d
le-greater-right y b d h = omega (arith, ints, clamps)

or-high : (x y b d : ℤ) → IsPattern x → IsPattern y → x ≤ℤ b → y ≤ℤ d → or_of x y ≤ℤ ones_above (int_max b d)
or-high x y b d p q h k =
    below-ones (bit_or (unsigned_abs x) (unsigned_abs y)) (2 ^ digits 128 (unsigned_abs (int_max b d)))
    (or_lt (digits 128 (unsigned_abs (int_max b d))) (unsigned_abs x) (unsigned_abs y)
    (digits-hold x (int_max b d) p.0 p.1 (le-greater-left x b d h))
    (digits-hold y (int_max b d) q.0 q.1 (le-greater-right y b d k)))

xor-high : (x y b d : ℤ) → IsPattern x → IsPattern y → x ≤ℤ b → y ≤ℤ d → xor_of x y ≤ℤ ones_above (int_max b d)
xor-high x y b d p q h k =
    below-ones (bit_xor (unsigned_abs x) (unsigned_abs y)) (2 ^ digits 128 (unsigned_abs (int_max b d)))
    (xor_lt (digits 128 (unsigned_abs (int_max b d))) (unsigned_abs x) (unsigned_abs y)
    (digits-hold x (int_max b d) p.0 p.1 (le-greater-left x b d h))
    (digits-hold y (int_max b d) q.0 q.1 (le-greater-right y b d k)))

or-low : (x y a c : ℤ) → IsPattern x → IsPattern y → a ≤ℤ x → c ≤ℤ y → int_max a c ≤ℤ or_of x y
or-low x y a c p q h k =
    low x y a c (unsigned_abs x) (unsigned_abs y) (bit_or (unsigned_abs x) (unsigned_abs y)) (size-is x p.0)
    (size-is y q.0)
    (le_or_l (unsigned_abs x) (unsigned_abs y)) (le_or_r (unsigned_abs x) (unsigned_abs y)) h k
  where
    low : (x y a c : ℤ) (m n r : ℕ) → pos m ≡ x → pos n ≡ y → m ≤ r → n ≤ r → a ≤ℤ x → c ≤ℤ y → int_max a c ≤ℤ pos r
    low x y a c m n r e f g i h k = omega (arith, ints, clamps)

natural-le-zero : (n : ℕ) → pos 0 ≤ℤ pos n
natural-le-zero n = omega (arith, ints)

-- ---- AND, OR and XOR are operators on patterns

greater-up : (b d f n : ℤ) → b ≤ℤ f → d ≤ℤ n → int_max b d ≤ℤ int_max f n
greater-up b d f n h k = omega (arith, ints, clamps)

lesser-up : (b d f n : ℤ) → b ≤ℤ f → d ≤ℤ n → int_min b d ≤ℤ int_min f n
lesser-up b d f n h k = omega (arith, ints, clamps)

greater-natural : (b d : ℤ) → pos 0 ≤ℤ b → pos 0 ≤ℤ int_max b d
greater-natural b d h = omega (arith, ints, clamps)

-- the ones above rise with both upper bounds
ones-grow : (b d f n : ℤ) → IsPattern b → b ≤ℤ f → d ≤ℤ n → ones_above (int_max b d) ≤ℤ ones_above (int_max f n)
ones-grow b d f n p h k = ones-rise (int_max b d) (int_max f n) (greater-natural b d p.0) (greater-up b d f n h k)

pub and-operator : IsPatternOperator IsPattern IsPattern and_of and_other
and-operator = record {
  held = λ a b c d x y p q h k l m.
      let r = and-bounds x y b d p q k m in span-holds (pos 0) (int_min b d) (and_of x y) r.0 r.1;
  grows = λ a b c d e f g n p q h k l m.
      span-within (pos 0) (int_min b d) (pos 0) (int_min f n) (itself (pos 0)) (lesser-up b d f n k m);
}

pub or-operator : IsPatternOperator IsPattern IsPattern or_of or_other
or-operator = record {
  held = λ a b c d x y p q h k l m.
      span-holds (int_max a c) (ones_above (int_max b d)) (or_of x y) (or-low x y a c p q h l)
      (or-high x y b d p q k m);
  grows = λ a b c d e f g n p q h k l m.
      span-within (int_max a c) (ones_above (int_max b d)) (int_max e g) (ones_above (int_max f n))
      (greater-up e g a c h l) (ones-grow b d f n p k m);
}

pub xor-operator : IsPatternOperator IsPattern IsPattern xor_of xor_other
xor-operator = record {
  held = λ a b c d x y p q h k l m.
      span-holds (pos 0) (ones_above (int_max b d)) (xor_of x y)
      (natural-le-zero (bit_xor (unsigned_abs x) (unsigned_abs y))) (xor-high x y b d p q k m);
  grows = λ a b c d e f g n p q h k l m.
      span-within (pos 0) (ones_above (int_max b d)) (pos 0) (ones_above (int_max f n)) (itself (pos 0))
      (ones-grow b d f n p k m);
}

-- ---- the patterns of a type are words

abbrev ones-fit : Elem → Bool
ones-fit t = int_le (all_ones t) (pos (2 ^ 64 - 1))

pub bits-words : (t : Elem) (i : Interval) → IsWithin i (bits_range t) → IsWithin i words
bits-words t Empty h = tt
bits-words t (Span a b) h = (
  h.0,
  through b (all_ones t) (pos (2 ^ 64 - 1)) h.1
      (le-is (all_ones t) (pos (2 ^ 64 - 1)) (for-each-type ones-fit refl t)),
)

-- of an operand that is cut to the patterns of a type
pub cut-words : (t : Elem) (i : Interval) → IsWithin (patterns_in (width_of t) i) words
cut-words t i = bits-words t (patterns_in (width_of t) i) (meet-right i (bits_range t))

pub cut-patterns : (t : Elem) (i : Interval) → AreAll IsPattern (patterns_in (width_of t) i)
cut-patterns t i x h = holds-within (patterns_in (width_of t) i) words x (cut-words t i) h

-- ---- NOT

pub cut-held-not : (t : Elem) (i : Interval)
    → Contains (of_one (not_of t) (patterns_in (width_of t) i)) same (cut_not_row t i)
cut-held-not t i =
    held-one same (not_of t) (mirrored_at (all_ones t)) (flipped (all_ones t)) (patterns_in (width_of t) i)
  where
    flipped : (m a b x : ℤ) → a ≤ℤ x → x ≤ℤ b → ((m -ℤ b) ≤ℤ (m -ℤ x)) × ((m -ℤ x) ≤ℤ (m -ℤ a))
    flipped m a b x h k = (omega (arith, ints), omega (arith, ints))

pub cut-larger-not : (t : Elem) (i : Interval) → GrowsOne (cut_not_row t) i
cut-larger-not t i k h =
    rises-one (mirrored_at (all_ones t)) (flipped (all_ones t)) (patterns_in (width_of t) i)
    (patterns_in (width_of t) k)
    (meet-within i k (bits_range t) h)
  where
    flipped : (m a b c d : ℤ) → c ≤ℤ a → b ≤ℤ d → ((m -ℤ d) ≤ℤ (m -ℤ b)) × ((m -ℤ a) ≤ℤ (m -ℤ c))
    flipped m a b c d h k = (omega (arith, ints), omega (arith, ints))
