-- The numbers below a number.
use Rattle.std.proofs.Common.{◌≡◌, ℕ, ◌+◌, ◌<◌, get_or, arith, ◌∙◌}
use Rattle.std.specs.List.{Contains, range_with_len}
use Rattle.std.proofs.lemmas.List.FromFn.{length-range_with_len, get_or-range_with_len}

pub in_range : (n k : ℕ) → k < n → Contains (range_with_len 0 n) k
in_range n k h =
    let plain : 0 + k ≡ k = omega arith in
    (k, omega (arith, length-range_with_len 0 n), get_or-range_with_len 0 n k k h ∙ plain)

pub below_range : (n k : ℕ) → Contains (range_with_len 0 n) k → k < n
below_range n k (i, l, e) =
    let short : i < n = omega (arith, length-range_with_len 0 n) in
    let value : get_or (range_with_len 0 n) i k ≡ 0 + i = get_or-range_with_len 0 n i k short in
    omega arith
