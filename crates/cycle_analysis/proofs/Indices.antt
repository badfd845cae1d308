-- Lists of intervals, read and written by index.
use Rattle.std.proofs.Common.{◌≡◌, ℕ, zero, suc, ◌≤◌, List, [], ◌∷◌, length, get_or, refl, ap, arith}
use Rattle.std.specs.Prelude.{slice_set}
use Rattle.interval_domain.specs.Interval.{Interval, Empty}
use Rattle.cycle_analysis.specs.Pass.{at, put}

pub at_is : (is : List Interval) (k : ℕ) → at is k ≡ get_or is k Empty
at_is [] k = refl
at_is (i ∷ is) zero = refl
at_is (i ∷ is) (suc k) = at_is is k

pub put_is : (is : List Interval) (k : ℕ) (j : Interval) → slice_set is k j ≡ put is k j
put_is [] k j = refl
put_is (i ∷ is) zero j = refl
put_is (i ∷ is) (suc k) j = ap (λ js. i ∷ js) (put_is is k j)

pub put_past : (is : List Interval) (k : ℕ) (j : Interval) → length is ≤ k → put is k j ≡ is
put_past [] k j h = refl
put_past (i ∷ is) zero j h = absurd (omega arith)
put_past (i ∷ is) (suc k) j h = ap (λ js. i ∷ js) (put_past is k j (omega arith))
