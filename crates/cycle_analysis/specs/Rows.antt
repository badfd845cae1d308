-- What is done to rows of intervals, place by place, and how much room is left for bounds to move. A step on the way from the code to the
-- least closed table; its source is the code.
use Rattle.std.specs.Prelude.{◌≡◌, ◌<◌, ◌≤◌, ◌+◌, ◌^◌, ℕ, Bool, true, false, List, [], ◌∷◌, length, ℤ, pos, ◌+ℤ◌, ◌-ℤ◌, unsigned_abs}
use Rattle.interval_domain.specs.Interval.{Interval, Empty, Span, hull}
use Rattle.interval_domain.specs.Grid.{rounded}
use Rattle.cycle_analysis.specs.Pass.{at}

-- how far the bounds are from those of the numbers of the code: the empty interval has more room than any other
abbrev pub room : Interval → ℕ
room Empty = 2 ^ 130
room (Span a b) = unsigned_abs (a +ℤ pos (2 ^ 127)) + unsigned_abs (pos (2 ^ 127) -ℤ b)

abbrev pub rooms : List Interval → ℕ
rooms [] = 0
rooms (i ∷ is) = room i + rooms is

-- each interval is that of its place
abbrev pub AreAll : (ℕ → Interval) → List Interval → Type 0
AreAll f is = (k : ℕ) → k < length is → at is k ≡ f k

-- the places before this one are done, and the others are as they were
pub record Mapped (f : ℕ → Interval) (initial now : List Interval) (place : ℕ) : Type 0 where
  pub done : (k : ℕ) → k < place → at now k ≡ f k
  pub rest : (k : ℕ) → place ≤ k → at now k ≡ at initial k

-- the same, where an interval has grown or the list is as it was
pub record Raising (f : ℕ → Interval) (initial now : List Interval) (place : ℕ) (grown : Bool) : Type 0 where
  pub value : Mapped f initial now place
  pub stays : grown ≡ false → now ≡ initial
  pub smaller : grown ≡ true → rooms now < rooms initial

abbrev pub joined : List Interval → List Interval → ℕ → Interval
joined is js k = hull (at is k) (at js k)

abbrev pub raised : List ℤ → List Interval → List Interval → ℕ → Interval
raised grid is js k = hull (at is k) (rounded grid (at js k))
