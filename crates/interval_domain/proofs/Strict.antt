-- What holds of an operator on intervals, from what holds of the results that it gives for bounds: once for
-- all operators that are empty where an operand is.
use Rattle.std.proofs.Common.{ℤ, ◌≤ℤ◌, subst}
use Rattle.interval_domain.specs.Interval.{Interval, Empty, Span, Holds, IsWithin, IsOrdered, strict_one, strict}
use Rattle.interval_domain.specs.Laws.{of_one, of_two, of_division}
use Rattle.interval_domain.proofs.Between.{holds-within}

-- ---- results are held

abbrev pub Contains : (results : ℤ → Type 0) → (shown : ℤ → ℤ) → Interval → Type 0
Contains results shown row = (z : ℤ) → results z → Holds row (shown z)

abbrev pub IsLeastFor : (results : ℤ → Type 0) → (shown : ℤ → ℤ) → Interval → Type 0
IsLeastFor results shown row = (k : Interval) → Contains results shown k → IsWithin row k

pub held-one : (shown op : ℤ → ℤ) (at : ℤ → ℤ → Interval)
    → ((a b x : ℤ) → a ≤ℤ x → x ≤ℤ b → Holds (at a b) (shown (op x)))
    → (i : Interval) → Contains (of_one op i) shown (strict_one at i)
held-one shown op at held Empty z (x, p, e) = absurd p
held-one shown op at held (Span a b) z (x, p, e) =
    subst (λ (v : ℤ). Holds (at a b) (shown v)) e (held a b x p.0 p.1)

-- of operands of which something is known
pub held-where : (shown : ℤ → ℤ) (op : ℤ → ℤ → ℤ) (at : (a b c d : ℤ) → Interval) (Left Right : Interval → Type 0)
    → ((a b c d x y : ℤ) → Left (Span a b) → Right (Span c d) → a ≤ℤ x → x ≤ℤ b → c ≤ℤ y → y ≤ℤ d
    → Holds (at a b c d) (shown (op x y)))
    → (i j : Interval) → Left i → Right j → Contains (of_two op i j) shown (strict at i j)
held-where shown op at Left Right held Empty j l r z (x, y, p, q, e) = absurd p
held-where shown op at Left Right held (Span a b) Empty l r z (x, y, p, q, e) = absurd q
held-where shown op at Left Right held (Span a b) (Span c d) l r z (x, y, p, q, e) =
    subst (λ (v : ℤ). Holds (at a b c d) (shown v)) e (held a b c d x y l r p.0 p.1 q.0 q.1)

pub held-two : (shown : ℤ → ℤ) (op : ℤ → ℤ → ℤ) (at : (a b c d : ℤ) → Interval)
    → ((a b c d x y : ℤ) → a ≤ℤ x → x ≤ℤ b → c ≤ℤ y → y ≤ℤ d → Holds (at a b c d) (shown (op x y)))
    → (i j : Interval) → Contains (of_two op i j) shown (strict at i j)
held-two shown op at held i j =
    held-where shown op at (λ i. Unit {0}) (λ j. Unit {0}) (λ a b c d x y l r. held a b c d x y) i j tt tt

-- ---- no smaller interval holds them

pub least-one : (results : Interval → ℤ → Type 0) (shown : ℤ → ℤ) (at : ℤ → ℤ → Interval)
    → ((a b : ℤ) → a ≤ℤ b → IsLeastFor (results (Span a b)) shown (at a b))
    → (i : Interval) → IsOrdered i → IsLeastFor (results i) shown (strict_one at i)
least-one results shown at least Empty o k all = tt
least-one results shown at least (Span a b) o k all = least a b o k all

pub least-two : (results : Interval → Interval → ℤ → Type 0) (shown : ℤ → ℤ) (at : (a b c d : ℤ) → Interval)
    → ((a b c d : ℤ) → a ≤ℤ b → c ≤ℤ d → IsLeastFor (results (Span a b) (Span c d)) shown (at a b c d))
    → (i j : Interval) → IsOrdered i → IsOrdered j → IsLeastFor (results i j) shown (strict at i j)
least-two results shown at least Empty j o p k all = tt
least-two results shown at least (Span a b) Empty o p k all = tt
least-two results shown at least (Span a b) (Span c d) o p k all = least a b c d o p k all

-- ---- larger operands

abbrev pub GrowsOne : (row : Interval → Interval) → Interval → Type 0
GrowsOne row i = (k : Interval) → IsWithin i k → IsWithin (row i) (row k)

abbrev pub GrowsTwo : (row : Interval → Interval → Interval) → Interval → Interval → Type 0
GrowsTwo row i j = (k l : Interval) → IsWithin i k → IsWithin j l → IsWithin (row i j) (row k l)

-- what holds the results of larger operands holds those of the operands: so the least interval grows
pub least-grows-one : (shown op : ℤ → ℤ) (row : Interval → Interval)
    → ((k : Interval) → Contains (of_one op k) shown (row k))
    → (i : Interval) → IsLeastFor (of_one op i) shown (row i) → GrowsOne row i
least-grows-one shown op row held i least k h = least (row k) (λ z (x, p, e). held k z (x, holds-within i k x h p, e))

pub least-grows-two : (shown : ℤ → ℤ) (op : ℤ → ℤ → ℤ) (row : Interval → Interval → Interval)
    → ((k l : Interval) → Contains (of_two op k l) shown (row k l))
    → (i j : Interval) → IsLeastFor (of_two op i j) shown (row i j) → GrowsTwo row i j
least-grows-two shown op row held i j least k l h m =
    least (row k l) (λ z (x, y, p, q, e). held k l z (x, y, holds-within i k x h p, holds-within j l y m q, e))

pub least-grows-division : (shown : ℤ → ℤ) (op : ℤ → ℤ → ℤ) (row : Interval → Interval → Interval)
    → ((k l : Interval) → Contains (of_division op k l) shown (row k l))
    → (i j : Interval) → IsLeastFor (of_division op i j) shown (row i j) → GrowsTwo row i j
least-grows-division shown op row held i j least k l h m =
    least (row k l) (λ z (x, y, p, q, n, e). held k l z (x, y, holds-within i k x h p, holds-within j l y m q, n, e))

-- of bounds in any order
pub rises-one : (at : ℤ → ℤ → Interval) → ((a b e f : ℤ) → e ≤ℤ a → b ≤ℤ f → IsWithin (at a b) (at e f))
    → (i : Interval) → GrowsOne (strict_one at) i
rises-one at rises Empty k h = tt
rises-one at rises (Span a b) Empty h = absurd h
rises-one at rises (Span a b) (Span e f) h = rises a b e f h.0 h.1

-- of operands of which, and of the larger ones, something is known
pub grows-where : (at : (a b c d : ℤ) → Interval) (Left Right : (small large : Interval) → Type 0)
    → ((a b c d e f g n : ℤ) → Left (Span a b) (Span e f) → Right (Span c d) (Span g n)
    → e ≤ℤ a → b ≤ℤ f → g ≤ℤ c → d ≤ℤ n → IsWithin (at a b c d) (at e f g n))
    → (i j k l : Interval) → Left i k → Right j l → IsWithin i k → IsWithin j l
    → IsWithin (strict at i j) (strict at k l)
grows-where at Left Right grows Empty j k l p q h m = tt
grows-where at Left Right grows (Span a b) Empty k l p q h m = tt
grows-where at Left Right grows (Span a b) (Span c d) Empty l p q h m = absurd h
grows-where at Left Right grows (Span a b) (Span c d) (Span e f) Empty p q h m = absurd m
grows-where at Left Right grows (Span a b) (Span c d) (Span e f) (Span g n) p q h m =
    grows a b c d e f g n p q h.0 h.1 m.0 m.1

pub rises-two : (at : (a b c d : ℤ) → Interval)
    → ((a b c d e f g n : ℤ) → e ≤ℤ a → b ≤ℤ f → g ≤ℤ c → d ≤ℤ n → IsWithin (at a b c d) (at e f g n))
    → (i j : Interval) → GrowsTwo (strict at) i j
rises-two at rises i j k l =
    grows-where at (λ i k. Unit {0}) (λ j l. Unit {0}) (λ a b c d e f g n p q. rises a b c d e f g n) i j k l tt tt
