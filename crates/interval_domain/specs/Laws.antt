-- The laws of the operators on intervals, of one shape for all of them. Source: interval analysis. An
-- operator is told by the numbers that it gives for numbers of its operands; the code computes from bounds
-- alone.
use Rattle.std.specs.Prelude.{◌≡◌, ℤ}
use Rattle.iec_tables.specs.declared.elem.Elem.{Elem}
use Rattle.interval_domain.specs.Interval.{Interval, Holds, IsWithin}
use Rattle.interval_domain.specs.Operators.{range_of}
use Rattle.interval_domain.specs.Arithmetic.{IsDivisor}

-- ---- what an operator gives, for numbers that its operands hold

abbrev pub of_one : (ℤ → ℤ) → Interval → ℤ → Type 0
of_one op a z = (x : ℤ) × Holds a x × (op x ≡ z)

abbrev pub of_two : (ℤ → ℤ → ℤ) → Interval → Interval → ℤ → Type 0
of_two op a b z = (x : ℤ) × (y : ℤ) × Holds a x × Holds b y × (op x y ≡ z)

-- over divisors other than 0
abbrev pub of_division : (ℤ → ℤ → ℤ) → Interval → Interval → ℤ → Type 0
of_division op a b z = (x : ℤ) × (y : ℤ) × Holds a x × Holds b y × IsDivisor y × (op x y ≡ z)

abbrev pub of_three : (ℤ → ℤ → ℤ → ℤ) → Interval → Interval → Interval → ℤ → Type 0
of_three op a b c z = (w : ℤ) × (x : ℤ) × (y : ℤ) × Holds a w × Holds b x × Holds c y × (op w x y ≡ z)

-- the results of runs without a fault: those that the type has, or all of them where the operator never
-- leaves it
abbrev pub fits : Elem → ℤ → Type 0
fits t z = Holds (range_of t) z

abbrev pub any : ℤ → Type 0
any z = Unit {0}

-- how a result shows in the raw interval: kept in the limit of bounds, or as it is where no result is larger
-- than an operand
abbrev pub same : ℤ → ℤ
same z = z

-- the raw interval of a conversion: all of the operand
abbrev pub whole : Interval → Interval
whole i = i

-- ---- what an operator answers for larger operands: raw and result

abbrev pub with_one : (row out_row : Interval → Interval) → Interval → Interval → Interval → Type 0
with_one row out_row a raw out = (c : Interval) × IsWithin a c × (raw ≡ row c) × (out ≡ out_row c)

abbrev pub with_two : (row out_row : Interval → Interval → Interval) → Interval → Interval → Interval → Interval
    → Type 0
with_two row out_row a b raw out =
    (c : Interval) × (d : Interval) × IsWithin a c × IsWithin b d × (raw ≡ row c d) × (out ≡ out_row c d)

abbrev pub with_three : (row out_row : Interval → Interval → Interval → Interval) → Interval → Interval → Interval
    → Interval → Interval → Type 0
with_three row out_row a b c raw out = (d : Interval) × (e : Interval) × (f : Interval)
    × IsWithin a d × IsWithin b e × IsWithin c f × (raw ≡ row d e f) × (out ≡ out_row d e f)

-- ---- the three laws

-- Each whole-number result lies in the raw interval, each result of a run without a fault in the result.
pub record IsSound (results : ℤ → Type 0) (shown : ℤ → ℤ) (faultless : ℤ → Type 0) (raw out : Interval) : Type 0 where
  pub whole : (z : ℤ) → results z → Holds raw (shown z)
  pub concrete : (z : ℤ) → results z → faultless z → Holds out z

-- No smaller interval holds all whole-number results.
pub record IsBest (results : ℤ → Type 0) (shown : ℤ → ℤ) (raw : Interval) : Type 0 where
  pub least : (j : Interval) → ((z : ℤ) → results z → Holds j (shown z)) → IsWithin raw j

-- Larger operands give no smaller intervals.
pub record IsMonotone (larger : Interval → Interval → Type 0) (raw out : Interval) : Type 0 where
  pub raw_grows : (r o : Interval) → larger r o → IsWithin raw r
  pub out_grows : (r o : Interval) → larger r o → IsWithin out o
