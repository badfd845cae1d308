-- The three laws from what is proved of rows.
use Rattle.std.proofs.Common.{◌≡◌, ℤ, refl, subst, sym}
use Rattle.iec_tables.specs.declared.elem.Elem.{Elem}
use Rattle.interval_domain.specs.Interval.{Interval, Holds, IsWithin}
use Rattle.interval_domain.specs.Operators.{kept, range_of, typed}
use Rattle.interval_domain.specs.Laws.{fits, any, same, with_one, with_two, with_three, IsSound, IsBest, IsMonotone}
use Rattle.interval_domain.proofs.Laws.{meet-holds, meet-within, kept-typed}
use Rattle.interval_domain.proofs.Strict.{Contains, IsLeastFor, GrowsOne, GrowsTwo}

-- ---- sound

-- of an operator whose results may leave the type
sound-where : (results : ℤ → Type 0) (shown : ℤ → ℤ) (t : Elem) → ((z : ℤ) → fits t z → shown z ≡ z)
    → (row raw out : Interval) → raw ≡ row → out ≡ typed t row → Contains results shown row
    → IsSound results shown (fits t) raw out
sound-where results shown t shows row raw out e f held = record {
  whole = λ z r. subst (λ (i : Interval). Holds i (shown z)) (sym e) (held z r);
  concrete = λ z r h. subst (λ (i : Interval). Holds i z) (sym f)
      (meet-holds row (range_of t) z (subst (λ (x : ℤ). Holds row x) (shows z h) (held z r)) h);
}

pub sound-typed : (results : ℤ → Type 0) (t : Elem) (row raw out : Interval) → raw ≡ row → out ≡ typed t row
    → Contains results kept row → IsSound results kept (fits t) raw out
sound-typed results t = sound-where results kept t (kept-typed t)

pub sound-converted : (results : ℤ → Type 0) (t : Elem) (row raw out : Interval) → raw ≡ row → out ≡ typed t row
    → Contains results same row → IsSound results same (fits t) raw out
sound-converted results t = sound-where results same t (λ z h. refl)

-- of one that never leaves it
pub sound-plain : (results : ℤ → Type 0) (row raw out : Interval) → raw ≡ row → out ≡ row
    → Contains results same row → IsSound results same any raw out
sound-plain results row raw out e f held = record {
  whole = λ z r. subst (λ (i : Interval). Holds i z) (sym e) (held z r);
  concrete = λ z r h. subst (λ (i : Interval). Holds i z) (sym f) (held z r);
}

-- ---- best

pub best : (results : ℤ → Type 0) (shown : ℤ → ℤ) (row raw : Interval) → raw ≡ row
    → IsLeastFor results shown row → IsBest results shown raw
best results shown row raw e least = record {
  least = λ j all. subst (λ (i : Interval). IsWithin i j) (sym e) (least j all);
}

-- ---- monotone: the result is the raw one, or its part in the type

abbrev pub Grows : (Interval → Interval) → Type 0
Grows part = (i j : Interval) → IsWithin i j → IsWithin (part i) (part j)

pub whole-grows : Grows (λ i. i)
whole-grows i j h = h

pub typed-grows : (t : Elem) → Grows (λ i. typed t i)
typed-grows t i j h = meet-within i j (range_of t) h

within-by : (i j k l : Interval) → i ≡ k → j ≡ l → IsWithin k l → IsWithin i j
within-by i j k l e f w =
    subst (λ (i : Interval). IsWithin i j) (sym e) (subst (λ (j : Interval). IsWithin k j) (sym f) w)

pub grows-one : (row part : Interval → Interval) → Grows part → (a raw out : Interval)
    → raw ≡ row a → out ≡ part (row a) → GrowsOne row a
    → IsMonotone (with_one row (λ c. part (row c)) a) raw out
grows-one row part grows a raw out e f larger = record {
  raw_grows = λ r o (c, h, p, q). within-by raw r (row a) (row c) e p (larger c h);
  out_grows = λ r o (c, h, p, q).
      within-by out o (part (row a)) (part (row c)) f q (grows (row a) (row c) (larger c h));
}

pub grows-two : (row : Interval → Interval → Interval) (part : Interval → Interval) → Grows part
    → (a b raw out : Interval)
    → raw ≡ row a b → out ≡ part (row a b) → GrowsTwo row a b
    → IsMonotone (with_two row (λ c d. part (row c d)) a b) raw out
grows-two row part grows a b raw out e f larger = record {
  raw_grows = λ r o (c, d, h, k, p, q). within-by raw r (row a b) (row c d) e p (larger c d h k);
  out_grows = λ r o (c, d, h, k, p, q).
      within-by out o (part (row a b)) (part (row c d)) f q (grows (row a b) (row c d) (larger c d h k));
}

pub grows-three : (row : Interval → Interval → Interval → Interval) (a b c raw out : Interval)
    → raw ≡ row a b c → out ≡ row a b c
    → ((k l m : Interval) → IsWithin a k → IsWithin b l → IsWithin c m → IsWithin (row a b c) (row k l m))
    → IsMonotone (with_three row row a b c) raw out
grows-three row a b c raw out e f larger = record {
  raw_grows = λ r o (k, l, m, x, y, z, p, q). within-by raw r (row a b c) (row k l m) e p (larger k l m x y z);
  out_grows = λ r o (k, l, m, x, y, z, p, q). within-by out o (row a b c) (row k l m) f q (larger k l m x y z);
}
