-- Decimal digits of a small value, read digit after digit.
use Rattle.std.proofs.Common.{◌≡◌, ℕ, ◌+◌, ◌-◌, ◌*◌, ◌<◌, ◌≤◌, Bool, true, false, ◌&&◌, leb, List, [], ◌∷◌, refl, ap, ◌∙◌, arith}
use Rattle.std.specs.List.{list_all, fold}
use Rattle.std.proofs.lemmas.Bool.{leb-true}
use Rattle.first_form.specs.FirstForm.{is_decimal}

abbrev pub worth : ℕ → List ℕ → ℕ
worth value digits = fold (λ v digit. v * 10 + (digit - 48)) value digits

abbrev pub short_from : ℕ → List ℕ → Bool
short_from value digits = list_all is_decimal digits && leb (worth value digits) 32767

worth_grows : (value : ℕ) (digits : List ℕ) → value ≤ worth value digits
worth_grows value [] = omega arith
worth_grows value (d ∷ ds) = omega (arith, worth_grows (value * 10 + (d - 48)) ds)

leb_not : (a b : ℕ) (v : Bool) → leb a b ≡ v → b < a → v ≡ false
leb_not a b true e lt = absurd (omega (arith, leb-true a b e, lt))
leb_not a b false e lt = refl

and_false : (v : Bool) → (v && false) ≡ false
and_false true = refl
and_false false = refl

pub too_great : (value : ℕ) (digits : List ℕ) → 32767 < value → short_from value digits ≡ false
too_great value digits lt =
    let more : 32767 < worth value digits = omega (arith, lt, worth_grows value digits) in
    ap (λ (v : Bool). list_all is_decimal digits && v)
    (leb_not (worth value digits) 32767 (leb (worth value digits) 32767) refl more)
    ∙ and_false (list_all is_decimal digits)

pub one_digit : (value d : ℕ) (ds : List ℕ) → is_decimal d ≡ true → short_from value (d ∷ ds)
    ≡ short_from (value * 10 + (d - 48)) ds
one_digit value d ds is = rw is refl
