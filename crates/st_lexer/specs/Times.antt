-- The text of a time. Source: duration literals of the standard, narrowed to whole milliseconds in the range of TIME, which is this profile's. The code
-- reads part after part.
use Rattle.std.specs.Prelude.{◌≡◌, ℕ, ◌+◌, ◌-◌, ◌*◌, ◌/◌, ◌%◌, ◌^◌, ◌<◌, ◌≤◌, Bool, true, if◌then◌else◌, List, [], ◌∷◌, ◌++◌, length, map, codes}
use Rattle.std.specs.List.{list_all, Contains}
use Rattle.iec_tables.specs.Letters.{raised}
use Rattle.st_lexer.specs.Bytes.{is_digit, value_in}

-- units of time with their milliseconds: days, hours, minutes, seconds, milliseconds
abbrev pub units : List (List ℕ × ℕ)
units = (codes "D", 86400000) ∷ (codes "H", 3600000) ∷ (codes "M", 60000) ∷ (codes "S", 1000) ∷ (codes "MS", 1) ∷ []

-- digits, behind a dot more of them, and a unit
pub record Part : Type 0 where
  pub whole : List ℕ
  pub fraction : List ℕ
  pub unit : List ℕ
  -- the milliseconds of the unit
  pub size : ℕ

-- the fraction, with its dot where there is one
abbrev pub dotted : List ℕ → List ℕ
dotted [] = []
dotted (digit ∷ digits) = 46 ∷ digit ∷ digits

abbrev pub part_text : Part → List ℕ
part_text p = p.whole ++ (dotted p.fraction ++ p.unit)

-- the part in milliseconds, times 10 for each digit of the fraction
abbrev pub scaled : Part → ℕ
scaled p = value_in 10 (p.whole ++ p.fraction) * p.size

-- the part in milliseconds
abbrev pub milliseconds : Part → ℕ
milliseconds p = scaled p / 10 ^ length p.fraction

-- A part has a digit at least, up to 9 digits behind a dot, and a unit of the table with its size, and is a whole number of milliseconds.
pub record IsPart (p : Part) : Type 0 where
  pub some : 0 < length p.whole
  pub whole : list_all is_digit p.whole ≡ true
  pub fraction : list_all is_digit p.fraction ≡ true
  pub short : length p.fraction ≤ 9
  pub unit : Contains units (p.unit, p.size)
  pub exact : scaled p % 10 ^ length p.fraction ≡ 0

-- These parts make up the text: units fall, the last part alone may have a fraction, and one underscore or none stands between two.
abbrev pub ArePartsOf : List Part → List ℕ → Type 0
ArePartsOf [] text = ⊥
ArePartsOf (p ∷ []) text = IsPart p × (text ≡ part_text p)
ArePartsOf (p ∷ q ∷ ps) text =
    IsPart p × (p.fraction ≡ []) × (q.size < p.size)
    × ((link rest : List ℕ) × Contains ([] ∷ codes "_" ∷ []) link × (text ≡ part_text p ++ (link ++ rest)) × ArePartsOf (q ∷ ps) rest)

-- all parts in milliseconds
abbrev pub sum_of : List Part → ℕ
sum_of [] = 0
sum_of (p ∷ ps) = milliseconds p + sum_of ps

-- the greatest size of a time: 2^63 below 0, else 2^63 - 1
abbrev pub greatest : (negative : Bool) → ℕ
greatest negative = if negative then 2 ^ 63 else 2 ^ 63 - 1

abbrev pub sign_of : (negative : Bool) → List ℕ
sign_of negative = if negative then codes "-" else []

-- `T#` or `TIME#`, a minus or none, and parts whose sum is in the range of TIME, letters in either case.
pub record IsTime (text : List ℕ) : Type 0 where
  pub head : List ℕ
  pub negative : Bool
  pub body : List ℕ
  pub parts : List Part
  pub is_head : Contains (codes "T#" ∷ codes "TIME#" ∷ []) head
  pub text_is : map raised text ≡ head ++ (sign_of negative ++ body)
  pub are_parts : ArePartsOf parts body
  pub in_range : sum_of parts ≤ greatest negative
