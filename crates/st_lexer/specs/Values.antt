-- The values of numbers, typed numbers, times and addresses, as relations on their texts. Source:
-- numeric, typed and duration literals and directly represented variables of the standard, on the
-- texts that this profile takes. The code reads a text once from its start, with a running value.
use Rattle.std.specs.Prelude.{◌≡◌, ℕ, ◌+◌, ◌*◌, ◌^◌, ℤ, pos, neg_ℤ, Bool, true, false, not, if◌then◌else◌, nat_eq, List, [], ◌∷◌, ◌++◌, length, map, filter, codes}
use Rattle.std.specs.List.{Contains}
use Rattle.iec_tables.specs.Letters.{raised}
use Rattle.iec_tables.specs.Types.{name_of}
use Rattle.iec_tables.specs.declared.elem.Elem.{Elem}
use Rattle.iec_tables.specs.declared.elem.Elem.TheVariants as elem
use Rattle.st_lexer.specs.declared.values.Area.{Area}
use Rattle.st_lexer.specs.declared.values.Area.TheVariants as area
use Rattle.st_lexer.specs.declared.values.Width.{Width}
use Rattle.st_lexer.specs.declared.values.Width.TheVariants as width
use Rattle.st_lexer.specs.declared.values.TypedValue.{TypedValue}
use Rattle.st_lexer.specs.Bytes.{worth}
use Rattle.st_lexer.specs.Times.{sum_of, IsTime}
use Rattle.st_lexer.specs.Texts.{bases, IsNumeral, IsAddress}

-- ---- numbers

-- the digits without the underscores between them
abbrev pub plain_digits : List ℕ → List ℕ
plain_digits digits = filter (λ byte. not (nat_eq byte 95)) digits

-- Each digit counts its worth times the base to the power of the number of digits behind it.
abbrev pub positional : (base : ℕ) → List ℕ → ℕ
positional base [] = 0
positional base (digit ∷ digits) = worth digit * base ^ length digits + positional base digits

-- A decimal numeral, or the mark of a base and a numeral in that base; and the number of its digits.
pub data IsNumberValue (text : List ℕ) (value : ℕ) : Type 0 where
  decimal : IsNumeral 10 text → value ≡ positional 10 (plain_digits text) → IsNumberValue text value
  based : (base : ℕ) (mark digits : List ℕ) → Contains bases (base, mark) → text ≡ mark ++ digits
      → IsNumeral base digits → value ≡ positional base (plain_digits digits)
      → IsNumberValue text value

-- the number of that size, with a minus or none
abbrev pub with_sign : (negative : Bool) → ℕ → ℤ
with_sign negative size = if negative then neg_ℤ (pos size) else pos size

-- ---- typed numbers

-- types with their names
abbrev pub with_names : List Elem → List (Elem × List ℕ)
with_names types = map (λ t. (t, name_of t)) types

-- the types that stand before a `#`: all but TIME
abbrev pub typed_elems : List Elem
typed_elems =
    elem.Sint ∷ elem.Int ∷ elem.Dint ∷ elem.Lint ∷
    elem.Usint ∷ elem.Uint ∷ elem.Udint ∷ elem.Ulint ∷
    elem.Bool ∷ elem.Byte ∷ elem.Word ∷ elem.Dword ∷ elem.Lword ∷ []

abbrev pub named_types : List (Elem × List ℕ)
named_types = with_names typed_elems

-- no sign, or one, and whether it makes a number negative
abbrev pub signs : List (Bool × List ℕ)
signs = (false, []) ∷ (false, codes "+") ∷ (true, codes "-") ∷ []

-- A sign or none, and a number: whether it is negative, and its size.
pub record IsSignedValue (text : List ℕ) (negative : Bool) (size : ℕ) : Type 0 where
  pub sign : List ℕ
  pub digits : List ℕ
  pub text_is : text ≡ sign ++ digits
  pub is_sign : Contains signs (negative, sign)
  pub number : IsNumberValue digits size

-- the truth values with their numbers
abbrev pub truth_values : List (ℕ × List ℕ)
truth_values = (1, codes "BOOL#TRUE") ∷ (0, codes "BOOL#FALSE") ∷ []

-- The name of a type, `#`, and a number with a sign or none; or `BOOL#TRUE` or `BOOL#FALSE`, as 1
-- and 0 of BOOL. The number may lie outside the range of the type.
pub data IsTypedValue (text : List ℕ) (value : TypedValue) : Type 0 where
  number : (word rest : List ℕ) → text ≡ word ++ 35 ∷ rest
      → Contains named_types (value.elem, map raised word)
      → IsSignedValue rest value.negative value.size → IsTypedValue text value
  truth : Contains truth_values (value.size, map raised text) → value.elem ≡ elem.Bool
      → value.negative ≡ false
      → IsTypedValue text value

-- ---- times

-- A time, and the milliseconds of its parts together, with its minus or none.
pub record IsTimeValue (text : List ℕ) (milliseconds : ℤ) : Type 0 where
  pub time : IsTime text
  pub value_is : milliseconds ≡ with_sign time.negative (sum_of time.parts)

-- ---- addresses

-- inputs, outputs and memory, with their letters
abbrev pub areas : List (Area × List ℕ)
areas = (area.Input, codes "I") ∷ (area.Output, codes "Q") ∷ (area.Memory, codes "M") ∷ []

-- the widths with their letters; where none is written it is a bit
abbrev pub widths : List (Width × List ℕ)
widths =
    (width.Bit, []) ∷ (width.Bit, codes "X") ∷ (width.Byte, codes "B") ∷ (width.Word, codes "W") ∷
    (width.DoubleWord, codes "D") ∷ (width.LongWord, codes "L") ∷ []

-- An address, with the area and the width of its letters, and its numbers as they are written.
pub record IsAddressValue (text : List ℕ) (a : Area) (w : Width) (numbers : List ℕ) : Type 0 where
  pub address : IsAddress text
  pub is_area : Contains areas (a, address.area ∷ [])
  pub is_width : Contains widths (w, address.size)
  pub numbers_are : numbers ≡ address.numbers

-- the bit string type of a width, which a variable at an address has where none is declared
abbrev pub elem_of : Width → Elem
elem_of width.Bit = elem.Bool
elem_of width.Byte = elem.Byte
elem_of width.Word = elem.Word
elem_of width.DoubleWord = elem.Dword
elem_of width.LongWord = elem.Lword
