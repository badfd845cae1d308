-- Groups of elementary types, the type that two have in common, and the type of literals that nothing
-- gives one. Source: IEC 61131-3, implicit data type conversion and overloaded operators; the orders
-- in which types are tried are this profile's. That a literal without a type takes DINT first, too.
use Rattle.std.specs.Prelude.{ℤ, int_le, Bool, true, false, ◌&&◌, ◌||◌, if◌then◌else◌, List, [], ◌∷◌, Option, Some, None}
use Rattle.iec_tables.specs.declared.elem.Elem.{Elem}
use Rattle.iec_tables.specs.declared.elem.Elem.TheVariants as elem
use Rattle.iec_tables.specs.Types.{low_of, high_of, Family, Signed, Unsigned, Bits, Truth, Duration, family_of}
use Rattle.iec_tables.specs.Conversions.{converts_to}

-- the number is one of the type
abbrev pub in_range : Elem → ℤ → Bool
in_range t z = int_le (low_of t) z && int_le z (high_of t)

abbrev pub is_integer_family : Family → Bool
is_integer_family Signed = true
is_integer_family Unsigned = true
is_integer_family _ = false

abbrev pub is_bits_family : Family → Bool
is_bits_family Bits = true
is_bits_family Truth = true
is_bits_family _ = false

abbrev pub is_string_family : Family → Bool
is_string_family Bits = true
is_string_family _ = false

abbrev pub is_duration_family : Family → Bool
is_duration_family Duration = true
is_duration_family _ = false

abbrev pub is_integer : Elem → Bool
is_integer t = is_integer_family (family_of t)

-- BOOL and the bit strings
abbrev pub is_bits : Elem → Bool
is_bits t = is_bits_family (family_of t)

-- bit strings, without BOOL
abbrev pub is_bit_string : Elem → Bool
is_bit_string t = is_string_family (family_of t)

-- integers and TIME
abbrev pub is_counted : Elem → Bool
is_counted t = is_integer_family (family_of t) || is_duration_family (family_of t)

-- the first that passes the test
abbrev pub first_that : {A : Type 0} → (A → Bool) → List A → Option A
first_that test [] = None
first_that test (x ∷ xs) = if test x then Some x else first_that test xs

-- the order in which common types are tried
abbrev pub order : List Elem
order =
    elem.Sint ∷ elem.Usint ∷ elem.Int ∷ elem.Uint ∷ elem.Dint ∷ elem.Udint ∷ elem.Lint ∷ elem.Ulint ∷
    elem.Byte ∷ elem.Word ∷ elem.Dword ∷ elem.Lword ∷ elem.Bool ∷ elem.Time ∷ []

-- both convert to it
abbrev pub takes_both : Elem → Elem → Elem → Bool
takes_both s t u = converts_to s u && converts_to t u

-- the first type, in that order, to which both convert
abbrev pub common : Elem → Elem → Option Elem
common s t = first_that (takes_both s t) order

-- what literals are where nothing gives them a type: the first of these that holds all of them
abbrev pub own_type : (Elem → Bool) → Option Elem
own_type holds = first_that holds (elem.Dint ∷ elem.Lint ∷ elem.Ulint ∷ [])
