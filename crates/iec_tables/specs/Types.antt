-- The elementary types: their names, families, widths and ranges. Source: IEC 61131-3, third edition, elementary data types.
-- Bit strings are read as unsigned numbers, and TIME as milliseconds in the range of LINT, which is this profile's choice.
use Rattle.std.specs.Prelude.{ℕ, ◌-◌, ◌^◌, ℤ, pos, neg_ℤ, ◌≤ℤ◌, List, codes}
use Rattle.iec_tables.specs.declared.elem.Elem.{Elem}
use Rattle.iec_tables.specs.declared.elem.Elem.TheVariants.{Sint, Int, Dint, Lint, Usint, Uint, Udint, Ulint, Bool, Byte, Word, Dword, Lword, Time}

-- the bytes of a type's name
abbrev pub name_of : Elem → List ℕ
name_of Sint = codes "SINT"
name_of Int = codes "INT"
name_of Dint = codes "DINT"
name_of Lint = codes "LINT"
name_of Usint = codes "USINT"
name_of Uint = codes "UINT"
name_of Udint = codes "UDINT"
name_of Ulint = codes "ULINT"
name_of Bool = codes "BOOL"
name_of Byte = codes "BYTE"
name_of Word = codes "WORD"
name_of Dword = codes "DWORD"
name_of Lword = codes "LWORD"
name_of Time = codes "TIME"

-- signed and unsigned integers, bit strings of more than one bit, truth values and durations
pub data Family : Type 0 where
  Signed : Family
  Unsigned : Family
  Bits : Family
  Truth : Family
  Duration : Family

abbrev pub family_of : Elem → Family
family_of Sint = Signed
family_of Int = Signed
family_of Dint = Signed
family_of Lint = Signed
family_of Usint = Unsigned
family_of Uint = Unsigned
family_of Udint = Unsigned
family_of Ulint = Unsigned
family_of Bool = Truth
family_of Byte = Bits
family_of Word = Bits
family_of Dword = Bits
family_of Lword = Bits
family_of Time = Duration

-- the bits of a value
abbrev pub width_of : Elem → ℕ
width_of Sint = 8
width_of Int = 16
width_of Dint = 32
width_of Lint = 64
width_of Usint = 8
width_of Uint = 16
width_of Udint = 32
width_of Ulint = 64
width_of Bool = 1
width_of Byte = 8
width_of Word = 16
width_of Dword = 32
width_of Lword = 64
width_of Time = 64

-- the least signed number of that many bits: -2^(bits - 1)
abbrev pub least_signed : ℕ → ℤ
least_signed bits = neg_ℤ (pos (2 ^ (bits - 1)))

-- the greatest signed number of that many bits: 2^(bits - 1) - 1
abbrev pub greatest_signed : ℕ → ℤ
greatest_signed bits = pos (2 ^ (bits - 1) - 1)

-- the greatest unsigned number of that many bits: 2^bits - 1
abbrev pub greatest_unsigned : ℕ → ℤ
greatest_unsigned bits = pos (2 ^ bits - 1)

-- the least number of a type
abbrev pub low_of : Elem → ℤ
low_of Sint = least_signed 8
low_of Int = least_signed 16
low_of Dint = least_signed 32
low_of Lint = least_signed 64
low_of Usint = pos 0
low_of Uint = pos 0
low_of Udint = pos 0
low_of Ulint = pos 0
low_of Bool = pos 0
low_of Byte = pos 0
low_of Word = pos 0
low_of Dword = pos 0
low_of Lword = pos 0
low_of Time = least_signed 64

-- the greatest number of a type
abbrev pub high_of : Elem → ℤ
high_of Sint = greatest_signed 8
high_of Int = greatest_signed 16
high_of Dint = greatest_signed 32
high_of Lint = greatest_signed 64
high_of Usint = greatest_unsigned 8
high_of Uint = greatest_unsigned 16
high_of Udint = greatest_unsigned 32
high_of Ulint = greatest_unsigned 64
high_of Bool = greatest_unsigned 1
high_of Byte = greatest_unsigned 8
high_of Word = greatest_unsigned 16
high_of Dword = greatest_unsigned 32
high_of Lword = greatest_unsigned 64
high_of Time = greatest_signed 64

-- a number of the type's range
abbrev pub IsInRange : Elem → ℤ → Type 0
IsInRange t z = (low_of t ≤ℤ z) × (z ≤ℤ high_of t)
