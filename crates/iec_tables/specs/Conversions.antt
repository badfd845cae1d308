-- Implicit conversions. Source: IEC 61131-3, third edition, implicit data type conversion. That BOOL and TIME convert to
-- themselves alone is this profile's choice. The code reads a table with a row and a column for each type; here a conversion
-- follows from the families of the two types and their widths.
use Rattle.std.specs.Prelude.{Bool, true, false, ◌&&◌, ◌||◌, nat_lt, bytes_eq}
use Rattle.iec_tables.specs.declared.elem.Elem.{Elem}
use Rattle.iec_tables.specs.Types.{Family, Signed, Unsigned, Bits, name_of, family_of, width_of}

-- types of the first family convert to wider types of the second
abbrev pub widens_to : Family → Family → Bool
widens_to Signed Signed = true
widens_to Unsigned Unsigned = true
widens_to Unsigned Signed = true
widens_to Bits Bits = true
widens_to _ _ = false

-- two types are one where they have one name
abbrev pub is_same : Elem → Elem → Bool
is_same a b = bytes_eq (name_of a) (name_of b)

abbrev pub is_wider : Elem → Elem → Bool
is_wider b a = nat_lt (width_of a) (width_of b)

-- a type converts to itself, and to a wider one of a family to which its own widens
abbrev pub converts_to : Elem → Elem → Bool
converts_to a b = is_same a b || (widens_to (family_of a) (family_of b) && is_wider b a)
