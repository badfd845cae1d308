-- The types of variables that are declared at addresses. Source: IEC 61131-3, directly represented
-- variables: an integer or bit type of the size that the address names.
use Rattle.std.specs.Prelude.{ℕ, Bool, true, false, List, Option, Some, None}
use Rattle.iec_tables.specs.declared.elem.Elem.{Elem}
use Rattle.iec_tables.specs.declared.elem.Elem.TheVariants as elem
use Rattle.st_lexer.specs.declared.values.Width.{Width}
use Rattle.st_lexer.specs.declared.values.Width.TheVariants as width
use Rattle.st_lexer.specs.steps.Readings.{AddressParts, read_address}

abbrev pub is_bit : Elem → Bool
is_bit elem.Bool = true
is_bit other = false

abbrev pub is_byte : Elem → Bool
is_byte elem.Sint = true
is_byte elem.Usint = true
is_byte elem.Byte = true
is_byte other = false

abbrev pub is_word : Elem → Bool
is_word elem.Int = true
is_word elem.Uint = true
is_word elem.Word = true
is_word other = false

abbrev pub is_double_word : Elem → Bool
is_double_word elem.Dint = true
is_double_word elem.Udint = true
is_double_word elem.Dword = true
is_double_word other = false

abbrev pub is_long_word : Elem → Bool
is_long_word elem.Lint = true
is_long_word elem.Ulint = true
is_long_word elem.Lword = true
is_long_word other = false

abbrev pub holds : Width → Elem → Bool
holds width.Bit t = is_bit t
holds width.Byte t = is_byte t
holds width.Word t = is_word t
holds width.DoubleWord t = is_double_word t
holds width.LongWord t = is_long_word t

abbrev pub parts_hold : Option AddressParts → Elem → Bool
parts_hold None t = false
parts_hold (Some parts) t = holds parts.1 t

-- the variable at an address may have this type
abbrev pub address_holds : List ℕ → Elem → Bool
address_holds address t = parts_hold (read_address address) t
