-- The numbers of literals. Source: IEC 61131-3, numeric literals and durations; a number outside each
-- type is none: below -2^63, or above 2^64 - 1.
use Rattle.std.specs.Prelude.{ℕ, ◌-◌, ◌^◌, nat_le, ℤ, pos, neg_ℤ, Bool, true, false, if◌then◌else◌, List, Option, Some, None}
use Rattle.st_lexer.specs.declared.values.TypedValue.{TypedValue}
use Rattle.st_lexer.specs.steps.Readings.{read_number, read_typed, read_time}
use Rattle.st_tree.specs.declared.code.Number.{Number}
use Rattle.iec_tables.specs.declared.elem.Elem.{Elem}
use Rattle.expression_types.specs.declared.meaning.TypedNumber.{TypedNumber}

-- a size with a minus or none
abbrev pub sized : Bool → ℕ → Option Number
sized true size = if nat_le size (2 ^ 63) then Some (record { value = neg_ℤ (pos size) }) else None
sized false size = if nat_le size (2 ^ 64 - 1) then Some (record { value = pos size }) else None

abbrev pub of_size : Bool → Option ℕ → Option Number
of_size negative None = None
of_size negative (Some size) = sized negative size

abbrev pub literal : Bool → List ℕ → Option Number
literal negative text = of_size negative (read_number text)

abbrev pub of_elem : Elem → Option Number → Option TypedNumber
of_elem t None = None
of_elem t (Some z) = Some (record { elem = t; number = z })

abbrev pub of_typed : Option TypedValue → Option TypedNumber
of_typed None = None
of_typed (Some v) = of_elem v.elem (sized v.negative v.size)

abbrev pub typed_literal : List ℕ → Option TypedNumber
typed_literal text = of_typed (read_typed text)

abbrev pub of_time : Option ℤ → Option Number
of_time None = None
of_time (Some z) = Some (record { value = z })

abbrev pub milliseconds : List ℕ → Option Number
milliseconds text = of_time (read_time text)
