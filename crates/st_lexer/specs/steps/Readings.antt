-- The values of whole texts as functions: a step on the way from the code to the relations. Each
-- function of the code answers what one of these does.
use Rattle.std.specs.Prelude.{ℕ, zero, suc, ◌+◌, ◌-◌, ◌^◌, ℤ, pos, neg_ℤ, Bool, true, false, ◌&&◌, if◌then◌else◌, nat_eq, nat_le, nat_lt, bytes_eq, List, [], ◌∷◌, length, map, take, drop, codes, Option, Some, None}
use Rattle.iec_tables.specs.Letters.{raised}
use Rattle.iec_tables.specs.declared.elem.Elem.{Elem}
use Rattle.iec_tables.specs.declared.elem.Elem.TheVariants as elem
use Rattle.st_lexer.specs.declared.values.Area.{Area}
use Rattle.st_lexer.specs.declared.values.Width.{Width}
use Rattle.st_lexer.specs.declared.values.Width.TheVariants as width
use Rattle.st_lexer.specs.declared.values.AddressValue.{AddressValue}
use Rattle.st_lexer.specs.declared.values.TypedValue.{TypedValue}
use Rattle.st_lexer.specs.Bytes.{begins, value_in}
use Rattle.st_lexer.specs.Texts.{is_word_of}
use Rattle.st_lexer.specs.Front.{above_units, and_then, found_in, goes_on, hash_follows, link_length, numbers_at, part_at, word_length}
use Rattle.st_lexer.specs.Values.{areas, named_types, widths}

-- ---- numbers

-- the digits in a base, single underscores between them, of a number below 2^128
abbrev pub read_numeral : ℕ → List ℕ → Option ℕ
read_numeral base bytes = if goes_on base true 0 bytes then Some (value_in base bytes) else None

unfoldable pub read_number : List ℕ → Option ℕ
read_number text =
    if bytes_eq (take 2 text) (codes "2#") then read_numeral 2 (drop 2 text)
    else (if bytes_eq (take 2 text) (codes "8#") then read_numeral 8 (drop 2 text)
    else (if bytes_eq (take 3 text) (codes "16#") then read_numeral 16 (drop 3 text)
    else read_numeral 10 text))

-- ---- typed numbers

abbrev pub of_type : Elem → Bool → Option ℕ → Option TypedValue
of_type t negative None = None
of_type t negative (Some size) = Some (record { elem = t; negative = negative; size = size })

abbrev pub read_signed : Elem → List ℕ → Option TypedValue
read_signed t bytes =
    if begins (nat_eq 45) bytes then of_type t true (read_number (drop 1 bytes))
    else (if begins (nat_eq 43) bytes then of_type t false (read_number (drop 1 bytes))
    else of_type t false (read_number bytes))

-- the truth values behind a `#`
abbrev pub truth_words : List (ℕ × List ℕ)
truth_words = (1, codes "TRUE") ∷ (0, codes "FALSE") ∷ []

abbrev pub read_truth : Elem → List ℕ → Option ℕ
read_truth elem.Bool word = found_in truth_words (map raised word)
read_truth _ word = None

abbrev pub or_signed : Elem → Option ℕ → List ℕ → Option TypedValue
or_signed t None rest = read_signed t rest
or_signed t (Some size) rest = Some (record { elem = t; negative = false; size = size })

-- what stands behind a type and a `#`
unfoldable pub behind_type : Elem → List ℕ → Option TypedValue
behind_type t rest = or_signed t (read_truth t rest) rest

abbrev pub typed_by : Option Elem → List ℕ → Option TypedValue
typed_by None rest = None
typed_by (Some t) rest = if hash_follows rest then behind_type t (drop 1 rest) else None

unfoldable pub read_typed : List ℕ → Option TypedValue
read_typed text =
    typed_by (found_in named_types (map raised (take (word_length text) text)))
    (drop (word_length text) text)

-- ---- times

-- so much more
abbrev pub added : ℕ → Option ℕ → Option ℕ
added n None = None
added n (Some m) = Some (n + m)

-- The milliseconds of parts: units are below `above`, and the sum is `left` at most. (The first
-- number bounds how many parts there are.)
unfoldable pub read_parts : ℕ → (above left : ℕ) → List ℕ → Option ℕ
read_parts zero above left bytes = None
read_parts (suc n) above left bytes = and_then (part_at bytes) (λ p.
    if nat_lt p.size above && nat_le p.value left then
    (if nat_eq (length (drop p.length bytes)) 0 then Some p.value
    else (if p.last then None
    else added p.value
    (read_parts n p.size (left - p.value)
    (drop (link_length (drop p.length bytes)) (drop p.length bytes)))))
    else None)

abbrev pub whole_parts : (left : ℕ) → List ℕ → Option ℕ
whole_parts left bytes = read_parts (suc (length bytes)) above_units left bytes

abbrev pub as_negative : Option ℕ → Option ℤ
as_negative None = None
as_negative (Some n) = Some (neg_ℤ (pos n))

abbrev pub as_positive : Option ℕ → Option ℤ
as_positive None = None
as_positive (Some n) = Some (pos n)

-- what stands behind the `T` or `TIME` of a time
abbrev pub behind_word : List ℕ → Option ℤ
behind_word rest =
    if bytes_eq (take 2 rest) (codes "#-") then as_negative (whole_parts (2 ^ 63) (drop 2 rest))
    else (if hash_follows rest then as_positive (whole_parts (2 ^ 63 - 1) (drop 1 rest)) else None)

unfoldable pub read_time : List ℕ → Option ℤ
read_time text =
    if is_word_of (codes "T" ∷ codes "TIME" ∷ []) (take (word_length text) text)
    then behind_word (drop (word_length text) text) else None

-- ---- addresses

-- an area, a width and numbers
abbrev pub AddressParts : Type 0
AddressParts = Area × Width × List ℕ

abbrev pub address_parts : Option AddressValue → Option AddressParts
address_parts None = None
address_parts (Some a) = Some (a.area, a.width, a.numbers.now)

abbrev pub numbers_by : Area → Width → List ℕ → Option ℕ → Option AddressParts
numbers_by a w numbers None = None
numbers_by a w numbers (Some n) = if nat_eq n (length numbers) then Some (a, w, numbers) else None

abbrev pub read_numbers : Area → Width → List ℕ → Option AddressParts
read_numbers a w numbers = numbers_by a w numbers (numbers_at numbers)

abbrev pub area_by_letter : ℕ → Option Area
area_by_letter letter = found_in areas (raised letter ∷ [])

abbrev pub width_by_letter : ℕ → Option Width
width_by_letter letter = found_in widths (raised letter ∷ [])

abbrev pub by_width : Area → Option Width → List ℕ → List ℕ → Option AddressParts
by_width a (Some w) bytes numbers = read_numbers a w numbers
by_width a None bytes numbers = read_numbers a width.Bit bytes

abbrev pub read_width : Area → List ℕ → Option AddressParts
read_width a [] = None
read_width a (first ∷ numbers) = by_width a (width_by_letter first) (first ∷ numbers) numbers

abbrev pub behind_area : Option Area → List ℕ → Option AddressParts
behind_area None rest = None
behind_area (Some a) rest = read_width a rest

abbrev pub behind_percent : List ℕ → Option AddressParts
behind_percent [] = None
behind_percent (letter ∷ rest) = behind_area (area_by_letter letter) rest

abbrev pub read_address : List ℕ → Option AddressParts
read_address [] = None
read_address (first ∷ rest) = if nat_eq first 37 then behind_percent rest else None
