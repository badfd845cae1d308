-- What stands at the front of a text, as functions: a step on the way from the code to the definition of the cut. Each function of the code answers what one of these
-- does.
use Rattle.std.specs.Prelude.{ℕ, zero, suc, ◌+◌, ◌-◌, ◌*◌, ◌/◌, ◌%◌, ◌^◌, Bool, true, false, not, ◌&&◌, ◌||◌, if◌then◌else◌, nat_eq, nat_le, nat_lt, bytes_eq, List, [], ◌∷◌, length, map, take, drop, codes, Option, Some, None}
use Rattle.std.specs.List.{prefix_len}
use Rattle.iec_tables.specs.Letters.{raised}
use Rattle.iec_tables.specs.declared.fault.FaultCode.{FaultCode}
use Rattle.iec_tables.specs.declared.fault.FaultCode.TheVariants.{BadByte, OpenComment, BadNumber, BadName}
use Rattle.token_grammar.specs.declared.token.TokenKind.{TokenKind}
use Rattle.token_grammar.specs.declared.token.TokenKind.TheVariants as kind
use Rattle.st_lexer.specs.declared.front.Found.{Found}
use Rattle.st_lexer.specs.declared.front.Found.TheVariants.{Token, Fault}
use Rattle.st_lexer.specs.declared.bytes.Lead.{Lead}
use Rattle.st_lexer.specs.declared.bytes.Lead.TheVariants as lead
use Rattle.st_lexer.specs.declared.times.Part.{Part}
use Rattle.st_lexer.specs.declared.comments.Style.{Style}
use Rattle.st_lexer.specs.declared.comments.Style.TheVariants.{Parentheses, Slashes}
use Rattle.st_lexer.specs.Bytes.{is_alphabetic, is_letter, is_digit, in_word, begins, worth, is_spaced}
use Rattle.st_lexer.specs.Texts.{closes, is_word_of, keywords, marks, type_words}
use Rattle.st_lexer.specs.Times.{units}
use Rattle.st_lexer.specs.Faulty.{is_fraction}

-- the value of the first row with that text
abbrev pub found_in : {A : Type 0} → List (A × List ℕ) → List ℕ → Option A
found_in [] text = None
found_in (row ∷ rows) text = if bytes_eq text row.1 then Some row.0 else found_in rows text

-- a token of that length, or a fault where there is none
abbrev pub token_or : FaultCode → TokenKind → Option ℕ → Found
token_or code k None = Fault code
token_or code k (Some n) = Token k n

-- so many bytes more
abbrev pub longer : ℕ → Option ℕ → Option ℕ
longer n None = None
longer n (Some m) = Some (n + m)

-- ---- words

abbrev pub word_length : List ℕ → ℕ
word_length bytes = prefix_len in_word bytes

abbrev pub hash_follows : List ℕ → Bool
hash_follows bytes = begins (nat_eq 35) bytes

-- a reserved word, else a name
abbrev pub kind_or_name : Option TokenKind → TokenKind
kind_or_name None = kind.Name
kind_or_name (Some k) = k

unfoldable pub word_kind : List ℕ → TokenKind
word_kind word = kind_or_name (found_in keywords (map raised word))

-- ---- numbers

-- a number below 2^128
abbrev pub small : ℕ → Option ℕ
small n = if nat_lt n (2 ^ 128) then Some n else None

-- The bytes are digits in the base, single underscores between them, of a number that stays below 2^128, from a value on. (`after`: no underscore may come next.)
unfoldable pub goes_on : (base : ℕ) (after : Bool) (value : ℕ) → List ℕ → Bool
goes_on base after value [] = not after
goes_on base after value (byte ∷ bytes) =
    if nat_eq byte 95 then not after && goes_on base true value bytes
    else (nat_lt (worth byte) base && (nat_lt (value * base + worth byte) (2 ^ 128) && goes_on base false (value * base + worth byte) bytes))

-- the length of the digits at the front, where they are a number that ends there
unfoldable pub digits_at : ℕ → List ℕ → Option ℕ
digits_at base bytes =
    if goes_on base true 0 (take (word_length bytes) bytes) && not (is_fraction (drop (word_length bytes) bytes)) then Some (word_length bytes) else None

-- the base that the word is the mark of
abbrev pub base_of : List ℕ → Option ℕ
base_of word = if bytes_eq word (codes "2") then Some 2 else (if bytes_eq word (codes "8") then Some 8 else (if bytes_eq word (codes "16") then Some 16 else None))

abbrev pub number_by : Option ℕ → Bool → List ℕ → Option ℕ
number_by (Some base) true bytes = longer (suc (word_length bytes)) (digits_at base (drop (suc (word_length bytes)) bytes))
number_by (Some base) false bytes = digits_at 10 bytes
number_by None hash bytes = digits_at 10 bytes

-- the length of the number at the front, where one stands and ends there
unfoldable pub number_at : List ℕ → Option ℕ
number_at bytes = number_by (base_of (take (word_length bytes) bytes)) (hash_follows (drop (word_length bytes) bytes)) bytes

abbrev pub is_sign : ℕ → Bool
is_sign byte = nat_eq byte 43 || nat_eq byte 45

abbrev pub signed_at : List ℕ → Option ℕ
signed_at bytes = if begins is_sign bytes then longer 1 (number_at (drop 1 bytes)) else number_at bytes

abbrev pub truths : List (List ℕ)
truths = codes "TRUE" ∷ codes "FALSE" ∷ []

-- the length of what follows the `#` of a typed number
unfoldable pub typed_at : List ℕ → List ℕ → Option ℕ
typed_at word bytes =
    if is_word_of (codes "BOOL" ∷ []) word && is_word_of truths (take (word_length bytes) bytes) then Some (word_length bytes) else signed_at bytes

-- ---- times

abbrev pub and_then : {A B : Type 0} → Option A → (A → Option B) → Option B
and_then None go_on = None
and_then (Some a) go_on = go_on a

abbrev pub whole_length : List ℕ → ℕ
whole_length bytes = prefix_len is_digit bytes

-- the length of a fraction with its dot, where it has one digit to nine, or of no fraction
abbrev pub counted : ℕ → Option ℕ
counted n = if nat_lt 0 n && nat_le n 9 then Some (suc n) else None

abbrev pub fraction_at : List ℕ → Option ℕ
fraction_at bytes = if begins (nat_eq 46) bytes then counted (prefix_len is_digit (drop 1 bytes)) else Some 0

abbrev pub letters_length : List ℕ → ℕ
letters_length bytes = prefix_len is_alphabetic bytes

-- the milliseconds of a unit
abbrev pub size_in : List (List ℕ × ℕ) → List ℕ → Option ℕ
size_in [] text = None
size_in (row ∷ rows) text = if bytes_eq text row.0 then Some row.1 else size_in rows text

unfoldable pub unit_size : List ℕ → Option ℕ
unit_size letters = size_in units (map raised letters)

-- the number that the digits are behind a value, as long as it stays below 2^100; a dot is passed over
unfoldable pub value_on : ℕ → List ℕ → Option ℕ
value_on value [] = Some value
value_on value (byte ∷ bytes) =
    if is_digit byte then (if nat_lt (value * 10 + (byte - 48)) (2 ^ 100) then value_on (value * 10 + (byte - 48)) bytes else None) else value_on value bytes

-- a part of these lengths: of digits, of the fraction with its dot, of letters
abbrev pub part_of : (whole point letters size value : ℕ) → Option Part
part_of whole point letters size value =
    if nat_lt 0 whole && nat_eq ((value * size) % 10 ^ (point - 1)) 0
    then Some (record { length = whole + point + letters; size = size; value = (value * size) / 10 ^ (point - 1); last = nat_lt 0 point }) else None

-- the part at the front
unfoldable pub part_at : List ℕ → Option Part
part_at bytes =
    and_then (fraction_at (drop (whole_length bytes) bytes)) (λ point.
    and_then (unit_size (take (letters_length (drop (whole_length bytes + point) bytes)) (drop (whole_length bytes + point) bytes))) (λ size.
    and_then (value_on 0 (take (whole_length bytes + point) bytes)) (λ value.
    part_of (whole_length bytes) point (letters_length (drop (whole_length bytes + point) bytes)) size value)))

-- an underscore, or nothing
abbrev pub link_length : List ℕ → ℕ
link_length bytes = if begins (nat_eq 95) bytes then 1 else 0

-- The length of the parts at the front: units are below `above`, and the sum is `left` at most. (The first number bounds how many parts there are.)
unfoldable pub parts_at : ℕ → (above left : ℕ) → List ℕ → Option ℕ
parts_at zero above left bytes = None
parts_at (suc n) above left bytes = and_then (part_at bytes) (λ p.
    if nat_lt p.size above && nat_le p.value left then
    (if begins in_word (drop p.length bytes) then
    (if p.last then None
    else longer (p.length + link_length (drop p.length bytes)) (parts_at n p.size (left - p.value) (drop (p.length + link_length (drop p.length bytes)) bytes)))
    else Some p.length)
    else None)

-- more than the size of each unit
abbrev pub above_units : ℕ
above_units = 86400001

-- the length of what follows the `#` of a time
unfoldable pub time_at : List ℕ → Option ℕ
time_at bytes =
    if begins (nat_eq 45) bytes then longer 1 (parts_at (length bytes) above_units (2 ^ 63) (drop 1 bytes)) else parts_at (suc (length bytes)) above_units (2 ^ 63 - 1) bytes

-- ---- what begins with a letter

-- what follows a word
unfoldable pub word_at : (length : ℕ) (word rest : List ℕ) → Found
word_at n word rest =
    if hash_follows rest && is_word_of type_words word then token_or BadNumber kind.TypedNumber (longer (suc n) (typed_at word (drop 1 rest)))
    else (if hash_follows rest && is_word_of (codes "T" ∷ codes "TIME" ∷ []) word then token_or BadNumber kind.Duration (longer (suc n) (time_at (drop 1 rest)))
    else (if is_spaced 95 word then Token (word_kind word) n else Fault BadName))

-- ---- comments, pragmas, addresses, marks

abbrev pub line_length : List ℕ → ℕ
line_length bytes = prefix_len (λ byte. not (nat_eq byte 10)) bytes

abbrev pub comment_at : Style → List ℕ → Found
comment_at style bytes = token_or OpenComment kind.Comment (longer 2 (closes style 0 bytes))

-- the length up to the first `}`, and with it
unfoldable pub pragma_at : List ℕ → Option ℕ
pragma_at [] = None
pragma_at (byte ∷ bytes) = if nat_eq byte 125 then Some 1 else longer 1 (pragma_at bytes)

-- how many bytes are digits, or dots with a digit behind them
unfoldable pub numbers_length : List ℕ → ℕ
numbers_length [] = 0
numbers_length (byte ∷ bytes) = if is_digit byte || (nat_eq byte 46 && begins is_digit bytes) then suc (numbers_length bytes) else 0

abbrev pub numbers_at : List ℕ → Option ℕ
numbers_at bytes = if begins is_digit bytes then Some (numbers_length bytes) else None

abbrev pub is_area : ℕ → Bool
is_area byte = nat_eq (raised byte) 73 || (nat_eq (raised byte) 81 || nat_eq (raised byte) 77)

abbrev pub is_size : ℕ → Bool
is_size byte =
    nat_eq (raised byte) 88 || (nat_eq (raised byte) 66 || (nat_eq (raised byte) 87 || (nat_eq (raised byte) 68 || nat_eq (raised byte) 76)))

-- the length of what follows the `%` of an address
unfoldable pub address_at : List ℕ → Option ℕ
address_at bytes =
    if begins is_area bytes then
    (if begins is_size (drop 1 bytes) then longer 2 (numbers_at (drop 2 bytes)) else longer 1 (numbers_at (drop 1 bytes)))
    else None

unfoldable pub long_mark : (first second : ℕ) → Option TokenKind
long_mark first second = found_in marks (first ∷ second ∷ [])

unfoldable pub short_mark : ℕ → Option TokenKind
short_mark first = found_in marks (first ∷ [])

abbrev pub long_or : Option TokenKind → Option TokenKind → Found
long_or (Some k) short = Token k 2
long_or None None = Fault BadByte
long_or None (Some k) = Token k 1

abbrev pub mark_at : ℕ → List ℕ → Found
mark_at first [] = long_or None (short_mark first)
mark_at first (second ∷ bytes) = long_or (long_mark first second) (short_mark first)

-- ---- all

abbrev pub lead_of : ℕ → Lead
lead_of byte =
    if is_letter byte then lead.Letter else (if is_digit byte then lead.Digit else (if nat_eq byte 37 then lead.Percent else
    (if nat_eq byte 123 then lead.Brace else (if nat_eq byte 40 then lead.Parenthesis else (if nat_eq byte 47 then lead.Slash else lead.Other)))))

abbrev pub at_slash : List ℕ → Found
at_slash rest =
    if begins (nat_eq 47) rest then Token kind.Comment (2 + line_length (drop 1 rest))
    else (if begins (nat_eq 42) rest then comment_at Slashes (drop 1 rest) else mark_at 47 rest)

abbrev pub at_parenthesis : List ℕ → Found
at_parenthesis rest = if begins (nat_eq 42) rest then comment_at Parentheses (drop 1 rest) else mark_at 40 rest

abbrev pub by_lead : Lead → ℕ → List ℕ → Found
by_lead lead.Letter byte rest = word_at (word_length (byte ∷ rest)) (take (word_length (byte ∷ rest)) (byte ∷ rest)) (drop (word_length (byte ∷ rest)) (byte ∷ rest))
by_lead lead.Digit byte rest = token_or BadNumber kind.Number (number_at (byte ∷ rest))
by_lead lead.Percent byte rest = token_or BadByte kind.Address (longer 1 (address_at rest))
by_lead lead.Brace byte rest = token_or OpenComment kind.Pragma (longer 1 (pragma_at rest))
by_lead lead.Parenthesis byte rest = at_parenthesis rest
by_lead lead.Slash byte rest = at_slash rest
by_lead lead.Other byte rest = mark_at byte rest

-- what stands at the front of bytes, of which there is one at least
unfoldable pub front : List ℕ → Found
front [] = Fault BadByte
front (byte ∷ rest) = by_lead (lead_of byte) byte rest
