-- Bytes and the texts that are made of them. Source: the lexical elements of the standard. The code matches on ranges of bytes.
use Rattle.std.specs.Prelude.{ℕ, ◌-◌, ◌+◌, ◌*◌, Bool, true, false, not, ◌&&◌, ◌||◌, if◌then◌else◌, nat_eq, nat_le, nat_lt, List, [], ◌∷◌}
use Rattle.std.specs.List.{list_all, fold}
use Rattle.iec_tables.specs.Letters.{raised}

abbrev pub between : ℕ → ℕ → ℕ → Bool
between low high byte = nat_le low byte && nat_le byte high

-- space, tab, carriage return, line feed
abbrev pub is_white : ℕ → Bool
is_white byte = nat_eq byte 32 || (nat_eq byte 9 || (nat_eq byte 13 || nat_eq byte 10))

-- an ASCII letter
abbrev pub is_alphabetic : ℕ → Bool
is_alphabetic byte = between 97 122 byte || between 65 90 byte

-- an ASCII letter, or an underscore
abbrev pub is_letter : ℕ → Bool
is_letter byte = is_alphabetic byte || nat_eq byte 95

abbrev pub is_digit : ℕ → Bool
is_digit byte = between 48 57 byte

-- a byte of a word: a letter, a digit or an underscore
abbrev pub in_word : ℕ → Bool
in_word byte = is_letter byte || is_digit byte

-- the first byte passes the test
abbrev pub begins : (ℕ → Bool) → List ℕ → Bool
begins test [] = false
begins test (byte ∷ bytes) = test byte

-- What a byte is worth as a digit: letters, in either case, go on behind 9. A byte that is no digit in any base is worth 36.
abbrev pub worth : ℕ → ℕ
worth byte = if is_digit byte then byte - 48 else (if is_alphabetic byte then raised byte - 55 else 36)

-- a digit in this base
abbrev pub is_digit_in : ℕ → ℕ → Bool
is_digit_in base byte = nat_lt (worth byte) base

-- one more digit of a number, or an underscore, which is passed over
abbrev pub one_more : (base value byte : ℕ) → ℕ
one_more base value byte = if nat_eq byte 95 then value else value * base + worth byte

-- the number that the digits are in this base
abbrev pub value_in : ℕ → List ℕ → ℕ
value_in base digits = fold (one_more base) 0 digits

-- no two separators in a row, and none at the end
abbrev pub is_spaced : ℕ → List ℕ → Bool
is_spaced separator [] = true
is_spaced separator (byte ∷ []) = not (nat_eq byte separator)
is_spaced separator (byte ∷ next ∷ bytes) = not (nat_eq byte separator && nat_eq next separator) && is_spaced separator (next ∷ bytes)

-- One byte or more that pass the test, with single separators between them.
abbrev pub is_joined : (ℕ → Bool) → ℕ → List ℕ → Bool
is_joined test separator text = begins test text && (list_all (λ byte. test byte || nat_eq byte separator) text && is_spaced separator text)
