-- Which names and waivers are lawful. Source: this profile. The code goes through the bytes once.
use Rattle.std.specs.Prelude.{ℕ, ◌+◌, ◌*◌, ◌-◌, Bool, false, ◌&&◌, ◌||◌, List, [], ◌∷◌, length, nat_eq, nat_le}
use Rattle.std.specs.List.{list_all}
use Rattle.std.specs.Str.Lossy.{utf8_valid_len}
use Rattle.iec_tables.specs.Letters.{raised}
use Rattle.iec_tables.specs.Words.{raised_all}
use Rattle.station_ports.specs.declared.lists.Waiver.{Waiver}
use Rattle.station_ports.specs.declared.lists.WaiverKey.{WaiverKey}
use Rattle.station_ports.specs.Lists.{key_of}

abbrev pub is_within : ℕ → ℕ → ℕ → Bool
is_within low high byte = nat_le low byte && nat_le byte high

-- ---- names of callers, projects and files

-- A-Z, a-z, 0-9
abbrev pub is_letter_or_digit : ℕ → Bool
is_letter_or_digit byte = is_within 65 90 byte || (is_within 97 122 byte || is_within 48 57 byte)

-- or `_`, `.`, `-`
abbrev pub is_name_byte : ℕ → Bool
is_name_byte byte = is_letter_or_digit byte || (nat_eq byte 95 || (nat_eq byte 46 || nat_eq byte 45))

-- 1 to 64 bytes, which begin with a letter or a digit
abbrev pub is_name : List ℕ → Bool
is_name [] = false
is_name (byte ∷ bytes) = is_letter_or_digit byte && (nat_le (length (byte ∷ bytes)) 64 && list_all is_name_byte (byte ∷ bytes))

-- ---- waivers

abbrev pub is_digit : ℕ → Bool
is_digit byte = is_within 48 57 byte

-- 01 to 24
abbrev pub is_rule_number : ℕ → ℕ → Bool
is_rule_number tens ones = is_digit tens && (is_digit ones && is_within 1 24 (10 * (tens - 48) + (ones - 48)))

-- A1 to A4, S01 to S24
abbrev pub is_code : List ℕ → Bool
is_code (letter ∷ digit ∷ []) = nat_eq letter 65 && is_within 49 52 digit
is_code (letter ∷ tens ∷ ones ∷ []) = nat_eq letter 83 && is_rule_number tens ones
is_code _ = false

-- 1 to 200 bytes
abbrev pub is_short : List ℕ → Bool
is_short bytes = is_within 1 200 (length bytes)

-- a unit or a subject: 1 to 200 bytes of ASCII 33 to 126
abbrev pub is_subject : List ℕ → Bool
is_subject bytes = is_short bytes && list_all (is_within 33 126) bytes

abbrev pub is_utf8 : List ℕ → Bool
is_utf8 bytes = nat_eq (utf8_valid_len bytes) (length bytes)

abbrev pub is_printed : ℕ → Bool
is_printed byte = nat_le 32 byte

-- UTF-8 of 1 to 200 bytes without bytes below 32
abbrev pub is_reason : List ℕ → Bool
is_reason bytes = is_short bytes && (list_all is_printed bytes && is_utf8 bytes)

abbrev pub is_valid_key : WaiverKey → Bool
is_valid_key key = is_code key.code && (is_subject key.unit && is_subject key.subject)

abbrev pub is_valid : Waiver → Bool
is_valid waiver = is_valid_key (key_of waiver) && is_reason waiver.reason

-- the small letters of its unit and subject are raised
abbrev pub raised_key : WaiverKey → WaiverKey
raised_key key = record { code = key.code; unit = raised_all key.unit; subject = raised_all key.subject }

abbrev pub raised_waiver : Waiver → Waiver
raised_waiver waiver = record { code = waiver.code; unit = raised_all waiver.unit; subject = raised_all waiver.subject; reason = waiver.reason }

abbrev pub is_raised : List ℕ → Bool
is_raised bytes = list_all (λ byte. nat_eq (raised byte) byte) bytes

-- a key under which a waiver may be stored
abbrev pub is_lawful_key : WaiverKey → Bool
is_lawful_key key = is_valid_key key && (is_raised key.unit && is_raised key.subject)

-- a waiver as it may be stored
abbrev pub is_lawful_waiver : Waiver → Bool
is_lawful_waiver waiver = is_valid waiver && (is_raised waiver.unit && is_raised waiver.subject)
