-- Tables of words. Names and words are compared with small letters raised. Source: IEC 61131-3, third edition, identifiers
-- and keywords. The code searches by halves and raises letters as it compares; here a row is named by what it holds.
use Rattle.std.specs.Prelude.{◌≡◌, ℕ, Bool, List, [], ◌∷◌, map, codes}
use Rattle.std.specs.List.{Contains, range_with_len}
use Rattle.std.specs.Ordering.{nat_cmp}
use Rattle.std.specs.Cmp.Lexicographic.{slice_cmp}
use Rattle.iec_tables.specs.declared.words.Word.{Word}
use Rattle.iec_tables.specs.Letters.{raised}
use Rattle.iec_tables.specs.Rising.{keys_rise}

-- the texts rise strictly in byte order
abbrev pub texts_rise : List Word → Bool
texts_rise rows = keys_rise (slice_cmp nat_cmp) (λ row. row.text.now) rows

-- some row has that text and that number
pub record HasRow (rows : List Word) (text : List ℕ) (number : ℕ) : Type 0 where
  pub row : Word
  pub there : Contains rows row
  pub text_is : row.text.now ≡ text
  pub number_is : row.number ≡ number

-- no row has that text
abbrev pub HasNoRow : List Word → List ℕ → Type 0
HasNoRow rows text = (row : Word) → Contains rows row → ¬ (row.text.now ≡ text)

-- a key with its small letters raised
abbrev pub raised_all : List ℕ → List ℕ
raised_all key = map raised key

-- ---- the reserved words and the names of the elementary types, in byte order

abbrev pub keyword_texts : List (List ℕ)
keyword_texts =
    codes "ACTION" ∷ codes "AND" ∷ codes "ARRAY" ∷ codes "AT" ∷ codes "BOOL" ∷ codes "BY" ∷ codes "BYTE" ∷
    codes "CASE" ∷ codes "CONFIGURATION" ∷ codes "CONSTANT" ∷ codes "CONTINUE" ∷ codes "DINT" ∷ codes "DO" ∷
    codes "DWORD" ∷ codes "ELSE" ∷ codes "ELSIF" ∷ codes "END_ACTION" ∷ codes "END_CASE" ∷
    codes "END_CONFIGURATION" ∷ codes "END_FOR" ∷ codes "END_FUNCTION" ∷ codes "END_FUNCTION_BLOCK" ∷
    codes "END_IF" ∷ codes "END_PROGRAM" ∷ codes "END_REPEAT" ∷ codes "END_RESOURCE" ∷ codes "END_STEP" ∷
    codes "END_STRUCT" ∷ codes "END_TRANSITION" ∷ codes "END_TYPE" ∷ codes "END_VAR" ∷ codes "END_WHILE" ∷
    codes "EXIT" ∷ codes "FALSE" ∷ codes "FOR" ∷ codes "FROM" ∷ codes "FUNCTION" ∷ codes "FUNCTION_BLOCK" ∷
    codes "IF" ∷ codes "INITIAL_STEP" ∷ codes "INT" ∷ codes "LINT" ∷ codes "LWORD" ∷ codes "MOD" ∷
    codes "NON_RETAIN" ∷ codes "NOT" ∷ codes "OF" ∷ codes "ON" ∷ codes "OR" ∷ codes "PROGRAM" ∷
    codes "REPEAT" ∷ codes "RESOURCE" ∷ codes "RETAIN" ∷ codes "RETURN" ∷ codes "SINT" ∷ codes "STEP" ∷
    codes "STRUCT" ∷ codes "TASK" ∷ codes "THEN" ∷ codes "TIME" ∷ codes "TO" ∷ codes "TRANSITION" ∷
    codes "TRUE" ∷ codes "TYPE" ∷ codes "UDINT" ∷ codes "UINT" ∷ codes "ULINT" ∷ codes "UNTIL" ∷
    codes "USINT" ∷ codes "VAR" ∷ codes "VAR_EXTERNAL" ∷ codes "VAR_GLOBAL" ∷ codes "VAR_INPUT" ∷
    codes "VAR_IN_OUT" ∷ codes "VAR_OUTPUT" ∷ codes "VAR_TEMP" ∷ codes "WHILE" ∷ codes "WITH" ∷ codes "WORD" ∷
    codes "XOR" ∷ []

-- 0, 1 and so on
abbrev pub first_numbers : ℕ → List ℕ
first_numbers n = range_with_len 0 n
