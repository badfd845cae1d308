-- Where no token stands: the faults that are met at a place, also where a shorter token could begin there. Source: the lexical elements of the standard, and this
-- profile for what may not follow a literal. The code tells a fault where reading a token fails.
use Rattle.std.specs.Prelude.{◌≡◌, ℕ, Bool, true, false, ◌&&◌, nat_eq, List, [], ◌∷◌, ◌++◌, codes, None, not}
use Rattle.std.specs.List.{list_all, Contains}
use Rattle.iec_tables.specs.declared.fault.FaultCode.{FaultCode}
use Rattle.iec_tables.specs.declared.fault.FaultCode.TheVariants.{NotUtf8, BadByte, OpenComment, BadNumber, BadName, Grammar, TooDeep}
use Rattle.token_grammar.specs.declared.token.TokenKind.{TokenKind}
use Rattle.st_lexer.specs.declared.comments.Style.{Style}
use Rattle.st_lexer.specs.Bytes.{is_white, is_letter, is_digit, in_word, begins, is_spaced}
use Rattle.st_lexer.specs.Texts.{opener, closes, is_word_of, type_words, IsSign, IsNumber, IsText}
use Rattle.st_lexer.specs.Times.{IsTime}

-- ---- comments and pragmas that aren't closed

pub data IsOpen (bytes : List ℕ) : Type 0 where
  comment : (style : Style) (body : List ℕ) → bytes ≡ opener style ∷ 42 ∷ body → closes style 0 body ≡ None → IsOpen bytes
  pragma : (body : List ℕ) → bytes ≡ 123 ∷ body → list_all (λ byte. not (nat_eq byte 125)) body ≡ true → IsOpen bytes

-- ---- malformed names

-- A word that begins like a name, up to its end, has two underscores in a row or one at the end.
pub record IsBadName (bytes : List ℕ) : Type 0 where
  pub word : List ℕ
  pub rest : List ℕ
  pub bytes_are : bytes ≡ word ++ rest
  pub first : begins is_letter word ≡ true
  pub in_words : list_all in_word word ≡ true
  pub ended : begins in_word rest ≡ false
  pub unspaced : is_spaced 95 word ≡ false

-- ---- malformed literals

-- a dot and a digit
abbrev pub is_fraction : List ℕ → Bool
is_fraction [] = false
is_fraction (byte ∷ bytes) = nat_eq byte 46 && begins is_digit bytes

-- Nothing behind a number goes on with it: no letter, digit or underscore, no dot with a digit, and behind 2, 8 or 16 no `#`.
pub record EndsNumber (text rest : List ℕ) : Type 0 where
  pub word : begins in_word rest ≡ false
  pub fraction : is_fraction rest ≡ false
  pub base : Contains (codes "2" ∷ codes "8" ∷ codes "16" ∷ []) text → begins (nat_eq 35) rest ≡ false

-- A number, a typed number or a time stands at the front, and nothing behind it goes on with it.
pub data HasLiteral (text rest : List ℕ) : Type 0 where
  number : IsNumber text → EndsNumber text rest → HasLiteral text rest
  typed : (word sign digits : List ℕ) → text ≡ word ++ 35 ∷ (sign ++ digits) → is_word_of type_words word ≡ true → IsSign sign → IsNumber digits
      → EndsNumber digits rest → HasLiteral text rest
  truth : is_word_of (codes "BOOL#TRUE" ∷ codes "BOOL#FALSE" ∷ []) text ≡ true → begins in_word rest ≡ false → HasLiteral text rest
  time : IsTime text → begins in_word rest ≡ false → HasLiteral text rest

-- A literal begins at the front: a digit, or the name of a type, `T` or `TIME` with `#` directly behind it.
pub data BeginsLiteral (bytes : List ℕ) : Type 0 where
  digit : begins is_digit bytes ≡ true → BeginsLiteral bytes
  typed : (word rest : List ℕ) → bytes ≡ word ++ 35 ∷ rest → is_word_of type_words word ≡ true → BeginsLiteral bytes
  time : (word rest : List ℕ) → bytes ≡ word ++ 35 ∷ rest → is_word_of (codes "T" ∷ codes "TIME" ∷ []) word ≡ true → BeginsLiteral bytes

-- It begins, and none stands there.
pub record IsBadNumber (bytes : List ℕ) : Type 0 where
  pub begun : BeginsLiteral bytes
  pub none : (text rest : List ℕ) → bytes ≡ text ++ rest → HasLiteral text rest → ⊥

-- ---- bytes that begin nothing

-- None of the faults above is met.
pub record HasNoFault (bytes : List ℕ) : Type 0 where
  pub no_open_comment : IsOpen bytes → ⊥
  pub no_bad_name : IsBadName bytes → ⊥
  pub no_bad_number : IsBadNumber bytes → ⊥

-- A byte that is no white space, at which none of the faults above is met and no token begins.
pub record IsBadByte (bytes : List ℕ) : Type 0 where
  pub not_white : begins (λ byte. not (is_white byte)) bytes ≡ true
  pub no_fault : HasNoFault bytes
  pub none : (kind : TokenKind) (text rest : List ℕ) → bytes ≡ text ++ rest → IsText kind text → ⊥

-- This fault is met at the front. (That a text isn't UTF-8 is none of a place.)
abbrev pub IsFaulty : FaultCode → List ℕ → Type 0
IsFaulty NotUtf8 bytes = ⊥
IsFaulty BadByte bytes = IsBadByte bytes
IsFaulty OpenComment bytes = IsOpen bytes
IsFaulty BadNumber bytes = IsBadNumber bytes
IsFaulty BadName bytes = IsBadName bytes
IsFaulty Grammar bytes = ⊥
IsFaulty TooDeep bytes = ⊥
