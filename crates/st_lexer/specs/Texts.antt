-- The texts of tokens, kind by kind, each for itself. Source: the lexical elements of the standard (comments, identifiers, keywords, literals, directly
-- represented variables, delimiters), narrowed to this profile. The code reads bytes from left to right and tells the kind as it goes.
use Rattle.std.specs.Prelude.{◌≡◌, ℕ, zero, suc, ◌+◌, ◌^◌, ◌<◌, true, false, not, Bool, ◌&&◌, if◌then◌else◌, nat_eq, bytes_eq, List, [], ◌∷◌, ◌++◌, length, map, codes, Option, Some, None}
use Rattle.std.specs.List.{list_all, list_any, Contains, zip}
use Rattle.iec_tables.specs.Letters.{raised}
use Rattle.iec_tables.specs.Words.{keyword_texts}
use Rattle.token_grammar.specs.declared.token.TokenKind.{TokenKind}
use Rattle.token_grammar.specs.declared.token.TokenKind.TheVariants as kind
use Rattle.st_lexer.specs.declared.comments.Style.{Style}
use Rattle.st_lexer.specs.declared.comments.Style.TheVariants.{Parentheses, Slashes}
use Rattle.st_lexer.specs.Bytes.{is_letter, is_digit, in_word, begins, is_digit_in, value_in, is_spaced, is_joined}
use Rattle.st_lexer.specs.Times.{IsTime}

-- the texts with letters raised are the same
abbrev pub is_word_of : List (List ℕ) → List ℕ → Bool
is_word_of words text = list_any (bytes_eq (map raised text)) words

-- ---- comments and pragmas

-- the styles of comments that have an end, `(* *)` and `/* */`: the byte before the star that opens, and the byte behind the star that closes
abbrev pub opener : Style → ℕ
opener Parentheses = 40
opener Slashes = 47

abbrev pub closer : Style → ℕ
closer Parentheses = 41
closer Slashes = 47

-- these two bytes in a row
abbrev pub is_pair : (x y first second : ℕ) → Bool
is_pair x y first second = nat_eq first x && nat_eq second y

abbrev pub behind : ℕ → Option ℕ → Option ℕ
behind n None = None
behind n (Some more) = Some (n + more)

-- what closes the outermost comment ends it, what closes another leaves one less open
abbrev pub shut : ℕ → (ℕ → Option ℕ) → Option ℕ
shut zero go_on = Some 2
shut (suc depth) go_on = go_on depth

-- Behind how many bytes a comment ends, of which so many are open within the outermost one. Each opening mark of its style opens one more. Marks are
-- read from the left, and none shares a byte with another.
unfoldable pub closes : Style → ℕ → List ℕ → Option ℕ
closes style depth [] = None
closes style depth (byte ∷ []) = None
closes style depth (byte ∷ next ∷ bytes) =
    if is_pair (opener style) 42 byte next then behind 2 (closes style (suc depth) bytes)
    else (if is_pair 42 (closer style) byte next then shut depth (λ less. behind 2 (closes style less bytes)) else behind 1 (closes style depth (next ∷ bytes)))

-- A comment runs from `//` up to the end of the line, without the line feed, or of the text, or from an opening mark to the mark that closes it.
pub data IsComment (text : List ℕ) : Type 0 where
  to_line_end : (body : List ℕ) → text ≡ 47 ∷ 47 ∷ body → list_all (λ byte. not (nat_eq byte 10)) body ≡ true → IsComment text
  closed : (style : Style) (body : List ℕ) → text ≡ opener style ∷ 42 ∷ body → closes style 0 body ≡ Some (length body) → IsComment text

-- A pragma runs from `{` to the first `}`.
pub record IsPragma (text : List ℕ) : Type 0 where
  pub body : List ℕ
  pub text_is : text ≡ 123 ∷ (body ++ 125 ∷ [])
  pub first : list_all (λ byte. not (nat_eq byte 125)) body ≡ true

-- ---- words

-- A name begins with a letter or an underscore and goes on with letters, digits and underscores, of which no two stand in a row and none at the end. It is
-- no reserved word and no name of a type.
pub record IsName (text : List ℕ) : Type 0 where
  pub first : begins is_letter text ≡ true
  pub word : list_all in_word text ≡ true
  pub spaced : is_spaced 95 text ≡ true
  pub free : is_word_of keyword_texts text ≡ false

-- the kinds of the reserved words and of the names of types, in the order of their texts
abbrev pub keyword_kinds : List TokenKind
keyword_kinds =
    kind.Action ∷ kind.And ∷ kind.Array ∷ kind.At ∷ kind.Bool ∷ kind.By ∷ kind.Byte ∷
    kind.Case ∷ kind.Configuration ∷ kind.Constant ∷ kind.Continue ∷ kind.Dint ∷ kind.Do ∷ kind.Dword ∷
    kind.Else ∷ kind.Elsif ∷ kind.EndAction ∷ kind.EndCase ∷ kind.EndConfiguration ∷ kind.EndFor ∷ kind.EndFunction ∷
    kind.EndFunctionBlock ∷ kind.EndIf ∷ kind.EndProgram ∷ kind.EndRepeat ∷ kind.EndResource ∷ kind.EndStep ∷ kind.EndStruct ∷
    kind.EndTransition ∷ kind.EndType ∷ kind.EndVar ∷ kind.EndWhile ∷ kind.Exit ∷ kind.False ∷ kind.For ∷
    kind.From ∷ kind.Function ∷ kind.FunctionBlock ∷ kind.If ∷ kind.InitialStep ∷ kind.Int ∷ kind.Lint ∷
    kind.Lword ∷ kind.Mod ∷ kind.NonRetain ∷ kind.Not ∷ kind.Of ∷ kind.On ∷ kind.Or ∷
    kind.Program ∷ kind.Repeat ∷ kind.Resource ∷ kind.Retain ∷ kind.Return ∷ kind.Sint ∷ kind.Step ∷
    kind.Struct ∷ kind.Task ∷ kind.Then ∷ kind.Time ∷ kind.To ∷ kind.Transition ∷ kind.True ∷
    kind.Type ∷ kind.Udint ∷ kind.Uint ∷ kind.Ulint ∷ kind.Until ∷ kind.Usint ∷ kind.Var ∷
    kind.VarExternal ∷ kind.VarGlobal ∷ kind.VarInput ∷ kind.VarInOut ∷ kind.VarOutput ∷ kind.VarTemp ∷ kind.While ∷
    kind.With ∷ kind.Word ∷ kind.Xor ∷ []

abbrev pub keywords : List (TokenKind × List ℕ)
keywords = zip keyword_kinds keyword_texts

-- ---- numbers

-- the bases that are written before the digits, with their marks
abbrev pub bases : List (ℕ × List ℕ)
bases = (2, codes "2#") ∷ (8, codes "8#") ∷ (16, codes "16#") ∷ []

-- Digits in a base, single underscores between them, that are a number below 2^128.
pub record IsNumeral (base : ℕ) (text : List ℕ) : Type 0 where
  pub digits : is_joined (is_digit_in base) 95 text ≡ true
  pub small : value_in base text < 2 ^ 128

-- A number is a decimal numeral, or the mark of a base and a numeral in that base.
pub data IsNumber (text : List ℕ) : Type 0 where
  decimal : IsNumeral 10 text → IsNumber text
  based : (base : ℕ) (mark digits : List ℕ) → Contains bases (base, mark) → text ≡ mark ++ digits → IsNumeral base digits → IsNumber text

-- the types before the `#` of a typed number
abbrev pub type_words : List (List ℕ)
type_words =
    codes "SINT" ∷ codes "INT" ∷ codes "DINT" ∷ codes "LINT" ∷ codes "USINT" ∷ codes "UINT" ∷ codes "UDINT" ∷ codes "ULINT" ∷
    codes "BOOL" ∷ codes "BYTE" ∷ codes "WORD" ∷ codes "DWORD" ∷ codes "LWORD" ∷ []

-- no sign, or one
abbrev pub IsSign : List ℕ → Type 0
IsSign sign = Contains ([] ∷ codes "-" ∷ codes "+" ∷ []) sign

-- The name of a type, `#`, and a number that may have a sign; or `BOOL#TRUE` or `BOOL#FALSE`.
pub data IsTyped (text : List ℕ) : Type 0 where
  number : (word sign digits : List ℕ) → text ≡ word ++ 35 ∷ (sign ++ digits) → is_word_of type_words word ≡ true → IsSign sign → IsNumber digits → IsTyped text
  truth : is_word_of (codes "BOOL#TRUE" ∷ codes "BOOL#FALSE" ∷ []) text ≡ true → IsTyped text

-- ---- addresses

-- `%`, the area, the size, which may be left out, and numbers joined by single dots
pub record IsAddress (text : List ℕ) : Type 0 where
  pub area : ℕ
  pub size : List ℕ
  pub numbers : List ℕ
  pub text_is : map raised text ≡ 37 ∷ area ∷ (size ++ numbers)
  pub is_area : Contains (codes "IQM") area
  pub is_size : Contains ([] ∷ codes "X" ∷ codes "B" ∷ codes "W" ∷ codes "D" ∷ codes "L" ∷ []) size
  pub are_numbers : is_joined is_digit 46 numbers ≡ true

-- ---- marks

abbrev pub marks : List (TokenKind × List ℕ)
marks =
    (kind.Becomes, codes ":=") ∷ (kind.Arrow, codes "=>") ∷ (kind.LessEqual, codes "<=") ∷
    (kind.GreaterEqual, codes ">=") ∷ (kind.NotEqual, codes "<>") ∷ (kind.Power, codes "**") ∷
    (kind.DotDot, codes "..") ∷ (kind.Equal, codes "=") ∷ (kind.Less, codes "<") ∷
    (kind.Greater, codes ">") ∷ (kind.Plus, codes "+") ∷ (kind.Minus, codes "-") ∷
    (kind.Star, codes "*") ∷ (kind.Slash, codes "/") ∷ (kind.Ampersand, codes "&") ∷
    (kind.OpenParenthesis, codes "(") ∷ (kind.CloseParenthesis, codes ")") ∷ (kind.OpenBracket, codes "[") ∷
    (kind.CloseBracket, codes "]") ∷ (kind.Comma, codes ",") ∷ (kind.Semicolon, codes ";") ∷
    (kind.Colon, codes ":") ∷ (kind.Dot, codes ".") ∷ (kind.Hash, codes "#") ∷ []

-- ---- all kinds

-- This is the text of a token of that kind.
pub data IsText (k : TokenKind) (text : List ℕ) : Type 0 where
  comment : k ≡ kind.Comment → IsComment text → IsText k text
  pragma : k ≡ kind.Pragma → IsPragma text → IsText k text
  name : k ≡ kind.Name → IsName text → IsText k text
  keyword : Contains keywords (k, map raised text) → IsText k text
  number : k ≡ kind.Number → IsNumber text → IsText k text
  typed : k ≡ kind.TypedNumber → IsTyped text → IsText k text
  time : k ≡ kind.Duration → IsTime text → IsText k text
  address : k ≡ kind.Address → IsAddress text → IsText k text
  mark : Contains marks (k, text) → IsText k text
