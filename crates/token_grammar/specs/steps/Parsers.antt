-- What a parser reads from, and the steps that every rule is made of: the grammar once more as
-- functions, which answer a value and what is left, or a place. A step on the way from the code to
-- the grammar.
use Rattle.std.specs.Prelude.{◌≡◌, ◌≢◌, ℕ, zero, suc, ◌+◌, Bool, true, false, ◌&&◌, if◌then◌else◌, nat_lt, List, [], ◌∷◌, length, Result, Ok, Err}
use Rattle.token_grammar.specs.declared.token.TokenKind.{TokenKind}
use Rattle.token_grammar.specs.declared.cursor.Cursor.{Cursor}
use Rattle.token_grammar.specs.declared.fault.ParseError.{ParseError}
use Rattle.token_grammar.specs.declared.fault.ParseError.TheVariants.{Memory, Grammar, TooDeep}
use Rattle.token_grammar.specs.Texts.{Lexeme, lexemes}
use Rattle.token_grammar.specs.Kinds.{is_kind}
use Rattle.token_grammar.specs.Grammar.{max_depth}

pub record Input : Type 0 where
  -- the lexemes that are still to be read
  pub rest : List Lexeme
  -- the end of the last one that was read
  pub last : ℕ
  -- how deep the next one stands
  pub depth : ℕ

abbrev pub view : Cursor → Input
view c = record { rest = lexemes c.text.now c.rest.now; last = c.last; depth = c.depth }

-- why nothing was read, and the lexemes from that place on
pub record Stop : Type 0 where
  pub code : ParseError
  pub rest : List Lexeme

-- ---- the next lexeme

abbrev pub sees_that : (Lexeme → Bool) → List Lexeme → Bool
sees_that test [] = false
sees_that test (t ∷ ts) = test t

abbrev pub sees_in : TokenKind → List Lexeme → Bool
sees_in k = sees_that (is_kind k)

-- the lexeme after the next is of this kind
abbrev pub second_in : TokenKind → List Lexeme → Bool
second_in k [] = false
second_in k (t ∷ ts) = sees_in k ts

-- the next lexeme is of the one kind, and the one after it of the other
abbrev pub sees_two : TokenKind → TokenKind → List Lexeme → Bool
sees_two j k ts = sees_in j ts && second_in k ts

-- the second lexeme after the next is of this kind
abbrev pub third_in : TokenKind → List Lexeme → Bool
third_in k [] = false
third_in k (t ∷ ts) = second_in k ts

-- the next three lexemes are of these kinds
abbrev pub sees_three : TokenKind → TokenKind → TokenKind → List Lexeme → Bool
sees_three i j k ts = sees_in i ts && (second_in j ts && third_in k ts)

abbrev pub start_in : ℕ → List Lexeme → ℕ
start_in last [] = last
start_in last (t ∷ ts) = t.start

abbrev pub start : Input → ℕ
start i = start_in i.last i.rest

-- ---- parsers

abbrev pub Outcome : Type 0 → Type 0
Outcome A = Result (A × Input) Stop

abbrev pub Parser : Type 0 → Type 0
Parser A = Input → Outcome A

abbrev pub and_then : {A B : Type 0} → Outcome A → (A → Parser B) → Outcome B
and_then (Ok p) f = f p.0 p.1
and_then (Err e) f = Err e

infixl 10 ◌>>=◌
abbrev pub ◌>>=◌ : {A B : Type 0} → Parser A → (A → Parser B) → Parser B
p >>= f = λ i. and_then (p i) f

abbrev pub pure : {A : Type 0} → A → Parser A
pure a = λ i. Ok (a, i)

abbrev pub refuse : {A : Type 0} → Parser A
refuse = λ i. Err (record { code = Grammar; rest = i.rest })

-- A lexeme that passes the test stands `own` deeper than what is around it, and what follows is
-- `more` deeper.
abbrev pub take_in : (Lexeme → Bool) → ℕ → ℕ → ℕ → List Lexeme → Outcome Lexeme
take_in test own more depth [] = Err (record { code = Grammar; rest = [] })
take_in test own more depth (t ∷ ts) =
    if test t then (if nat_lt max_depth (depth + own) then Err
    (record { code = TooDeep; rest = t ∷ ts })
    else Ok (t, record { rest = ts; last = t.end; depth = depth + more }))
    else Err (record { code = Grammar; rest = t ∷ ts })

abbrev pub take_as : (Lexeme → Bool) → (own more : ℕ) → Parser Lexeme
take_as test own more i = take_in test own more i.depth i.rest

abbrev pub take_that : (Lexeme → Bool) → Parser Lexeme
take_that test = take_as test 0 0

abbrev pub take : TokenKind → Parser Lexeme
take k = take_that (is_kind k)

-- a lexeme of this kind, from which on the text is one deeper
abbrev pub enter : TokenKind → Parser Lexeme
enter k = take_as (is_kind k) 1 1

-- an operator of this kind, after which the text is one deeper
abbrev pub operator : TokenKind → Parser Lexeme
operator k = take_as (is_kind k) 0 1

-- what was opened, or operated, within is over after it
abbrev pub back_to : {A : Type 0} → ℕ → Outcome A → Outcome A
back_to depth (Ok p) = Ok (p.0, record p.1 { depth = depth })
back_to depth (Err e) = Err e

abbrev pub scoped : {A : Type 0} → Parser A → Parser A
scoped p = λ i. back_to i.depth (p i)

-- one deeper
abbrev pub deeper : {A : Type 0} → Parser A → Parser A
deeper p = λ i. p (record i { depth = i.depth + 1 })

-- a value made of the first byte, the byte after the last, and what was read
abbrev pub with_place : {A B : Type 0} → (ℕ → ℕ → A → B) → ℕ → Outcome A → Outcome B
with_place make start (Ok p) = Ok (make start p.1.last p.0, p.1)
with_place make start (Err e) = Err e

abbrev pub node : {A B : Type 0} → (ℕ → ℕ → A → B) → Parser A → Parser B
node make p = λ i. with_place make (start i) (p i)

-- either, by a look at the next lexeme
abbrev pub choose : {A : Type 0} → (List Lexeme → Bool) → Parser A → Parser A → Parser A
choose test p q = λ i. if test i.rest then p i else q i

-- as long as what comes next passes the test, at most so many times
abbrev pub loop_by : {A : Type 0} → Bool → Outcome A → (A → Parser A) → A → Input → Outcome A
loop_by true out next a i = and_then out next
loop_by false out next a i = Ok (a, i)

unfoldable pub loop : {A : Type 0} → (List Lexeme → Bool) → (A → Parser A) → ℕ → A → Parser A
loop test step zero a = λ i. Ok (a, i)
loop test step (suc n) a = λ i. loop_by (test i.rest) (step a i) (loop test step n) a i

unfoldable pub repeated : {A : Type 0} → (List Lexeme → Bool) → (A → Parser A) → A → Parser A
repeated test step a = λ i. loop test step (length i.rest) a i

-- ---- what a function that parses ensures: the parser's outcome, unless memory fails

abbrev pub Reads : {A : Type 0} → Outcome A → Result A ParseError → Input → Type 0
Reads outcome (Ok a) new = outcome ≡ Ok (a, new)
Reads outcome (Err e) new = e ≢ Memory → outcome ≡ Err (record { code = e; rest = new.rest })

-- what was read is shown by a function
abbrev pub ReadsAs : {A B : Type 0} → (A → B) → Outcome B → Result A ParseError → Input → Type 0
ReadsAs shows outcome (Ok a) new = outcome ≡ Ok (shows a, new)
ReadsAs shows outcome (Err e) new =
    e ≢ Memory → outcome ≡ Err (record { code = e; rest = new.rest })

-- what was read goes to another place
abbrev pub ReadsTo : {A : Type 0} → Outcome A → Result (Unit {0}) ParseError → A → Input → Type 0
ReadsTo outcome (Ok done) a new = outcome ≡ Ok (a, new)
ReadsTo outcome (Err e) a new = e ≢ Memory → outcome ≡ Err (record { code = e; rest = new.rest })
