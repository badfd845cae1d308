-- What a parser that reads a rule answers, as places of a whole list.
use Rattle.std.proofs.Common.{◌≡◌, ◌≢◌, ℕ, zero, suc, ◌-◌, Bool, false, List, [], ◌∷◌, ◌++◌, length, drop, take, Result, Ok, Err, refl, sym, ap, subst, ◌∙◌, append_assoc, arith}
use Rattle.std.proofs.lemmas.List.{length-append, take-append-drop}
use Rattle.std.proofs.Math.Seq.{drop-append_seam}
use Rattle.token_grammar.specs.declared.token.Token.{Token}
use Rattle.token_grammar.specs.declared.fault.ParseError.{ParseError}
use Rattle.token_grammar.specs.declared.fault.ParseError.TheVariants as errors
use Rattle.token_grammar.specs.Texts.{Lexeme, lexemes}
use Rattle.token_grammar.specs.steps.Parsers.{Input, Outcome, Parser, Reads, ReadsAs}
use Rattle.token_grammar.specs.Grammar.{Rule, lexemes_of, SpellsFront, IsGrammarFault, IsTooDeep}
use Rattle.token_grammar.proofs.Laws.{input, Exact}
use Rattle.token_grammar.proofs.Front.{spells, is_fault, is_too_deep}

-- what is left begins where its length says
place : (ts u rest : List Lexeme) (from : ℕ) → drop from ts ≡ u ++ rest
    → drop (length ts - length rest) ts ≡ rest
place ts u rest from e =
    let whole : ts ≡ (take from ts ++ u) ++ rest = sym (take-append-drop from ts)
    ∙ ap (λ (x : List Lexeme). take from ts ++ x) e
    ∙ sym (append_assoc (take from ts) u rest) in
    let n : length ts - length rest ≡ length (take from ts ++ u) =
    omega (arith, ap length whole, length-append (take from ts ++ u) rest) in
    rw n (ap (drop (length (take from ts ++ u))) whole ∙ drop-append_seam (take from ts ++ u) rest)

-- the lexemes of a list that the code holds as tokens
pub length_lexemes : (text : List ℕ) (tokens : List Token)
    → length (lexemes text tokens) ≡ length tokens
length_lexemes text [] = refl
length_lexemes text (t ∷ ts) = ap suc (length_lexemes text ts)

pub drop_lexemes : (text : List ℕ) (n : ℕ) (tokens : List Token)
    → drop n (lexemes text tokens) ≡ lexemes text (drop n tokens)
drop_lexemes text zero tokens = refl
drop_lexemes text (suc n) [] = refl
drop_lexemes text (suc n) (t ∷ ts) = drop_lexemes text n ts

module _ {A : Type 0} {V : ℕ → Type 0} {p : Parser A} {L : Rule A} {more : List Lexeme → Bool}
    (h : Exact V p L more) (open_end : more [] ≡ false) where
  pub ok_answer : (tokens ts : List Lexeme) (from last outer : ℕ) (x : A) (o : Input)
      → ts ≡ drop from tokens → V outer → p (input last outer ts) ≡ Ok (x, o)
      → SpellsFront L outer (drop from tokens) x (drop (length tokens - length o.rest) tokens)
  ok_answer tokens ts from last outer x o is v e =
      let s = spells h open_end (input last outer ts) v x o e in
      rw (place tokens (lexemes_of s.word) o.rest from (sym is ∙ s.tokens), ← is) s

  pub fault_answer : (tokens ts : List Lexeme) (from last outer : ℕ) (rest : List Lexeme)
      → ts ≡ drop from tokens → V outer
      → p (input last outer ts) ≡ Err (record { code = errors.Grammar; rest = rest })
      → IsGrammarFault L outer (drop from tokens) (drop (length tokens - length rest) tokens)
  fault_answer tokens ts from last outer rest is v e =
      let s = is_fault h open_end (input last outer ts) v rest e in
      rw (place tokens (lexemes_of s.word) rest from (sym is ∙ s.tokens), ← is) s

  pub deep_answer : (tokens ts : List Lexeme) (from last outer : ℕ) (rest : List Lexeme)
      → ts ≡ drop from tokens → V outer
      → p (input last outer ts) ≡ Err (record { code = errors.TooDeep; rest = rest })
      → IsTooDeep L outer (drop from tokens) (drop (length tokens - length rest) tokens)
  deep_answer tokens ts from last outer rest is v e =
      let s = is_too_deep h open_end (input last outer ts) v rest e in
      rw (place tokens (lexemes_of s.word) rest from (sym is ∙ s.tokens), ← is) s

-- ---- what a function that parses ensures, of an answer that is known

pub err_of : {A : Type 0} (out : Outcome A) (r : Result A ParseError) (new : Input) (e : ParseError)
    → r ≡ Err e → e ≢ errors.Memory → Reads out r new
    → out ≡ Err (record { code = e; rest = new.rest })
err_of out r new e is some reads =
    (subst (λ (r : Result _ ParseError). Reads out r new) is reads) some

pub ok_of : {A : Type 0} (out : Outcome A) (r : Result A ParseError) (new : Input) (x : A)
    → r ≡ Ok x → Reads out r new → out ≡ Ok (x, new)
ok_of out r new x is reads = subst (λ (r : Result _ ParseError). Reads out r new) is reads

pub err_as : {A B : Type 0} (shows : A → B) (out : Outcome B) (r : Result A ParseError)
    (new : Input) (e : ParseError) → r ≡ Err e → e ≢ errors.Memory → ReadsAs shows out r new
    → out ≡ Err (record { code = e; rest = new.rest })
err_as shows out r new e is some reads =
    (subst (λ (r : Result _ ParseError). ReadsAs shows out r new) is reads) some

pub ok_as : {A B : Type 0} (shows : A → B) (out : Outcome B) (r : Result A ParseError) (new : Input)
    (x : A) → r ≡ Ok x → ReadsAs shows out r new → out ≡ Ok (shows x, new)
ok_as shows out r new x is reads =
    subst (λ (r : Result _ ParseError). ReadsAs shows out r new) is reads
