-- What the parser of a file answers, read to the end of the lexemes.
use Rattle.std.proofs.Common.{◌≡◌, ◌⊎◌, Bool, false, List, [], ◌∷◌, Result, Ok, Err, refl, ap, subst, ◌∙◌, arith, inl, inr}
use Rattle.token_grammar.specs.declared.fault.ParseError.{ParseError}
use Rattle.token_grammar.specs.declared.fault.ParseError.TheVariants as cause
use Rattle.token_grammar.specs.Texts.{Lexeme}
use Rattle.token_grammar.specs.steps.Parsers.{Input, Stop, Outcome, Parser, and_then, pure, Reads}
use Rattle.token_grammar.specs.Grammar.{Rule, Spells, IsWrong, IsTooDeep}
use Rattle.token_grammar.proofs.Laws.{Told, Reason, input, Exact}
use Rattle.token_grammar.proofs.Whole.{whole, wrong_behind, wrong_at, deep_at}
use Rattle.st_expr.proofs.Lists.{Here}
use Rattle.st_units.specs.steps.Parse as p

-- All lexemes spell the value; or the grammar is broken at the rest, or a lexeme stands too deep
-- there; or memory fails.
abbrev pub IsAnswer : {A : Type 0} → Rule A → List Lexeme → Result A ParseError → List Lexeme
    → Type 0
IsAnswer L ts (Ok x) rest = Spells L ts x
IsAnswer L ts (Err cause.Memory) rest = Unit {0}
IsAnswer L ts (Err cause.Grammar) rest = IsWrong L ts rest
IsAnswer L ts (Err cause.TooDeep) rest = IsTooDeep L 0 ts rest

-- ---- what is answered, by what the parts answer

module _ {A : Type 0} {parts : Parser A} {L : Rule A} {more : List Lexeme → Bool}
    (h : Exact Here parts L more) (open_end : more [] ≡ false) (ts : List Lexeme) where
  abbrev start : Input
  start = input 0 0 ts

  abbrev here : Here 0
  here = (omega arith, omega arith)

  abbrev finish : A → Parser A
  finish x = λ i. and_then (p.ended i) (λ _. pure x)

  abbrev ok_of : A × Input → Outcome A
  ok_of q = Ok q

  abbrev err_of : Stop → Outcome A
  err_of s = Err s

  same_ok : (a b : A × Input) → ok_of a ≡ ok_of b → a ≡ b
  same_ok a b e = cc

  same_err : (a b : Stop) → err_of a ≡ err_of b → a ≡ b
  same_err a b e = cc

  ok_rest : (x y : A) (o new : Input) (rest : List Lexeme) → o.rest ≡ rest → parts start ≡ Ok (x, o)
      → and_then (p.ended_by rest o) (λ _. pure x) ≡ Ok (y, new) → Spells L ts y
  unfolding p.ended_by
  ok_rest x y o new [] empty e is = let same : x ≡ y =
      ap (λ (q : A × Input). q.0) (same_ok (x, o) (y, new) is) in
      subst (Spells L ts) same (whole h open_end here ts x o e empty)
  ok_rest x y o new (t ∷ r) there e is = absurd cc

  ok_by : (out : Outcome A) (y : A) (new : Input) → parts start ≡ out
      → and_then out finish ≡ Ok (y, new) → Spells L ts y
  unfolding p.ended
  ok_by (Ok q) y new e is = ok_rest q.0 y q.1 new q.1.rest refl e is
  ok_by (Err s) y new e is = absurd cc

  fault_rest : (x : A) (o : Input) (left rest : List Lexeme) → o.rest ≡ rest
      → parts start ≡ Ok (x, o) → and_then (p.ended_by rest o)
      (λ _. pure x) ≡ err_of (record { code = cause.Grammar; rest = left }) → IsWrong L ts left
  unfolding p.ended_by
  fault_rest x o left [] empty e is = absurd cc
  fault_rest x o left (t ∷ r) there e is =
      let same : t ∷ r ≡ left = ap (λ (s : Stop). s.rest)
      (same_err (record { code = cause.Grammar; rest = t ∷ r })
      (record { code = cause.Grammar; rest = left }) is) in
      subst (IsWrong L ts) same (wrong_behind h open_end here ts x o t r e there)

  fault_by : (out : Outcome A) (left : List Lexeme) → parts start ≡ out
      → and_then out finish ≡ err_of (record { code = cause.Grammar; rest = left })
      → IsWrong L ts left
  unfolding p.ended
  fault_by (Ok q) left e is = fault_rest q.0 q.1 left q.1.rest refl e is
  fault_by (Err s) left e is = wrong_at h open_end here ts left (e ∙ is)

  deep_rest : (x : A) (o : Input) (left rest : List Lexeme)
      → and_then (p.ended_by rest o) (λ _. pure x)
      ≡ err_of (record { code = cause.TooDeep; rest = left }) → ⊥
  unfolding p.ended_by
  deep_rest x o left [] is = cc
  deep_rest x o left (t ∷ r) is =
      let clash : cause.Grammar ≡ cause.TooDeep =
      ap (λ (s : Stop). s.code) (same_err (record { code = cause.Grammar; rest = t ∷ r })
      (record { code = cause.TooDeep; rest = left }) is) in cc

  deep_by : (out : Outcome A) (left : List Lexeme) → parts start ≡ out
      → and_then out finish ≡ err_of (record { code = cause.TooDeep; rest = left })
      → IsTooDeep L 0 ts left
  unfolding p.ended
  deep_by (Ok q) left e is = absurd (deep_rest q.0 q.1 left q.1.rest is)
  deep_by (Err s) left e is = deep_at h open_end here ts left (e ∙ is)

  pub answered_by : (result : Result A ParseError) (new : Input)
      → Reads (and_then (parts start) finish) result new → IsAnswer L ts result new.rest
  answered_by (Ok x) new reads = ok_by (parts start) x new refl reads
  answered_by (Err cause.Memory) new reads = tt
  answered_by (Err cause.Grammar) new reads = fault_by (parts start) new.rest refl (reads (λ e. cc))
  answered_by (Err cause.TooDeep) new reads = deep_by (parts start) new.rest refl (reads (λ e. cc))

  -- the lexemes spell a value, or there is a fault
  abbrev pub HasAnswer : Type 0
  HasAnswer = ((x : A) × Spells L ts x) ⊎ (((rest : List Lexeme) × IsWrong L ts rest)
      ⊎ ((rest : List Lexeme) × IsTooDeep L 0 ts rest))

  some_refused : (s : Stop) (code : ParseError) → parts start ≡ err_of s → s.code ≡ code → HasAnswer
  some_refused s cause.Memory e is = absurd (let told =
      subst (Told L start) e (h.told start here) in
      subst (λ (c : ParseError). Reason c told.more s.rest) is told.reason)
  some_refused s cause.Grammar e is =
      inr (inl (
        s.rest,
        wrong_at h open_end here ts s.rest
            (e ∙ ap (λ (c : ParseError). err_of (record { code = c; rest = s.rest })) is),
      ))
  some_refused s cause.TooDeep e is =
      inr (inr (
        s.rest,
        deep_at h open_end here ts s.rest
            (e ∙ ap (λ (c : ParseError). err_of (record { code = c; rest = s.rest })) is),
      ))

  some_read : (x : A) (o : Input) (rest : List Lexeme) → parts start ≡ Ok (x, o) → o.rest ≡ rest
      → HasAnswer
  some_read x o [] e is = inl (x, whole h open_end here ts x o e is)
  some_read x o (t ∷ r) e is = inr (inl (t ∷ r, wrong_behind h open_end here ts x o t r e is))

  some_by : (out : Outcome A) → parts start ≡ out → HasAnswer
  some_by (Ok q) e = some_read q.0 q.1 q.1.rest e refl
  some_by (Err s) e = some_refused s s.code e refl

  pub some_answer : HasAnswer
  some_answer = some_by (parts start) refl
