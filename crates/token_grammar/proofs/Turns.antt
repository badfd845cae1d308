-- A recursion on a count of turns, beside a loop that counts them.
use Rattle.std.proofs.Common.{◌≡◌, ℕ, suc, ◌+◌, ◌-◌, ◌<◌, ◌≤◌, Bool, true, false, List, Ok, Err, ap, ◌∙◌, arith}
use Rattle.token_grammar.specs.Texts.{Lexeme}
use Rattle.token_grammar.specs.steps.Parsers.{Input, Stop, Outcome, Parser, and_then, loop_by, loop}

pub one_more : {X : Type 0} {x : X} (f : ℕ → X) (n at : ℕ) → at < n → x ≡ f (n - at)
    → x ≡ f (suc (n - (at + 1)))
one_more f n at below e = let turn : n - at ≡ suc (n - (at + 1)) = omega arith in e ∙ ap f turn

pub no_more : {X : Type 0} {x : X} (f : ℕ → X) (n at : ℕ) → n ≤ at → x ≡ f (n - at) → x ≡ f 0
no_more f n at done e = let none : n - at ≡ 0 = omega arith in e ∙ ap f none

pub deeper : {X : Type 0} (f : ℕ → X) (n : ℕ) → 0 < n → f n ≡ f (suc (n - 1))
deeper f n some = let e : n ≡ suc (n - 1) = omega arith in ap f e

-- ---- a parser that reads any number of turns

module _ {A : Type 0} (test : List Lexeme → Bool) (step : A → Parser A) (whole : Outcome A)
    (n at : ℕ) (a : A) (i : Input) where
  opened : at < n → whole ≡ loop test step (n - at) a i → test i.rest ≡ true
      → whole ≡ and_then (step a i) (loop test step (n - (at + 1)))
  unfolding loop
  opened below e is = one_more (λ k. loop test step k a i) n at below e
      ∙ ap (λ (b : Bool). loop_by b (step a i) (loop test step (n - (at + 1))) a i) is

  -- a turn was read
  pub turn_read : (b : A) (o : Input) → at < n → whole ≡ loop test step (n - at) a i
      → test i.rest ≡ true → step a i ≡ Ok (b, o) → whole ≡ loop test step (n - (at + 1)) b o
  turn_read b o below e is read = opened below e is
      ∙ ap (λ (out : Outcome A). and_then out (loop test step (n - (at + 1)))) read

  -- a turn was refused
  pub turn_refused : (s : Stop) → at < n → whole ≡ loop test step (n - at) a i → test i.rest ≡ true
      → step a i ≡ Err s → whole ≡ Err s
  turn_refused s below e is read = opened below e is
      ∙ ap (λ (out : Outcome A). and_then out (loop test step (n - (at + 1)))) read

  -- no turn is begun
  pub turn_none : at < n → whole ≡ loop test step (n - at) a i → test i.rest ≡ false
      → whole ≡ Ok (a, i)
  unfolding loop
  turn_none below e is = one_more (λ k. loop test step k a i) n at below e
      ∙ ap (λ (b : Bool). loop_by b (step a i) (loop test step (n - (at + 1))) a i) is

  -- there are no more turns
  pub turn_last : n ≤ at → whole ≡ loop test step (n - at) a i → whole ≡ Ok (a, i)
  unfolding loop
  turn_last done e = no_more (λ k. loop test step k a i) n at done e
