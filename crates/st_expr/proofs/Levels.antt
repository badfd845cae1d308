-- Levels of operators, one above the other.
use Rattle.std.proofs.Common.{◌≡◌, ℕ, zero, suc, ◌+◌, ◌-◌, ◌≤◌, Ok, Err, ap, subst, ◌∙◌, arith}
use Rattle.token_grammar.specs.steps.Parsers.{Input, Stop, Outcome, Parser, and_then, with_place, start}
use Rattle.st_tree.specs.declared.expression.Expr.{Expr}
use Rattle.st_expr.specs.Trees.{from_start}
use Rattle.st_expr.specs.steps.Parse.{level, chain}

module _ (inner : Parser Expr) (i : Input) where
  -- a level is the one below, and then its own operators
  pub next_level : (n : ℕ) (left : Expr) (o : Input) → level inner n i ≡ Ok (left, o)
      → level inner (suc n) i ≡ chain inner n (start i) left o
  unfolding level chain
  next_level n left o e = ap (λ (out : Outcome Expr). and_then (with_place from_start (start i) out)
      (λ q. chain inner n q.1 q.0)) e

  pub refused_next : (n : ℕ) (s : Stop) → level inner n i ≡ Err s → level inner (suc n) i ≡ Err s
  unfolding level chain
  refused_next n s e = ap (λ (out : Outcome Expr). and_then (with_place from_start (start i) out)
      (λ q. chain inner n q.1 q.0)) e

  refused_more : (n k : ℕ) (s : Stop) → level inner n i ≡ Err s → level inner (k + n) i ≡ Err s
  refused_more n zero s e =
      let none : n ≡ 0 + n = omega arith in subst (λ j. level inner j i ≡ Err s) none e
  refused_more n (suc k) s e = let more : suc (k + n) ≡ suc k + n = omega arith in
      subst (λ j. level inner j i ≡ Err s) more (refused_next (k + n) s (refused_more n k s e))

  -- what a level refuses, those above it do
  pub refused_above : (n m : ℕ) (s : Stop) → n ≤ m → level inner n i ≡ Err s
      → level inner m i ≡ Err s
  refused_above n m s le e = let same : m ≡ (m - n) + n = omega (arith, le) in
      ap (λ k. level inner k i) same ∙ refused_more n (m - n) s e
