-- The parsers of operators read their grammar.
use Rattle.std.proofs.Common.{◌≡◌, ℕ, Bool, true, false, cond, ◌||◌, List, [], ◌∷◌, refl}
use Rattle.token_grammar.specs.declared.token.TokenKind.{TokenKind}
use Rattle.token_grammar.specs.declared.token.TokenKind.TheVariants as k
use Rattle.token_grammar.specs.Texts.{Lexeme}
use Rattle.token_grammar.specs.steps.Parsers.{sees_in}
use Rattle.token_grammar.proofs.Starts.{sees_any}
use Rattle.token_grammar.proofs.Forms.{Form, form_token, form_as, form_or}
use Rattle.st_tree.specs.declared.expression.BinaryOperator.{BinaryOperator}
use Rattle.st_tree.specs.declared.expression.BinaryOperator.TheVariants as op
use Rattle.st_expr.specs.declared.rank.Rank.{Rank}
use Rattle.st_expr.specs.declared.rank.Rank.TheVariants as rank
use Rattle.st_expr.specs.Grammar as g
use Rattle.st_expr.specs.steps.Parse as p

abbrev pub kinds_of : Rank → List TokenKind
kinds_of rank.Product = k.Star ∷ k.Slash ∷ k.Mod ∷ []
kinds_of rank.Sum = k.Plus ∷ k.Minus ∷ []
kinds_of rank.Order = k.Less ∷ k.Greater ∷ k.LessEqual ∷ k.GreaterEqual ∷ []
kinds_of rank.Equality = k.Equal ∷ k.NotEqual ∷ []
kinds_of rank.And = k.And ∷ k.Ampersand ∷ []
kinds_of rank.Xor = k.Xor ∷ []
kinds_of rank.Or = k.Or ∷ []

one : {V : ℕ → Type 0} (kind : TokenKind) (o : BinaryOperator)
    → Form V (p.operator_as kind o) (g.operator_as kind o) (kind ∷ []) []
unfolding p.operator_as
one kind o = form_as (λ _. o) (form_token kind 0 1)

pub form_operators : {V : ℕ → Type 0} (r : Rank)
    → Form V (p.operators r) (g.operators r) (kinds_of r) []
unfolding p.operators
form_operators rank.Product = form_or k.Star (one k.Star op.Multiply)
    (form_or k.Slash (one k.Slash op.Divide) (one k.Mod op.Modulo) refl) refl
form_operators rank.Sum = form_or k.Plus (one k.Plus op.Add) (one k.Minus op.Subtract) refl
form_operators rank.Order = form_or k.Less (one k.Less op.Less)
    (form_or k.Greater (one k.Greater op.Greater)
    (form_or k.LessEqual (one k.LessEqual op.LessEqual) (one k.GreaterEqual op.GreaterEqual) refl)
    refl) refl
form_operators rank.Equality =
    form_or k.Equal (one k.Equal op.Equal) (one k.NotEqual op.NotEqual) refl
form_operators rank.And = form_or k.And (one k.And op.And) (one k.Ampersand op.And) refl
form_operators rank.Xor = one k.Xor op.Xor
form_operators rank.Or = one k.Or op.Or

-- ---- whether an operator of the rank comes next

pub or_is : (a b c : Bool) → b ≡ c → (a || b) ≡ cond a true c
or_is true b c e = refl
or_is false b c e = e

pub last_is : (a : Bool) → a ≡ cond a true false
last_is true = refl
last_is false = refl

pub sees_rank : (r : Rank) (ts : List Lexeme) → p.sees_operator r ts ≡ sees_any (kinds_of r) ts
unfolding p.sees_operator
sees_rank rank.Product ts =
    or_is (sees_in k.Star ts) _ _ (or_is (sees_in k.Slash ts) _ _ (last_is (sees_in k.Mod ts)))
sees_rank rank.Sum ts = or_is (sees_in k.Plus ts) _ _ (last_is (sees_in k.Minus ts))
sees_rank rank.Order ts = or_is (sees_in k.Less ts) _ _ (or_is (sees_in k.Greater ts) _ _
    (or_is (sees_in k.LessEqual ts) _ _ (last_is (sees_in k.GreaterEqual ts))))
sees_rank rank.Equality ts = or_is (sees_in k.Equal ts) _ _ (last_is (sees_in k.NotEqual ts))
sees_rank rank.And ts = or_is (sees_in k.And ts) _ _ (last_is (sees_in k.Ampersand ts))
sees_rank rank.Xor ts = last_is (sees_in k.Xor ts)
sees_rank rank.Or ts = last_is (sees_in k.Or ts)
