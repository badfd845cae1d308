-- The parsers of lists read their grammar.
use Rattle.std.proofs.Common.{◌≡◌, ℕ, true, List, [], ◌∷◌, ◌++◌}
use Rattle.token_grammar.specs.declared.token.TokenKind.{TokenKind}
use Rattle.token_grammar.specs.declared.token.TokenKind.TheVariants as k
use Rattle.token_grammar.specs.steps.Parsers.{Parser}
use Rattle.token_grammar.specs.Grammar.{Rule}
use Rattle.token_grammar.proofs.Laws.{Exact}
use Rattle.token_grammar.proofs.Starts.{sees_any, disjoint, IsLevel}
use Rattle.token_grammar.proofs.Forms.{Form, Inner}
use Rattle.st_expr.proofs.Lists.{Here, one_kind, exact_each, exact_commas}
use Rattle.st_declarations.specs.Grammar as g
use Rattle.st_declarations.specs.steps.Parse as p

pub exact_list_of : {A : Type 0} {parser : Parser A} {rule : Rule A} (kind : TokenKind)
    → Form Here parser rule (kind ∷ []) [] → disjoint (kind ∷ []) [] ≡ true → IsLevel rule
    → Exact Here (p.each kind parser) (g.each rule) (sees_any ((kind ∷ []) ++ []))
unfolding p.each p.more
exact_list_of kind form apart level = exact_each (one_kind kind) form apart level

pub exact_commas_of : {A : Type 0} (n : ℕ) {parser : Parser A} {rule : Rule A}
    (ends : List TokenKind)
    → Exact (Inner n) parser rule (sees_any ends) → disjoint (k.Comma ∷ []) ends ≡ true
    → IsLevel rule
    → Exact (Inner n) (p.commas parser) (g.commas rule) (sees_any (k.Comma ∷ ends))
unfolding p.commas p.more_behind
exact_commas_of n ends h apart level = exact_commas n ends h apart level
