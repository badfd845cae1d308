-- Expressions that nest to a depth are among those that nest deeper.
use Rattle.std.proofs.Common.{ℕ, zero, suc, ◌+◌, ◌≤◌, List, [], ◌∷◌, arith}
use Rattle.token_grammar.specs.Grammar.{Rule, ◌or◌}
use Rattle.token_grammar.proofs.Same.{SubRule, SameRule, some_of, sub_self, sub_bind, sub_then, sub_before, sub_or, sub_scoped, sub_deeper, sub_node, sub_many, sub_some_of}
use Rattle.st_tree.specs.declared.expression.Argument.{Argument}
use Rattle.st_tree.specs.declared.expression.Identifier.{Identifier}
use Rattle.st_tree.specs.declared.expression.Expr.{Expr}
use Rattle.st_tree.specs.declared.expression.Part.{Part}
use Rattle.st_expr.specs.Trees.{ended, make_index, make_path, make_argument, make_inverted, make_parenthesized, make_binary, from_start}
use Rattle.st_expr.specs.Grammar as g

-- ---- rules over the expressions within

module _ {inner outer : Rule Expr} (h : SubRule inner outer) where
  more_exprs : (xs : List Expr) → SubRule (g.more_exprs inner xs) (g.more_exprs outer xs)
  more_exprs xs = sub_then (λ _. sub_before h)

  exprs : SubRule (g.exprs inner) (g.exprs outer)
  exprs = sub_bind h (λ x. sub_many more_exprs (x ∷ []))

  index : SubRule (g.index inner) (g.index outer)
  index = sub_node make_index (sub_scoped (sub_then (λ _. sub_before exprs)))

  more_parts : (ps : List Part) → SubRule (g.more_parts inner ps) (g.more_parts outer ps)
  more_parts ps = sub_before (sub_or sub_self index)

  parts : SubRule (g.parts inner) (g.parts outer)
  parts = sub_many more_parts []

  located : SubRule (g.located inner) (g.located outer)
  located = sub_node make_path (sub_then (λ a. sub_before parts))

  named_argument : SubRule (g.named_argument inner) (g.named_argument outer)
  named_argument = sub_then (λ i. sub_then (λ _. sub_before h))

  argument : SubRule (g.argument inner) (g.argument outer)
  argument = sub_node make_argument (sub_or named_argument (sub_before h))

  more_arguments : (found : List Argument)
      → SubRule (g.more_arguments inner found) (g.more_arguments outer found)
  more_arguments found = sub_then (λ _. sub_before argument)

  arguments : SubRule (g.arguments inner) (g.arguments outer)
  arguments = sub_or sub_self (sub_bind argument (λ a. sub_many more_arguments (a ∷ [])))

  called : SubRule (g.called inner) (g.called outer)
  called = sub_scoped (sub_then (λ _. sub_before arguments))

  ending : (name : Identifier)
      → SubRule (g.value_ending inner name
      or (g.call_ending inner name or g.path_ending inner name))
      (g.value_ending outer name or (g.call_ending outer name or g.path_ending outer name))
  ending name = sub_or sub_self (sub_or (sub_before called) (sub_before parts))

  named : SubRule (g.named inner) (g.named outer)
  named = sub_node ended (sub_then ending)

  group : SubRule (g.group inner) (g.group outer)
  group = sub_node make_parenthesized (sub_scoped (sub_then (λ _. sub_before h)))

  other : SubRule (g.other inner) (g.other outer)
  other = sub_or sub_self (sub_or sub_self (sub_or sub_self (sub_or sub_self
      (sub_or group (sub_or (sub_before located) named)))))

  primary : SubRule (g.primary inner) (g.primary outer)
  primary = sub_or sub_self other

  signed : SubRule (g.signed inner) (g.signed outer)
  signed = sub_node ended (sub_then (λ _. sub_or sub_self (sub_before (sub_deeper other))))

  inverted : SubRule (g.inverted inner) (g.inverted outer)
  inverted = sub_node make_inverted (sub_then (λ _. primary))

  level : (l : ℕ) → SubRule (g.level inner l) (g.level outer l)
  unfolding g.level
  level zero = sub_or signed (sub_or inverted primary)
  level (suc l) = sub_bind (sub_node from_start (level l)) (λ q. sub_many
      (λ left. sub_node (λ _ end x. make_binary q.1 end left x)
      (sub_then (λ o. sub_before (level l)))) q.0)

-- ---- expressions

pub nested_sub : (n m : ℕ) → n ≤ m → SubRule (g.nested n) (g.nested m)
unfolding g.nested
nested_sub zero m le = record { to = λ d w x e l. absurd l }
nested_sub (suc n) zero le = absurd (omega (arith, le))
nested_sub (suc n) (suc m) le =
    let within = sub_scoped (level (nested_sub n m (omega (arith, le))) 7) in
    record { to = λ d w x e l. within.to d w x e l }

-- Those that nest at least as deep as the number are all of them.
pub from_depth : (k : ℕ) → SameRule (some_of (λ n. g.nested (k + n))) g.expression
from_depth k = record {
  to = sub_some_of (λ n. k + n) (λ n. sub_self);
  from = sub_some_of (λ n. n) (λ n. nested_sub n (k + n) (omega arith));
}
