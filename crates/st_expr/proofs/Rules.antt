-- The parsers of the rules that hold expressions read their grammar.
use Rattle.std.proofs.Common.{◌≡◌, ℕ, ◌+◌, ◌≤◌, Bool, true, false, cond, List, [], ◌∷◌, ◌++◌, refl, arith, inl}
use Rattle.token_grammar.specs.declared.token.TokenKind.{TokenKind}
use Rattle.token_grammar.specs.declared.token.TokenKind.TheVariants as k
use Rattle.token_grammar.specs.Texts.{Lexeme}
use Rattle.token_grammar.specs.steps.Parsers.{Parser, and_then, choose, sees_in, repeated}
use Rattle.token_grammar.specs.Grammar.{Word, Rule, lexemes_of, ◌>>=◌, ◌or◌, give, token, deeper, many}
use Rattle.token_grammar.proofs.Laws.{Exact}
use Rattle.token_grammar.proofs.OneToken.{never}
use Rattle.token_grammar.proofs.Bind.{bind}
use Rattle.token_grammar.proofs.Steps.{exact_give, exact_choose}
use Rattle.token_grammar.proofs.Starts.{sees_any, disjoint, Starts, IsLevel, sees_other, starts_long, starts_bind, only_true, only_false, or_left, one_of, refuses_end, bind_starts, bind_give}
use Rattle.token_grammar.proofs.Forms.{Form, Body, Inner, Anywhere, anywhere, body_carries, level_carries, form_token, form_take, form_then, form_as, form_last, form_or, form_node, form_scoped, form_deeper, exact_many, exact_list, exact_or_else, Avoids, avoids_starts, avoids_or, avoids_bind, avoids_many, avoids_give, level_bind, level_give, level_or, level_node, level_scoped, level_many, level_then}
use Rattle.st_tree.specs.declared.expression.Identifier.{Identifier}
use Rattle.st_tree.specs.declared.expression.Root.TheVariants as root
use Rattle.st_tree.specs.declared.expression.Expr.{Expr}
use Rattle.st_tree.specs.declared.expression.Expr.TheVariants as expr
use Rattle.st_tree.specs.declared.expression.Argument.{Argument}
use Rattle.st_tree.specs.declared.expression.Part.{Part}
use Rattle.st_expr.specs.Trees.{ended, make_index, make_path, make_inverted, value_of, call_of, path_of, literal_of, negated_of, make_parenthesized}
use Rattle.st_expr.specs.Grammar as g
use Rattle.st_expr.specs.steps.Parse as p
use Rattle.st_expr.proofs.Leaves.{form_word, form_identifier, level_identifier, form_address, level_address, form_field, level_field, form_number, form_typed, form_time, form_truth}
use Rattle.st_expr.proofs.Operators.{or_is, last_is}
use Rattle.st_expr.proofs.Arguments.{HasNames, exact_argument, starts_argument, level_argument}

abbrev pub part_kinds : List TokenKind
part_kinds = k.Dot ∷ k.OpenBracket ∷ []

-- where a name goes on
abbrev pub name_ends : List TokenKind
name_ends = k.Hash ∷ k.OpenParenthesis ∷ part_kinds

-- where an operand goes on
abbrev pub operand_ends : List TokenKind
operand_ends = part_kinds ++ name_ends

pub sees_parts : (ts : List Lexeme) → p.sees_part ts ≡ sees_any part_kinds ts
unfolding p.sees_part
sees_parts ts = or_is (sees_in k.Dot ts) _ _ (last_is (sees_in k.OpenBracket ts))

pub one_comma : (ts : List Lexeme) → sees_in k.Comma ts ≡ sees_any (k.Comma ∷ []) ts
one_comma ts = last_is (sees_in k.Comma ts)

abbrev not_closed : List Lexeme → Bool
not_closed ts = cond (sees_in k.CloseParenthesis ts) false true

is_closed : (b : Bool) → cond b false true ≡ false → b ≡ true
is_closed true e = refl
is_closed false e = absurd cc

-- an expression begins with one of the first kinds, and may go on with one of the last
module _ (n : ℕ) (inner : Parser Expr) (rule : Rule Expr) (ends firsts : List TokenKind)
    (h : Exact (Inner n) inner rule (sees_any ends)) (starts : Starts rule firsts)
    (level : IsLevel rule) (names : HasNames rule)
    (begun : disjoint (k.Name ∷ firsts) (k.CloseParenthesis ∷ []) ≡ true)
    (free_becomes : disjoint (k.Becomes ∷ []) ends ≡ true) (free_comma : disjoint (k.Comma ∷ [])
    ends ≡ true) (free_parenthesis : disjoint (k.CloseParenthesis ∷ []) ends ≡ true)
    (free_bracket : disjoint (k.CloseBracket ∷ []) (k.Comma ∷ ends) ≡ true)
    (free_argument : disjoint (k.Comma ∷ []) (k.Becomes ∷ (ends ++ ends)) ≡ true)
    (free_closing : disjoint (k.CloseParenthesis ∷ [])
    (k.Comma ∷ k.Becomes ∷ (ends ++ ends)) ≡ true) where
  into : (d : ℕ) → Body n d → d + 1 ≤ 256 → Inner n (d + 1)
  into d v le = (omega (arith, v), le)

  stays : (d : ℕ) → Inner n d → d + 0 ≤ 256 → Inner n (d + 0)
  stays d v le = (omega (arith, v.0), le)

  above : (d : ℕ) → Body n d → d + 0 ≤ 256 → Body n (d + 0)
  above d v le = omega (arith, v)

  -- ---- lists of expressions

  form_more_exprs : (xs : List Expr)
      → Form (Inner n) (p.more_exprs inner xs) (g.more_exprs rule xs) (k.Comma ∷ []) ends
  unfolding p.more_exprs
  form_more_exprs xs = form_take k.Comma 0 0 (λ _. bind_give (λ x. xs ++ x ∷ []) h) stays

  level_more_exprs : (xs : List Expr) → IsLevel (g.more_exprs rule xs)
  level_more_exprs xs = level_then k.Comma (λ _. level_bind level (λ x. level_give (xs ++ x ∷ [])))

  pub exact_exprs : Exact (Inner n) (p.exprs inner) (g.exprs rule) (sees_any (k.Comma ∷ ends))
  unfolding p.exprs
  exact_exprs = exact_list {step = λ _. p.more_exprs inner} {rule = λ _. g.more_exprs rule}
      one_comma (λ _. form_more_exprs) free_comma (λ _ xs. level_carries (Inner n)
      (level_more_exprs xs)) (λ x. x ∷ []) h (level_carries (Inner n) level)

  level_exprs : IsLevel (g.exprs rule)
  level_exprs = level_bind level (λ x. level_many level_more_exprs (x ∷ []))

  -- ---- paths

  form_index : Form (Body n) (p.index inner) (g.index rule) (k.OpenBracket ∷ []) []
  unfolding p.index
  form_index = form_node make_index
      (form_scoped (form_take k.OpenBracket 1 1 (λ _. bind_starts {W = Anywhere} (k.Comma ∷ ends)
      exact_exprs (λ xs. (form_last k.CloseBracket xs).exact) (anywhere (Inner n) (g.exprs rule))
      (λ xs. (form_last {V = Anywhere} k.CloseBracket xs).starts) free_bracket) into))

  form_one_part : Form (Body n) (p.one_part inner) (g.field or g.index rule) part_kinds []
  unfolding p.one_part
  form_one_part = form_or k.Dot (form_field n) form_index refl

  pub form_more_parts : (ps : List Part)
      → Form (Body n) (p.more_parts inner ps) (g.more_parts rule ps) part_kinds []
  unfolding p.more_parts
  form_more_parts ps = form_as (λ x. ps ++ x ∷ []) form_one_part

  pub exact_parts : Exact (Body n) (p.parts inner) (g.parts rule) (sees_any part_kinds)
  unfolding p.parts
  exact_parts = exact_many sees_parts form_more_parts refl
      (λ ps. body_carries n (form_more_parts ps).exact) []

  level_index : IsLevel (g.index rule)
  level_index = level_node make_index (level_scoped _)

  pub level_more_parts : (ps : List Part) → IsLevel (g.more_parts rule ps)
  level_more_parts ps =
      level_bind (level_or level_field level_index) (λ x. level_give (ps ++ x ∷ []))

  pub level_parts : IsLevel (g.parts rule)
  level_parts = level_many level_more_parts []

  form_root : Form (Body n) p.any_root (g.named_root or g.located_root) (k.Name ∷ k.Address ∷ []) []
  unfolding p.any_root
  form_root = form_or k.Name (form_as root.Name form_identifier) (form_as root.Address form_address)
      refl

  pub form_path : Form (Body n) (p.path inner) (g.path rule) (k.Name ∷ k.Address ∷ []) part_kinds
  unfolding p.path
  form_path = form_node make_path (form_then form_root (λ r. bind_give (λ ps. (r, ps)) exact_parts)
      (body_carries n form_root.exact))

  pub level_path : IsLevel (g.path rule)
  level_path = level_node make_path
      (level_bind (level_or (level_bind level_identifier (λ i. level_give (root.Name i)))
      (level_bind level_address (λ a. level_give (root.Address a))))
      (λ r. level_bind level_parts (λ ps. level_give (r, ps))))

  pub form_located : Form (Body n) (p.located inner) (g.located rule) (k.Address ∷ []) part_kinds
  unfolding p.located
  form_located = form_node make_path
      (form_then form_address (λ a. bind_give (λ ps. (root.Address a, ps)) exact_parts)
      (body_carries n (form_address {V = Body n}).exact))

  pub level_located : IsLevel (g.located rule)
  level_located = level_node make_path
      (level_bind level_address
      (λ a. level_bind level_parts (λ ps. level_give (root.Address a, ps))))

  -- ---- arguments

  abbrev argument_ends : List TokenKind
  argument_ends = k.Becomes ∷ (ends ++ ends)

  exact_one : Exact (Inner n) (p.argument inner) (g.argument rule) (sees_any argument_ends)
  exact_one = exact_argument n inner rule ends firsts h starts level names free_becomes

  form_more_arguments : (found : List Argument)
      → Form (Inner n) (p.more_arguments inner found) (g.more_arguments rule found) (k.Comma ∷ [])
      argument_ends
  unfolding p.more_arguments
  form_more_arguments found =
      form_take k.Comma 0 0 (λ _. bind_give (λ a. found ++ a ∷ []) exact_one) stays

  level_one : IsLevel (g.argument rule)
  level_one = level_argument n inner rule ends firsts h starts level names free_becomes

  level_more_arguments : (found : List Argument) → IsLevel (g.more_arguments rule found)
  level_more_arguments found =
      level_then k.Comma (λ _. level_bind level_one (λ a. level_give (found ++ a ∷ [])))

  abbrev some_arguments : Rule (List Argument)
  some_arguments = g.argument rule >>= λ a. many (g.more_arguments rule) (a ∷ [])

  starts_some : Starts some_arguments (k.Name ∷ firsts)
  starts_some =
      starts_bind (starts_argument n inner rule ends firsts h starts level names free_becomes)

  exact_some : Exact (Inner n) (λ i. and_then (p.argument inner i) (λ a. repeated (sees_in k.Comma)
      (p.more_arguments inner) (a ∷ []))) some_arguments (sees_any (k.Comma ∷ argument_ends))
  exact_some = exact_list {step = λ _. p.more_arguments inner} {rule = λ _. g.more_arguments rule}
      one_comma (λ _. form_more_arguments) free_argument (λ _ found. level_carries (Inner n)
      (level_more_arguments found)) (λ a. a ∷ []) exact_one (level_carries (Inner n) level_one)

  exact_arguments : Exact (Inner n) (p.arguments inner) (g.arguments rule) not_closed
  unfolding p.arguments
  exact_arguments = exact_choose {more1 = never} {more2 = sees_any (k.Comma ∷ argument_ends)}
      (sees_in k.CloseParenthesis) (exact_give []) exact_some
      (one_of k.CloseParenthesis) refl
      (λ last d v t r e. inl (refuses_end exact_some (starts_long starts_some) last d v))
      not_closed
      (λ rest e. (
        refl,
        sees_other (k.CloseParenthesis ∷ []) (k.Comma ∷ argument_ends) rest
            free_closing (or_left _ _ (is_closed _ e)),
      ))
      (λ d w x e (empty, is, same) rest ends_here. rw empty (is_closed _ ends_here))
      (λ d w x e l rest ends_here. only_false _
      (sees_other (k.Name ∷ firsts) (k.CloseParenthesis ∷ []) (lexemes_of w ++ rest) begun
      (starts_some.sees d w x e l rest)))

  closes : (found : List Argument) (m : ℕ) (v : Word) (y : List Argument) (e : ℕ)
      → (token k.CloseParenthesis >>= λ _. give found) m v y e → (rest : List Lexeme)
      → not_closed (lexemes_of v ++ rest) ≡ false
  closes found m v y e l rest =
      let seen : sees_in k.CloseParenthesis (lexemes_of v ++ rest) ≡ true = only_true _
      ((form_last {V = Anywhere} k.CloseParenthesis found).starts.sees m v y e l rest) in
      rw seen refl

  form_called : Form (Body n) (p.called inner) (g.called rule) (k.OpenParenthesis ∷ []) []
  unfolding p.called
  form_called = form_scoped (form_take k.OpenParenthesis 1 1
      (λ _. bind {W = Anywhere} {more1 = not_closed} exact_arguments
      (λ found. (form_last k.CloseParenthesis found).exact) (anywhere (Inner n) (g.arguments rule))
      (λ found m v y e l rest _. closes found m v y e l rest)) into)

  -- ---- operands

  form_value : (name : Identifier)
      → Form (Body n) (p.value_ending inner name) (g.value_ending rule name) (k.Hash ∷ []) []
  unfolding p.value_ending
  form_value name = form_take {W = Body n} k.Hash 0 0
      (λ _. (form_as (value_of name) form_identifier).exact) above

  form_call : (name : Identifier)
      → Form (Body n) (p.call_ending inner name) (g.call_ending rule name) (k.OpenParenthesis ∷ [])
      []
  unfolding p.call_ending
  form_call name = form_as (call_of name) form_called

  exact_path_ending : (name : Identifier)
      → Exact (Body n) (p.path_ending inner name) (g.path_ending rule name) (sees_any part_kinds)
  unfolding p.path_ending
  exact_path_ending name = bind_give (path_of (root.Name name)) exact_parts

  avoids_parts : (kind : TokenKind) → disjoint part_kinds (kind ∷ []) ≡ true → (name : Identifier)
      → Avoids (g.path_ending rule name) kind
  avoids_parts kind apart name = avoids_bind kind
      (avoids_many kind (λ ps. avoids_starts kind (form_more_parts ps).starts apart) [])
      (λ ps. avoids_give kind (path_of (root.Name name) ps))

  exact_ending : (name : Identifier)
      → Exact (Body n) (choose (sees_in k.Hash) (p.value_ending inner name)
      (choose (sees_in k.OpenParenthesis) (p.call_ending inner name) (p.path_ending inner name)))
      (g.value_ending rule name or (g.call_ending rule name or g.path_ending rule name))
      (sees_any name_ends)
  exact_ending name = exact_or_else (k.OpenParenthesis ∷ part_kinds) k.Hash (form_value name)
      (exact_or_else part_kinds k.OpenParenthesis (form_call name) (exact_path_ending name)
      (avoids_parts k.OpenParenthesis refl name))
      (avoids_or k.Hash (avoids_starts k.Hash (form_call name).starts refl)
      (avoids_parts k.Hash refl name))

  form_named : Form (Body n) (p.named inner) (g.named rule) (k.Name ∷ []) name_ends
  unfolding p.named
  form_named = form_node ended (form_then form_identifier exact_ending
      (body_carries n (form_identifier {V = Body n}).exact))

  form_group : Form (Body n) (p.group inner) (g.group rule) (k.OpenParenthesis ∷ []) []
  unfolding p.group
  form_group = form_node make_parenthesized
      (form_scoped (form_take k.OpenParenthesis 1 1 (λ _. bind_starts {W = Anywhere} ends h
      (λ x. (form_last k.CloseParenthesis x).exact) (anywhere (Inner n) rule)
      (λ x. (form_last {V = Anywhere} k.CloseParenthesis x).starts) free_parenthesis) into))

  form_placed : Form (Body n) (p.placed inner) ((g.located rule >>= λ x. give (expr.Path x))
      or g.named rule) (k.Address ∷ k.Name ∷ []) operand_ends
  unfolding p.placed
  form_placed = form_or k.Address (form_as expr.Path form_located) form_named refl

  form_bracketed : Form (Body n) (p.bracketed inner) (g.group rule
      or ((g.located rule >>= λ x. give (expr.Path x)) or g.named rule))
      (k.OpenParenthesis ∷ k.Address ∷ k.Name ∷ []) operand_ends
  unfolding p.bracketed
  form_bracketed = form_or k.OpenParenthesis form_group form_placed refl

  form_true_or_other : Form (Body n) (p.true_or_other inner) (g.truth k.True true
      or (g.truth k.False false or (g.group rule or ((g.located rule >>= λ x. give (expr.Path x))
      or g.named rule)))) (k.True ∷ k.False ∷ k.OpenParenthesis ∷ k.Address ∷ k.Name ∷ [])
      operand_ends
  unfolding p.true_or_other
  form_true_or_other = form_or k.True (form_truth k.True true)
      (form_or k.False (form_truth k.False false) form_bracketed refl) refl

  abbrev other_kinds : List TokenKind
  other_kinds =
      k.TypedNumber ∷ k.Duration ∷ k.True ∷ k.False ∷ k.OpenParenthesis ∷ k.Address ∷ k.Name ∷ []

  form_other : Form (Body n) (p.other inner) (g.other rule) other_kinds operand_ends
  unfolding p.other
  form_other =
      form_or k.TypedNumber form_typed (form_or k.Duration form_time form_true_or_other refl) refl

  form_primary : Form (Body n) (p.primary inner) (g.primary rule) (k.Number ∷ other_kinds)
      operand_ends
  unfolding p.primary
  form_primary = form_or k.Number form_number form_other refl

  form_literal : Form (Body n) (p.literal_ending inner) (g.literal_ending rule) (k.Number ∷ []) []
  unfolding p.literal_ending
  form_literal = form_as literal_of (form_word k.Number)

  form_negated : Form (Body n) (p.negated_ending inner) (deeper (g.other rule)
      >>= λ x. give (negated_of x)) other_kinds operand_ends
  unfolding p.negated_ending
  form_negated = form_as negated_of (form_deeper form_other (λ d v. omega (arith, v)))

  form_signed : Form (Body n) (p.signed inner) (g.signed rule) (k.Minus ∷ []) operand_ends
  unfolding p.signed
  form_signed = form_node ended
      (form_take k.Minus 0 0 (λ _. (form_or k.Number form_literal form_negated refl).exact) above)

  form_inverted : Form (Body n) (p.inverted inner) (g.inverted rule) (k.Not ∷ []) operand_ends
  unfolding p.inverted
  form_inverted = form_node make_inverted (form_then (form_token k.Not 0 1)
      (λ _. form_primary.exact) (body_carries n (form_token {V = Body n} k.Not 0 1).exact))

  pub form_unary : Form (Body n) (p.unary inner) (g.unary rule)
      (k.Minus ∷ k.Not ∷ k.Number ∷ k.TypedNumber ∷ k.Duration ∷ k.True ∷ k.False
      ∷ k.OpenParenthesis ∷ k.Address ∷ k.Name ∷ [])
      (operand_ends ++ (operand_ends ++ operand_ends))
  unfolding p.unary
  form_unary = form_or k.Minus form_signed (form_or k.Not form_inverted form_primary refl) refl
