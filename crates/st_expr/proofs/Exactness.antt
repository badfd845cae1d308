-- The parser of expressions reads their grammar, to any depth.
use Rattle.std.proofs.Common.{◌≡◌, ℕ, zero, suc, ◌+◌, ◌<◌, true, List, [], ◌∷◌, ◌++◌, refl, arith, inr}
use Rattle.token_grammar.specs.declared.token.TokenKind.{TokenKind}
use Rattle.token_grammar.specs.declared.token.TokenKind.TheVariants as k
use Rattle.token_grammar.specs.Texts.{Lexeme}
use Rattle.token_grammar.specs.Kinds.{is_kind}
use Rattle.token_grammar.specs.steps.Parsers.{Parser, and_then, repeated, node as node_of}
use Rattle.token_grammar.specs.Grammar.{Rule, ◌>>=◌, node, many}
use Rattle.token_grammar.proofs.Laws.{Exact, Some_}
use Rattle.token_grammar.proofs.OneToken.{a_token, same_kind_refl}
use Rattle.token_grammar.proofs.Steps.{exact_same}
use Rattle.token_grammar.proofs.Same.{exact_as, exact_some_of, starts_some_of, level_some_of}
use Rattle.token_grammar.proofs.Starts.{sees_any, disjoint, Starts, IsLevel, Opens, starts_bind, starts_or, starts_scoped, starts_node, starts_token}
use Rattle.token_grammar.proofs.Forms.{Form, Body, Inner, body_carries, form_then, form_as, form_node, form_scoped, form_list, level_scoped}
use Rattle.st_tree.specs.declared.expression.Expr.{Expr}
use Rattle.st_expr.specs.declared.rank.Rank.{Rank}
use Rattle.st_expr.specs.declared.rank.Rank.TheVariants as rank
use Rattle.st_expr.specs.Trees.{from_start, make_binary, make_inverted, make_path, rank_of, make_identifier, path_of, ended, make_parenthesized}
use Rattle.st_tree.specs.declared.expression.Root.TheVariants as root
use Rattle.st_expr.specs.Grammar as g
use Rattle.st_expr.specs.steps.Parse as p
use Rattle.st_expr.proofs.Operators.{kinds_of, form_operators, sees_rank}
use Rattle.st_expr.proofs.Arguments.{HasNames}
use Rattle.st_expr.proofs.Leaves.{form_identifier, form_address, form_number, form_typed, form_time, form_truth}
use Rattle.st_expr.proofs.Rules.{operand_ends, form_unary}
use Rattle.st_expr.proofs.Nesting.{from_depth}

-- with what an expression begins
abbrev pub firsts : List TokenKind
firsts = k.Minus ∷ k.Not ∷ k.Number ∷ k.TypedNumber ∷ k.Duration ∷ k.True ∷ k.False
    ∷ k.OpenParenthesis ∷ k.Address ∷ k.Name ∷ []

-- ---- a chain of operators of one rank

module _ (n : ℕ) (operand : Parser Expr) (rule : Rule Expr) (ends : List TokenKind) (r : Rank)
    (h : Form (Body n) operand rule firsts ends) (apart : disjoint (kinds_of r) ends ≡ true) where
  form_step : (start : ℕ) (left : Expr)
      → Form (Body n) (p.step (p.operators r) operand start left) (g.step (g.operators r) rule start
      left) (kinds_of r) ends
  unfolding p.step
  form_step start left = form_node (λ _ e q. make_binary start e left q)
      (form_then (form_operators r) (λ o. (form_as (λ x. (o, x)) h).exact)
      (body_carries n (form_operators {V = Body n} r).exact))

  form_chain : Form (Body n) (λ i. and_then (node_of from_start operand i)
      (λ q. repeated (p.sees_operator r) (p.step (p.operators r) operand q.1) q.0))
      (node from_start rule >>= λ q. many (g.step (g.operators r) rule q.1) q.0) firsts
      (kinds_of r ++ ends)
  form_chain = form_list {step = λ q. p.step (p.operators r) operand q.1}
      {rule = λ q. g.step (g.operators r) rule q.1} (sees_rank r) (λ q left. form_step q.1 left)
      apart (λ q left. body_carries n (form_step q.1 left).exact)
      (λ q. q.0) (form_node from_start h) (body_carries n (form_node from_start h).exact)

abbrev pub goes_on : List TokenKind
goes_on = kinds_of
    rank.Or ++ (kinds_of
    rank.Xor ++ (kinds_of
    rank.And ++ (kinds_of
    rank.Equality ++ (kinds_of
    rank.Order ++ (kinds_of
    rank.Sum ++ (kinds_of rank.Product ++ (operand_ends ++ (operand_ends ++ operand_ends))))))))

pub form_whole : (n : ℕ) (inner : Parser Expr) (rule : Rule Expr)
    → Exact (Inner n) inner rule (sees_any goes_on) → Starts rule firsts → IsLevel rule
    → HasNames rule → Form (Body n) (p.whole inner) (g.whole rule) firsts goes_on
unfolding p.whole p.level g.level rank_of
form_whole n inner rule h starts level names =
    let zero' : Form (Body n) (p.level inner 0) (g.level rule 0) firsts
    (operand_ends ++ (operand_ends ++ operand_ends)) = form_unary n inner rule goes_on firsts h
    starts level names refl refl refl refl refl refl refl in
    let one = form_chain n (p.level inner 0) (g.level rule 0) _ rank.Product zero' refl in
    let two = form_chain n (p.level inner 1) (g.level rule 1) _ rank.Sum one refl in
    let three = form_chain n (p.level inner 2) (g.level rule 2) _ rank.Order two refl in
    let four = form_chain n (p.level inner 3) (g.level rule 3) _ rank.Equality three refl in
    let five = form_chain n (p.level inner 4) (g.level rule 4) _ rank.And four refl in
    let six = form_chain n (p.level inner 5) (g.level rule 5) _ rank.Xor five refl in
    let seven = form_chain n (p.level inner 6) (g.level rule 6) _ rank.Or six refl in
    form_scoped seven

-- ---- the grammar alone

pub starts_other : (rule : Rule Expr)
    → Starts (g.other rule)
    (k.TypedNumber ∷ k.Duration ∷ k.True ∷ k.False ∷ k.OpenParenthesis ∷ k.Address ∷ k.Name ∷ [])
starts_other rule = starts_or (form_typed {V = Body 0}).starts
    (starts_or (form_time {V = Body 0}).starts (starts_or (form_truth {V = Body 0} k.True _).starts
    (starts_or (form_truth {V = Body 0} k.False _).starts
    (starts_or (starts_node make_parenthesized
    (starts_scoped (starts_bind (starts_token k.OpenParenthesis 1 1))))
    (starts_or (starts_bind
    (starts_node make_path (starts_bind (form_address {V = Body 0}).starts)))
    (starts_node ended (starts_bind (form_identifier {V = Body 0}).starts)))))))

starts_level : (rule : Rule Expr) (l : ℕ) → Starts (g.level rule l) firsts
unfolding g.level
starts_level rule zero = starts_or (starts_node ended (starts_bind (starts_token k.Minus 0 0)))
    (starts_or (starts_node make_inverted (starts_bind (starts_token k.Not 0 1)))
    (starts_or (form_number {V = Body 0}).starts (starts_other rule)))
starts_level rule (suc l) = starts_bind (starts_node from_start (starts_level rule l))

pub nested_starts : (m : ℕ) → Starts (g.nested m) firsts
unfolding g.nested
nested_starts zero = record { sees = λ d w x e l rest. absurd l }
nested_starts (suc m) = record {
  sees = λ d w x e (mid, l, same) rest.
      (starts_level (g.nested m) 7).sees d w x mid l rest;
}

pub nested_level : (m : ℕ) → IsLevel (g.nested m)
unfolding g.nested
nested_level zero d w x e l = absurd l
nested_level (suc m) d w x e l = level_scoped (g.level (g.nested m) 7) d w x e l

-- a name alone is an expression
name_level : (rule : Rule Expr) (l d : ℕ) (t : Lexeme) → is_kind k.Name t ≡ true
    → (x : Expr) × (e : ℕ) × g.level rule l d ((t, d + 0) ∷ []) x e
unfolding g.level
name_level rule zero d t is =
    let name = make_identifier t.start t.end t.bytes in (
      path_of (root.Name name) [] t.start t.end,
      d + 0,
      inr (inr (inr (inr (inr (inr (inr (inr (inr (
        path_of (root.Name name) [],
        (
          (t, d + 0) ∷ [],
          [],
          name,
          d + 0,
          refl,
          (
            t.bytes,
            ((t, d + 0) ∷ [], [], t, d + 0, refl, (refl, is, refl), (refl, refl, refl)),
            refl,
          ),
          inr (inr ([], [], [], d + 0, refl, (zero, (refl, refl, refl)), (refl, refl, refl))),
        ),
        refl,
      ))))))))),
    )
name_level rule (suc l) d t is =
    let s = name_level rule l d t is in (
      s.0,
      s.1,
      (
        (t, d + 0) ∷ [],
        [],
        (s.0, t.start),
        s.1,
        refl,
        (s.0, s.2, refl),
        (zero, (refl, refl, refl)),
      ),
    )

pub nested_names : (m : ℕ) → HasNames (g.nested (suc m))
unfolding g.nested
nested_names m d t is = let s = name_level (g.nested m) 7 d t is in (s.0, d, (s.1, s.2, refl))

-- a name
some_nested : (m d : ℕ) → Some_ (g.nested (suc m)) d
some_nested m d = let s = nested_names m d (a_token k.Name) (same_kind_refl k.Name) in
    record { word = (a_token k.Name, d + 0) ∷ []; value = s.0; depth = s.1; spelled = s.2 }

-- ---- to any depth

names_below : (n m : ℕ) → n < m → HasNames (g.nested m)
names_below n zero lt = absurd (omega (arith, lt))
names_below n (suc m) lt = nested_names m

-- The parser with a bound on nesting reads the grammar with a larger one.
pub exact_nested : (n m : ℕ) → n < m → Exact (Inner n) (p.nested n) (g.nested m) (sees_any goes_on)
unfolding p.nested g.nested
exact_nested n zero lt = absurd (omega (arith, lt))
exact_nested zero (suc m) lt = record {
  told = λ i v. absurd (omega (arith, v));
  complete = λ d w x e v. absurd (omega (arith, v));
  local = λ last d v. absurd (omega (arith, v));
  cut = λ last d v. absurd (omega (arith, v));
  some = some_nested m;
  rises = λ d w x e l. omega (arith, nested_level (suc m) d w x e l);
}
exact_nested (suc n) (suc m) lt =
    exact_same (form_whole n (p.nested n) (g.nested m) (exact_nested n m (omega (arith, lt)))
    (nested_starts m) (nested_level m) (names_below n m (omega (arith, lt)))).exact
    (λ d v. v.0) (λ d w x e l. l) (λ d w x e l. l) (λ rest e. e)

-- ---- the rule over all depths

pub exact_expression : Exact (Inner 257) (p.nested 257) g.expression (sees_any goes_on)
exact_expression =
    exact_as (from_depth 258) (exact_some_of (λ n. exact_nested 257 (258 + n) (omega arith)))

pub level_expression : IsLevel g.expression
level_expression = level_some_of nested_level

pub names_expression : HasNames g.expression
names_expression d t is = let (x, e, l) = nested_names 0 d t is in (x, e, (1, l))

opens_nested : Opens (g.nested 258) firsts
unfolding g.nested
opens_nested = (form_whole 256 (p.nested 256) (g.nested 257) (exact_nested 256 257 (omega arith))
    (nested_starts 257) (nested_level 257) (nested_names 256)).opens

pub form_expression : Form (Inner 257) (p.nested 257) g.expression firsts goes_on
form_expression = record {
  exact = exact_expression;
  starts = starts_some_of nested_starts;
  opens = record {
    word = λ d t r e. let (at, w, x, m, l) = opens_nested.word d t r e in
        (at, w, x, m, (258, l));
  };
}
