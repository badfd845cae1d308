-- The parser of an argument, [ name ":=" ] expr, reads its grammar: two lexemes tell whether a name
-- and `:=` come first.
use Rattle.std.proofs.Common.{◌≡◌, ℕ, ◌+◌, true, false, ltb, Option, Some, None, List, [], ◌∷◌, ◌++◌, refl, sym, ap, ◌∙◌, arith}
use Rattle.std.proofs.lemmas.Bool.{le-ltb}
use Rattle.std.proofs.lemmas.List.{append-nil}
use Rattle.token_grammar.specs.declared.token.TokenKind.{TokenKind}
use Rattle.token_grammar.specs.declared.token.TokenKind.TheVariants as k
use Rattle.token_grammar.specs.Texts.{Lexeme}
use Rattle.token_grammar.specs.Kinds.{is_kind}
use Rattle.token_grammar.specs.steps.Parsers.{Parser, and_then, pure, take, sees_two}
use Rattle.token_grammar.specs.Grammar.{Word, Rule, lexemes_of, max_depth, ◌>>=◌, give, token}
use Rattle.token_grammar.proofs.Laws.{input, Exact, Held}
use Rattle.token_grammar.proofs.Steps.{exact_node}
use Rattle.token_grammar.proofs.Two.{no_longer}
use Rattle.token_grammar.proofs.Starts.{sees_any, disjoint, Starts, IsLevel, starts_long, starts_bind, starts_or, starts_node, sees_other, none_of_any, or_left, held_of, bind_give}
use Rattle.token_grammar.proofs.Forms.{Form, Inner, form_then, form_take, level_carries, level_bind, level_give, level_or, level_node, level_then}
use Rattle.token_grammar.proofs.Pairs.{BeginsWith, HasNone, exact_pair}
use Rattle.st_tree.specs.declared.expression.Expr.{Expr}
use Rattle.st_tree.specs.declared.expression.Identifier.{Identifier}
use Rattle.st_expr.specs.Trees.{make_identifier, make_argument}
use Rattle.st_expr.specs.Grammar as g
use Rattle.st_expr.specs.steps.Parse as p
use Rattle.st_expr.proofs.Leaves.{form_identifier, level_identifier}

-- a name alone is an expression
abbrev pub HasNames : Rule Expr → Type 0
HasNames rule = (d : ℕ) (t : Lexeme) → is_kind k.Name t ≡ true → (x : Expr) × (e : ℕ)
    × rule d ((t, d + 0) ∷ []) x e

module _ (n : ℕ) (inner : Parser Expr) (rule : Rule Expr) (ends firsts : List TokenKind)
    (h : Exact (Inner n) inner rule (sees_any ends)) (starts : Starts rule firsts)
    (level : IsLevel rule) (names : HasNames rule)
    (free : disjoint (k.Becomes ∷ []) ends ≡ true) where
  form_second : (i : Identifier)
      → Form {A = Option Identifier × Expr} (Inner n) (λ c. and_then (take k.Becomes c)
      (λ _. λ c. and_then (inner c) (λ x. pure (Some i, x)))) (token k.Becomes >>= λ _. rule
      >>= λ x. give (Some i, x)) (k.Becomes ∷ []) ends
  form_second i = form_take {W = Inner n} k.Becomes 0 0 (λ _. bind_give (λ x. (Some i, x)) h)
      (λ d v le. (omega (arith, v.0), omega (arith, v.1)))

  form_named : Form (Inner n) (p.named_argument inner) (g.named_argument rule) (k.Name ∷ []) ends
  unfolding p.named_argument
  form_named = form_then form_identifier (λ i. (form_second i).exact)
      (level_carries (Inner n) level_identifier)

  exact_plain : Exact (Inner n) (λ c. and_then (inner c) (λ x. pure (None, x)))
      (g.plain_argument rule) (sees_any ends)
  exact_plain = bind_give (λ x. (None, x)) h

  begins : (d : ℕ) (w : Word) (x : Option Identifier × Expr) (e : ℕ) → g.named_argument rule d w x e
      → (rest : List Lexeme) → sees_two k.Name k.Becomes (lexemes_of w ++ rest) ≡ true
  begins d w x e (
    u,
    v,
    i,
    m,
    eq,
    (y, (u1, v1, t1, m1, eq1, (a1, a2, a3), (b1, b2, b3)), made),
    (u2, v2, t2, m2, eq2, (c1, c2, c3), l),
  ) rest = rw (eq, eq1, a1, b1, eq2, c1, a2) c2

  first_named : BeginsWith (g.named_argument rule) k.Name
  first_named d t is =
      let name : Identifier = make_identifier t.start t.end t.bytes in
      let s = (form_second name).exact.some (d + 0) in (
        s.word,
        s.value,
        s.depth,
        (
          (t, d + 0) ∷ [],
          s.word,
          name,
          d + 0,
          refl,
          (
            t.bytes,
            ((t, d + 0) ∷ [], [], t, d + 0, refl, (refl, is, refl), (refl, refl, refl)),
            refl,
          ),
          s.spelled,
        ),
      )

  first_plain : BeginsWith (g.plain_argument rule) k.Name
  first_plain d t is = let (x, e, l) = names d t is in
      ([], (None, x), e, ((t, d + 0) ∷ [], [], x, e, refl, l, (refl, refl, refl)))

  none_plain : HasNone (g.plain_argument rule) k.Name k.Becomes (Inner n)
  none_plain d v a b w x e (u, u2, y, m, eq, l, (empty, is, same)) first second =
      let (z, m2, alone) = names d a.0 first in
      let whole : u ≡ a ∷ b ∷ w = sym (append-nil u) ∙ ap (λ (v : Word). u ++ v) (sym empty)
      ∙ sym eq in
      no_longer h (none_of_any ends) d v ((a.0, d + 0) ∷ []) z m2 alone (omega (arith, v.1), tt) b.0
      (lexemes_of w) u y m l
      (ap lexemes_of whole)
      (sees_other (k.Becomes ∷ []) ends (b.0 ∷ lexemes_of w) free (or_left _ _ second))

  held_named : (last d : ℕ) → Inner n d → (a t : Lexeme) (r : List Lexeme) → is_kind k.Name a ≡ true
      → is_kind k.Becomes t ≡ true → Held t r (p.named_argument inner (input last d (a ∷ t ∷ r)))
  unfolding p.named_argument p.identifier p.word
  held_named last d v a t r is next =
      let shallow : ltb max_depth (d + 0) ≡ false = le-ltb _ _ (omega (arith, v.1)) in
      rw (is, shallow) (held_of (form_second (make_identifier a.start a.end a.bytes)).exact
      (none_of_any ends) (form_second (make_identifier a.start a.end a.bytes)).opens a.end
      (d + 0) (omega (arith, v.0), omega (arith, v.1)) t r (or_left _ _ next))

  -- its first kinds, and where it goes on
  pub exact_argument : Exact (Inner n) (p.argument inner) (g.argument rule)
      (sees_any (k.Becomes ∷ (ends ++ ends)))
  unfolding p.argument
  exact_argument =
      exact_node make_argument (starts_long (starts_or form_named.starts (starts_bind starts)))
      (exact_pair ends ends k.Name k.Becomes form_named.exact exact_plain (λ d v. v.1) first_named
      first_plain (starts_long (starts_bind starts)) begins held_named none_plain)

  pub starts_argument : Starts (g.argument rule) (k.Name ∷ firsts)
  starts_argument = starts_node make_argument (starts_or form_named.starts (starts_bind starts))

  pub level_argument : IsLevel (g.argument rule)
  level_argument = level_node make_argument
      (level_or (level_bind level_identifier
      (λ i. level_then k.Becomes (λ _. level_bind level (λ x. level_give (Some i, x)))))
      (level_bind level (λ x. level_give (None, x))))
