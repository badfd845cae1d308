-- What follows a number, a name or a bracket with which an expression begins.
use Rattle.std.proofs.Common.{◌≡◌, ℕ, zero, suc, ◌+◌, Bool, true, false, ◌&&◌, List, [], ◌∷◌, ◌++◌, refl, inl, inr}
use Rattle.token_grammar.specs.declared.token.TokenKind.{TokenKind}
use Rattle.token_grammar.specs.declared.token.TokenKind.TheVariants as k
use Rattle.token_grammar.specs.Texts.{Lexeme}
use Rattle.token_grammar.specs.Kinds.{is_kind}
use Rattle.token_grammar.specs.steps.Parsers.{sees_in, sees_two, sees_three}
use Rattle.token_grammar.specs.Grammar.{Word, Rule, lexemes_of, ◌>>=◌, ◌or◌, give, token_as, node}
use Rattle.token_grammar.proofs.Laws.{lexemes_of-two}
use Rattle.token_grammar.proofs.OneToken.{a_token, same_kind_refl}
use Rattle.token_grammar.proofs.Starts.{disjoint, Starts, sees_other, only_false, starts_bind, starts_or, starts_scoped, starts_node, starts_token}
use Rattle.token_grammar.proofs.Forms.{Body, Avoids, avoids_starts, avoids_give, avoids_or, avoids_bind, avoids_many}
use Rattle.st_tree.specs.declared.expression.Expr.{Expr}
use Rattle.st_tree.specs.declared.expression.Identifier.{Identifier}
use Rattle.st_expr.specs.declared.rank.Rank.{Rank}
use Rattle.st_expr.specs.declared.rank.Rank.TheVariants as rank
use Rattle.st_expr.specs.Trees.{Ending, ended, from_start, make_identifier, make_binary, make_inverted, make_index, make_path, make_number, rank_of, path_of, make_parenthesized}
use Rattle.st_tree.specs.declared.expression.Root.TheVariants as root
use Rattle.st_expr.specs.Grammar as g
use Rattle.st_expr.proofs.Operators.{kinds_of, form_operators}
use Rattle.st_expr.proofs.Leaves.{form_identifier, form_address, form_number, form_typed, form_time, form_truth}
use Rattle.st_expr.proofs.Exactness.{starts_other, nested_names, nested_level}

-- ---- the first two lexemes of a word

-- no word of the rule, with what follows it, begins with lexemes of these two kinds, where the
-- second kind doesn't come next behind the word
abbrev pub LacksTwo : {A : Type 0} → Rule A → (i j : TokenKind) → Type 0
LacksTwo {A} L i j = (d : ℕ) (w : Word) (x : A) (e : ℕ) → L d w x e → (rest : List Lexeme)
    → sees_in j rest ≡ false → sees_two i j (lexemes_of w ++ rest) ≡ false

and_none : (b : Bool) → (b && false) ≡ false
and_none true = refl
and_none false = refl

pub lacks_first : {A : Type 0} {L : Rule A} {ks : List TokenKind} (i j : TokenKind) → Starts L ks
    → disjoint ks (i ∷ []) ≡ true → LacksTwo L i j
lacks_first {ks} i j h apart d w x e l rest none = let other = only_false _
    (sees_other ks (i ∷ []) _ apart (h.sees d w x e l rest)) in rw other refl

lacks_token : (kind i j : TokenKind) (own rise : ℕ)
    → LacksTwo (token_as (is_kind kind) own rise) i j
lacks_token kind i j own rise d w t e (eq, is, after) rest none =
    rw (eq, none) (and_none (is_kind i t))

pub lacks_or : {A : Type 0} {L M : Rule A} (i j : TokenKind) → LacksTwo L i j → LacksTwo M i j
    → LacksTwo (L or M) i j
lacks_or i j one other d w x e (inl l) rest none = one d w x e l rest none
lacks_or i j one other d w x e (inr l) rest none = other d w x e l rest none

pub lacks_bind : {A B : Type 0} {L : Rule A} {M : A → Rule B} (i j : TokenKind) → LacksTwo L i j
    → ((x : A) → Avoids (M x) j) → LacksTwo (L >>= M) i j
lacks_bind i j first next d w y e (u, v, x, m, eq, l, r) rest none =
    rw (eq, lexemes_of-two u v rest) (first d u x m l (lexemes_of v ++ rest)
    (next x m v y e r rest none))

lacks_node : {A B : Type 0} (make : ℕ → ℕ → A → B) {L : Rule A} (i j : TokenKind) → LacksTwo L i j
    → LacksTwo (node make L) i j
lacks_node make i j h d w y e (x, l, is) rest none = h d w x e l rest none

lacks_word : (kind i j : TokenKind) → LacksTwo (g.word kind) i j
lacks_word kind i j = lacks_bind i j (lacks_token kind i j 0 0) (λ l. avoids_give j l.bytes)

-- ---- chains of operators

starts_operators : (r : Rank) → Starts (g.operators r) (kinds_of r)
starts_operators r = (form_operators {V = Body 0} r).starts

module _ (rule : Rule Expr) (i j : TokenKind) (free : (r : Rank) → disjoint (kinds_of r)
    (j ∷ []) ≡ true) (base : LacksTwo (g.unary rule) i j) where
  lacks_level : (l : ℕ) → LacksTwo (g.level rule l) i j
  unfolding g.level
  lacks_level zero = base
  lacks_level (suc l) = lacks_bind i j (lacks_node from_start i j (lacks_level l))
      (λ q. avoids_many j
      (λ left. avoids_starts j (starts_node (λ _ end x. make_binary q.1 end left x)
      (starts_bind (starts_operators (rank_of l)))) (free (rank_of l))) q.0)

-- ---- a number, and then a bracket

free_open : (r : Rank) → disjoint (kinds_of r) (k.OpenParenthesis ∷ []) ≡ true
free_open rank.Product = refl
free_open rank.Sum = refl
free_open rank.Order = refl
free_open rank.Equality = refl
free_open rank.And = refl
free_open rank.Xor = refl
free_open rank.Or = refl

starts_signed : (rule : Rule Expr) → Starts (g.signed rule) (k.Minus ∷ [])
starts_signed rule = starts_node ended (starts_bind (starts_token k.Minus 0 0))

starts_inverted : (rule : Rule Expr) → Starts (g.inverted rule) (k.Not ∷ [])
starts_inverted rule = starts_node make_inverted (starts_bind (starts_token k.Not 0 1))

starts_number : Starts g.number (k.Number ∷ [])
starts_number = (form_number {V = Body 0}).starts

number_unary : (rule : Rule Expr) → LacksTwo (g.unary rule) k.Number k.OpenParenthesis
number_unary rule =
    lacks_or k.Number k.OpenParenthesis (lacks_first k.Number k.OpenParenthesis (starts_signed rule)
    refl)
    (lacks_or k.Number k.OpenParenthesis (lacks_first k.Number k.OpenParenthesis
    (starts_inverted rule) refl)
    (lacks_or k.Number k.OpenParenthesis (lacks_node (make_number false) k.Number k.OpenParenthesis
    (lacks_word k.Number k.Number k.OpenParenthesis)) (lacks_first k.Number k.OpenParenthesis
    (starts_other rule) refl)))

number_nested : (m : ℕ) → LacksTwo (g.nested m) k.Number k.OpenParenthesis
unfolding g.nested
number_nested zero d w x e l rest none = absurd l
number_nested (suc m) d w x e (mid, l, same) rest none = lacks_level (g.nested m) k.Number
    k.OpenParenthesis free_open (number_unary (g.nested m)) 7 d w x mid l rest none

-- a bracket behind a number with which an expression begins is behind the expression
pub number_expression : LacksTwo g.expression k.Number k.OpenParenthesis
number_expression d w x e (n, l) rest none = number_nested n d w x e l rest none

-- ---- a name, and then ":="

free_becomes : (r : Rank) → disjoint (kinds_of r) (k.Becomes ∷ []) ≡ true
free_becomes rank.Product = refl
free_becomes rank.Sum = refl
free_becomes rank.Order = refl
free_becomes rank.Equality = refl
free_becomes rank.And = refl
free_becomes rank.Xor = refl
free_becomes rank.Or = refl

starts_group : (rule : Rule Expr) → Starts (g.group rule) (k.OpenParenthesis ∷ [])
starts_group rule = starts_node make_parenthesized
    (starts_scoped (starts_bind (starts_token k.OpenParenthesis 1 1)))

starts_located : (rule : Rule Expr) → Starts (g.located rule) (k.Address ∷ [])
starts_located rule = starts_node make_path (starts_bind (form_address {V = Body 0}).starts)

starts_more_parts : (rule : Rule Expr) (ps : _)
    → Starts (g.more_parts rule ps) (k.Dot ∷ k.OpenBracket ∷ [])
starts_more_parts rule ps = starts_bind (starts_or (starts_bind (starts_token k.Dot 0 0))
    (starts_node make_index (starts_scoped (starts_bind (starts_token k.OpenBracket 1 1)))))

avoids_endings : (rule : Rule Expr) (name : Identifier)
    → Avoids {A = Ending} (g.value_ending rule name
    or (g.call_ending rule name or g.path_ending rule name)) k.Becomes
avoids_endings rule name =
    avoids_or k.Becomes (avoids_starts k.Becomes (starts_bind (starts_token k.Hash 0 0)) refl)
    (avoids_or k.Becomes
    (avoids_starts k.Becomes
    (starts_bind (starts_scoped (starts_bind (starts_token k.OpenParenthesis 1 1)))) refl)
    (avoids_bind k.Becomes
    (avoids_many k.Becomes (λ ps. avoids_starts k.Becomes (starts_more_parts rule ps) refl) [])
    (λ ps. avoids_give k.Becomes (path_of (root.Name name) ps))))

name_named : (rule : Rule Expr) → LacksTwo (g.named rule) k.Name k.Becomes
name_named rule = lacks_node ended k.Name k.Becomes
    (lacks_bind k.Name k.Becomes (lacks_node make_identifier k.Name k.Becomes
    (lacks_word k.Name k.Name k.Becomes)) (avoids_endings rule))

name_other : (rule : Rule Expr) → LacksTwo (g.other rule) k.Name k.Becomes
name_other rule =
    lacks_or k.Name k.Becomes (lacks_first k.Name k.Becomes (form_typed {V = Body 0}).starts refl)
    (lacks_or k.Name k.Becomes (lacks_first k.Name k.Becomes (form_time {V = Body 0}).starts refl)
    (lacks_or k.Name k.Becomes (lacks_first k.Name k.Becomes (form_truth {V = Body 0} k.True
    true).starts refl)
    (lacks_or k.Name k.Becomes (lacks_first k.Name k.Becomes (form_truth {V = Body 0} k.False
    false).starts refl)
    (lacks_or k.Name k.Becomes (lacks_first k.Name k.Becomes (starts_group rule) refl)
    (lacks_or k.Name k.Becomes (lacks_first k.Name k.Becomes (starts_bind (starts_located rule))
    refl) (name_named rule))))))

name_unary : (rule : Rule Expr) → LacksTwo (g.unary rule) k.Name k.Becomes
name_unary rule =
    lacks_or k.Name k.Becomes (lacks_first k.Name k.Becomes (starts_signed rule) refl)
    (lacks_or k.Name k.Becomes (lacks_first k.Name k.Becomes (starts_inverted rule) refl)
    (lacks_or k.Name k.Becomes (lacks_first k.Name k.Becomes starts_number refl) (name_other rule)))

name_nested : (m : ℕ) → LacksTwo (g.nested m) k.Name k.Becomes
unfolding g.nested
name_nested zero d w x e l rest none = absurd l
name_nested (suc m) d w x e (mid, l, same) rest none = lacks_level (g.nested m) k.Name k.Becomes
    free_becomes (name_unary (g.nested m)) 7 d w x mid l rest none

-- ---- a bracket, a name, and then ":="

-- no word of the rule, with what follows it, begins with "(", a name and ":="
abbrev pub LacksThree : {A : Type 0} → Rule A → Type 0
LacksThree {A} L = (d : ℕ) (w : Word) (x : A) (e : ℕ) → L d w x e → (rest : List Lexeme)
    → sees_three k.OpenParenthesis k.Name k.Becomes (lexemes_of w ++ rest) ≡ false

pub three_first : {A : Type 0} {L : Rule A} {ks : List TokenKind} → Starts L ks
    → disjoint ks (k.OpenParenthesis ∷ []) ≡ true → LacksThree L
three_first {ks} h apart d w x e l rest = let other = only_false _
    (sees_other ks (k.OpenParenthesis ∷ []) _ apart (h.sees d w x e l rest)) in rw other refl

three_or : {A : Type 0} {L M : Rule A} → LacksThree L → LacksThree M → LacksThree (L or M)
three_or one other d w x e (inl l) rest = one d w x e l rest
three_or one other d w x e (inr l) rest = other d w x e l rest

pub three_bind : {A B : Type 0} {L : Rule A} (M : A → Rule B) → LacksThree L → LacksThree (L >>= M)
three_bind M first d w y e (u, v, x, m, eq, l, r) rest =
    rw (eq, lexemes_of-two u v rest) (first d u x m l (lexemes_of v ++ rest))

three_node : {A B : Type 0} (make : ℕ → ℕ → A → B) {L : Rule A} → LacksThree L
    → LacksThree (node make L)
three_node make h d w y e (x, l, is) rest = h d w x e l rest

starts_close : (y : Expr)
    → Starts (token_as (is_kind k.CloseParenthesis) 0 0 >>= λ _. give y) (k.CloseParenthesis ∷ [])
starts_close y = starts_bind (starts_token k.CloseParenthesis 0 0)

three_group : (rule : Rule Expr) → LacksTwo rule k.Name k.Becomes → LacksThree (g.group rule)
three_group rule lacks d w x e
    (z, (mid, (u, v, t, m, eq, (one, is, after), (u2, v2, y, m2, eq2, l, r)), same), made) rest =
    let behind = only_false _ (sees_other (k.CloseParenthesis ∷ []) (k.Becomes ∷ [])
    (lexemes_of v2 ++ rest) refl ((starts_close y).sees m2 v2 z mid r rest)) in
    let none = lacks m u2 y m2 l (lexemes_of v2 ++ rest) behind in
    rw (eq, one, eq2, lexemes_of-two u2 v2 rest, none) (and_none (is_kind k.OpenParenthesis t))

three_other : (rule : Rule Expr) → LacksTwo rule k.Name k.Becomes → LacksThree (g.other rule)
three_other rule lacks =
    three_or (three_first (form_typed {V = Body 0}).starts refl)
    (three_or (three_first (form_time {V = Body 0}).starts refl)
    (three_or (three_first (form_truth {V = Body 0} k.True true).starts refl)
    (three_or (three_first (form_truth {V = Body 0} k.False false).starts refl)
    (three_or (three_group rule lacks)
    (three_or (three_first (starts_bind (starts_located rule)) refl)
    (three_first (starts_node ended (starts_bind (form_identifier {V = Body 0}).starts))
    refl))))))

three_level : (rule : Rule Expr) → LacksTwo rule k.Name k.Becomes → (l : ℕ)
    → LacksThree (g.level rule l)
unfolding g.level
three_level rule lacks zero = three_or (three_first (starts_signed rule) refl)
    (three_or (three_first (starts_inverted rule) refl) (three_or (three_first starts_number refl)
    (three_other rule lacks)))
three_level rule lacks (suc l) = three_bind _ (three_node from_start (three_level rule lacks l))

three_nested : (m : ℕ) → LacksThree (g.nested m)
unfolding g.nested
three_nested zero d w x e l rest = absurd l
three_nested (suc m) d w x e (mid, l, same) rest =
    three_level (g.nested m) (name_nested m) 7 d w x mid l rest

pub three_expression : LacksThree g.expression
three_expression d w x e (n, l) rest = three_nested n d w x e l rest

-- ---- words of expressions

-- a number alone is an expression
number_level : (rule : Rule Expr) (l d : ℕ) (t : Lexeme) → is_kind k.Number t ≡ true
    → (x : Expr) × (e : ℕ) × g.level rule l d ((t, d + 0) ∷ []) x e
unfolding g.level
number_level rule zero d t is = (
  make_number false t.start t.end t.bytes,
  d + 0,
  inr
      (inr (inl (
        t.bytes,
        ((t, d + 0) ∷ [], [], t, d + 0, refl, (refl, is, refl), (refl, refl, refl)),
        refl,
      ))),
)
number_level rule (suc l) d t is = let s = number_level rule l d t is in (
  s.0,
  s.1,
  (
    (t, d + 0) ∷ [],
    [],
    (s.0, t.start),
    s.1,
    refl,
    (s.0, s.2, refl),
    (zero, (refl, refl, refl)),
  ),
)

number_within : (m d : ℕ) (t : Lexeme) → is_kind k.Number t ≡ true
    → (x : Expr) × (e : ℕ) × g.nested (suc m) d ((t, d + 0) ∷ []) x e
unfolding g.nested
number_within m d t is = let s = number_level (g.nested m) 7 d t is in (s.0, d, (s.1, s.2, refl))

pub number_alone : (d : ℕ) (t : Lexeme) → is_kind k.Number t ≡ true
    → (x : Expr) × (e : ℕ) × g.expression d ((t, d + 0) ∷ []) x e
number_alone d t is = let s = number_within 0 d t is in (s.0, s.1, (1, s.2))

-- a name in brackets is an expression
abbrev bracketed : ℕ → Lexeme → Lexeme → Word
bracketed d a b = (a, d + 1) ∷ (b, d + 1 + 0) ∷ (a_token k.CloseParenthesis, d + 1 + 0) ∷ []

group_word : (m d : ℕ) (a b : Lexeme) → is_kind k.OpenParenthesis a ≡ true → is_kind k.Name b ≡ true
    → (x : Expr) × g.group (g.nested (suc m)) d (bracketed d a b) x d
group_word m d a b is next =
    let s = nested_names m (d + 1) b next in
    let c = a_token k.CloseParenthesis in
    let level : s.1 ≡ d + 1 = nested_level (suc m) (d + 1) ((b, d + 1 + 0) ∷ []) s.0 s.1 s.2 in (
      make_parenthesized a.start c.end s.0,
      (
        s.0,
        (
          s.1 + 0,
          (
            (a, d + 1) ∷ [],
            (b, d + 1 + 0) ∷ (c, d + 1 + 0) ∷ [],
            a,
            d + 1,
            refl,
            (refl, is, refl),
            (
              (b, d + 1 + 0) ∷ [],
              (c, d + 1 + 0) ∷ [],
              s.0,
              s.1,
              refl,
              s.2,
              (
                (c, d + 1 + 0) ∷ [],
                [],
                c,
                s.1 + 0,
                refl,
                (
                  rw level refl,
                  same_kind_refl
                      k.CloseParenthesis,
                  refl,
                ),
                (refl, refl, refl),
              ),
            ),
          ),
          refl,
        ),
        refl,
      ),
    )

group_level : (m l d : ℕ) (a b : Lexeme) → is_kind k.OpenParenthesis a ≡ true
    → is_kind k.Name b ≡ true
    → (x : Expr) × (e : ℕ) × g.level (g.nested (suc m)) l d (bracketed d a b) x e
unfolding g.level
group_level m zero d a b is next = let s = group_word m d a b is next in
    (s.0, d, inr (inr (inr (inr (inr (inr (inr (inl s.1))))))))
group_level m (suc l) d a b is next = let s = group_level m l d a b is next in (
  s.0,
  s.1,
  (
    bracketed d a b,
    [],
    (s.0, a.start),
    s.1,
    refl,
    (s.0, s.2, refl),
    (zero, (refl, refl, refl)),
  ),
)

group_within : (m d : ℕ) (a b : Lexeme) → is_kind k.OpenParenthesis a ≡ true
    → is_kind k.Name b ≡ true
    → (x : Expr) × (e : ℕ) × g.nested (suc (suc m)) d (bracketed d a b) x e
unfolding g.nested
group_within m d a b is next = let s = group_level m 7 d a b is next in (s.0, d, (s.1, s.2, refl))

-- "(" and a name begin an expression
pub group_begins : (d : ℕ) (a b : Lexeme) → is_kind k.OpenParenthesis a ≡ true
    → is_kind k.Name b ≡ true
    → (w : Word) × (x : Expr) × (e : ℕ) × g.expression d ((a, d + 1) ∷ (b, d + 1 + 0) ∷ w) x e
group_begins d a b is next = let s = group_within 0 d a b is next in
    ((a_token k.CloseParenthesis, d + 1 + 0) ∷ [], s.0, s.1, (2, s.2))
