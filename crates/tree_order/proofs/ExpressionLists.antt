-- What is gathered from the words of expressions and paths.
use Rattle.std.proofs.Common.{◌≡◌, ℕ, zero, suc, Bool, true, false, List, [], ◌∷◌, ◌++◌}
use Rattle.std.proofs.Common.{Option, Some, None, append_assoc, refl, sym, ap, subst, ◌∙◌}
use Rattle.std.specs.Prelude.{flat_map}
use Rattle.std.proofs.lemmas.List.{append-nil}
use Rattle.token_grammar.specs.declared.token.TokenKind.{TokenKind}
use Rattle.token_grammar.specs.declared.token.TokenKind.TheVariants as k
use Rattle.token_grammar.specs.Grammar.{Word, Rule, ◌>>=◌, give, times, start_of, end_of}
use Rattle.st_tree.specs.Places.{node_at}
use Rattle.st_tree.specs.declared.node.Node.{Node}
use Rattle.st_tree.specs.declared.expression.Identifier.{Identifier}
use Rattle.st_tree.specs.declared.expression.Address.{Address}
use Rattle.st_tree.specs.declared.expression.Root.{Root}
use Rattle.st_tree.specs.declared.expression.Root.TheVariants as root
use Rattle.st_tree.specs.declared.expression.UnaryOperator.{UnaryOperator}
use Rattle.st_tree.specs.declared.expression.UnaryOperator.TheVariants.{Negate, Not}
use Rattle.st_tree.specs.declared.expression.BinaryOperator.{BinaryOperator}
use Rattle.st_tree.specs.declared.expression.Expr.{Expr}
use Rattle.st_tree.specs.declared.expression.Expr.TheVariants as expr
use Rattle.st_tree.specs.declared.expression.Argument.{Argument}
use Rattle.st_tree.specs.declared.expression.Path.{Path}
use Rattle.st_tree.specs.declared.expression.Part.{Part}
use Rattle.st_tree.specs.declared.expression.Part.TheVariants as part
use Rattle.st_expr.specs.declared.rank.Rank.{Rank}
use Rattle.st_expr.specs.declared.rank.Rank.TheVariants as rank
use Rattle.st_expr.specs.Trees.{Text, rank_of, Ending, ended, from_start, make_identifier}
use Rattle.st_expr.specs.Trees.{make_address, make_path, make_index, make_number, make_typed}
use Rattle.st_expr.specs.Trees.{make_time, make_truth, make_argument, make_inverted}
use Rattle.st_expr.specs.Trees.{make_parenthesized}
use Rattle.st_expr.specs.Grammar as g
use Rattle.tree_order.proofs.Gathering.{Gathering, Filled, Lists, filled_token, filled_first}
use Rattle.tree_order.proofs.Gathering.{filled_or, filled_scoped, filled_node, gathers_give}
use Rattle.tree_order.proofs.Gathering.{gathers_then, gathers_behind, gathers_or, lists_or}
use Rattle.tree_order.proofs.Gathering.{lists_scoped, lists_deeper, lists, lists_word, lists_behind}
use Rattle.tree_order.proofs.Gathering.{lists_enclosed, lists_node, gathers_node, gathers_another}
use Rattle.tree_order.proofs.Gathering.{gathers_more, lists_many, lists_some}

-- ---- names and addresses

abbrev pub of_identifier : {M : Type 0} {P : Word → List M → Type 0} → Gathering P → Identifier →
    List M
of_identifier G x = G.own x.node ++ G.spelled k.Name x.name

abbrev pub of_address : {M : Type 0} {P : Word → List M → Type 0} → Gathering P → Address → List M
of_address G x = G.own x.node ++ G.spelled k.Address x.name

abbrev pub of_root : {M : Type 0} {P : Word → List M → Type 0} → Gathering P → Root → List M
of_root G (root.Name x) = of_identifier G x
of_root G (root.Address x) = of_address G x

-- of what may be there
abbrev pub list_if : {A M : Type 0} → (A → List M) → Option A → List M
list_if list None = []
list_if list (Some x) = list x

pub filled_word : (kind : TokenKind) → Filled (g.word kind)
filled_word kind = filled_first (filled_token 0 0)

pub filled_identifier : Filled g.identifier
filled_identifier = filled_node make_identifier (filled_word k.Name)

pub filled_names : Filled g.names
filled_names = filled_first filled_identifier

pub filled_address : Filled g.address
filled_address = filled_node make_address (filled_word k.Address)

module _ {M : Type 0} {P : Word → List M → Type 0} (G : Gathering P) where
  pub identifier : Lists P (of_identifier G) g.identifier
  identifier =
      lists_node G (G.spelled k.Name) (of_identifier G) make_identifier (filled_word k.Name)
      (λ start end x. refl) (lists_word G k.Name)

  pub names : Lists P (flat_map (of_identifier G)) g.names
  names = lists_some G identifier (gathers_more G 0 0 identifier)

  pub address : Lists P (of_address G) g.address
  address =
      lists_node G (G.spelled k.Address) (of_address G) make_address (filled_word k.Address)
      (λ start end x. refl) (lists_word G k.Address)

-- What is gathered of expressions: of each form its node, the texts of its tokens, and its parts.
pub record ExprLists {M : Type 0} {P : Word → List M → Type 0} (G : Gathering P) : Type 0 where
  pub of_expr : Expr → List M
  pub of_part : Part → List M
  pub of_argument : Argument → List M
  pub of_path : Path → List M
  pub number : (node : Node) (minus : Bool) (text : Text) → of_expr (expr.Number node minus text)
      ≡ G.own node ++ G.spelled k.Number text
  pub typed : (node : Node) (text : Text) → of_expr (expr.Typed node text) ≡ G.own node
      ++ G.spelled k.TypedNumber text
  pub time : (node : Node) (text : Text) → of_expr (expr.Time node text) ≡ G.own node
      ++ G.spelled k.Duration text
  pub truth : (node : Node) (truth : Bool) → of_expr (expr.Truth node truth) ≡ G.own node ++ []
  pub path : (p : Path) → of_expr (expr.Path p) ≡ of_path p
  pub value : (node : Node) (name value : Identifier) → of_expr (expr.Value node name value)
      ≡ G.own node ++ (of_identifier G name ++ of_identifier G value)
  pub parenthesized : (node : Node) (inner : Expr) → of_expr (expr.Parenthesized node inner)
      ≡ G.own node ++ of_expr inner
  pub unary : (node : Node) (operator : UnaryOperator) (operand : Expr) →
      of_expr (expr.Unary node operator operand) ≡ G.own node ++ of_expr operand
  pub binary : (node : Node) (operator : BinaryOperator) (left right : Expr) →
      of_expr (expr.Binary node operator left right) ≡ G.own node ++ (of_expr left ++ of_expr right)
  pub call : (node : Node) (name : Identifier) (arguments : List Argument) →
      of_expr (expr.Call node name arguments) ≡ G.own node
      ++ (of_identifier G name ++ flat_map of_argument arguments)
  pub field : (name : Identifier) → of_part (part.Field name) ≡ of_identifier G name
  pub index : (node : Node) (indices : List Expr) → of_part (part.Index node indices) ≡ G.own node
      ++ flat_map of_expr indices
  pub argument : (node : Node) (name : Option Identifier) (value : Expr) →
      of_argument (record { node = node; name = name; value = value }) ≡ G.own node
      ++ (list_if (of_identifier G) name ++ of_expr value)
  pub whole_path : (node : Node) (r : Root) (parts : List Part) →
      of_path (record { node = node; root = r; parts = parts }) ≡ G.own node
      ++ (of_root G r ++ flat_map of_part parts)

-- ---- words with a lexeme

filled_operator : (kind : TokenKind) (o : BinaryOperator) → Filled (g.operator_as kind o)
filled_operator kind o = filled_first (filled_token 0 1)

filled_operators : (r : Rank) → Filled (g.operators r)
filled_operators rank.Product =
    filled_or (filled_operator k.Star _) (filled_or (filled_operator k.Slash _)
    (filled_operator k.Mod _))
filled_operators rank.Sum = filled_or (filled_operator k.Plus _) (filled_operator k.Minus _)
filled_operators rank.Order =
    filled_or (filled_operator k.Less _) (filled_or (filled_operator k.Greater _)
    (filled_or (filled_operator k.LessEqual _) (filled_operator k.GreaterEqual _)))
filled_operators rank.Equality =
    filled_or (filled_operator k.Equal _) (filled_operator k.NotEqual _)
filled_operators rank.And = filled_or (filled_operator k.And _) (filled_operator k.Ampersand _)
filled_operators rank.Xor = filled_operator k.Xor _
filled_operators rank.Or = filled_operator k.Or _

filled_step : (r : Rank) (operand : Rule Expr) →
    Filled {A = BinaryOperator × Expr} (g.operators r >>= λ o. operand >>= λ x. give (o, x))
filled_step r operand = filled_first (filled_operators r)

module _ (inner : Rule Expr) where
  pub filled_path : Filled (g.path inner)
  filled_path =
      filled_node make_path
      (filled_first (filled_or (filled_first filled_identifier) (filled_first filled_address)))

  filled_other : Filled (g.other inner)
  filled_other =
      filled_or (filled_node make_typed (filled_word k.TypedNumber))
      (filled_or (filled_node make_time (filled_word k.Duration))
      (filled_or (filled_node make_truth (filled_first (filled_token 0 0)))
      (filled_or (filled_node make_truth (filled_first (filled_token 0 0)))
      (filled_or (filled_node make_parenthesized (filled_scoped (filled_first (filled_token 1 1))))
      (filled_or (filled_first (filled_node make_path (filled_first filled_address)))
      (filled_node ended (filled_first filled_identifier)))))))

  filled_unary : Filled (g.unary inner)
  filled_unary =
      filled_or (filled_node ended (filled_first (filled_token 0 0)))
      (filled_or (filled_node make_inverted (filled_first (filled_token 0 1)))
      (filled_or (filled_node (make_number false) (filled_word k.Number)) filled_other))

  filled_level : (l : ℕ) → Filled (g.level inner l)
  unfolding g.level
  filled_level zero = filled_unary
  filled_level (suc l) = filled_first (filled_node from_start (filled_level l))

pub filled_nested : (n : ℕ) → Filled (g.nested n)
unfolding g.nested
filled_nested zero = record { some = λ d w x e l. absurd l }
filled_nested (suc n) = filled_scoped (filled_level (g.nested n) 7)

pub filled_expression : Filled g.expression
filled_expression = record { some = λ d w x e (n, l). (filled_nested n).some d w x e l }

-- ---- words one behind the other

pub start_of-append : (u v : Word) → (u ≡ [] → ⊥) → start_of (u ++ v) ≡ start_of u
start_of-append [] v some = absurd (some refl)
start_of-append (p ∷ u) v some = refl

pub end_of-append : (u v : Word) → (v ≡ [] → ⊥) → end_of (u ++ v) ≡ end_of v
end_of-append [] v some = refl
end_of-append (p ∷ []) [] some = absurd (some refl)
end_of-append (p ∷ []) (q ∷ v) some = refl
end_of-append (p ∷ r ∷ u) v some = end_of-append (r ∷ u) v some

pub some-append : (u v : Word) → (u ≡ [] → ⊥) → u ++ v ≡ [] → ⊥
some-append [] v some e = some refl
some-append (p ∷ u) v some e = absurd cc

module _ {M : Type 0} {P : Word → List M → Type 0} {G : Gathering P} (E : ExprLists G) where
  -- ---- operators, from the left on

  operator : (kind : TokenKind) (o : BinaryOperator) →
      Lists P (λ (o : BinaryOperator). []) (g.operator_as kind o)
  operator kind o = lists G (gathers_behind G 0 1 (λ t. gathers_give G refl))

  operators : (r : Rank) → Lists P (λ (o : BinaryOperator). []) (g.operators r)
  operators rank.Product =
      lists_or G (operator k.Star _) (lists_or G (operator k.Slash _) (operator k.Mod _))
  operators rank.Sum = lists_or G (operator k.Plus _) (operator k.Minus _)
  operators rank.Order =
      lists_or G (operator k.Less _) (lists_or G (operator k.Greater _)
      (lists_or G (operator k.LessEqual _) (operator k.GreaterEqual _)))
  operators rank.Equality = lists_or G (operator k.Equal _) (operator k.NotEqual _)
  operators rank.And = lists_or G (operator k.And _) (operator k.Ampersand _)
  operators rank.Xor = operator k.Xor _
  operators rank.Or = operator k.Or _

  behind_operator : (r : Rank) (operand : Rule Expr) → Lists P E.of_expr operand
      → Lists P (λ (q : BinaryOperator × Expr). E.of_expr q.1) (g.operators r >>= λ o. operand >>=
      λ x. give (o, x))
  behind_operator r operand h =
      lists G (gathers_then G (operators r)
      (λ o. gathers_then G h (λ x. gathers_give G (sym (append-nil (E.of_expr x))))))

  -- one more operand behind a word that spells those before it
  on_step : (r : Rank) (operand : Rule Expr) → Lists P E.of_expr operand →
      (u : Word) (left : Expr) → (u ≡ [] → ⊥) → P u (E.of_expr left)
      → (d : ℕ) (v : Word) (y : Expr) (e : ℕ) → g.step (g.operators r) operand (start_of u) left d v
      y e → P (u ++ v) (E.of_expr y)
  on_step r operand h u left some before d v y e (q, l, is) =
      let more : v ≡ [] → ⊥ = (filled_step r operand).some d v q e l in
      let gathered = G.whole (u ++ v) (E.of_expr left ++ E.of_expr q.1) (some-append u v some)
      (G.both u v (E.of_expr left) (E.of_expr q.1) before ((behind_operator r operand h).holds d
      v q e l)) in
      let place : node_at (start_of (u ++ v)) (end_of (u ++ v)) ≡ node_at (start_of u) (end_of v) =
      rw (start_of-append u v some, end_of-append u v more) refl in
      subst (λ ms. P (u ++ v) ms) (ap (λ n. G.own n ++ (E.of_expr left ++ E.of_expr q.1)) place
      ∙ sym (E.binary (node_at (start_of u) (end_of v)) q.0 left q.1) ∙ sym (ap E.of_expr is))
      gathered

  on_times : (r : Rank) (operand : Rule Expr) → Lists P E.of_expr operand →
      (n start : ℕ) (u : Word) (left : Expr) → start ≡ start_of u → (u ≡ [] → ⊥) →
      P u (E.of_expr left)
      → (d : ℕ) (v : Word) (x : Expr) (e : ℕ) → times (g.step (g.operators r) operand start) n left
      d v x e → P (u ++ v) (E.of_expr x)
  on_times r operand h zero start u left from some before d v x e (empty, is, same) =
      subst (λ z. P z (E.of_expr x)) (sym (ap (λ z. u ++ z) empty ∙ append-nil u))
      (subst (λ z. P u (E.of_expr z)) (sym is) before)
  on_times r operand h (suc n) start u left from some before d v x e (a, b, y, m, is, l, rest) =
      let one : P (u ++ a) (E.of_expr y) = on_step r operand h u left some before d a y m
      (subst (λ s. g.step (g.operators r) operand s left d a y m) from l) in
      subst (λ z. P z (E.of_expr x)) (append_assoc u a b ∙ sym (ap (λ z. u ++ z) is))
      (on_times r operand h n start (u ++ a) y (from ∙ sym (start_of-append u a some))
      (some-append u a some) one m b x e rest)

  -- ---- what stands within brackets

  field : Lists P E.of_part g.field
  field =
      lists G (gathers_behind G 0 0 (λ t. gathers_then G (identifier G)
      (λ i. gathers_give G (E.field i ∙ sym (append-nil (of_identifier G i))))))

  named_root : Lists P (of_root G) g.named_root
  named_root =
      lists G (gathers_then G (identifier G)
      (λ i. gathers_give G (sym (append-nil (of_identifier G i)))))

  located_root : Lists P (of_root G) g.located_root
  located_root =
      lists G (gathers_then G (address G) (λ i. gathers_give G (sym (append-nil (of_address G i)))))

  abbrev path_body : Root × List Part → List M
  path_body p = of_root G p.0 ++ flat_map E.of_part p.1

  module _ (inner : Rule Expr) (some : Filled inner) (h : Lists P E.of_expr inner) where
    exprs : Lists P (flat_map E.of_expr) (g.exprs inner)
    exprs = lists_some G h (gathers_more G 0 0 h)

    index : Lists P E.of_part (g.index inner)
    index =
        lists_node G (flat_map E.of_expr) E.of_part make_index
        (filled_scoped (filled_first (filled_token 1 1)))
        (λ start end xs. E.index (node_at start end) xs)
        (lists_scoped G (lists_enclosed G 1 1 0 0 exprs))

    pub parts : Lists P (flat_map E.of_part) (g.parts inner)
    parts = lists_many G E.of_part (gathers_another G (lists_or G field index))

    pub path : Lists P E.of_path (g.path inner)
    path =
        lists_node G path_body E.of_path make_path
        (filled_first (filled_or (filled_first filled_identifier) (filled_first filled_address)))
        (λ start end p. E.whole_path (node_at start end) p.0 p.1)
        (lists G (gathers_then G (lists_or G named_root located_root)
        (λ r. gathers_then G parts (λ ps. gathers_give G (rw append-nil refl)))))

    located : Lists P E.of_path (g.located inner)
    located = lists_node G path_body E.of_path make_path (filled_first filled_address)
        (λ start end p. E.whole_path (node_at start end) p.0 p.1)
        (lists G (gathers_then G (address G)
        (λ a. gathers_then G parts (λ ps. gathers_give G (rw append-nil refl)))))

    abbrev argument_body : Option Identifier × Expr → List M
    argument_body p = list_if (of_identifier G) p.0 ++ E.of_expr p.1

    argument : Lists P E.of_argument (g.argument inner)
    argument =
        lists_node G argument_body E.of_argument make_argument
        (filled_or (filled_first filled_identifier) (filled_first some))
        (λ start end p. E.argument (node_at start end) p.0 p.1)
        (lists_or G
        (lists G (gathers_then G (identifier G)
        (λ i. gathers_behind G 0 0
        (λ t. gathers_then G h (λ x. gathers_give G (rw append-nil refl))))))
        (lists G (gathers_then G h (λ x. gathers_give G (rw append-nil refl)))))

    arguments : Lists P (flat_map E.of_argument) (g.arguments inner)
    arguments =
        lists_or G (lists G (gathers_give G refl))
        (lists_some G argument (gathers_more G 0 0 argument))

    called : Lists P (flat_map E.of_argument) (g.called inner)
    called = lists_scoped G (lists_enclosed G 1 1 0 0 arguments)

    -- a tree for each place, of which the node and these are gathered
    abbrev Ends : Ending → List M → Type 0
    Ends f ms = (start end : ℕ) → E.of_expr (f start end) ≡ G.own (node_at start end) ++ ms

    named : Lists P E.of_expr (g.named inner)
    named =
        lists G (gathers_node G {S = Ends} ended (filled_first filled_identifier)
        (λ start end f ms is. is start end)
        (gathers_then G (identifier G) (λ name.
        gathers_or G (gathers_behind G 0 0 (λ t. gathers_then G (identifier G)
        (λ v. gathers_give G
        (λ start end. rw append-nil (E.value (node_at start end) name v)))))
        (gathers_or G (gathers_then G called
        (λ found. gathers_give G
        (λ start end. rw append-nil (E.call (node_at start end) name found))))
        (gathers_then G parts
        (λ ps. gathers_give G
        (λ start end. rw append-nil (E.path _ ∙ E.whole_path (node_at start end)
        (root.Name name) ps))))))))

    group : Lists P E.of_expr (g.group inner)
    group =
        lists_node G E.of_expr E.of_expr make_parenthesized
        (filled_scoped (filled_first (filled_token 1 1)))
        (λ start end x. E.parenthesized (node_at start end) x)
        (lists_scoped G (lists_enclosed G 1 1 0 0 h))

    typed : Lists P E.of_expr g.typed
    typed =
        lists_node G (G.spelled k.TypedNumber) E.of_expr make_typed (filled_word k.TypedNumber)
        (λ start end text. E.typed (node_at start end) text) (lists_word G k.TypedNumber)

    time : Lists P E.of_expr g.time
    time =
        lists_node G (G.spelled k.Duration) E.of_expr make_time (filled_word k.Duration)
        (λ start end text. E.time (node_at start end) text) (lists_word G k.Duration)

    number : Lists P E.of_expr g.number
    number =
        lists_node G (G.spelled k.Number) E.of_expr (make_number false) (filled_word k.Number)
        (λ start end text. E.number (node_at start end) false text) (lists_word G k.Number)

    truth : (kind : TokenKind) (b : Bool) → Lists P E.of_expr (g.truth kind b)
    truth kind b =
        lists_node G (λ (b : Bool). []) E.of_expr make_truth (filled_first (filled_token 0 0))
        (λ start end b. E.truth (node_at start end) b)
        (lists G (gathers_behind G 0 0 (λ t. gathers_give G refl)))

    whole_located : Lists P E.of_expr (g.located inner >>= λ p. give (expr.Path p))
    whole_located =
        lists G (gathers_then G located (λ p. gathers_give G (rw append-nil (E.path p))))

    other : Lists P E.of_expr (g.other inner)
    other =
        lists_or G typed (lists_or G time
        (lists_or G (truth k.True true)
        (lists_or G (truth k.False false) (lists_or G group (lists_or G whole_located named)))))

    primary : Lists P E.of_expr (g.primary inner)
    primary = lists_or G number other

    signed : Lists P E.of_expr (g.signed inner)
    signed =
        lists G (gathers_node G {S = Ends} ended (filled_first (filled_token 0 0))
        (λ start end f ms is. is start end)
        (gathers_behind G 0 0 (λ t.
        gathers_or G (gathers_then G (lists_word G k.Number)
        (λ text. gathers_give G
        (λ start end. rw append-nil (E.number (node_at start end) true text))))
        (gathers_then G (lists_deeper G other)
        (λ x. gathers_give G
        (λ start end. rw append-nil (E.unary (node_at start end) Negate x)))))))

    inverted : Lists P E.of_expr (g.inverted inner)
    inverted =
        lists_node G E.of_expr E.of_expr make_inverted (filled_first (filled_token 0 1))
        (λ start end x. E.unary (node_at start end) Not x) (lists_behind G 0 1 primary)

    level : (l : ℕ) → Lists P E.of_expr (g.level inner l)
    unfolding g.level
    level zero = lists_or G signed (lists_or G inverted primary)
    level (suc l) = record {
      holds = λ d w x e (u, v, q, m, is, (y, first, q_is), (n, more)).
          subst (λ z. P z (E.of_expr x)) (sym is)
          (on_times (rank_of l) (g.level inner l) (level l) n q.1 u q.0 (ap (λ z. z.1) q_is)
          ((filled_level inner l).some d u y m first)
          (subst (λ z. P u (E.of_expr z)) (sym (ap (λ z. z.0) q_is))
          ((level l).holds d u y m first)) m v x e more);
    }

  nested : (n : ℕ) → Lists P E.of_expr (g.nested n)
  unfolding g.nested
  nested zero = record { holds = λ d w x e l. absurd l }
  nested (suc n) = lists_scoped G (level (g.nested n) (filled_nested n) (nested n) 7)

  pub expression : Lists P E.of_expr g.expression
  expression = record { holds = λ d w x e (n, l). (nested n).holds d w x e l }
