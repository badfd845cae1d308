-- What is gathered from the words of statements.
use Rattle.std.proofs.Common.{◌≡◌, ℕ, zero, suc, Bool, true, false, List, [], ◌∷◌, ◌++◌, Option}
use Rattle.std.proofs.Common.{append_assoc, refl, sym, ap, subst, ◌∙◌, inl, inr}
use Rattle.std.specs.Prelude.{flat_map}
use Rattle.std.proofs.lemmas.List.{append-nil}
use Rattle.token_grammar.specs.declared.token.TokenKind.TheVariants as k
use Rattle.token_grammar.specs.Texts.{Lexeme}
use Rattle.token_grammar.specs.Grammar.{Word, Rule, ◌>>=◌, give, token, token_as, node, many}
use Rattle.token_grammar.specs.Grammar.{start_of, end_of}
use Rattle.st_tree.specs.Places.{node_at}
use Rattle.st_tree.specs.declared.node.Node.{Node}
use Rattle.st_tree.specs.declared.expression.Identifier.{Identifier}
use Rattle.st_tree.specs.declared.expression.Expr.{Expr}
use Rattle.st_tree.specs.declared.expression.Path.{Path}
use Rattle.st_tree.specs.declared.statement.Stmt.{Stmt}
use Rattle.st_tree.specs.declared.statement.Stmt.TheVariants as stmt
use Rattle.st_tree.specs.declared.statement.Branch.{Branch}
use Rattle.st_tree.specs.declared.statement.Case.{Case}
use Rattle.st_tree.specs.declared.statement.Counter.{Counter}
use Rattle.st_tree.specs.declared.statement.Label.{Label}
use Rattle.st_tree.specs.declared.statement.Point.{Point}
use Rattle.st_tree.specs.declared.statement.Point.TheVariants as point
use Rattle.st_tree.specs.declared.statement.StmtArgument.{StmtArgument}
use Rattle.st_tree.specs.declared.statement.StmtArgument.TheVariants as arg
use Rattle.st_expr.specs.Grammar.{word, identifier, expression}
use Rattle.st_statements.specs.Trees.{ArgumentEnding, argument_ended, make_assign, make_call}
use Rattle.st_statements.specs.Trees.{make_return, make_exit, make_continue, make_if, make_case}
use Rattle.st_statements.specs.Trees.{make_for, make_while, make_repeat, make_point_number}
use Rattle.st_statements.specs.Trees.{make_point_typed, start_of_point, end_of_point}
use Rattle.st_statements.specs.Grammar as g
use Rattle.tree_order.proofs.Gathering.{Gathering, Filled, Lists, filled_token, filled_first}
use Rattle.tree_order.proofs.Gathering.{gathers_give, gathers_then, gathers_apart, gathers_behind}
use Rattle.tree_order.proofs.Gathering.{gathers_or, lists_or, lists_scoped, lists, lists_word}
use Rattle.tree_order.proofs.Gathering.{lists_behind, lists_enclosed, lists_node, gathers_node}
use Rattle.tree_order.proofs.Gathering.{gathers_another, gathers_more, lists_many, lists_some}
use Rattle.tree_order.proofs.ExpressionLists.{ExprLists, of_identifier, list_if, filled_word}
use Rattle.tree_order.proofs.ExpressionLists.{filled_identifier, filled_path, filled_expression}
use Rattle.tree_order.proofs.ExpressionLists.{start_of-append, end_of-append, some-append}
use Rattle.tree_order.proofs.ExpressionLists as exprs

-- ---- what is gathered of each part of a statement

module _ {M : Type 0} {P : Word → List M → Type 0} {G : Gathering P} (E : ExprLists G) where
  abbrev pub of_point : Point → List M
  of_point (point.Number node minus text) = G.own node ++ G.spelled k.Number text
  of_point (point.Typed node text) = G.own node ++ G.spelled k.TypedNumber text
  of_point (point.Name name) = of_identifier G name
  of_point (point.Value node name value) =
      G.own node ++ (of_identifier G name ++ of_identifier G value)

  abbrev pub of_label : Label → List M
  of_label x = G.own x.node ++ (of_point x.first ++ list_if of_point x.last)

  abbrev pub of_stmt_argument : StmtArgument → List M
  of_stmt_argument (arg.Input node name value) =
      G.own node ++ (of_identifier G name ++ E.of_expr value)
  of_stmt_argument (arg.Output node name target) =
      G.own node ++ (of_identifier G name ++ E.of_path target)

  abbrev pub of_counter : Counter → List M
  of_counter x =
      of_identifier G x.variable
      ++ (E.of_expr x.first ++ (E.of_expr x.last ++ list_if E.of_expr x.step))

-- What is gathered of statements: of each form its node and its parts.
pub record StmtLists {M : Type 0} {P : Word → List M → Type 0} {G : Gathering P} (E : ExprLists G) :
    Type 0 where
  pub of_stmt : Stmt → List M
  pub of_branch : Branch → List M
  pub of_case : Case → List M
  pub assign : (node : Node) (target : Path) (value : Expr) →
      of_stmt (stmt.Assign node target value) ≡ G.own node ++ (E.of_path target ++ E.of_expr value)
  pub call : (node : Node) (name : Identifier) (arguments : List StmtArgument) →
      of_stmt (stmt.Call node name arguments) ≡ G.own node
      ++ (of_identifier G name ++ flat_map (of_stmt_argument E) arguments)
  pub return_ : (node : Node) → of_stmt (stmt.Return node) ≡ G.own node ++ []
  pub exit : (node : Node) → of_stmt (stmt.Exit node) ≡ G.own node ++ []
  pub continue : (node : Node) → of_stmt (stmt.Continue node) ≡ G.own node ++ []
  pub if_ : (node : Node) (branches : List Branch) (otherwise : Option (List Stmt)) →
      of_stmt (stmt.If node branches otherwise) ≡ G.own node
      ++ (flat_map of_branch branches ++ list_if (flat_map of_stmt) otherwise)
  pub case_ : (node : Node) (selector : Expr) (cases : List Case) (otherwise : Option (List Stmt)) →
      of_stmt (stmt.Case node selector cases otherwise) ≡ G.own node
      ++ (E.of_expr selector ++ (flat_map of_case cases ++ list_if (flat_map of_stmt) otherwise))
  pub for_ : (node : Node) (counter : Counter) (body : List Stmt) →
      of_stmt (stmt.For node counter body) ≡ G.own node
      ++ (of_counter E counter ++ flat_map of_stmt body)
  pub while_ : (node : Node) (condition : Expr) (body : List Stmt) →
      of_stmt (stmt.While node condition body) ≡ G.own node
      ++ (E.of_expr condition ++ flat_map of_stmt body)
  pub repeat_ : (node : Node) (body : List Stmt) (condition : Expr) →
      of_stmt (stmt.Repeat node body condition) ≡ G.own node
      ++ (flat_map of_stmt body ++ E.of_expr condition)
  pub branch : (condition : Expr) (body : List Stmt) →
      of_branch (record { condition = condition; body = body }) ≡ E.of_expr condition
      ++ flat_map of_stmt body
  pub one_case : (labels : List Label) (body : List Stmt) →
      of_case (record { labels = labels; body = body }) ≡ flat_map (of_label E) labels
      ++ flat_map of_stmt body

module _ {M : Type 0} {P : Word → List M → Type 0} {G : Gathering P} {E : ExprLists G}
    (S : StmtLists E) where
  -- ---- assignments and calls

  assign : Lists P S.of_stmt g.assign
  assign =
      lists_node G (λ (p : Path × Expr). E.of_path p.0 ++ E.of_expr p.1) S.of_stmt make_assign
      (filled_first (filled_path expression)) (λ start end p. S.assign (node_at start end) p.0 p.1)
      (lists G (gathers_then G (exprs.path E expression filled_expression (exprs.expression E))
      (λ target. gathers_behind G 0 0 (λ t.
      gathers_then G (exprs.expression E)
      (λ v. gathers_behind G 0 0 (λ s. gathers_give G (rw append-nil refl)))))))

  -- a tree for each place, of which the node and these are gathered
  abbrev Ends : ArgumentEnding → List M → Type 0
  Ends f ms = (start end : ℕ) → of_stmt_argument E (f start end) ≡ G.own (node_at start end) ++ ms

  argument : Lists P (of_stmt_argument E) g.argument
  argument =
      lists G (gathers_node G {S = Ends} argument_ended (filled_first filled_identifier)
      (λ start end f ms is. is start end)
      (gathers_then G (exprs.identifier G) (λ name. gathers_or G
      (gathers_behind G 0 0 (λ t. gathers_then G (exprs.expression E)
      (λ v. gathers_give G (λ start end. rw append-nil refl))))
      (gathers_behind G 0 0
      (λ t. gathers_then G (exprs.path E expression filled_expression (exprs.expression E))
      (λ target. gathers_give G (λ start end. rw append-nil refl)))))))

  arguments : Lists P (flat_map (of_stmt_argument E)) g.arguments
  arguments =
      lists_or G (lists_some G argument (gathers_more G 0 0 argument))
      (lists G (gathers_give G refl))

  called : Lists P (flat_map (of_stmt_argument E)) g.called
  called = lists_scoped G (lists_enclosed G 1 1 0 0 arguments)

  call : Lists P S.of_stmt g.call
  call =
      lists_node G (λ (p : Identifier × List StmtArgument). of_identifier G p.0
      ++ flat_map (of_stmt_argument E) p.1) S.of_stmt make_call (filled_first filled_identifier)
      (λ start end p. S.call (node_at start end) p.0 p.1)
      (lists G (gathers_then G (exprs.identifier G)
      (λ name. gathers_then G called
      (λ found. gathers_behind G 0 0 (λ s. gathers_give G (rw append-nil refl))))))

  two_words : (test next : Lexeme → Bool) →
      Lists P (λ (u : Unit {0}). []) (token_as test 0 0 >>= λ _. token_as next 0 0 >>= λ _. give tt)
  two_words test next =
      lists G (gathers_behind G 0 0 (λ t. gathers_behind G 0 0 (λ s. gathers_give G refl)))

  return_stmt : Lists P S.of_stmt g.return_stmt
  return_stmt =
      lists_node G (λ (u : Unit {0}). []) S.of_stmt make_return (filled_first (filled_token 0 0))
      (λ start end u. S.return_ (node_at start end)) (two_words _ _)

  exit_stmt : Lists P S.of_stmt g.exit_stmt
  exit_stmt =
      lists_node G (λ (u : Unit {0}). []) S.of_stmt make_exit (filled_first (filled_token 0 0))
      (λ start end u. S.exit (node_at start end)) (two_words _ _)

  continue_stmt : Lists P S.of_stmt g.continue_stmt
  continue_stmt =
      lists_node G (λ (u : Unit {0}). []) S.of_stmt make_continue (filled_first (filled_token 0 0))
      (λ start end u. S.continue (node_at start end)) (two_words _ _)

-- ---- labels

-- where a point stands
pub record IsAt (w : Word) (x : Point) : Type 0 where
  pub some : w ≡ [] → ⊥
  pub start : start_of w ≡ start_of_point x
  pub end : end_of w ≡ end_of_point x

-- the last of three words, of which the middle one is a token
end_behind : (u v a b c z : Word) → v ≡ a ++ b → b ≡ c ++ z → z ≡ [] → (c ≡ [] → ⊥) →
    end_of (u ++ v) ≡ end_of c
end_behind u v a b c z v_is b_is z_is some =
    let b_is_c : b ≡ c = b_is ∙ ap (λ t. c ++ t) z_is ∙ append-nil c in
    let b_some : b ≡ [] → ⊥ = λ e. some (sym b_is_c ∙ e) in
    let v_end : end_of v ≡ end_of b = ap end_of v_is ∙ end_of-append a b b_some in
    let v_some : v ≡ [] → ⊥ = λ e. b_some (back_empty a b (sym v_is ∙ e)) in
    end_of-append u v v_some ∙ v_end ∙ ap end_of b_is_c
  where
    back_empty : (a b : Word) → a ++ b ≡ [] → b ≡ []
    back_empty [] b e = e
    back_empty (p ∷ a) b e = absurd cc

point_at : (d : ℕ) (w : Word) (x : Point) (e : ℕ) → g.any_point d w x e → IsAt w x
point_at d w x e (inl (
  u,
  v,
  name,
  m,
  is,
  (text, l, name_is),
  inl (a, b, t, n, v_is, tok, (c, z, value, o, b_is, (more, r, value_is), (z_is, x_is, same))),
)) =
    let u_some : u ≡ [] → ⊥ = (filled_word k.Name).some d u text m l in
    let c_some : c ≡ [] → ⊥ = (filled_word k.Name).some n c more o r in
    record {
      some = λ empty. some-append u v u_some (sym is ∙ empty);
      start =
          ap start_of is ∙ start_of-append u v u_some
          ∙ sym (ap start_of_point x_is ∙ ap (λ (i : Identifier). i.node.start) name_is);
      end =
          ap end_of is ∙ end_behind u v a b c z v_is b_is z_is c_some
          ∙ sym (ap end_of_point x_is ∙ ap (λ (i : Identifier). i.node.end) value_is);
    }
point_at d w x e (inl (u, v, name, m, is, (text, l, name_is), inr (v_is, x_is, same))) =
    let w_is : w ≡ u = is ∙ ap (λ t. u ++ t) v_is ∙ append-nil u in
    record {
      some = λ empty. (filled_word k.Name).some d u text m l (sym w_is ∙ empty);
      start =
          ap start_of w_is ∙ sym (ap start_of_point x_is ∙ ap (λ (i : Identifier). i.node.start)
          name_is);
      end =
          ap end_of w_is ∙ sym (ap end_of_point x_is ∙ ap (λ (i : Identifier). i.node.end) name_is);
    }
point_at d w x e (inr (inl (text, l, x_is))) =
    record {
      some = (filled_behind_minus).some d w text e l;
      start = sym (ap start_of_point x_is);
      end = sym (ap end_of_point x_is);
    }
  where
    filled_behind_minus : Filled {A = List ℕ} (token k.Minus >>= λ _. word k.Number)
    filled_behind_minus = filled_first (filled_token 0 0)
point_at d w x e (inr (inr (inl (text, l, x_is)))) =
    record {
      some = (filled_word k.Number).some d w text e l;
      start = sym (ap start_of_point x_is);
      end = sym (ap end_of_point x_is);
    }
point_at d w x e (inr (inr (inr (text, l, x_is)))) =
    record {
      some = (filled_word k.TypedNumber).some d w text e l;
      start = sym (ap start_of_point x_is);
      end = sym (ap end_of_point x_is);
    }

module _ {M : Type 0} {P : Word → List M → Type 0} {G : Gathering P} (E : ExprLists G) where
  two_names : Lists P (λ (p : Identifier × Identifier). of_identifier G p.0 ++ of_identifier G p.1)
      (identifier >>= λ name. token k.Hash >>= λ _. identifier >>= λ v. give (name, v))
  two_names =
      lists G (gathers_then G (exprs.identifier G)
      (λ name. gathers_behind G 0 0 (λ t. gathers_then G (exprs.identifier G)
      (λ v. gathers_give G (rw append-nil refl)))))

  named_point : (d : ℕ) (w : Word) (x : Point) (e : ℕ) → g.named_point d w x e → P w (of_point E x)
  named_point d w x e (
    u,
    v,
    name,
    m,
    is,
    first,
    inl (a, b, t, n, v_is, tok, (c, z, value, o, b_is, last, (z_is, x_is, same))),
  ) =
      let place = point_at d w x e
      (inl (
        u,
        v,
        name,
        m,
        is,
        first,
        inl (a, b, t, n, v_is, tok, (c, z, value, o, b_is, last, (z_is, x_is, same))),
      )) in
      let all : P w (of_identifier G name ++ of_identifier G value) = two_names.holds d w
      (name, value) e (
        u,
        v,
        name,
        m,
        is,
        first,
        (a, b, t, n, v_is, tok, (c, z, value, o, b_is, last, (z_is, refl, same))),
      ) in
      let start : start_of w ≡ name.node.start = place.start ∙ ap start_of_point x_is in
      let end : end_of w ≡ value.node.end = place.end ∙ ap end_of_point x_is in
      subst (λ ms. P w ms) (rw (start, end, x_is) refl) (G.whole w _ place.some all)
  named_point d w x e (u, v, name, m, is, first, inr (v_is, x_is, same)) =
      subst (λ z. P z (of_point E x)) (sym (is ∙ ap (λ t. u ++ t) v_is ∙ append-nil u))
      (subst (λ y. P u (of_point E y)) (sym x_is) ((exprs.identifier G).holds d u name m first))

  value_point : Lists P (of_point E) g.value_point
  value_point =
      lists_or G (lists_node G (G.spelled k.Number) (of_point E) (make_point_number true)
      (filled_first (filled_token 0 0)) (λ start end text. refl)
      (lists_behind G 0 0 (lists_word G k.Number)))
      (lists_or G (lists_node G (G.spelled k.Number) (of_point E) (make_point_number false)
      (filled_word k.Number) (λ start end text. refl) (lists_word G k.Number))
      (lists_node G (G.spelled k.TypedNumber) (of_point E) make_point_typed
      (filled_word k.TypedNumber) (λ start end text. refl) (lists_word G k.TypedNumber)))

  any_point : Lists P (of_point E) g.any_point
  any_point = lists_or G (record { holds = named_point }) value_point

  two_points : Lists P (λ (p : Point × Point). of_point E p.0 ++ of_point E p.1)
      (g.any_point >>= λ first. token k.DotDot >>= λ _. g.any_point >>= λ last. give (first, last))
  two_points =
      lists G (gathers_then G any_point
      (λ first. gathers_behind G 0 0
      (λ t. gathers_then G any_point (λ last. gathers_give G (rw append-nil refl)))))

  one_label : (d : ℕ) (w : Word) (y : Label) (e : ℕ) → (g.any_point >>= g.label_behind) d w y e →
      P w (of_label E y)
  one_label d w y e (
    u,
    v,
    first,
    m,
    is,
    l,
    inl (a, b, t, n, v_is, tok, (c, z, last, o, b_is, r, (z_is, y_is, same))),
  ) =
      let from = point_at d u first m l in
      let to = point_at n c last o r in
      let all : P w (of_point E first ++ of_point E last) = two_points.holds d w (first, last) e (
        u,
        v,
        first,
        m,
        is,
        l,
        (a, b, t, n, v_is, tok, (c, z, last, o, b_is, r, (z_is, refl, same))),
      ) in
      let start : start_of w ≡ start_of_point first = ap start_of is ∙ start_of-append u v from.some
      ∙ from.start in
      let end : end_of w ≡ end_of_point last = ap end_of is ∙ end_behind u v a b c z v_is b_is z_is
      to.some ∙ to.end in
      subst (λ ms. P w ms) (rw (start, end, y_is) refl)
      (G.whole w _ (λ empty. some-append u v from.some (sym is ∙ empty)) all)
  one_label d w y e (u, v, first, m, is, l, inr (v_is, y_is, same)) =
      let from = point_at d u first m l in
      subst (λ z. P z (of_label E y)) (sym (is ∙ ap (λ t. u ++ t) v_is ∙ append-nil u))
      (subst (λ ms. P u ms) (rw (from.start, from.end, y_is, append-nil) refl)
      (G.whole u _ from.some (any_point.holds d u first m l)))

  label : Lists P (of_label E) (g.any_point >>= g.label_behind)
  label = record { holds = one_label }

  some_labels : Lists P (flat_map (of_label E)) ((g.any_point >>= g.label_behind) >>= λ l. many
      g.more_labels (l ∷ []))
  some_labels =
      lists_some G label (λ ls. gathers_behind G 0 0
      (λ t. gathers_apart G (gathers_another G label ls)))

  pub labels : Lists P (flat_map (of_label E)) g.labels
  labels =
      lists G (gathers_apart G
      (gathers_apart G (gathers_then G some_labels
      (λ ls. gathers_behind G 0 0
      (λ t. gathers_give G (sym (append-nil (flat_map (of_label E) ls))))))))

-- ---- structured statements

module _ {M : Type 0} {P : Word → List M → Type 0} {G : Gathering P} {E : ExprLists G}
    (S : StmtLists E) where
  counter : Lists P (of_counter E) g.counter
  counter =
      lists G (gathers_then G start
      (λ s. gathers_behind G 0 0 (λ t. gathers_then G (exprs.expression E)
      (λ last. gathers_then G step (λ by. gathers_give G (simp (append_assoc, append-nil) refl))))))
    where
      start : Lists P (λ (p : Identifier × Expr). of_identifier G p.0 ++ E.of_expr p.1) g.start
      start =
          lists G (gathers_then G (exprs.identifier G)
          (λ name. gathers_behind G 0 0 (λ t. gathers_then G (exprs.expression E)
          (λ first. gathers_give G (rw append-nil refl)))))

      step : Lists P (list_if E.of_expr) g.step
      step =
          lists_or G (lists G (gathers_behind G 0 0 (λ t. gathers_then G (exprs.expression E)
          (λ v. gathers_give G (sym (append-nil (E.of_expr v))))))) (lists G (gathers_give G refl))

  module _ (body : Rule (List Stmt)) (h : Lists P (flat_map S.of_stmt) body) where
    otherwise : Lists P (list_if (flat_map S.of_stmt)) (g.otherwise body)
    otherwise =
        lists_or G (lists G (gathers_behind G 0 0
        (λ t. gathers_then G h (λ b. gathers_give G (sym (append-nil (flat_map S.of_stmt b)))))))
        (lists G (gathers_give G refl))

    guarded : Lists P S.of_branch (g.guarded body)
    guarded =
        lists G (gathers_then G (exprs.expression E)
        (λ c. gathers_behind G 0 0
        (λ t. gathers_then G h (λ b. gathers_give G (rw append-nil (S.branch c b))))))

    some_branches : Lists P (flat_map S.of_branch) (g.some_branches body)
    some_branches = lists_some G guarded (gathers_more G 0 0 guarded)

    choice : Lists P S.of_stmt (g.choice body)
    choice =
        lists_scoped G (lists_node G (λ (p : List Branch × Option (List Stmt)). flat_map S.of_branch
        p.0 ++ list_if (flat_map S.of_stmt) p.1) S.of_stmt make_if (filled_first (filled_token 1 1))
        (λ start end p. S.if_ (node_at start end) p.0 p.1)
        (lists G (gathers_behind G 1 1 (λ t. gathers_then G some_branches
        (λ found. gathers_then G otherwise
        (λ last. gathers_behind G 0 0 (λ c. gathers_give G (rw append-nil refl))))))))

    counted : Lists P S.of_stmt (g.counted body)
    counted =
        lists_scoped G (lists_node G (λ (p : Counter × List Stmt). of_counter E p.0
        ++ flat_map S.of_stmt p.1) S.of_stmt make_for (filled_first (filled_token 1 1))
        (λ start end p. S.for_ (node_at start end) p.0 p.1)
        (lists G (gathers_behind G 1 1
        (λ t. gathers_then G counter
        (λ c. gathers_behind G 0 0
        (λ t. gathers_then G h
        (λ b. gathers_behind G 0 0 (λ c. gathers_give G (rw append-nil refl)))))))))

    while_stmt : Lists P S.of_stmt (g.while_stmt body)
    while_stmt =
        lists_scoped G (lists_node G (λ (p : Expr × List Stmt). E.of_expr p.0
        ++ flat_map S.of_stmt p.1) S.of_stmt make_while (filled_first (filled_token 1 1))
        (λ start end p. S.while_ (node_at start end) p.0 p.1)
        (lists G (gathers_behind G 1 1 (λ t. gathers_then G (exprs.expression E)
        (λ c. gathers_behind G 0 0
        (λ t. gathers_then G h
        (λ b. gathers_behind G 0 0 (λ c. gathers_give G (rw append-nil refl)))))))))

    repeat_stmt : Lists P S.of_stmt (g.repeat_stmt body)
    repeat_stmt =
        lists_scoped G (lists_node G (λ (p : List Stmt × Expr). flat_map S.of_stmt p.0
        ++ E.of_expr p.1) S.of_stmt make_repeat (filled_first (filled_token 1 1))
        (λ start end p. S.repeat_ (node_at start end) p.0 p.1)
        (lists G (gathers_behind G 1 1
        (λ t. gathers_then G h
        (λ b. gathers_behind G 0 0 (λ t. gathers_then G (exprs.expression E)
        (λ c. gathers_behind G 0 0 (λ c. gathers_give G (rw append-nil refl)))))))))

    one_case : Lists P S.of_case (g.one_case body)
    one_case =
        lists G (gathers_then G (labels E)
        (λ ls. gathers_then G h (λ b. gathers_give G (rw append-nil (S.one_case ls b)))))

    cases : Lists P (flat_map S.of_case) (g.cases body)
    cases = lists_some G one_case (gathers_another G one_case)

    selection : Lists P S.of_stmt (g.selection body)
    selection =
        lists_scoped G (lists_node G (λ (p : Expr × List Case × Option (List Stmt)). E.of_expr p.0
        ++ (flat_map S.of_case p.1 ++ list_if (flat_map S.of_stmt) p.2)) S.of_stmt make_case
        (filled_first (filled_token 1 1))
        (λ start end p. S.case_ (node_at start end) p.0 p.1 p.2)
        (lists G (gathers_behind G 1 1 (λ t. gathers_then G (exprs.expression E)
        (λ c. gathers_behind G 0 0
        (λ t. gathers_then G cases (λ found. gathers_then G otherwise
        (λ last. gathers_behind G 0 0 (λ c. gathers_give G (rw append-nil refl))))))))))

    statement : Lists P S.of_stmt (g.statement body)
    statement =
        lists_or G (assign S)
        (lists_or G (call S)
        (lists_or G (return_stmt S) (lists_or G (exit_stmt S) (lists_or G (continue_stmt S)
        (lists_or G choice (lists_or G selection
        (lists_or G counted (lists_or G while_stmt repeat_stmt))))))))

  body : (inner : Rule Stmt) → Lists P S.of_stmt inner → Lists P (flat_map S.of_stmt) (g.body inner)
  body inner h = lists_many G S.of_stmt (λ found. gathers_or G
      (gathers_behind G 0 0 (λ t. gathers_give G (sym (append-nil (flat_map S.of_stmt found)))))
      (gathers_another G h found))

  nested : (n : ℕ) → Lists P S.of_stmt (g.nested n)
  unfolding g.nested
  nested zero = record { holds = λ d w x e l. absurd l }
  nested (suc n) = statement (g.body (g.nested n)) (body (g.nested n) (nested n))

  pub statements : Lists P (flat_map S.of_stmt) g.statements
  statements = record { holds = λ d w x e (n, l). (body (g.nested n) (nested n)).holds d w x e l }
