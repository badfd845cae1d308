-- The parser of statements reads the rules of a leading name first and of a CASE as one list, to
-- any depth.
use Rattle.std.proofs.Common.{◌≡◌, ℕ, zero, suc, ◌+◌, ◌<◌, ◌≤◌, Bool, true, false, ◌||◌, cond, Option, Some, None, List, [], ◌∷◌, ◌++◌, refl, arith, inl, inr}
use Rattle.token_grammar.specs.declared.token.TokenKind.{TokenKind}
use Rattle.token_grammar.specs.declared.token.TokenKind.TheVariants as k
use Rattle.token_grammar.specs.Texts.{Lexeme}
use Rattle.token_grammar.specs.steps.Parsers.{Parser, and_then, pure, take, sees_in}
use Rattle.token_grammar.specs.Grammar.{Rule, ◌>>=◌, ◌or◌, give, token, token_as, many}
use Rattle.token_grammar.proofs.Laws.{Exact, Some_}
use Rattle.token_grammar.proofs.Bind.{bind}
use Rattle.token_grammar.proofs.Steps.{exact_same}
use Rattle.token_grammar.proofs.OneToken.{a_token, same_kind_refl}
use Rattle.token_grammar.specs.Kinds.{is_kind}
use Rattle.token_grammar.proofs.Starts.{sees_any, disjoint, Starts, Opens, IsLevel, bind_starts, bind_give, starts_bind, starts_or, starts_scoped, starts_node, starts_token, starts_option, opens_bind, opens_or, opens_scoped, opens_node, opens_token}
use Rattle.token_grammar.proofs.Loose.{Loose, loose_many}
use Rattle.token_grammar.proofs.Forms.{Form, Inner, Anywhere, anywhere, level_carries, form_take, form_then, form_next, form_join, form_as, form_last, form_or, form_choose, form_node, form_scoped, form_narrow, exact_many, exact_list, exact_optional, exact_by, apart_optional, level_bind, level_give, level_or, level_scoped, level_many, level_then}
use Rattle.st_tree.specs.declared.expression.Identifier.{Identifier}
use Rattle.st_tree.specs.declared.expression.Expr.{Expr}
use Rattle.st_tree.specs.declared.statement.Stmt.{Stmt}
use Rattle.st_tree.specs.declared.statement.Branch.{Branch}
use Rattle.st_tree.specs.declared.statement.Label.{Label}
use Rattle.st_expr.specs.Grammar.{expression as expression_rule}
use Rattle.st_statements.specs.Trees.{branch_of, make_return, make_exit, make_continue, make_if, make_case, make_for, make_while, make_repeat, counter_of}
use Rattle.st_statements.specs.steps.ReadTrees.{Branches, labelled, closed, with_stmt, with_labels}
use Rattle.st_statements.specs.Grammar as g
use Rattle.st_expr.specs.steps.Parse as e
use Rattle.st_statements.specs.steps.Reading as reading
use Rattle.st_statements.specs.steps.Parse as p
use Rattle.st_expr.proofs.Leaves.{form_identifier, level_identifier}
use Rattle.st_expr.proofs.Operators.{or_is, last_is}
use Rattle.st_expr.proofs.Exactness.{firsts, goes_on, form_expression, exact_expression, level_expression}
use Rattle.st_statements.proofs.SimpleStatements.{Shallow, stays, form_behind_name, level_behind_name, form_named, level_named, form_assign, form_return, form_exit, form_continue, level_word_stmt, level_assign}
use Rattle.st_statements.proofs.LabelForms.{value_kinds, form_value_point, level_value_point, exact_point_behind, level_point_behind, exact_labels_behind, starts_labels_behind, level_labels_behind, form_labels, level_labels}

-- with what a statement begins that doesn't begin with a name, and any other
abbrev pub unnamed_kinds : List TokenKind
unnamed_kinds =
    k.Return ∷ k.Exit ∷ k.Continue ∷ k.If ∷ k.Case ∷ k.For ∷ k.While ∷ k.Repeat ∷ k.Address ∷ []

abbrev pub statement_kinds : List TokenKind
statement_kinds = k.Semicolon ∷ k.Name ∷ unnamed_kinds

abbrev case_kinds : List TokenKind
case_kinds = k.Semicolon ∷ k.Name ∷ value_kinds ++ unnamed_kinds

-- ---- looks at the next lexeme

cond_or : (b x y z : Bool) → (x || y) ≡ z → (cond b true x || y) ≡ cond b true z
cond_or true x y z e = refl
cond_or false x y z e = e

any_append : (js ks : List TokenKind) (ts : List Lexeme)
    → (sees_any js ts || sees_any ks ts) ≡ sees_any (js ++ ks) ts
any_append [] ks ts = refl
any_append (j ∷ js) ks ts = cond_or (sees_in j ts) (sees_any js ts) (sees_any ks ts)
    (sees_any (js ++ ks) ts) (any_append js ks ts)

or_both : (a b c d e : Bool) → a ≡ c → b ≡ d → (c || d) ≡ e → (a || b) ≡ e
or_both a b c d e f g h = rw (f, g) h

abbrev structured_kinds : List TokenKind
structured_kinds = k.If ∷ k.Case ∷ k.For ∷ k.While ∷ k.Repeat ∷ []

sees_structured : (ts : List Lexeme) → p.sees_structured ts ≡ sees_any structured_kinds ts
unfolding p.sees_structured
sees_structured ts = or_is (sees_in k.If ts) _ _ (or_is (sees_in k.Case ts) _ _
    (or_is (sees_in k.For ts) _ _ (or_is (sees_in k.While ts) _ _ (last_is (sees_in k.Repeat ts)))))

sees_unnamed : (ts : List Lexeme) → p.sees_unnamed ts ≡ sees_any unnamed_kinds ts
unfolding p.sees_unnamed
sees_unnamed ts = or_is (sees_in k.Return ts) _ _ (or_is (sees_in k.Exit ts) _ _
    (or_is (sees_in k.Continue ts) _ _ (or_both _ _ _ _ _ (sees_structured ts)
    (last_is (sees_in k.Address ts)) (any_append structured_kinds (k.Address ∷ []) ts))))

sees_statement : (ts : List Lexeme) → p.sees_statement ts ≡ sees_any statement_kinds ts
unfolding p.sees_statement
sees_statement ts =
    or_is (sees_in k.Semicolon ts) _ _ (or_is (sees_in k.Name ts) _ _ (sees_unnamed ts))

sees_value : (ts : List Lexeme) → p.sees_value ts ≡ sees_any value_kinds ts
unfolding p.sees_value
sees_value ts = or_is (sees_in k.Minus ts) _ _ (or_is (sees_in k.Number ts) _ _
    (last_is (sees_in k.TypedNumber ts)))

sees_label : (ts : List Lexeme)
    → p.sees_label ts ≡ sees_any (k.Hash ∷ k.DotDot ∷ k.Comma ∷ k.Colon ∷ []) ts
unfolding p.sees_label
sees_label ts = or_is (sees_in k.Hash ts) _ _ (or_is (sees_in k.DotDot ts) _ _
    (or_is (sees_in k.Comma ts) _ _ (last_is (sees_in k.Colon ts))))

sees_case_item : (ts : List Lexeme) → p.sees_case_item ts ≡ sees_any case_kinds ts
unfolding p.sees_case_item
sees_case_item ts = or_is (sees_in k.Semicolon ts) _ _ (or_is (sees_in k.Name ts) _ _
    (or_both _ _ _ _ _ (sees_value ts) (sees_unnamed ts) (any_append value_kinds unnamed_kinds ts)))

-- ---- parts of a FOR

form_start : Form Shallow p.start g.start (k.Name ∷ []) goes_on
unfolding p.start
form_start = form_then form_identifier (λ name. (form_take {W = Shallow} {es = goes_on} k.Becomes 0
    0 (λ _. bind_give (λ x. (name, x)) exact_expression) stays).exact)
    (level_carries Shallow level_identifier)

level_start : IsLevel g.start
level_start = level_bind level_identifier
    (λ name. level_then k.Becomes (λ _. level_bind level_expression (λ x. level_give (name, x))))

exact_step : Exact Shallow p.step g.step (sees_any (k.By ∷ goes_on))
unfolding p.step
exact_step = exact_optional {es = goes_on} k.By None (form_take {W = Shallow} k.By 0 0
    (λ _. bind_give (λ x. Some x) exact_expression) stays)

level_step : IsLevel g.step
level_step =
    level_or (level_then k.By (λ _. level_bind level_expression (λ x. level_give (Some x))))
    (level_give None)

exact_last_step : (s : Identifier × Expr)
    → Exact Shallow (λ i. and_then (e.any_expression i) (λ last. λ i. and_then (p.step i)
    (λ by. pure (counter_of s last by)))) (expression_rule >>= λ last. g.step
    >>= λ by. give (counter_of s last by)) (sees_any (k.By ∷ goes_on))
exact_last_step s = bind {W = Shallow} {more1 = sees_any goes_on} exact_expression
    (λ last. bind_give (λ by. counter_of s last by) exact_step)
    (level_carries Shallow level_expression)
    (λ last. apart_optional k.By goes_on (starts_bind (starts_token k.By 0 0)) refl None
    (λ by. counter_of s last by))

exact_counter : Exact Shallow p.counter g.counter (sees_any (k.By ∷ goes_on))
unfolding p.counter
exact_counter = bind_starts {W = Shallow} goes_on form_start.exact
    (λ s. (form_take {W = Shallow} {es = k.By ∷ goes_on} k.To 0 0 (λ _. exact_last_step s)
    stays).exact)
    (level_carries Shallow level_start) (λ s. starts_bind (starts_token k.To 0 0)) refl

level_counter : IsLevel g.counter
level_counter = level_bind level_start
    (λ s. level_then k.To (λ _. level_bind level_expression (λ last. level_bind level_step
    (λ by. level_give (counter_of s last by)))))

-- ---- the rules that hold statements

module _ (n : ℕ) (inner : Parser Stmt) (rule : Rule Stmt) (h : Form (Inner n) inner rule
    unnamed_kinds []) (level : IsLevel rule) where
  shallow : (d : ℕ) → Inner n d → Shallow d
  shallow d v = (omega arith, v.1)

  stay : (d : ℕ) → Inner n d → d + 0 ≤ 256 → Inner n (d + 0)
  stay d v le = (omega (arith, v.0), le)

  into : (d : ℕ) → Inner (suc n) d → d + 1 ≤ 256 → Inner n (d + 1)
  into d v le = (omega (arith, v.0), le)

  form_value_expression : Form (Inner n) e.any_expression expression_rule firsts goes_on
  form_value_expression = form_narrow form_expression shallow

  form_item : (found : List Stmt)
      → Form (Inner n) (p.item inner found) (reading.item rule found) statement_kinds []
  unfolding p.item
  form_item found = form_or k.Semicolon (form_last k.Semicolon found)
      (form_or k.Name (form_as (λ s. found ++ s ∷ []) (form_narrow form_named shallow))
      (form_as (λ s. found ++ s ∷ []) h) refl) refl

  level_item : (found : List Stmt) → IsLevel (reading.item rule found)
  level_item found = level_or (level_then k.Semicolon (λ _. level_give found))
      (level_or (level_bind level_named (λ s. level_give (found ++ s ∷ [])))
      (level_bind level (λ s. level_give (found ++ s ∷ []))))

  pub exact_body : Exact (Inner n) (p.body inner) (reading.body rule) (sees_any statement_kinds)
  unfolding p.body
  exact_body = exact_many sees_statement form_item refl (λ found. level_carries (Inner n)
      (level_item found)) []

  pub level_body : IsLevel (reading.body rule)
  level_body = level_many level_item []

  exact_otherwise : Exact (Inner n) (p.otherwise inner) (g.otherwise (reading.body rule))
      (sees_any (k.Else ∷ statement_kinds))
  unfolding p.otherwise
  exact_otherwise = exact_optional {es = statement_kinds} k.Else None
      (form_take {W = Inner n} k.Else 0 0 (λ _. bind_give (λ b. Some b) exact_body) stay)

  -- ELSE, or the word that ends the statement
  starts_last : {A : Type 0} (kind : TokenKind) (f : Option (List Stmt) → A)
      → Starts (g.otherwise (reading.body rule) >>= λ last. token kind >>= λ _. give (f last))
      (k.Else ∷ kind ∷ [])
  starts_last kind f = starts_option (starts_bind (starts_token k.Else 0 0))
      (λ last. starts_bind (starts_token kind 0 0))

  exact_last : {A : Type 0} (kind : TokenKind) (f : Option (List Stmt) → A)
      → disjoint (kind ∷ []) (k.Else ∷ statement_kinds) ≡ true
      → Exact (Inner n) (λ i. and_then (p.otherwise inner i) (λ last. λ i. and_then (take kind i)
      (λ _. pure (f last)))) (g.otherwise (reading.body rule) >>= λ last. token kind
      >>= λ _. give (f last)) (sees_any [])
  exact_last kind f apart = bind_starts {W = Anywhere} (k.Else ∷ statement_kinds) exact_otherwise
      (λ last. (form_last kind (f last)).exact)
      (anywhere (Inner n) (g.otherwise (reading.body rule)))
      (λ last. (form_last {V = Anywhere} kind (f last)).starts) apart

  -- ---- IF

  form_guarded : Form (Inner n) (p.guarded inner) (g.guarded (reading.body rule)) firsts
      statement_kinds
  unfolding p.guarded
  form_guarded = form_join {W = Inner n} form_value_expression (λ c. form_take {W = Inner n} k.Then
      0 0 (λ _. bind_give (λ b. branch_of c b) exact_body) stay) refl
      (level_carries (Inner n) level_expression)

  level_guarded : IsLevel (g.guarded (reading.body rule))
  level_guarded = level_bind level_expression
      (λ c. level_then k.Then (λ _. level_bind level_body (λ b. level_give (branch_of c b))))

  form_more_branches : (found : List Branch)
      → Form (Inner n) (p.more_branches inner found) (g.more_branches (reading.body rule) found)
      (k.Elsif ∷ []) statement_kinds
  unfolding p.more_branches
  form_more_branches found = form_take {W = Inner n} k.Elsif 0 0
      (λ _. bind_give (λ b. found ++ b ∷ []) form_guarded.exact) stay

  level_more_branches : (found : List Branch) → IsLevel (g.more_branches (reading.body rule) found)
  level_more_branches found =
      level_then k.Elsif (λ _. level_bind level_guarded (λ b. level_give (found ++ b ∷ [])))

  -- { ELSIF .. } [ ELSE .. ] END_IF, behind the first branch
  exact_some_branches : Exact (Inner n) (p.some_branches inner)
      (g.some_branches (reading.body rule)) (sees_any (k.Elsif ∷ statement_kinds))
  unfolding p.some_branches
  exact_some_branches = exact_list {step = λ _. p.more_branches inner}
      {rule = λ _. g.more_branches (reading.body rule)} (λ ts. last_is (sees_in k.Elsif ts))
      (λ _. form_more_branches) refl (λ _ found. level_carries (Inner n)
      (level_more_branches found)) (λ b. b ∷ []) form_guarded.exact
      (level_carries (Inner n) level_guarded)

  level_some_branches : IsLevel (g.some_branches (reading.body rule))
  level_some_branches = level_bind level_guarded (λ b. level_many level_more_branches (b ∷ []))

  form_choice : Form (Inner (suc n)) (p.choice inner) (g.choice (reading.body rule)) (k.If ∷ []) []
  unfolding p.choice
  form_choice = form_scoped (form_node make_if (form_take {W = Inner n} {es = []} k.If 1 1
      (λ _. bind_starts {W = Inner n} (k.Elsif ∷ statement_kinds) exact_some_branches
      (λ found. exact_last k.EndIf (λ last. (found, last)) refl)
      (level_carries (Inner n) level_some_branches)
      (λ found. starts_last k.EndIf (λ last. (found, last))) refl) into))

  -- ---- FOR, WHILE, REPEAT

  -- statements up to a word
  exact_up_to : {A : Type 0} (kind : TokenKind) (f : List Stmt → A)
      → disjoint (kind ∷ []) statement_kinds ≡ true
      → Exact (Inner n) (λ i. and_then (p.body inner i) (λ b. λ i. and_then (take kind i)
      (λ _. pure (f b)))) (reading.body rule >>= λ b. token kind >>= λ _. give (f b))
      (sees_any [])
  exact_up_to kind f apart = bind_starts {W = Anywhere} statement_kinds exact_body
      (λ b. (form_last kind (f b)).exact) (anywhere (Inner n) (reading.body rule))
      (λ b. (form_last {V = Anywhere} kind (f b)).starts) apart

  form_counted : Form (Inner (suc n)) (p.counted inner) (g.counted (reading.body rule)) (k.For ∷ [])
      []
  unfolding p.counted
  form_counted = form_scoped (form_node make_for (form_take {W = Inner n} {es = []} k.For 1 1
      (λ _. bind_starts {W = Inner n} (k.By ∷ goes_on) exact_counter_here
      (λ c. (form_take {W = Inner n} {es = []} k.Do 0 0 (λ _. exact_up_to k.EndFor (λ b. (c, b))
      refl) stay).exact) (level_carries (Inner n) level_counter)
      (λ c. starts_bind (starts_token k.Do 0 0)) refl) into))
    where
      exact_counter_here : Exact (Inner n) p.counter g.counter (sees_any (k.By ∷ goes_on))
      exact_counter_here =
          exact_same exact_counter shallow (λ d w x e l. l) (λ d w x e l. l) (λ rest e. e)

  form_while : Form (Inner (suc n)) (p.while_stmt inner) (g.while_stmt (reading.body rule))
      (k.While ∷ []) []
  unfolding p.while_stmt
  form_while = form_scoped (form_node make_while (form_take {W = Inner n} {es = []} k.While 1 1
      (λ _. (form_join {W = Inner n} form_value_expression
      (λ c. form_take {W = Inner n} {es = []} k.Do 0 0 (λ _. exact_up_to k.EndWhile (λ b. (c, b))
      refl) stay) refl (level_carries (Inner n) level_expression)).exact) into))

  form_repeat : Form (Inner (suc n)) (p.repeat_stmt inner) (g.repeat_stmt (reading.body rule))
      (k.Repeat ∷ []) []
  unfolding p.repeat_stmt
  form_repeat = form_scoped (form_node make_repeat (form_take {W = Inner n} {es = []} k.Repeat 1 1
      (λ _. bind_starts {W = Inner n} statement_kinds exact_body
      (λ b. (form_take {W = Inner n} {es = []} k.Until 0 0
      (λ _. (form_join {W = Anywhere} form_value_expression (λ c. form_last k.EndRepeat (b, c))
      refl (anywhere (Inner n) expression_rule)).exact) stay).exact)
      (level_carries (Inner n) level_body) (λ b. starts_bind (starts_token k.Until 0 0)) refl)
      into))

  -- ---- CASE

  abbrev label_kinds : List TokenKind
  label_kinds = k.Hash ∷ k.DotDot ∷ k.Comma ∷ k.Colon ∷ []

  exact_labelled : (b : Branches) (name : Identifier)
      → Exact (Inner n) (p.label_case inner b name) (g.point_behind name
      >>= λ first. g.labels_behind first >>= λ ls. give (with_labels b ls)) (sees_any [])
  unfolding p.label_case
  exact_labelled b name = bind_starts {W = Anywhere} (k.Hash ∷ [])
      (exact_same (exact_point_behind name) (λ d v. tt) (λ d w x e l. l) (λ d w x e l. l)
      (λ rest e. e)) (λ first. bind_give (λ ls. with_labels b ls) (exact_labels_behind first))
      (anywhere (Inner n) (g.point_behind name)) (λ first. starts_bind (starts_labels_behind first))
      refl

  exact_case_behind : (b : Branches) (name : Identifier)
      → Exact (Inner n) (p.case_behind inner b name) (reading.case_behind rule b name) (sees_any [])
  unfolding p.case_behind
  exact_case_behind b name = exact_by [] [] sees_label (exact_labelled b name)
      (starts_option (starts_bind (starts_token k.Hash 0 0))
      (λ first. starts_bind (starts_labels_behind first)))
      (form_as (λ s. with_stmt b s) (form_narrow (form_behind_name name) shallow)).exact
      (starts_bind (form_behind_name name).starts) refl

  form_value_case : (b : Branches)
      → Form (Inner n) (p.value_case inner b) (g.value_point >>= λ first. g.labels_behind first
      >>= λ ls. give (with_labels b ls)) value_kinds []
  unfolding p.value_case
  form_value_case b = form_then {W = Anywhere} (form_narrow form_value_point (λ d v. tt))
      (λ first. bind_give (λ ls. with_labels b ls) (exact_labels_behind first))
      (anywhere (Inner n) g.value_point)

  form_case_item : (b : Branches)
      → Form (Inner n) (p.case_item inner b) (reading.case_item rule b) case_kinds []
  unfolding p.case_item
  form_case_item b = form_or k.Semicolon (form_last k.Semicolon b)
      (form_or {e1 = []} k.Name (form_then {es = []} form_identifier (exact_case_behind b)
      (level_carries (Inner n) level_identifier))
      (form_choose sees_value (form_value_case b) (form_as (λ s. with_stmt b s) h) refl) refl) refl

  level_case_item : (b : Branches) → IsLevel (reading.case_item rule b)
  level_case_item b = level_or (level_then k.Semicolon (λ _. level_give b))
      (level_or (level_bind level_identifier (λ name. level_or
      (level_bind (level_point_behind name) (λ first. level_bind (level_labels_behind first)
      (λ ls. level_give (with_labels b ls)))) (level_bind (level_behind_name name)
      (λ s. level_give (with_stmt b s)))))
      (level_or (level_bind level_value_point (λ first. level_bind (level_labels_behind first)
      (λ ls. level_give (with_labels b ls))))
      (level_bind level (λ s. level_give (with_stmt b s)))))

  exact_case_items : (ls : List Label)
      → Exact (Inner n) (p.case_items inner ls) (many (reading.case_item rule) (labelled ls))
      (sees_any case_kinds)
  unfolding p.case_items
  exact_case_items ls = exact_many sees_case_item form_case_item refl
      (λ b. level_carries (Inner n) (level_case_item b)) (labelled ls)

  form_branches : Form (Inner n) (p.branches inner) (reading.branches rule) (k.Name ∷ value_kinds)
      case_kinds
  unfolding p.branches
  form_branches = form_then {W = Inner n} (form_narrow form_labels (λ d v. tt))
      (λ ls. bind_give closed (exact_case_items ls)) (level_carries (Inner n) level_labels)

  level_branches : IsLevel (reading.branches rule)
  level_branches = level_bind level_labels
      (λ ls. level_bind (level_many level_case_item (labelled ls)) (λ b. level_give (closed b)))

  form_selection : Form (Inner (suc n)) (p.selection inner) (g.selection_of (reading.body rule)
      (reading.branches rule)) (k.Case ∷ []) []
  unfolding p.selection
  form_selection = form_scoped (form_node make_case (form_take {W = Inner n} {es = []} k.Case 1 1
      (λ _. (form_join {W = Inner n} form_value_expression
      (λ x. form_take {W = Inner n} {es = []} k.Of 0 0
      (λ _. (form_next {W = Inner n} {es = []} form_branches (λ found. exact_last k.EndCase
      (λ last. (x, found, last)) refl) (λ found. starts_last k.EndCase
      (λ last. (x, found, last))) refl (level_carries (Inner n) level_branches)).exact) stay)
      refl (level_carries (Inner n) level_expression)).exact) into))

  -- ---- all of them

  form_looped : Form (Inner (suc n)) (p.looped inner) (g.counted (reading.body rule)
      or (g.while_stmt (reading.body rule) or (g.repeat_stmt (reading.body rule)
      or reading.assign))) (k.For ∷ k.While ∷ k.Repeat ∷ k.Address ∷ []) []
  unfolding p.looped
  form_looped = form_or k.For form_counted
      (form_or k.While form_while
      (form_or k.Repeat form_repeat (form_narrow form_assign (λ d v. (omega arith, v.1))) refl)
      refl) refl

  form_structured : Form (Inner (suc n)) (p.structured inner) (g.choice (reading.body rule)
      or (g.selection_of (reading.body rule) (reading.branches rule)
      or (g.counted (reading.body rule) or (g.while_stmt (reading.body rule)
      or (g.repeat_stmt (reading.body rule) or reading.assign)))))
      (k.If ∷ k.Case ∷ k.For ∷ k.While ∷ k.Repeat ∷ k.Address ∷ []) []
  unfolding p.structured
  form_structured = form_or k.If form_choice (form_or k.Case form_selection form_looped refl) refl

  pub form_unnamed : Form (Inner (suc n)) (p.unnamed inner) (reading.unnamed rule) unnamed_kinds []
  unfolding p.unnamed
  form_unnamed = form_or k.Return form_return
      (form_or k.Exit form_exit (form_or k.Continue form_continue form_structured refl) refl) refl

-- ---- the grammar alone

some_token : (kind : TokenKind) (own rise d : ℕ) → Some_ (token_as (is_kind kind) own rise) d
some_token kind own rise d = record {
  word = (a_token kind, d + own) ∷ [];
  value = a_token kind;
  depth = d + rise;
  spelled = (refl, same_kind_refl kind, refl);
}

some_then : {A B : Type 0} {L : Rule A} {M : A → Rule B} → ((d : ℕ) → Some_ L d)
    → ((x : A) (d : ℕ) → Some_ (M x) d) → (d : ℕ) → Some_ (L >>= M) d
some_then first next d =
    let a = first d in
    let b = next a.value a.depth in
    record {
      word = a.word ++ b.word;
      value = b.value;
      depth = b.depth;
      spelled = (a.word, b.word, a.value, a.depth, refl, a.spelled, b.spelled);
    }

some_give : {A : Type 0} (a : A) (d : ℕ) → Some_ (give a) d
some_give a d = record { word = []; value = a; depth = d; spelled = (refl, refl, refl) }

some_many : {A : Type 0} (rule : A → Rule A) (a : A) (d : ℕ) → Some_ (many rule a) d
some_many rule a d =
    record { word = []; value = a; depth = d; spelled = (zero, (refl, refl, refl)) }

some_none : {A : Type 0} (L : Rule A) (a : A) (d : ℕ) → Some_ (L or give a) d
some_none L a d = record { word = []; value = a; depth = d; spelled = inr (refl, refl, refl) }

some_word : {A : Type 0} (kind : TokenKind) (a : A) (d : ℕ) → Some_ (token kind >>= λ _. give a) d
some_word kind a = some_then (some_token kind 0 0) (λ _. some_give a)

module _ (rule : Rule Stmt) where
  some_body : (d : ℕ) → Some_ (reading.body rule) d
  some_body = some_many (reading.item rule) []

  some_otherwise : (d : ℕ) → Some_ (g.otherwise (reading.body rule)) d
  some_otherwise = some_none _ None

  some_guarded : (d : ℕ) → Some_ (g.guarded (reading.body rule)) d
  some_guarded = some_then exact_expression.some (λ c. some_then (some_token k.Then 0 0)
      (λ _. some_then some_body (λ b. some_give (branch_of c b))))

  opens_choice : Opens (g.choice (reading.body rule)) (k.If ∷ [])
  opens_choice = opens_scoped
      (opens_node make_if (opens_bind (opens_token k.If 1 1)
      (λ _. some_then (some_then some_guarded (λ b. some_many (g.more_branches (reading.body rule))
      (b ∷ []))) (λ found. some_then some_otherwise (λ last. some_word k.EndIf (found, last))))))

  opens_selection : Opens (g.selection_of (reading.body rule) (reading.branches rule)) (k.Case ∷ [])
  opens_selection = opens_scoped
      (opens_node make_case (opens_bind (opens_token k.Case 1 1)
      (λ _. some_then exact_expression.some (λ x. some_then (some_token k.Of 0 0) (λ _.
      some_then (some_then form_labels.exact.some
      (λ ls. some_then (some_many (reading.case_item rule) (labelled ls))
      (λ b. some_give (closed b)))) (λ found. some_then some_otherwise
      (λ last. some_word k.EndCase (x, found, last))))))))

  opens_counted : Opens (g.counted (reading.body rule)) (k.For ∷ [])
  opens_counted = opens_scoped
      (opens_node make_for (opens_bind (opens_token k.For 1 1) (λ _. some_then exact_counter.some
      (λ c. some_then (some_token k.Do 0 0)
      (λ _. some_then some_body (λ b. some_word k.EndFor (c, b)))))))

  opens_while : Opens (g.while_stmt (reading.body rule)) (k.While ∷ [])
  opens_while = opens_scoped (opens_node make_while (opens_bind (opens_token k.While 1 1)
      (λ _. some_then exact_expression.some (λ c. some_then (some_token k.Do 0 0)
      (λ _. some_then some_body (λ b. some_word k.EndWhile (c, b)))))))

  opens_repeat : Opens (g.repeat_stmt (reading.body rule)) (k.Repeat ∷ [])
  opens_repeat = opens_scoped (opens_node make_repeat (opens_bind (opens_token k.Repeat 1 1)
      (λ _. some_then some_body (λ b. some_then (some_token k.Until 0 0)
      (λ _. some_then exact_expression.some (λ c. some_word k.EndRepeat (b, c)))))))

  opens_unnamed : Opens (reading.unnamed rule) unnamed_kinds
  opens_unnamed = opens_or (form_return {V = Anywhere}).opens
      (opens_or (form_exit {V = Anywhere}).opens (opens_or (form_continue {V = Anywhere}).opens
      (opens_or opens_choice (opens_or opens_selection
      (opens_or opens_counted (opens_or opens_while (opens_or opens_repeat form_assign.opens)))))))

  starts_unnamed : Starts (reading.unnamed rule) unnamed_kinds
  starts_unnamed = starts_or (form_return {V = Anywhere}).starts
      (starts_or (form_exit {V = Anywhere}).starts (starts_or (form_continue {V = Anywhere}).starts
      (starts_or (starts_scoped (starts_node make_if (starts_bind (starts_token k.If 1 1))))
      (starts_or (starts_scoped (starts_node make_case (starts_bind (starts_token k.Case 1 1))))
      (starts_or (starts_scoped (starts_node make_for (starts_bind (starts_token k.For 1 1))))
      (starts_or (starts_scoped
      (starts_node make_while (starts_bind (starts_token k.While 1 1))))
      (starts_or (starts_scoped (starts_node make_repeat (starts_bind (starts_token k.Repeat 1 1))))
      form_assign.starts)))))))

  level_unnamed : IsLevel (reading.unnamed rule)
  level_unnamed = level_or (level_word_stmt k.Return make_return)
      (level_or (level_word_stmt k.Exit make_exit)
      (level_or (level_word_stmt k.Continue make_continue)
      (level_or (level_scoped _) (level_or (level_scoped _)
      (level_or (level_scoped _)
      (level_or (level_scoped _) (level_or (level_scoped _) level_assign)))))))

pub nested_starts : (m : ℕ) → Starts (reading.nested m) unnamed_kinds
unfolding reading.nested
nested_starts zero = record { sees = λ d w x e l rest. absurd l }
nested_starts (suc m) =
    record { sees = λ d w x e l rest. (starts_unnamed (reading.nested m)).sees d w x e l rest }

pub nested_level : (m : ℕ) → IsLevel (reading.nested m)
unfolding reading.nested
nested_level zero d w x e l = absurd l
nested_level (suc m) d w x e l = level_unnamed (reading.nested m) d w x e l

nested_opens : (m : ℕ) → Opens (reading.nested (suc m)) unnamed_kinds
unfolding reading.nested
nested_opens m = record { word = λ d t r e. (opens_unnamed (reading.nested m)).word d t r e }

some_nested : (m d : ℕ) → Some_ (reading.nested (suc m)) d
unfolding reading.nested
some_nested m d = let s = (form_return {V = Anywhere}).exact.some d in
    record { word = s.word; value = s.value; depth = s.depth; spelled = inl s.spelled }

-- ---- to any depth

-- The parser with a bound on nesting reads the grammar with a larger one.
pub form_nested : (n m : ℕ) → n < m
    → Form (Inner n) (p.nested n) (reading.nested m) unnamed_kinds []
unfolding p.nested reading.nested
form_nested n zero lt = absurd (omega (arith, lt))
form_nested zero (suc m) lt = record {
  exact = record {
    told = λ i v. absurd (omega (arith, v));
    complete = λ d w x e v. absurd (omega (arith, v));
    local = λ last d v. absurd (omega (arith, v));
    cut = λ last d v. absurd (omega (arith, v));
    some = some_nested m;
    rises = λ d w x e l. omega (arith, nested_level (suc m) d w x e l);
  };
  starts = nested_starts (suc m);
  opens = nested_opens m;
}
form_nested (suc n) (suc m) lt =
    let h = form_unnamed n (p.nested n) (reading.nested m) (form_nested n m (omega (arith, lt)))
    (nested_level m) in
    record {
      exact = exact_same h.exact (λ d v. v) (λ d w x e l. l) (λ d w x e l. l) (λ rest e. e);
      starts = nested_starts (suc m);
      opens = nested_opens m;
    }

pub exact_nested_body : (n m : ℕ) → n < m
    → Exact (Inner n) (p.body (p.nested n)) (reading.body (reading.nested m))
    (sees_any statement_kinds)
exact_nested_body n m lt =
    exact_body n (p.nested n) (reading.nested m) (form_nested n m lt) (nested_level m)

pub level_nested_body : (m : ℕ) → IsLevel (reading.body (reading.nested m))
level_nested_body m = level_many (λ found. level_or (level_then k.Semicolon (λ _. level_give found))
    (level_or (level_bind level_named (λ s. level_give (found ++ s ∷ [])))
    (level_bind (nested_level m) (λ s. level_give (found ++ s ∷ []))))) []

-- a list of statements is empty, or begins with one
starts_item : (m : ℕ) (found : List Stmt)
    → Starts (reading.item (reading.nested m) found) statement_kinds
starts_item m found = starts_or (starts_bind (starts_token k.Semicolon 0 0))
    (starts_or (starts_bind form_named.starts) (starts_bind (nested_starts m)))

pub loose_nested_body : (m : ℕ) → Loose (reading.body (reading.nested m)) statement_kinds
loose_nested_body m = loose_many (starts_item m) []
