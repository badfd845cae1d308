-- Items of a CASE and its branches, one after the other, are spelled by the same lexemes.
use Rattle.std.proofs.Common.{◌≡◌, ◌⊎◌, ℕ, zero, suc, List, [], ◌∷◌, ◌++◌, refl, sym, ap, subst, ◌∙◌, inl, inr}
use Rattle.token_grammar.specs.Grammar.{Word, Rule, ◌>>=◌, give, times, many}
use Rattle.token_grammar.proofs.Same.{SameRule}
use Rattle.token_grammar.proofs.Words.{within_last, within_first, given, gives}
use Rattle.st_tree.specs.declared.expression.Identifier.{Identifier}
use Rattle.st_tree.specs.declared.statement.Stmt.{Stmt}
use Rattle.st_tree.specs.declared.statement.Case.{Case}
use Rattle.st_tree.specs.declared.statement.Label.{Label}
use Rattle.st_statements.specs.Trees.{case_of}
use Rattle.st_statements.specs.steps.ReadTrees.{Branches, labelled, closed, with_stmt, with_labels}
use Rattle.st_expr.specs.Grammar.{identifier}
use Rattle.st_statements.specs.Grammar as g
use Rattle.st_statements.specs.steps.Reading as reading

many_cons : {A : Type 0} (step : A → Rule A) (a b x : A) (d m e : ℕ) (u v w : Word) → w ≡ u ++ v
    → step a d u b m → many step b m v x e → many step a d w x e
many_cons step a b x d m e u v w eq s (n, t) = (suc n, (u, v, b, m, eq, s, t))

-- ---- items

-- with other statements in the last branch
abbrev with_body : Branches → List Stmt → Branches
with_body b body = record { done = b.done; labels = b.labels; body = body }

module _ (inner : Rule Stmt) where
  -- An item is labels, or an item of the last branch's statements.
  abbrev OfLabels : Branches → Rule Branches
  OfLabels b d w c e = (ls : List Label) × g.labels d w ls e × (c ≡ with_labels b ls)

  abbrev OfItem : Branches → Rule Branches
  OfItem b d w c e =
      (body : List Stmt) × reading.item inner b.body d w body e × (c ≡ with_body b body)

  -- ---- what an item is, and that each of these is one

  split_named : (b : Branches) (d : ℕ) (w : Word) (c : Branches) (e : ℕ) (u v : Word)
      (name : Identifier) (m : ℕ) → w ≡ u ++ v → identifier d u name m
      → reading.case_behind inner b name m v c e
      → OfLabels b d w c e ⊎ OfItem b d w c e
  split_named b d w c e u v name m eq i (inl (u1, v1, first, m1, eq1, p, k)) =
      let (ls, l, is) = given (g.labels_behind first) (with_labels b) m1 v1 c e k in
      inl (
        ls,
        (
          u ++ u1,
          v1,
          first,
          m1,
          within_last w u v u1 v1 eq eq1,
          inl
              (u, u1, name, m, refl, i, p),
          l,
        ),
        is,
      )
  split_named b d w c e u v name m eq i (inr k) =
      let (s, l, is) = given (reading.behind_name name) (with_stmt b) m v c e k in
      inr (
        b.body ++ s ∷ [],
        inr
            (inl (gives reading.named (λ s. b.body ++ s ∷ []) d w s e (u, v, name, m, eq, i, l))),
        is,
      )

  split : (b : Branches) (d : ℕ) (w : Word) (c : Branches) (e : ℕ)
      → reading.case_item inner b d w c e → OfLabels b d w c e ⊎ OfItem b d w c e
  split b d w c e (inl (u, v, t, m, eq, l, (empty, is, same))) =
      inr (b.body, inl (u, v, t, m, eq, l, (empty, refl, same)), is)
  split b d w c e (inr (inl (u, v, name, m, eq, i, k))) = split_named b d w c e u v name m eq i k
  split b d w c e (inr (inr (inl (u, v, first, m, eq, p, k)))) =
      let (ls, l, is) = given (g.labels_behind first) (with_labels b) m v c e k in
      inl (ls, (u, v, first, m, eq, inr p, l), is)
  split b d w c e (inr (inr (inr k))) =
      let (s, l, is) = given inner (with_stmt b) d w c e k in
      inr (b.body ++ s ∷ [], inr (inr (gives inner (λ s. b.body ++ s ∷ []) d w s e l)), is)

  of_labels : (b : Branches) (d : ℕ) (w : Word) (ls : List Label) (e : ℕ) → g.labels d w ls e
      → reading.case_item inner b d w (with_labels b ls) e
  of_labels b d w ls e (p, q, first, m1, eq, inl (u, u1, name, m, eq1, i, k), l) =
      inr (inl (
        u,
        u1 ++ q,
        name,
        m,
        within_first w p q u u1 eq eq1,
        i,
        inl
            (u1, q, first, m1, refl, k, gives (g.labels_behind first) (with_labels b) m1 q ls e l),
      ))
  of_labels b d w ls e (p, q, first, m1, eq, inr k, l) =
      inr (inr (inl (
        p,
        q,
        first,
        m1,
        eq,
        k,
        gives (g.labels_behind first) (with_labels b) m1 q ls e
            l,
      )))

  of_item : (b : Branches) (d : ℕ) (w : Word) (body : List Stmt) (e : ℕ)
      → reading.item inner b.body d w body e → reading.case_item inner b d w (with_body b body) e
  of_item b d w body e (inl (u, v, t, m, eq, l, (empty, is, same))) =
      inl (u, v, t, m, eq, l, (empty, ap (with_body b) is, same))
  of_item b d w body e (inr (inl k)) =
      let (s, (u, v, name, m, eq, i, l), is) = given reading.named (λ s. b.body ++ s ∷ []) d w body
      e k in
      inr (inl (
        u,
        v,
        name,
        m,
        eq,
        i,
        inr
            (subst (λ (z : List Stmt). (reading.behind_name name >>= λ s. give (with_stmt b s)) m v
            (with_body b z) e) (sym is) (gives (reading.behind_name name) (with_stmt b) m v s e l)),
      ))
  of_item b d w body e (inr (inr k)) =
      let (s, l, is) = given inner (λ s. b.body ++ s ∷ []) d w body e k in
      inr (inr (inr (subst (λ (z : List Stmt). (inner >>= λ s. give (with_stmt b s)) d w
      (with_body b z) e) (sym is) (gives inner (with_stmt b) d w s e l))))

  -- ---- from items to branches

  a_case : (d : ℕ) (w u v : Word) (ls : List Label) (body : List Stmt) (m e : ℕ) → w ≡ u ++ v
      → g.labels d u ls m → reading.body inner m v body e
      → g.one_case (reading.body inner) d w (case_of ls body) e
  a_case d w u v ls body m e eq l items =
      (u, v, ls, m, eq, l, gives (reading.body inner) (case_of ls) m v body e items)

  -- The items are the rest of the open branch's statements, and then further branches.
  abbrev Opened : Branches → ℕ → Word → Branches → ℕ → Type 0
  Opened b d w c e = (u v : Word) × (body : List Stmt) × (m : ℕ) × (w ≡ u ++ v)
      × many (reading.item inner) b.body d u body m × many (g.more_cases (reading.body inner))
      (closed (with_body b body)) m v (closed c) e

  opened_by : (b : Branches) (d : ℕ) (u : Word) (a : Branches) (m : ℕ) (w v : Word) (c : Branches)
      (e : ℕ) → w ≡ u ++ v → OfLabels b d u a m ⊎ OfItem b d u a m → Opened a m v c e
      → Opened b d w c e
  opened_by b d u a m w v c e eq (inl (ls, l, is)) o =
      let (u1, v1, body, m1, eq1, items, more) = subst (λ (z : Branches). Opened z m v c e) is o in (
        [],
        w,
        b.body,
        d,
        refl,
        (zero, (refl, refl, refl)),
        many_cons (g.more_cases (reading.body inner)) (closed b) (closed b ++ case_of ls body ∷ [])
            (closed c) d m1 e (u ++ u1) v1 w (within_last w u v u1 v1 eq eq1)
            (gives (g.one_case (reading.body inner)) (λ k. closed b ++ k ∷ []) d (u ++ u1)
            (case_of ls body) m1 (a_case d (u ++ u1) u u1 ls body m m1 refl l items)) more,
      )
  opened_by b d u a m w v c e eq (inr (first, l, is)) o =
      let (u1, v1, body, m1, eq1, items, more) = subst (λ (z : Branches). Opened z m v c e) is o in (
        u ++ u1,
        v1,
        body,
        m1,
        within_last w u v u1 v1 eq eq1,
        many_cons (reading.item inner) b.body
            first body d m m1 u u1 (u ++ u1) refl l items,
        more,
      )

  opened : (n : ℕ) (b : Branches) (d : ℕ) (w : Word) (c : Branches) (e : ℕ)
      → times (reading.case_item inner) n b d w c e → Opened b d w c e
  opened zero b d w c e (empty, is, same) =
      ([], [], b.body, d, empty, (zero, (refl, refl, refl)), (zero, (refl, ap closed is, same)))
  opened (suc n) b d w c e (u, v, a, m, eq, s, t) =
      opened_by b d u a m w v c e eq (split b d u a m s) (opened n a m v c e t)

  to_cases : (d : ℕ) (w : Word) (x : List Case) (e : ℕ) → reading.branches inner d w x e
      → g.cases (reading.body inner) d w x e
  to_cases d w x e (u, v, ls, m, eq, l, k) =
      let (b, (n, t), is) = given (many (reading.case_item inner) (labelled ls)) closed m v x e k in
      let (u1, v1, body, m1, eq1, items, more) = opened n (labelled ls) m v b e t in (
        u ++ u1,
        v1,
        case_of ls body,
        m1,
        within_last w u v u1 v1 eq eq1,
        a_case d (u ++ u1) u u1 ls
            body m m1 refl l items,
        subst (λ (z : List Case). many (g.more_cases (reading.body inner))
            (case_of ls body ∷ []) m1 v1 z e) (sym is) more,
      )

  -- ---- from branches to items

  -- statements of the open branch, and then items
  behind_items : (n : ℕ) (b : Branches) (found : List Stmt) (d : ℕ) (u : Word) (body : List Stmt)
      (m : ℕ) (w v : Word) (c : Branches) (e : ℕ) → w ≡ u ++ v
      → times (reading.item inner) n found d u body m
      → many (reading.case_item inner) (with_body b body) m v c e
      → many (reading.case_item inner) (with_body b found) d w c e
  behind_items zero b found d u body m w v c e eq (empty, is, same) k =
      subst (λ (z : List Stmt). many (reading.case_item inner) (with_body b z) d w c e) is
      (subst (λ (z : ℕ). many (reading.case_item inner) (with_body b body) z w c e) same
      (subst (λ (z : Word). many (reading.case_item inner) (with_body b body) m z c e)
      (sym (eq ∙ ap (λ (z : Word). z ++ v) empty)) k))
  behind_items (suc n) b found d u body m w v c e eq (u1, v1, first, m1, eq1, s, t) k =
      many_cons (reading.case_item inner) (with_body b found) (with_body b first) c d m1 e u1
      (v1 ++ v) w (within_first w u v u1 v1 eq eq1) (of_item (with_body b found) d u1 first m1
      s)
      (behind_items n b first m1 v1 body m (v1 ++ v) v c e refl t k)

  -- what items and then the end of the branches spell
  abbrev Closed : Branches → ℕ → Word → List Case → ℕ → Type 0
  Closed b d w x e = (c : Branches) × many (reading.case_item inner) b d w c e × (x ≡ closed c)

  closed_by : (b : Branches) (d : ℕ) (w u v : Word) (k : Case) (m : ℕ) (x : List Case) (e : ℕ)
      → w ≡ u ++ v → g.one_case (reading.body inner) d u k m
      → ((a : Branches) → closed a ≡ closed b ++ k ∷ [] → Closed a m v x e) → Closed b d w x e
  closed_by b d w u v k m x e eq (u1, v1, ls, m1, eq1, l, items) next =
      let (body, (n, t), is) = given (reading.body inner) (case_of ls) m1 v1 k m items in
      let (c, all, same) = next (with_body (with_labels b ls) body)
      (ap (λ (z : Case). closed b ++ z ∷ []) (sym is)) in (
        c,
        many_cons (reading.case_item inner) b (with_labels b ls) c d m1 e u1 (v1 ++ v) w
            (within_first w u v u1 v1 eq eq1) (of_labels b d u1 ls m1 l)
            (behind_items n (with_labels b ls) [] m1 v1 body m (v1 ++ v) v c e refl t all),
        same,
      )

  closes : (n : ℕ) (b : Branches) (found : List Case) (d : ℕ) (w : Word) (x : List Case) (e : ℕ)
      → closed b ≡ found → times (g.more_cases (reading.body inner)) n found d w x e
      → Closed b d w x e
  closes zero b found d w x e so (empty, is, same) = (b, (zero, (empty, refl, same)), is ∙ sym so)
  closes (suc n) b found d w x e so (u, v, more, m, eq, s, t) =
      let (k, l, is) = given (g.one_case (reading.body inner)) (λ k. found ++ k ∷ []) d u more m
      s in
      closed_by b d w u v k m x e eq l (λ a same. closes n a more m v x e (same
      ∙ ap (λ (z : List Case). z ++ k ∷ []) so ∙ sym is) t)

  from_cases : (d : ℕ) (w : Word) (x : List Case) (e : ℕ) → g.cases (reading.body inner) d w x e
      → reading.branches inner d w x e
  from_cases d w x e (p, q, k, m, eq, (u, u1, ls, m1, eq1, l, rest), (n, t)) =
      let (body, (count, items), is) = given (reading.body inner) (case_of ls) m1 u1 k m rest in
      let (c, all, same) = closes n (with_body (labelled ls) body) (k ∷ []) m q x e
      (ap (λ (z : Case). z ∷ []) (sym is)) t in (
        u,
        u1 ++ q,
        ls,
        m1,
        within_first w p q u u1 eq eq1,
        l,
        subst (λ (z : List Case). (many (reading.case_item inner) (labelled ls)
            >>= λ b. give (closed b)) m1 (u1 ++ q) z e) (sym same)
            (gives (many (reading.case_item inner) (labelled ls)) closed m1 (u1 ++ q) c e
            (behind_items count (labelled ls) [] m1 u1 body m (u1 ++ q) q c e refl items all)),
      )

  pub same_cases : SameRule (reading.branches inner) (g.cases (reading.body inner))
  same_cases = record { to = record { to = to_cases }; from = record { to = from_cases } }
