-- Assignments and calls are what is read behind a leading name, and assignments to addresses.
use Rattle.std.proofs.Common.{◌≡◌, ◌⊎◌, ℕ, zero, suc, ◌<◌, List, [], ◌∷◌, ◌++◌, length, refl, sym, ap, subst, ◌∙◌, append_assoc, append-nil, inl, inr}
use Rattle.token_grammar.specs.declared.token.TokenKind.TheVariants as k
use Rattle.token_grammar.specs.Grammar.{Word, Rule, ◌>>=◌, ◌or◌, give, token, times, start_of, end_of}
use Rattle.token_grammar.proofs.Starts.{starts_bind, starts_node, starts_scoped, starts_token, starts_long}
use Rattle.token_grammar.proofs.Same.{SubRule, sub_node, sub_before}
use Rattle.token_grammar.proofs.Words.{within_last, within_first, long_behind, start_before, end_behind, given, gives, last_to, last_from}
use Rattle.st_tree.specs.declared.expression.Identifier.{Identifier}
use Rattle.st_tree.specs.declared.expression.Root.{Root}
use Rattle.st_tree.specs.declared.expression.Root.TheVariants as root
use Rattle.st_tree.specs.declared.expression.Expr.{Expr}
use Rattle.st_tree.specs.declared.expression.Path.{Path}
use Rattle.st_tree.specs.declared.expression.Part.{Part}
use Rattle.st_tree.specs.declared.expression.Part.TheVariants as part
use Rattle.st_tree.specs.declared.statement.Stmt.{Stmt}
use Rattle.st_expr.specs.Trees.{make_index, make_path}
use Rattle.st_expr.specs.Grammar.{identifier, address, field, index, more_parts, parts, path, located, expression}
use Rattle.st_expr.proofs.Leaves.{form_identifier}
use Rattle.st_statements.specs.Trees.{make_assign}
use Rattle.st_statements.specs.steps.ReadTrees.{end_of_part, end_of_parts, path_from, call_from, assign_from}
use Rattle.st_statements.specs.Grammar as g
use Rattle.st_statements.specs.steps.Reading as reading
use Rattle.token_grammar.proofs.Forms.{Anywhere}

-- ---- names

module _ (d : ℕ) (w : Word) (name : Identifier) (e : ℕ) (i : identifier d w name e) where
  name_long : 0 < length w
  name_long = starts_long (form_identifier {V = Anywhere}).starts d w name e i

  name_start : start_of w ≡ name.node.start
  name_start = sym (ap (λ (n : Identifier). n.node.start) i.2)

  name_end : end_of w ≡ name.node.end
  name_end = sym (ap (λ (n : Identifier). n.node.end) i.2)

-- ---- parts of paths

end_of_parts_last : (from : ℕ) (found : List Part) (q : Part)
    → end_of_parts from (found ++ q ∷ []) ≡ end_of_part q
end_of_parts_last from [] q = refl
end_of_parts_last from (p ∷ found) q = end_of_parts_last (end_of_part p) found q

module _ (inner : Rule Expr) where
  -- a part ends where its word does
  part_ends : (d : ℕ) (v : Word) (q : Part) (e : ℕ) → (field or index inner) d v q e
      → (end_of_part q ≡ end_of v) × (0 < length v)
  part_ends d v q e (inl (u, v1, t, m, eq, dot, k)) =
      let (name, i, is) = given identifier part.Field m v1 q e k in
      let some = name_long m v1 name e i in (
        ap end_of_part is ∙ sym (name_end m v1 name e i) ∙ sym (end_behind u v1 some)
            ∙ ap end_of (sym eq),
        subst (λ (z : Word). 0 < length z) (sym eq) (long_behind u v1 some),
      )
  part_ends d v q e (inr l) = (
    ap end_of_part l.2,
    starts_long (starts_node make_index
        (starts_scoped (starts_bind (starts_token k.OpenBracket 1 1)))) d v q e l,
  )

  -- parts behind a word that ends where those before them do
  times_end : (n : ℕ) (found : List Part) (d : ℕ) (v : Word) (ps : List Part) (e : ℕ)
      → times (more_parts inner) n found d v ps e
      → (u : Word) (from : ℕ) → end_of u ≡ end_of_parts from found
      → end_of (u ++ v) ≡ end_of_parts from ps
  times_end zero found d v ps e (empty, is, same) u from ends = rw (empty, is, append-nil u) ends
  times_end (suc n) found d v ps e (v1, v2, b, m, eq, l, r) u from ends =
      let (q, k, is) = given (field or index inner) (λ p. found ++ p ∷ []) d v1 b m l in
      let (last, some) = part_ends d v1 q m k in
      let here : end_of (u ++ v1) ≡ end_of_parts from b =
      end_behind u v1 some ∙ sym last ∙ sym (end_of_parts_last from found q)
      ∙ ap (end_of_parts from) (sym is) in
      ap (λ (z : Word). end_of (u ++ z)) eq ∙ ap end_of (sym (append_assoc u v1 v2))
      ∙ times_end n b m v2 ps e r (u ++ v1) from here

  -- ---- paths that begin with a name

  -- a name, its parts, and the path of them
  pub record NamedPath (d : ℕ) (w : Word) (target : Path) (e : ℕ) : Type 0 where
    pub first : Word
    pub rest : Word
    pub name : Identifier
    pub behind : ℕ
    pub found : List Part
    pub whole : w ≡ first ++ rest
    pub named : identifier d first name behind
    pub parts : parts inner behind rest found e
    pub made : target ≡ path_from name found

  path_made : (d : ℕ) (u v : Word) (name : Identifier) (m : ℕ) (ps : List Part) (e : ℕ)
      → identifier d u name m → parts inner m v ps e
      → make_path (start_of (u ++ v)) (end_of (u ++ v)) (root.Name name, ps) ≡ path_from name ps
  path_made d u v name m ps e i (n, l) =
      let starts : start_of (u ++ v) ≡ name.node.start = start_before u v (name_long d u name m i)
      ∙ name_start d u name m i in
      let ends : end_of (u ++ v) ≡ end_of_parts name.node.end ps = times_end n [] m v ps e l u
      name.node.end (name_end d u name m i) in
      rw (starts, ends) refl

  path_to : (d : ℕ) (w : Word) (target : Path) (e : ℕ) → NamedPath d w target e
      → path inner d w target e
  path_to d w target e h = (
    (root.Name h.name, h.found),
    (
      h.first,
      h.rest,
      root.Name h.name,
      h.behind,
      h.whole,
      inl (gives identifier root.Name d h.first h.name h.behind h.named),
      gives (parts inner) (λ ps. (root.Name h.name, ps)) h.behind h.rest h.found e h.parts,
    ),
    h.made ∙ sym (path_made d h.first h.rest h.name h.behind h.found e h.named h.parts)
        ∙ ap (λ (z : Word). make_path (start_of z) (end_of z) (root.Name h.name, h.found))
        (sym h.whole),
  )

  located_to : SubRule (located inner) (path inner)
  located_to = record {
    to = λ d w target e (y, (u, v, a, m, eq, l, r), made).
        (y, (u, v, root.Address a, m, eq, inr (gives address root.Address d u a m l), r), made);
  }

  -- a path begins with an address, or with a name
  path_from_either : (d : ℕ) (w : Word) (target : Path) (e : ℕ) → path inner d w target e
      → located inner d w target e ⊎ NamedPath d w target e
  path_from_either d w target e (y, (u, v, r, m, eq, inl l, k), made) =
      let (name, i, is) = given identifier root.Name d u r m l in
      let (ps, found, same) = given (parts inner) (λ (ps : List Part). (r, ps)) m v y e k in
      inr (record {
        first = u;
        rest = v;
        name = name;
        behind = m;
        found = ps;
        whole = eq;
        named = i;
        parts = found;
        made = made ∙ ap (make_path (start_of w) (end_of w)) (same ∙ ap (λ (z : Root). (z, ps)) is)
            ∙ ap (λ (z : Word). make_path (start_of z) (end_of z) (root.Name name, ps)) eq
            ∙ path_made d u v name m ps e i found;
      })
  path_from_either d w target e (y, (u, v, r, m, eq, inr l, k), made) =
      let (a, i, is) = given address root.Address d u r m l in
      inl (
        y,
        (
          u,
          v,
          a,
          m,
          eq,
          i,
          subst (λ (z : Root). (parts inner >>= λ ps. give (z, ps)) m v y e)
              is k,
        ),
        made,
      )

-- ---- assignments

-- ":=" expr ";", and a value of what stands before it
abbrev assigned : Path → Rule (Path × Expr)
assigned target =
    token k.Becomes >>= λ _. expression >>= λ x. token k.Semicolon >>= λ _. give (target, x)

-- a value of the byte after it
abbrev assigned_from : Identifier → Path → Rule Stmt
assigned_from name target = token k.Becomes >>= λ _. expression >>= λ x. token k.Semicolon
    >>= λ l. give (assign_from name target x l.end)

-- the value behind the path, and where the word ends
assigned_to : (name : Identifier) (target : Path) (m : ℕ) (v : Word) (s : Stmt) (e : ℕ)
    → assigned_from name target m v s e
    → (x : Expr) × assigned target m v (target, x) e × (s ≡ assign_from name target x (end_of v))
    × (0 < length v)
assigned_to name target m v s e (b, v1, t, m1, eq, becomes, (w1, v2, x, m2, eq2, l, semi)) =
    let (last, is, some) = last_to k.Semicolon (assign_from name target x) (target, x) m2 v2 e s
    semi in
    let long = long_behind w1 v2 some in
    let ends : end_of v ≡ end_of v2 = ap end_of eq
    ∙ end_behind b v1 (subst (λ (z : Word). 0 < length z) (sym eq2) long) ∙ ap end_of eq2
    ∙ end_behind w1 v2 some in (
      x,
      (b, v1, t, m1, eq, becomes, (w1, v2, x, m2, eq2, l, last)),
      is ∙ ap (assign_from name target x) (sym ends),
      subst (λ (z : Word). 0 < length z) (sym eq)
          (long_behind b v1 (subst (λ (z : Word). 0 < length z) (sym eq2) long)),
    )

assigned_back : (name : Identifier) (target : Path) (m : ℕ) (v : Word) (y : Path × Expr) (e : ℕ)
    → assigned target m v y e
    → assigned_from name target m v (assign_from name target y.1 (end_of v)) e × (y.0 ≡ target)
    × (0 < length v)
assigned_back name target m v y e (b, v1, t, m1, eq, becomes, (w1, v2, x, m2, eq2, l, semi)) =
    let (last, is, some) = last_from k.Semicolon (assign_from name target x) (target, x) m2 v2 e y
    semi in
    let long = long_behind w1 v2 some in
    let ends : end_of v ≡ end_of v2 = ap end_of eq
    ∙ end_behind b v1 (subst (λ (z : Word). 0 < length z) (sym eq2) long) ∙ ap end_of eq2
    ∙ end_behind w1 v2 some in
    let value : assign_from name target x (end_of v2) ≡ assign_from name target y.1 (end_of v) =
    rw (ends, is) refl in (
      (
        b,
        v1,
        t,
        m1,
        eq,
        becomes,
        (
          w1,
          v2,
          x,
          m2,
          eq2,
          l,
          subst
              (λ (s : Stmt). (token k.Semicolon >>= λ l. give (assign_from name target x l.end)) m2 v2 s
              e) value last,
        ),
      ),
      ap (λ (z : Path × Expr). z.0) is,
      subst (λ (z : Word). 0 < length z) (sym eq)
          (long_behind b v1 (subst (λ (z : Word). 0 < length z) (sym eq2) long)),
    )

assign_to : (name : Identifier) (d : ℕ) (w u v : Word) (m : ℕ) (s : Stmt) (e : ℕ) → w ≡ u ++ v
    → identifier d u name m
    → reading.assign_behind name m v s e → g.assign d w s e
assign_to name d w u v m s e eq i (p, v1, ps, m1, eq1, found, k) =
    let target = path_from name ps in
    let (x, behind, is, some) = assigned_to name target m1 v1 s e k in
    let starts : start_of w ≡ name.node.start = ap start_of eq
    ∙ start_before u v (name_long d u name m i) ∙ name_start d u name m i in
    let ends : end_of w ≡ end_of v1 = ap end_of (within_last w u v p v1 eq eq1)
    ∙ end_behind (u ++ p) v1 some in
    let named : NamedPath expression d (u ++ p) target m1 = record {
      first = u;
      rest = p;
      name = name;
      behind =
          m;
      found = ps;
      whole = refl;
      named = i;
      parts = found;
      made = refl;
    } in (
      (target, x),
      (
        u ++ p,
        v1,
        target,
        m1,
        within_last w u v p v1 eq eq1,
        path_to expression d (u ++ p) target
            m1 named,
        behind,
      ),
      is ∙ ap (λ (n : ℕ). make_assign n (end_of v1) (target, x)) (sym starts)
          ∙ ap (λ (n : ℕ). make_assign (start_of w) n (target, x)) (sym ends),
    )

assign_back : SubRule g.assign (reading.named or reading.assign)
assign_back = record {
  to = λ d w s e (y, (p, v, target, m, eq, l, k), made). by d w s e y p v
      target m eq k made (path_from_either expression d p target m l);
}
  where
    by : (d : ℕ) (w : Word) (s : Stmt) (e : ℕ) (y : Path × Expr) (p v : Word) (target : Path)
        (m : ℕ) → w ≡ p ++ v → assigned target m v y e
        → s ≡ make_assign (start_of w) (end_of w) y
        → located expression d p target m ⊎ NamedPath expression d p target m
        → (reading.named or reading.assign) d w s e
    by d w s e y p v target m eq k made (inl l) = inr (y, (p, v, target, m, eq, l, k), made)
    by d w s e y p v target m eq k made (inr h) =
        let same : target ≡ path_from h.name h.found = h.made in
        let (behind, is, some) = assigned_back h.name (path_from h.name h.found) m v y e
        (subst (λ (z : Path). assigned z m v y e) same k) in
        let split : w ≡ h.first ++ (h.rest ++ v) = within_first w p v h.first h.rest eq h.whole in
        let starts : start_of w ≡ h.name.node.start = ap start_of split
        ∙ start_before h.first (h.rest ++ v) (name_long d h.first h.name h.behind h.named)
        ∙ name_start d h.first h.name h.behind h.named in
        let ends : end_of w ≡ end_of v = ap end_of eq ∙ end_behind p v some in
        let value : assign_from h.name (path_from h.name h.found) y.1 (end_of v) ≡ s =
        rw (made, starts, ends, is) refl in
        inl (
          h.first,
          h.rest ++ v,
          h.name,
          h.behind,
          split,
          h.named,
          inr (
            h.rest,
            v,
            h.found,
            m,
            refl,
            h.parts,
            subst (λ (z : Stmt). assigned_from h.name
                (path_from h.name h.found) m v z e) value behind,
          ),
        )

-- ---- calls

call_to : (name : Identifier) (d : ℕ) (w u v : Word) (m : ℕ) (s : Stmt) (e : ℕ) → w ≡ u ++ v
    → identifier d u name m
    → reading.call_behind name m v s e → g.call d w s e
call_to name d w u v m s e eq i (p, v1, found, m1, eq1, l, semi) =
    let (last, is, some) = last_to k.Semicolon (call_from name found) (name, found) m1 v1 e s
    semi in
    let starts : start_of w ≡ name.node.start = ap start_of eq
    ∙ start_before u v (name_long d u name m i) ∙ name_start d u name m i in
    let ends : end_of w ≡ end_of v1 = ap end_of (within_last w u v p v1 eq eq1)
    ∙ end_behind (u ++ p) v1 some in (
      (name, found),
      (u, v, name, m, eq, i, (p, v1, found, m1, eq1, l, last)),
      rw (is, starts, ends)
          refl,
    )

call_back : SubRule g.call reading.named
call_back = record {
  to = λ d w s e (y, (u, v, name, m, eq, i, (p, v1, found, m1, eq1, l, semi)), made).
      let (last, is, some) = last_from k.Semicolon (call_from name found) (name, found) m1 v1 e y
      semi in
      let starts : start_of w ≡ name.node.start = ap start_of eq
      ∙ start_before u v (name_long d u name m i) ∙ name_start d u name m i in
      let ends : end_of w ≡ end_of v1 = ap end_of (within_last w u v p v1 eq eq1)
      ∙ end_behind (u ++ p) v1 some in
      let value : call_from name found (end_of v1) ≡ s = rw (made, is, starts, ends) refl in (
        u,
        v,
        name,
        m,
        eq,
        i,
        inl (
          p,
          v1,
          found,
          m1,
          eq1,
          l,
          subst
              (λ (z : Stmt). (token k.Semicolon >>= λ l. give (call_from name found l.end)) m1 v1 z e)
              value last,
        ),
      );
}

-- ---- both

pub named_to : SubRule reading.named (g.assign or g.call)
named_to = record {
  to = λ d w s e (u, v, name, m, eq, i, either). elim either [
    | inl k ↦ inr (call_to name d w u v m s e eq i k)
    | inr k ↦ inl (assign_to name d w u v m s e eq
        i k)
  ];
}

pub located_assign_to : SubRule reading.assign g.assign
located_assign_to = sub_node make_assign (sub_before (located_to expression))

pub named_back : SubRule (g.assign or g.call) (reading.named or reading.assign)
named_back = record {
  to = λ d w s e either. elim either [
    | inl l ↦ assign_back.to d w s e l
    | inr
        l ↦ inl (call_back.to d w s e l)
  ];
}
