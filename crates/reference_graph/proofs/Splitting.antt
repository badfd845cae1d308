-- What is kept while a group is split.
use Rattle.std.proofs.Common.{◌≡◌, ◌≢◌, ℕ, zero, suc, ◌+◌, ◌<◌, ◌≤◌, ◌==◌, Bool, cond, Some, List, [], ◌∷◌, ◌++◌, length, get_or, take, arith, refl, sym, subst, ap, ◌∙◌, inl, inr, ⊎_elim, eq-eqb}
use Rattle.std.proofs.lemmas.Bool.{ne_eqb}
use Rattle.std.specs.Prelude.{slice_get, slice_set}
use Rattle.std.specs.List.{Contains}
use Rattle.std.proofs.lemmas.List.{length-set, length_push, take_more}
use Rattle.std.proofs.lemmas.List.Elements.{Contains-append_left, Contains-append_right, Contains-push, Contains-push_cases}
use Rattle.std.proofs.lemmas.Option.{slice_get_within, slice_get-get_or, get_or_from_slice_get}
use Rattle.std.proofs.lemmas.List.Sums.{sum_by-set}
use Rattle.reference_graph.specs.Graph.{Rows, Edge, targets}
use Rattle.reference_graph.specs.Reach.{Reaches}
use Rattle.reference_graph.specs.Reach.Reaches.{edge}
use Rattle.reference_graph.specs.steps.Groups.{IsFrom, IsMoved, IsSplit, IsSpread, count_in}
use Rattle.reference_graph.proofs.Places.{same_or_not, one_value, contained, place_of, push_left, push_cases, set_here, set_else}
use Rattle.reference_graph.proofs.Ways.{then_edge}

-- no node is in two groups
two : (groups : List ℕ) (x a b : ℕ) → a ≢ b → slice_get groups x ≡ Some a → slice_get groups x ≡ Some b → ⊥
two groups x a b ne p q = ne (one_value groups x a b p q)

-- what was moved stays
stays : (group own : ℕ) (before after : List ℕ) (reason : ℕ → Type 0) (x : ℕ) → group ≢ own → IsMoved group own before after reason x
    → slice_get before x ≡ Some own → slice_get after x ≡ Some own
stays group own before after reason x ne m e = ⊎_elim
    (λ (s : slice_get after x ≡ slice_get before x). s ∙ e)
    (λ (r : (slice_get before x ≡ Some group) × (slice_get after x ≡ Some own) × reason x). r.1)
    m

-- ---- one node, and nodes in turn

pub spread_none : (group own : ℕ) (groups found : List ℕ) → group ≢ own → IsSpread [] group own groups found groups found
spread_none group own groups found ne = record {
  nodes = refl;
  moved = λ x. inl refl;
  reached = λ x c. absurd (omega (arith, c.1));
  listed = λ x p q. absurd (two groups x group own ne p q);
  kept = λ i x e. e;
  added = λ i x e. inl e;
  counted = refl;
  longer = omega arith;
}

only : (node x : ℕ) → Contains (node ∷ []) x → node ≡ x
only node x (zero, l, e) = e
only node x (suc k, l, e) = absurd (omega arith)

pub spread_stays : (node group own : ℕ) (groups found : List ℕ) → group ≢ own → slice_get groups node ≢ Some group
    → IsSpread (node ∷ []) group own groups found groups found
spread_stays node group own groups found ne out = record {
  nodes = refl;
  moved = λ x. inl refl;
  reached = λ x c e. absurd (out (subst (λ (n : ℕ). slice_get groups n ≡ Some group) (sym (only node x c)) e));
  listed = λ x p q. absurd (two groups x group own ne p q);
  kept = λ i x e. e;
  added = λ i x e. inl e;
  counted = refl;
  longer = omega arith;
}

abbrev one_if : ℕ → ℕ → ℕ
one_if group x = cond (x == group) 1 0

counted_set : (group own : ℕ) (groups : List ℕ) (node : ℕ) → group ≢ own → slice_get groups node ≡ Some group
    → suc (count_in group (slice_set groups node own)) ≡ count_in group groups
counted_set group own groups node ne e =
    let l : node < length groups = slice_get_within groups node group e in
    let v : get_or groups node 0 ≡ group = get_or_from_slice_get groups node group 0 e in
    let sum : count_in group (slice_set groups node own) + one_if group (get_or groups node 0) ≡ count_in group groups + one_if group own =
    sum_by-set (one_if group) groups node own 0 l in
    let yes : one_if group (get_or groups node 0) ≡ 1 = ap (one_if group) v ∙ ap (λ (b : Bool). cond b 1 0) (eq-eqb group group refl) in
    let no : one_if group own ≡ 0 = ap (λ (b : Bool). cond b 1 0) (ne_eqb own group (λ h. ne (sym h))) in
    omega arith

pub spread_moves : (node group own : ℕ) (groups found groups' found' : List ℕ) → group ≢ own → slice_get groups node ≡ Some group
    → groups' ≡ slice_set groups node own → found' ≡ found ++ node ∷ [] → IsSpread (node ∷ []) group own groups found groups' found'
spread_moves node group own groups found groups' found' ne e eg ef = rw (eg, ef) (record {
  nodes = length-set groups node own;
  moved = λ x. ⊎_elim
      (λ (s : x ≡ node). inr (
        subst (λ (n : ℕ). slice_get groups n ≡ Some group) (sym s) e,
        subst (λ (n : ℕ). slice_get (slice_set groups node own) n ≡ Some own) (sym s) here,
        (0, omega arith, sym s),
      ))
      (λ (d : x ≢ node). inl (set_else groups node x own d))
      (same_or_not x node);
  reached = λ x c p. subst (λ (n : ℕ). slice_get (slice_set groups node own) n ≡ Some own) (only node x c) here;
  listed = λ x p q. ⊎_elim
      (λ (s : x ≡ node). subst (λ (n : ℕ). Contains (found ++ node ∷ []) n) (sym s) (Contains-push found node))
      (λ (d : x ≢ node). absurd (two groups x group own ne p (sym (set_else groups node x own d) ∙ q)))
      (same_or_not x node);
  kept = λ i x p. push_left found node i x p;
  added = λ i x p. ⊎_elim
      (λ (q : slice_get found i ≡ Some x). inl q)
      (λ (q : (i ≡ length found) × (node ≡ x)). inr (
        subst (λ (n : ℕ). slice_get groups n ≡ Some group) q.1 e,
        subst (λ (n : ℕ). slice_get (slice_set groups node own) n ≡ Some own) q.1 here,
      ))
      (push_cases found node i x p);
  counted = omega (arith, length_push found node, counted_set group own groups node ne e);
  longer = omega (arith, length_push found node);
})
  where
    here : slice_get (slice_set groups node own) node ≡ Some own
    here = set_here groups node group own e

pub spread_more : (row : List ℕ) (node group own : ℕ) (g0 f0 g1 f1 g2 f2 : List ℕ) → group ≢ own → IsSpread row group own g0 f0 g1 f1
    → IsSpread (node ∷ []) group own g1 f1 g2 f2 → IsSpread (row ++ node ∷ []) group own g0 f0 g2 f2
spread_more row node group own g0 f0 g1 f1 g2 f2 ne p q = record {
  nodes = q.nodes ∙ p.nodes;
  moved = λ x. ⊎_elim
      (λ (e : slice_get g1 x ≡ slice_get g0 x). ⊎_elim
      (λ (h : slice_get g2 x ≡ slice_get g1 x). inl (h ∙ e))
      (λ (h : (slice_get g1 x ≡ Some group) × (slice_get g2 x ≡ Some own) × Contains (node ∷ []) x).
      inr (sym e ∙ h.0, h.1, Contains-append_right row (node ∷ []) x h.2))
      (q.moved x))
      (λ (e : (slice_get g0 x ≡ Some group) × (slice_get g1 x ≡ Some own) × Contains row x).
      inr (e.0, stays group own g1 g2 (Contains (node ∷ [])) x ne (q.moved x) e.1, Contains-append_left row (node ∷ []) x e.2))
      (p.moved x);
  reached = λ x c e. ⊎_elim
      (λ (d : Contains row x). stays group own g1 g2 (Contains (node ∷ [])) x ne (q.moved x) (p.reached x d e))
      (λ (s : node ≡ x). ⊎_elim
      (λ (h : slice_get g1 x ≡ slice_get g0 x). q.reached x (0, omega arith, s) (h ∙ e))
      (λ (h : (slice_get g0 x ≡ Some group) × (slice_get g1 x ≡ Some own) × Contains row x).
      stays group own g1 g2 (Contains (node ∷ [])) x ne (q.moved x) h.1)
      (p.moved x))
      (Contains-push_cases row node x c);
  listed = λ x e h. ⊎_elim
      (λ (k : slice_get g1 x ≡ slice_get g0 x). q.listed x (k ∙ e) h)
      (λ (k : (slice_get g0 x ≡ Some group) × (slice_get g1 x ≡ Some own) × Contains row x).
      let c = place_of f1 x (p.listed x e k.1) in contained f2 c.0 x (q.kept c.0 x c.1))
      (p.moved x);
  kept = λ i x e. q.kept i x (p.kept i x e);
  added = λ i x e. ⊎_elim
      (λ (h : slice_get f1 i ≡ Some x). ⊎_elim
      (λ (k : slice_get f0 i ≡ Some x). inl k)
      (λ (k : (slice_get g0 x ≡ Some group) × (slice_get g1 x ≡ Some own)).
      inr (k.0, stays group own g1 g2 (Contains (node ∷ [])) x ne (q.moved x) k.1))
      (p.added i x h))
      (λ (h : (slice_get g1 x ≡ Some group) × (slice_get g2 x ≡ Some own)). ⊎_elim
      (λ (k : slice_get g1 x ≡ slice_get g0 x). inr (sym k ∙ h.0, h.1))
      (λ (k : (slice_get g0 x ≡ Some group) × (slice_get g1 x ≡ Some own) × Contains row x). absurd (two g1 x group own ne h.0 k.1))
      (p.moved x))
      (q.added i x e);
  counted = omega (arith, p.counted, q.counted);
  longer = omega (arith, p.longer, q.longer);
}

pub spread_next : (row : List ℕ) (i group own : ℕ) (g0 f0 g1 f1 g2 f2 : List ℕ) → i < length row → group ≢ own → IsSpread (take i row) group own g0 f0 g1 f1
    → IsSpread (get_or row i 0 ∷ []) group own g1 f1 g2 f2 → IsSpread (take (i + 1) row) group own g0 f0 g2 f2
spread_next row i group own g0 f0 g1 f1 g2 f2 l ne p q =
    rw (take_more row i 0 l) (spread_more (take i row) (get_or row i 0) group own g0 f0 g1 f1 g2 f2 ne p q)

-- ---- the search of a group, as far as it has come

-- the first `at` nodes that were found have only targets that are found or not in the group
pub record IsSplitting (g : Rows) (root group own : ℕ) (before groups found : List ℕ) (at : ℕ) : Type 0 where
  pub nodes : length groups ≡ length before
  pub rooted : slice_get groups root ≡ Some own
  pub moved : (x : ℕ) → IsMoved group own before groups (IsFrom g root) x
  pub listed : (x : ℕ) → slice_get before x ≡ Some group → slice_get groups x ≡ Some own → Contains found x
  pub found_moved : (x : ℕ) → Contains found x → (slice_get before x ≡ Some group) × (slice_get groups x ≡ Some own)
  pub closed : (i x y : ℕ) → i < at → slice_get found i ≡ Some x → Edge g x y → slice_get before y ≡ Some group → slice_get groups y ≡ Some own
  pub short : at ≤ length found

pub split_start : (g : Rows) (root group own : ℕ) (before groups found none : List ℕ) → none ≡ [] → slice_get before root ≡ Some group
    → IsSpread (root ∷ []) group own before none groups found → IsSplitting g root group own before groups found 0
split_start g root group own before groups found none en e p = record {
  nodes = p.nodes;
  rooted = p.reached root (0, omega arith, refl) e;
  moved = λ x. ⊎_elim
      (λ (s : slice_get groups x ≡ slice_get before x). inl s)
      (λ (r : (slice_get before x ≡ Some group) × (slice_get groups x ≡ Some own) × Contains (root ∷ []) x). inr (r.0, r.1, inl (only root x r.2)))
      (p.moved x);
  listed = p.listed;
  found_moved = λ x c. let i = place_of found x c in ⊎_elim
      (λ (h : slice_get none i.0 ≡ Some x). absurd (let k : slice_get [] i.0 ≡ Some x = subst (λ (xs : List ℕ). slice_get xs i.0 ≡ Some x) en h in cc))
      (λ (h : (slice_get before x ≡ Some group) × (slice_get groups x ≡ Some own)). h)
      (p.added i.0 x i.1);
  closed = λ i x y l. absurd (omega arith);
  short = omega arith;
}

pub split_more : (g : Rows) (root group own : ℕ) (before groups found groups' found' : List ℕ) (at : ℕ) → group ≢ own → length before ≡ length g
    → at < length found → IsSplitting g root group own before groups found at
    → IsSpread (targets g (get_or found at 0)) group own groups found groups' found' → IsSplitting g root group own before groups' found' (at + 1)
split_more g root group own before groups found groups' found' at ne en l s p = record {
  nodes = p.nodes ∙ s.nodes;
  rooted = kept root s.rooted;
  moved = λ x. ⊎_elim
      (λ (h : slice_get groups x ≡ slice_get before x). ⊎_elim
      (λ (k : slice_get groups' x ≡ slice_get groups x). inl (k ∙ h))
      (λ (k : (slice_get groups x ≡ Some group) × (slice_get groups' x ≡ Some own) × Contains (targets g x0) x).
      inr (sym h ∙ k.0, k.1, further x (omega (arith, s.nodes, slice_get_within groups x group k.0), k.2)))
      (p.moved x))
      (λ (h : (slice_get before x ≡ Some group) × (slice_get groups x ≡ Some own) × IsFrom g root x). inr (h.0, kept x h.1, h.2))
      (s.moved x);
  listed = λ x e h. ⊎_elim
      (λ (k : slice_get groups x ≡ slice_get before x). p.listed x (k ∙ e) h)
      (λ (k : (slice_get before x ≡ Some group) × (slice_get groups x ≡ Some own) × IsFrom g root x).
      let c = place_of found x (s.listed x e k.1) in contained found' c.0 x (p.kept c.0 x c.1))
      (s.moved x);
  found_moved = λ x c. let i = place_of found' x c in ⊎_elim
      (λ (h : slice_get found i.0 ≡ Some x). let m = s.found_moved x (contained found i.0 x h) in (m.0, kept x m.1))
      (λ (h : (slice_get groups x ≡ Some group) × (slice_get groups' x ≡ Some own)). ⊎_elim
      (λ (k : slice_get groups x ≡ slice_get before x). (sym k ∙ h.0, h.1))
      (λ (k : (slice_get before x ≡ Some group) × (slice_get groups x ≡ Some own) × IsFrom g root x). absurd (two groups x group own ne h.0 k.1))
      (s.moved x))
      (p.added i.0 x i.1);
  closed = λ i x y d f e b. ⊎_elim
      (λ (k : i ≡ at).
      let first : x0 ≡ x = one_value found' at x0 x (p.kept at x0 here) (subst (λ (n : ℕ). slice_get found' n ≡ Some x) k f) in
      next y (subst (λ (n : ℕ). Edge g n y) (sym first) e) b)
      (λ (d' : i ≢ at).
      let old : slice_get found i ≡ Some (get_or found i 0) = slice_get-get_or found i 0 (omega arith) in
      let same : get_or found i 0 ≡ x = one_value found' i (get_or found i 0) x (p.kept i (get_or found i 0) old) f in
      kept y (s.closed i x y (omega arith) (old ∙ ap (λ (n : ℕ). Some n) same) e b))
      (same_or_not i at);
  short = omega (arith, p.longer);
}
  where
    x0 : ℕ
    x0 = get_or found at 0

    here : slice_get found at ≡ Some x0
    here = slice_get-get_or found at 0 l

    kept : (x : ℕ) → slice_get groups x ≡ Some own → slice_get groups' x ≡ Some own
    kept x e = stays group own groups groups' (Contains (targets g x0)) x ne (p.moved x) e

    from : IsFrom g root x0
    from =
        let m = s.found_moved x0 (contained found at x0 here) in
        ⊎_elim
        (λ (h : slice_get groups x0 ≡ slice_get before x0). absurd (two groups x0 group own ne (h ∙ m.0) m.1))
        (λ (h : (slice_get before x0 ≡ Some group) × (slice_get groups x0 ≡ Some own) × IsFrom g root x0). h.2)
        (s.moved x0)

    further : (x : ℕ) → Edge g x0 x → IsFrom g root x
    further x e = ⊎_elim
        (λ (h : root ≡ x0). inr (subst (λ (n : ℕ). Reaches g n x) (sym h) (edge e)))
        (λ (h : Reaches g root x0). inr (then_edge g root x0 x h e))
        from

    next : (y : ℕ) → Edge g x0 y → slice_get before y ≡ Some group → slice_get groups' y ≡ Some own
    next y e b = ⊎_elim
        (λ (h : slice_get groups y ≡ slice_get before y). p.reached y e.1 (h ∙ b))
        (λ (h : (slice_get before y ≡ Some group) × (slice_get groups y ≡ Some own) × IsFrom g root y). kept y h.1)
        (s.moved y)

pub split_end : (g : Rows) (root group own : ℕ) (before groups found : List ℕ) (at : ℕ) → length found ≤ at → IsSplitting g root group own before groups found at
    → IsSplit g root group own before groups
split_end g root group own before groups found at l s = record {
  nodes = s.nodes;
  rooted = s.rooted;
  moved = s.moved;
  closed = λ x y b a e h.
      let i = place_of found x (s.listed x b a) in
      s.closed i.0 x y (omega (arith, slice_get_within found i.0 x i.1)) i.1 e h;
}
