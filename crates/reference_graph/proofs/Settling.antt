-- Why the nodes that are split off are a component, and what is kept until each node is in one.
use Rattle.std.proofs.Common.{◌≡◌, ℕ, ◌+◌, ◌-◌, ◌*◌, ◌/◌, ◌<◌, ◌≤◌, Bool, Some, List, [], ◌∷◌, ◌++◌, length, get_or, replicate, arith, sym, subst, ap, ◌∙◌, inl, inr, ⊎_elim}
use Rattle.std.specs.Prelude.{◌⊎◌, slice_get}
use Rattle.std.specs.List.{Contains}
use Rattle.std.proofs.lemmas.List.{length_push, length-replicate}
use Rattle.std.proofs.lemmas.List.Elements.{Contains-append_left, Contains-push, Contains-push_cases}
use Rattle.std.proofs.lemmas.Option.{get_or_from_slice_get}
use Rattle.reference_graph.specs.Graph.{Rows, IsTransposed}
use Rattle.reference_graph.specs.Reach.{Reaches, AreMutual, AreComponents}
use Rattle.reference_graph.specs.Reach.Reaches.{edge, way}
use Rattle.reference_graph.specs.steps.Groups.{IsFrom, IsSplit, AreGroups, IsSettled}
use Rattle.reference_graph.specs.steps.DepthFirst.{IsSearched}
use Rattle.reference_graph.proofs.Places.{one_value, replicated, replicate_here}
use Rattle.reference_graph.proofs.Ways.{both, mutual_turned, mutual_both, mutual_transposed, transposed_back, turned, from_node, reaches_node}

-- mutual nodes are in one group
abbrev AreTogether : Rows → List ℕ → Type 0
AreTogether g groups = (a b : ℕ) → AreMutual g a b → slice_get groups a ≡ slice_get groups b

-- what was moved carries along what it reaches and is reached by
carried : (g : Rows) (root group own : ℕ) (before after : List ℕ) → IsSplit g root group own before after → AreTogether g before
    → (x y : ℕ) → Reaches g x y → Reaches g y x → slice_get before x ≡ Some group → slice_get after x ≡ Some own → slice_get after y ≡ Some own
carried g root group own before after s t x y (edge e) back p q = s.closed x y p q e (sym (t x y (inr (edge e, back))) ∙ p)
carried g root group own before after s t x y (way {b = b} e r) back p q =
    let near : slice_get before b ≡ Some group = sym (t x b (inr (edge e, both g b y x r back))) ∙ p in
    carried g root group own before after s t b y r (both g y x b back (edge e)) near (s.closed x b p q e near)

split_together : (g : Rows) (root group own : ℕ) (before after : List ℕ) → IsSplit g root group own before after → AreTogether g before → AreTogether g after
split_together g root group own before after s t a b m = ⊎_elim
    (λ (h : a ≡ b). ap (λ (n : ℕ). slice_get after n) h)
    (λ (r : Reaches g a b × Reaches g b a). ⊎_elim
    (λ (ea : slice_get after a ≡ slice_get before a). ⊎_elim
    (λ (eb : slice_get after b ≡ slice_get before b). ea ∙ t a b m ∙ sym eb)
    (λ (eb : (slice_get before b ≡ Some group) × (slice_get after b ≡ Some own) × IsFrom g root b).
    carried g root group own before after s t b a r.1 r.0 eb.0 eb.1 ∙ sym eb.1)
    (s.moved b))
    (λ (ea : (slice_get before a ≡ Some group) × (slice_get after a ≡ Some own) × IsFrom g root a).
    ea.1 ∙ sym (carried g root group own before after s t a b r.0 r.1 ea.0 ea.1))
    (s.moved a))
    m

-- ---- a node is settled

pub settled : (g t : Rows) (node count v k : ℕ) (g0 g1 g2 : List ℕ) → IsTransposed g t → AreGroups g g0 count → slice_get g0 node ≡ Some v → v ≡ 2 * k + 1
    → IsSplit t node v (2 * count + 3) g0 g1 → IsSplit g node (2 * count + 3) (2 * count + 2) g1 g2 → IsSettled g node g0 count g2 (count + 1)
settled g t node count v k g0 g1 g2 w o e odd s1 s2 = record {
  groups = record {
    nodes = s2.nodes ∙ s1.nodes ∙ o.nodes;
    small = λ a u h. small a u h;
    together = split_together g node (2 * count + 3) (2 * count + 2) g1 g2 s2
        (λ a b m. split_together t node v (2 * count + 3) g0 g1 s1 (λ c d n. o.together c d (mutual_transposed g t c d w n)) a b
        (mutual_transposed t g a b (transposed_back g t w) m));
    whole = λ a b j p q. ⊎_elim
        (λ (p' : slice_get g0 a ≡ Some (2 * j)). ⊎_elim
        (λ (q' : slice_get g0 b ≡ Some (2 * j)). o.whole a b j p' q')
        (λ (q' : (j ≡ count + 1) × AreMutual g node b). absurd (omega (arith, (o.small a (2 * j) p').1, q'.0)))
        (origin b j q))
        (λ (p' : (j ≡ count + 1) × AreMutual g node a). ⊎_elim
        (λ (q' : slice_get g0 b ≡ Some (2 * j)). absurd (omega (arith, (o.small b (2 * j) q').1, p'.0)))
        (λ (q' : (j ≡ count + 1) × AreMutual g node b). mutual_both g a node b (mutual_turned g node a p'.1) q'.1)
        (origin b j q))
        (origin a j p);
  };
  settled = let even : 2 * count + 2 ≡ 2 * (count + 1) = omega arith in (count + 1, s2.rooted ∙ ap (λ (n : ℕ). Some n) even);
  kept = λ a j p. ⊎_elim
      (λ (h : slice_get g1 a ≡ slice_get g0 a). ⊎_elim
      (λ (i : slice_get g2 a ≡ slice_get g1 a). i ∙ h ∙ p)
      (λ (i : (slice_get g1 a ≡ Some (2 * count + 3)) × (slice_get g2 a ≡ Some (2 * count + 2)) × IsFrom g node a).
      absurd (let n : 2 * count + 3 ≡ 2 * j = one_value g1 a (2 * count + 3) (2 * j) i.0 (h ∙ p) in omega arith))
      (s2.moved a))
      (λ (h : (slice_get g0 a ≡ Some v) × (slice_get g1 a ≡ Some (2 * count + 3)) × IsFrom t node a).
      absurd (let n : v ≡ 2 * j = one_value g0 a v (2 * j) h.0 p in omega arith))
      (s1.moved a);
  few = omega arith;
}
  where
    small : (a u : ℕ) → slice_get g2 a ≡ Some u → (1 ≤ u) × (u ≤ 2 * (count + 1) + 1)
    small a u h = ⊎_elim
        (λ (i : slice_get g2 a ≡ slice_get g1 a). ⊎_elim
        (λ (j : slice_get g1 a ≡ slice_get g0 a). let r = o.small a u (sym j ∙ sym i ∙ h) in (r.0, omega (arith, r.1)))
        (λ (j : (slice_get g0 a ≡ Some v) × (slice_get g1 a ≡ Some (2 * count + 3)) × IsFrom t node a).
        let n : 2 * count + 3 ≡ u = one_value g1 a (2 * count + 3) u j.1 (sym i ∙ h) in (omega arith, omega arith))
        (s1.moved a))
        (λ (i : (slice_get g1 a ≡ Some (2 * count + 3)) × (slice_get g2 a ≡ Some (2 * count + 2)) × IsFrom g node a).
        let n : 2 * count + 2 ≡ u = one_value g2 a (2 * count + 2) u i.1 h in (omega arith, omega arith))
        (s2.moved a)

    found : (a : ℕ) → slice_get g1 a ≡ Some (2 * count + 3) → IsFrom g node a → AreMutual g node a
    found a h r = ⊎_elim
        (λ (i : slice_get g1 a ≡ slice_get g0 a). absurd (omega (arith, (o.small a (2 * count + 3) (sym i ∙ h)).1)))
        (λ (i : (slice_get g0 a ≡ Some v) × (slice_get g1 a ≡ Some (2 * count + 3)) × IsFrom t node a). ⊎_elim
        (λ (s : node ≡ a). inl s)
        (λ (p : Reaches g node a). ⊎_elim
        (λ (s : node ≡ a). inl s)
        (λ (q : Reaches t node a). inr (p, turned g t node a w q))
        i.2)
        r)
        (s1.moved a)

    origin : (a j : ℕ) → slice_get g2 a ≡ Some (2 * j) → (slice_get g0 a ≡ Some (2 * j)) ⊎ ((j ≡ count + 1) × AreMutual g node a)
    origin a j h = ⊎_elim
        (λ (i : slice_get g2 a ≡ slice_get g1 a). ⊎_elim
        (λ (l : slice_get g1 a ≡ slice_get g0 a). inl (sym l ∙ sym i ∙ h))
        (λ (l : (slice_get g0 a ≡ Some v) × (slice_get g1 a ≡ Some (2 * count + 3)) × IsFrom t node a).
        absurd (let n : 2 * count + 3 ≡ 2 * j = one_value g1 a (2 * count + 3) (2 * j) l.1 (sym i ∙ h) in omega arith))
        (s1.moved a))
        (λ (i : (slice_get g1 a ≡ Some (2 * count + 3)) × (slice_get g2 a ≡ Some (2 * count + 2)) × IsFrom g node a).
        let n : 2 * count + 2 ≡ 2 * j = one_value g2 a (2 * count + 2) (2 * j) i.1 h in inr (omega arith, found a i.0 i.2))
        (s2.moved a)

pub settled_already : (g : Rows) (node count v : ℕ) (groups : List ℕ) → AreGroups g groups count → slice_get groups node ≡ Some v → (k : ℕ) → v ≡ 2 * k
    → IsSettled g node groups count groups count
settled_already g node count v groups o e k even = record {
  groups = o;
  settled = (k, e ∙ ap (λ (n : ℕ). Some n) even);
  kept = λ a j p. p;
  few = omega arith;
}

-- ---- until each node is settled

pub record IsNumbering (g : Rows) (left groups : List ℕ) (count : ℕ) : Type 0 where
  pub groups_are : AreGroups g groups count
  pub waiting : (a : ℕ) → a < length g → Contains left a ⊎ ((k : ℕ) × (slice_get groups a ≡ Some (2 * k)))
  pub nodes : (a : ℕ) → Contains left a → a < length g
  pub few : count + length left ≤ length g

groups_none : (g : Rows) → AreGroups g (replicate (length g) 1) 0
groups_none g = record {
  nodes = length-replicate (length g) 1;
  small = λ a v e. let n : v ≡ 1 = replicated (length g) a 1 v e in (omega arith, omega arith);
  together = λ a b m. ⊎_elim
      (λ (s : a ≡ b). ap (λ (n : ℕ). slice_get (replicate (length g) 1) n) s)
      (λ (r : Reaches g a b × Reaches g b a).
      replicate_here (length g) a 1 (reaches_node g a b r.0) ∙ sym (replicate_here (length g) b 1 (reaches_node g b a r.1)))
      m;
  whole = λ a b k p q. absurd (let n : 2 * k ≡ 1 = replicated (length g) a 1 (2 * k) p in omega arith);
}

pub numbering_start : (g : Rows) (left groups : List ℕ) (cyclic : Bool) → IsSearched g left cyclic → groups ≡ replicate (length g) 1 → IsNumbering g left groups 0
numbering_start g left groups cyclic s e = rw e (record {
  groups_are = groups_none g;
  waiting = λ a l. inl (s.all a l);
  nodes = s.nodes;
  few = omega (arith, s.few);
})

pub numbering_more : (g : Rows) (left left' before after : List ℕ) (node count count' : ℕ) → left ≡ left' ++ node ∷ [] → IsNumbering g left before count
    → IsSettled g node before count after count' → IsNumbering g left' after count'
numbering_more g left left' before after node count count' e n s = record {
  groups_are = s.groups;
  waiting = λ a l. ⊎_elim
      (λ (c : Contains left a). ⊎_elim
      (λ (d : Contains left' a). inl d)
      (λ (h : node ≡ a). inr (s.settled.0, subst (λ (x : ℕ). slice_get after x ≡ Some (2 * s.settled.0)) h s.settled.1))
      (Contains-push_cases left' node a (subst (λ (xs : List ℕ). Contains xs a) e c)))
      (λ (c : (k : ℕ) × (slice_get before a ≡ Some (2 * k))). inr (c.0, s.kept a c.0 c.1))
      (n.waiting a l);
  nodes = λ a c. n.nodes a (subst (λ (xs : List ℕ). Contains xs a) (sym e) (Contains-append_left left' (node ∷ []) a c));
  few = omega (arith, n.few, s.few, ap (λ (xs : List ℕ). length xs) e, length_push left' node);
}

pub next_node : (g : Rows) (left left' groups : List ℕ) (node count : ℕ) → left ≡ left' ++ node ∷ [] → IsNumbering g left groups count → node < length g
next_node g left left' groups node count e n = n.nodes node (subst (λ (xs : List ℕ). Contains xs node) (sym e) (Contains-push left' node))

-- ---- the numbers of components

pub numbers_of : (g : Rows) (left groups numbers : List ℕ) (count : ℕ) → IsNumbering g left groups count → length left ≡ 0 → length numbers ≡ length groups
    → ((a : ℕ) → a < length groups → get_or numbers a 0 ≡ get_or groups a 0 / 2 - 1) → AreComponents g numbers
numbers_of g left groups numbers count n none len each = record {
  nodes = len ∙ n.groups_are.nodes;
  below = λ a l. let v = number a l in let s = place a l in omega (arith, n.few, (n.groups_are.small a (2 * s.0) s.1).0, (n.groups_are.small a (2 * s.0) s.1).1);
  same = λ a b la lb. (λ e. alike a b la lb e, λ m. one a b la lb m);
  cycles = λ a b e.
      let la = from_node g a b e in (
        λ h. ⊎_elim
            (λ (s : a ≡ b). inl (sym s))
            (λ (r : Reaches g a b × Reaches g b a). inr r.1)
            (alike a b la e.0 h),
        λ h. ⊎_elim
            (λ (s : b ≡ a). ap (λ (k : ℕ). get_or numbers k 0) (sym s))
            (λ (r : Reaches g b a). one a b la e.0 (inr (edge e, r)))
            h,
      );
}
  where
    place : (a : ℕ) → a < length g → (k : ℕ) × (slice_get groups a ≡ Some (2 * k))
    place a l = ⊎_elim
        (λ (c : Contains left a). absurd (omega (arith, c.1)))
        (λ (s : (k : ℕ) × (slice_get groups a ≡ Some (2 * k))). s)
        (n.waiting a l)

    number : (a : ℕ) (l : a < length g) → get_or numbers a 0 ≡ (place a l).0 - 1
    number a l =
        let s = place a l in
        let v : get_or groups a 0 ≡ 2 * s.0 = get_or_from_slice_get groups a (2 * s.0) 0 s.1 in
        let half : get_or groups a 0 / 2 ≡ s.0 = omega arith in
        each a (omega (arith, n.groups_are.nodes)) ∙ ap (λ (k : ℕ). k - 1) half

    alike : (a b : ℕ) → a < length g → b < length g → get_or numbers a 0 ≡ get_or numbers b 0 → AreMutual g a b
    alike a b la lb e =
        let s = place a la in
        let t = place b lb in
        let same : s.0 ≡ t.0 =
        omega (arith, number a la, number b lb, (n.groups_are.small a (2 * s.0) s.1).0, (n.groups_are.small b (2 * t.0) t.1).0) in
        n.groups_are.whole a b s.0 s.1 (t.1 ∙ ap (λ (k : ℕ). Some (2 * k)) (sym same))

    one : (a b : ℕ) → a < length g → b < length g → AreMutual g a b → get_or numbers a 0 ≡ get_or numbers b 0
    one a b la lb m =
        let s = place a la in
        let t = place b lb in
        let same : 2 * s.0 ≡ 2 * t.0 = one_value groups a (2 * s.0) (2 * t.0) s.1 (n.groups_are.together a b m ∙ t.1) in
        omega (arith, number a la, number b lb)

pub groups_even : (g : Rows) (left groups : List ℕ) (count : ℕ) → IsNumbering g left groups count → length left ≡ 0
    → (a : ℕ) → a < length groups → 2 ≤ get_or groups a 0
groups_even g left groups count n none a l = ⊎_elim
    (λ (c : Contains left a). absurd (omega (arith, c.1)))
    (λ (s : (k : ℕ) × (slice_get groups a ≡ Some (2 * k))).
    omega (arith, get_or_from_slice_get groups a (2 * s.0) 0 s.1, (n.groups_are.small a (2 * s.0) s.1).0))
    (n.waiting a (omega (arith, n.groups_are.nodes)))
