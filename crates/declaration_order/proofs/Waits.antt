-- No declaration waits for itself, and an order of those that wait is one in which all can be computed.
use Rattle.std.proofs.Common.{◌≡◌, ℕ, ◌<◌, Bool, true, false, not, ◌&&◌, List, [], ◌∷◌, length, get_or, cond, nat_eq, nat_lt, ◌⊎◌, inl, inr, ⊎_elim, refl, sym, subst, true≢false, arith}
use Rattle.std.specs.List.{Contains}
use Rattle.std.proofs.lemmas.List.Elements.{Contains-append_left, Contains-append_right, Contains-append_cases}
use Rattle.reference_graph.specs.Graph.{Rows, Edge, targets}
use Rattle.reference_graph.specs.Reach.{Reaches, AreMutual, AreComponents, HasCycle}
use Rattle.reference_graph.specs.Reach.Reaches.{edge, way}
use Rattle.reference_graph.proofs.Ways.{both, reaches_node}
use Rattle.declaration_order.specs.steps.Waiting.{is_apart, if_apart, apart, waits_of, AreWaits}

-- ---- graphs whose edges are those of two others that lead to another component

-- L: what leads; V: the types of values; F: all of them; W: what waits
pub record IsWaiting (L V F W : Rows) : Type 0 where
  pub leads : (a b : ℕ) → Edge L a b → Edge F a b
  pub values : (a b : ℕ) → Edge V a b → Edge F a b
  pub waits : (a b : ℕ) → Edge W a b
      → (Edge L a b × ¬ (AreMutual L a b)) ⊎ (Edge V a b × ¬ (AreMutual F a b))

module _ (L V F W : Rows) (h : IsWaiting L V F W) where
  in_all : (a b : ℕ) → Edge W a b → Edge F a b
  in_all a b e = ⊎_elim
      (λ (l : Edge L a b × ¬ (AreMutual L a b)). h.leads a b l.0)
      (λ (v : Edge V a b × ¬ (AreMutual F a b)). h.values a b v.0)
      (h.waits a b e)

  reach_all : (a b : ℕ) → Reaches W a b → Reaches F a b
  reach_all a b (edge e) = edge (in_all a b e)
  reach_all a b (way {b = c} e p) = way (in_all a c e) (reach_all c b p)

  -- what waits and is led back to leads there
  reach_leading : (a b : ℕ) → Reaches W a b → Reaches F b a → Reaches L a b
  reach_leading a b (edge e) back = ⊎_elim
      (λ (l : Edge L a b × ¬ (AreMutual L a b)). edge l.0)
      (λ (v : Edge V a b × ¬ (AreMutual F a b)). absurd (v.1 (inr (edge (h.values a b v.0), back))))
      (h.waits a b e)
  reach_leading a b (way {b = c} e p) back = ⊎_elim
      (λ (l : Edge L a c × ¬ (AreMutual L a c)).
      way l.0 (reach_leading c b p (both F b a c back (edge (h.leads a c l.0)))))
      (λ (v : Edge V a c × ¬ (AreMutual F a c)).
      absurd (v.1 (inr (edge (h.values a c v.0), both F c b a (reach_all c b p) back))))
      (h.waits a c e)

  reach_itself : (a : ℕ) → Reaches W a a → ⊥
  reach_itself a (edge e) = ⊎_elim
      (λ (l : Edge L a a × ¬ (AreMutual L a a)). l.1 (inl refl))
      (λ (v : Edge V a a × ¬ (AreMutual F a a)). v.1 (inl refl))
      (h.waits a a e)
  reach_itself a (way {b = c} e p) = ⊎_elim
      (λ (l : Edge L a c × ¬ (AreMutual L a c)).
      l.1 (inr (edge l.0, reach_leading c a p (edge (h.leads a c l.0)))))
      (λ (v : Edge V a c × ¬ (AreMutual F a c)).
      v.1 (inr (edge (h.values a c v.0), reach_all c a p)))
      (h.waits a c e)

  pub no_cycle : HasCycle W → ⊥
  no_cycle c = reach_itself c.0 c.1

-- ---- the edges of the code's graph

both_true : (a b : Bool) → (a && b) ≡ true → (a ≡ true) × (b ≡ true)
both_true true b h = (refl, h)
both_true false b h = absurd (true≢false (sym h))

kept : (p : Bool) (t b : ℕ) → Contains (cond p (t ∷ []) []) b → (p ≡ true) × (t ≡ b)
kept true t b (k, l, is) = (refl, grind (arith))
kept false t b (k, l, is) = absurd (omega arith)

in_apart : (numbers : List ℕ) (a : ℕ) (row : List ℕ) (b : ℕ) → Contains (apart numbers a row) b
    → Contains row b × (is_apart numbers a b ≡ true)
in_apart numbers a [] b (k, l, is) = absurd (omega arith)
in_apart numbers a (t ∷ row) b c = ⊎_elim
    (λ (first : Contains (if_apart numbers a t) b).
    let one : (is_apart numbers a t ≡ true) × (t ≡ b) = kept (is_apart numbers a t) t b first in (
      Contains-append_left (t ∷ []) row b (0, omega arith, one.1),
      subst (λ (x : ℕ). is_apart numbers a x ≡ true) one.1 one.0,
    ))
    (λ (rest : Contains (apart numbers a row) b).
    let other : Contains row b × (is_apart numbers a b ≡ true) = in_apart numbers a row b rest in
    (Contains-append_right (t ∷ []) row b other.0, other.1))
    (Contains-append_cases (if_apart numbers a t) (apart numbers a row) b c)

singleton : (t b : ℕ) → Contains (t ∷ []) b → t ≡ b
singleton t b c = (kept true t b c).1

put : (p : Bool) (b : ℕ) → p ≡ true → Contains (cond p (b ∷ []) []) b
put true b h = (0, omega arith, refl)
put false b h = absurd (true≢false (sym h))

to_apart : (numbers : List ℕ) (a : ℕ) (row : List ℕ) (b : ℕ) → Contains row b
    → is_apart numbers a b ≡ true → Contains (apart numbers a row) b
to_apart numbers a [] b (k, l, is) h = absurd (omega arith)
to_apart numbers a (t ∷ row) b c h = ⊎_elim
    (λ (one : Contains (t ∷ []) b).
    Contains-append_left (if_apart numbers a t) (apart numbers a row) b
    (subst (λ (x : ℕ). Contains (if_apart numbers a x) b) (sym (singleton t b one))
    (put (is_apart numbers a b) b h)))
    (λ (rest : Contains row b).
    Contains-append_right (if_apart numbers a t) (apart numbers a row) b
    (to_apart numbers a row b rest h))
    (Contains-append_cases (t ∷ []) row b c)

means : (x y n b : ℕ) → (nat_lt b n && not (nat_eq x y)) ≡ true → (b < n) × ¬ (x ≡ y)
means x y n b h = (grind (arith), λ e. grind (arith))

meant : (x y n b : ℕ) → b < n → ¬ (x ≡ y) → (nat_lt b n && not (nat_eq x y)) ≡ true
meant x y n b l d = grind (arith)

-- an edge to another component is an edge between nodes that don't reach each other
module _ (g : Rows) (numbers : List ℕ) (c : AreComponents g numbers) (a b : ℕ) where
  pub apart-edge : Contains (apart numbers a (targets g a)) b → Edge g a b × ¬ (AreMutual g a b)
  apart-edge k =
      let in_row = in_apart numbers a (targets g a) b k in
      let says = means (get_or numbers a 0) (get_or numbers b 0) (length numbers) b in_row.1 in
      let long : length numbers ≡ length g = c.nodes in
      let e : Edge g a b = (omega arith, in_row.0) in
      let from : a < length g = reaches_node g a b (edge e) in
      (e, λ m. says.1 ((c.same a b from e.0).1 m))

  pub edge-apart : Edge g a b → ¬ (AreMutual g a b) → Contains (apart numbers a (targets g a)) b
  edge-apart e n =
      let long : length numbers ≡ length g = c.nodes in
      let to : b < length g = e.0 in
      let from : a < length g = reaches_node g a b (edge e) in
      to_apart numbers a (targets g a) b e.1
      (meant (get_or numbers a 0) (get_or numbers b 0) (length numbers) b (omega arith)
      (λ s. n ((c.same a b from to).0 s)))

-- ---- the graphs of declarations

-- L leads, V the types of values, F all, W what waits
module _ (L V F : Rows) (nl nf : List ℕ) (W : Rows) (cl : AreComponents L nl)
    (cf : AreComponents F nf) (w : AreWaits L nl V nf (length L) W)
    (long-v : length V ≡ length L) (long-f : length F ≡ length L)
    (sub-l : (a b : ℕ) → Edge L a b → Edge F a b) (sub-v : (a b : ℕ) → Edge V a b → Edge F a b) where
  row_of : (a : ℕ) → a < length L → targets W a ≡ waits_of L nl V nf a
  row_of = w.rows

  in-values : (a b : ℕ) → Contains (apart nf a (targets V a)) b → Edge V a b × ¬ (AreMutual F a b)
  in-values a b k =
      let in_row = in_apart nf a (targets V a) b k in
      let says = means (get_or nf a 0) (get_or nf b 0) (length nf) b in_row.1 in
      let long : length nf ≡ length F = cf.nodes in
      let e : Edge V a b = (omega arith, in_row.0) in
      let from : a < length V = reaches_node V a b (edge e) in
      (e, λ m. says.1 ((cf.same a b (omega arith) (omega arith)).1 m))

  split : (a b : ℕ) → Edge W a b
      → (Edge L a b × ¬ (AreMutual L a b)) ⊎ (Edge V a b × ¬ (AreMutual F a b))
  split a b e =
      let long : length W ≡ length L = w.nodes in
      let from : a < length W = reaches_node W a b (edge e) in
      let k : Contains (waits_of L nl V nf a) b =
      subst (λ (r : List ℕ). Contains r b) (row_of a (omega arith)) e.1 in
      ⊎_elim
      (λ (l : Contains (apart nl a (targets L a)) b). inl (apart-edge L nl cl a b l))
      (λ (v : Contains (apart nf a (targets V a)) b). inr (in-values a b v))
      (Contains-append_cases (apart nl a (targets L a)) (apart nf a (targets V a)) b k)

  pub never : HasCycle W → ⊥
  never c = no_cycle L V F W (record { leads = sub-l; values = sub-v; waits = split }) c

  pub leads-wait : (a b : ℕ) → Edge L a b → ¬ (AreMutual L a b) → Edge W a b
  leads-wait a b e n =
      let long : length W ≡ length L = w.nodes in
      let to : b < length L = e.0 in (
        omega arith,
        subst (λ (r : List ℕ). Contains r b)
            (sym (row_of a (reaches_node L a b (edge e))))
            (Contains-append_left (apart nl a (targets L a)) (apart nf a (targets V a)) b
            (edge-apart L nl cl a b e n)),
      )

  pub values-wait : (a b : ℕ) → Edge V a b → ¬ (AreMutual F a b) → Edge W a b
  values-wait a b e n =
      let long : length W ≡ length L = w.nodes in
      let to : b < length V = e.0 in
      let from : a < length V = reaches_node V a b (edge e) in
      let many : length nf ≡ length F = cf.nodes in (
        omega arith,
        subst (λ (r : List ℕ). Contains r b) (sym (row_of a (omega arith)))
            (Contains-append_right (apart nl a (targets L a)) (apart nf a (targets V a)) b
            (to_apart nf a (targets V a) b e.1
            (meant (get_or nf a 0) (get_or nf b 0) (length nf) b (omega arith)
            (λ s. n ((cf.same a b (omega arith) (omega arith)).0 s))))),
      )
