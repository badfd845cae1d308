-- What is kept where a search enters a node, and where it leaves one.
use Rattle.std.proofs.Common.{◌≡◌, ◌≢◌, ℕ, zero, suc, ◌+◌, ◌<◌, ◌≤◌, Bool, true, false, Some, None, List, [], ◌∷◌, ◌++◌, length, get_or, replicate, arith, refl, sym, subst, ap, ◌∙◌, inl, inr, ⊎_elim}
use Rattle.std.specs.Prelude.{◌⊎◌, slice_get, slice_set}
use Rattle.std.specs.List.{Contains}
use Rattle.std.proofs.lemmas.List.{length-set, length-replicate, length_push, map_push}
use Rattle.std.proofs.lemmas.List.Elements.{Contains-append_left, Contains-get_or, Contains-push, Contains-push_cases}
use Rattle.std.proofs.lemmas.Option.{slice_get_within, slice_get-get_or, get_or_from_slice_get}
use Rattle.reference_graph.specs.declared.depth_first.Mark.{Mark}
use Rattle.reference_graph.specs.declared.depth_first.Mark.TheVariants.{New, Open, Finished}
use Rattle.reference_graph.specs.declared.depth_first.Frame.{Frame}
use Rattle.reference_graph.specs.Graph.{Rows, Edge, targets}
use Rattle.reference_graph.specs.Reach.{Reaches, StandsBefore, HasCycle}
use Rattle.reference_graph.specs.Reach.Reaches.{edge}
use Rattle.reference_graph.specs.steps.DepthFirst.{IsSearch, IsSeen, KeepsSeen, HavePassed, Meets, IsStep, IsSearched, news, way_of}
use Rattle.reference_graph.proofs.Places.{same_or_not, below_or_not, one_value, contained, place_of, push_left, push_last, push_cases, set_here, set_else}
use Rattle.reference_graph.proofs.Ways.{then_edge}

-- nodes with two marks are two
apart : (marks : List Mark) (x y : ℕ) (m n : Mark) → slice_get marks x ≡ Some m → slice_get marks y ≡ Some n → m ≢ n → x ≢ y
apart marks x y m n e f ne h = ne (one_value marks y m n (subst (λ (k : ℕ). slice_get marks k ≡ Some m) h e) f)

which : (m : Mark) → (m ≡ New) ⊎ ((m ≡ Open) ⊎ (m ≡ Finished))
which New = inl refl
which Open = inr (inl refl)
which Finished = inr (inr refl)

mark_of : (marks : List Mark) (b : ℕ) → b < length marks
    → (slice_get marks b ≡ Some New) ⊎ ((slice_get marks b ≡ Some Open) ⊎ (slice_get marks b ≡ Some Finished))
mark_of marks b l =
    let e : slice_get marks b ≡ Some (get_or marks b New) = slice_get-get_or marks b New l in
    ⊎_elim
    (λ (m : get_or marks b New ≡ New). inl (e ∙ ap (λ (k : Mark). Some k) m))
    (λ r. ⊎_elim
    (λ (m : get_or marks b New ≡ Open). inr (inl (e ∙ ap (λ (k : Mark). Some k) m)))
    (λ (m : get_or marks b New ≡ Finished). inr (inr (e ∙ ap (λ (k : Mark). Some k) m)))
    r)
    (which (get_or marks b New))

-- ---- how many are new

news_entered : (marks : List Mark) (y : ℕ) → slice_get marks y ≡ Some New → suc (news (slice_set marks y Open)) ≡ news marks
news_entered [] y e = absurd (cc)
news_entered (New ∷ marks) zero e = refl
news_entered (Open ∷ marks) zero e = absurd (cc)
news_entered (Finished ∷ marks) zero e = absurd (cc)
news_entered (New ∷ marks) (suc y) e = ap suc (news_entered marks y e)
news_entered (Open ∷ marks) (suc y) e = news_entered marks y e
news_entered (Finished ∷ marks) (suc y) e = news_entered marks y e

news_left : (marks : List Mark) (y : ℕ) → slice_get marks y ≡ Some Open → news (slice_set marks y Finished) ≡ news marks
news_left [] y e = absurd (cc)
news_left (New ∷ marks) zero e = absurd (cc)
news_left (Open ∷ marks) zero e = refl
news_left (Finished ∷ marks) zero e = absurd (cc)
news_left (New ∷ marks) (suc y) e = ap suc (news_left marks y e)
news_left (Open ∷ marks) (suc y) e = news_left marks y e
news_left (Finished ∷ marks) (suc y) e = news_left marks y e

-- ---- a node is entered

pub entered : (g : Rows) (marks : List Mark) (trail finished : List ℕ) (cyclic : Bool) (y : ℕ) → IsSearch g marks trail finished cyclic
    → slice_get marks y ≡ Some New → ((i x : ℕ) → slice_get trail i ≡ Some x → Reaches g x y)
    → IsSearch g (slice_set marks y Open) (trail ++ y ∷ []) finished cyclic
entered g marks trail finished cyclic y s e reach = record {
  nodes = length-set marks y Open ∙ s.nodes;
  open_listed = λ x o. ⊎_elim
      (λ (h : x ≡ y). subst (λ (n : ℕ). Contains (trail ++ y ∷ []) n) (sym h) (Contains-push trail y))
      (λ (ne : x ≢ y). Contains-append_left trail (y ∷ []) x (s.open_listed x (sym (set_else marks y x Open ne) ∙ o)))
      (same_or_not x y);
  listed_open = λ x c. ⊎_elim
      (λ (d : Contains trail x). set_else marks y x Open (apart marks x y Open New (s.listed_open x d) e (λ h. cc)) ∙ s.listed_open x d)
      (λ (h : y ≡ x). subst (λ (n : ℕ). slice_get (slice_set marks y Open) n ≡ Some Open) h here)
      (Contains-push_cases trail y x c);
  path = λ i j x z l p q. ⊎_elim
      (λ (q' : slice_get trail j ≡ Some z). ⊎_elim
      (λ (p' : slice_get trail i ≡ Some x). s.path i j x z l p' q')
      (λ (p' : (i ≡ length trail) × (y ≡ x)). absurd (let m : j < length trail = slice_get_within trail j z q' in omega (arith, p'.0)))
      (push_cases trail y i x p))
      (λ (q' : (j ≡ length trail) × (y ≡ z)). ⊎_elim
      (λ (p' : slice_get trail i ≡ Some x). subst (λ (n : ℕ). (x ≢ n) × Reaches g x n) q'.1
      (apart marks x y Open New (s.listed_open x (contained trail i x p')) e (λ h. cc), reach i x p'))
      (λ (p' : (i ≡ length trail) × (y ≡ x)). absurd (omega (arith, p'.0, q'.0)))
      (push_cases trail y i x p))
      (push_cases trail y j z q);
  finished_listed = λ x f. ⊎_elim
      (λ (h : x ≡ y). absurd (let o : slice_get (slice_set marks y Open) x ≡ Some Open = subst (λ (n : ℕ). slice_get (slice_set marks y Open) n ≡ Some Open) (sym h) here in cc))
      (λ (ne : x ≢ y). s.finished_listed x (sym (set_else marks y x Open ne) ∙ f))
      (same_or_not x y);
  listed_finished = λ x c.
      set_else marks y x Open (apart marks x y Finished New (s.listed_finished x c) e (λ h. cc)) ∙ s.listed_finished x c;
  once = s.once;
  met = s.met;
  order = s.order;
  counted = omega (arith, s.counted, news_entered marks y e, length_push trail y, length-set marks y Open);
}
  where
    here : slice_get (slice_set marks y Open) y ≡ Some Open
    here = set_here marks y New Open e

-- the node that is searched, and each on the trail to it, reaches its targets
pub reach_target : (g : Rows) (marks : List Mark) (trail finished : List ℕ) (cyclic : Bool) (x y : ℕ) → IsSearch g marks (trail ++ x ∷ []) finished cyclic
    → Edge g x y → (i z : ℕ) → slice_get (trail ++ x ∷ []) i ≡ Some z → Reaches g z y
reach_target g marks trail finished cyclic x y s e i z p = ⊎_elim
    (λ (p' : slice_get trail i ≡ Some z). then_edge g z x y (s.path i (length trail) z x (slice_get_within trail i z p') p (push_last trail x)).1 e)
    (λ (p' : (i ≡ length trail) × (x ≡ z)). subst (λ (n : ℕ). Reaches g n y) p'.1 (edge e))
    (push_cases trail x i z p)

-- ---- a node is left

before_push : (list : List ℕ) (x b a : ℕ) → StandsBefore list b a → StandsBefore (list ++ x ∷ []) b a
before_push list x b a (i, j, l, p, q) = (i, j, l, push_left list x i b p, push_left list x j a q)

pub left : (g : Rows) (marks : List Mark) (trail finished : List ℕ) (before after : Bool) (x : ℕ) → IsSearch g marks (trail ++ x ∷ []) finished before
    → ((b : ℕ) → Contains (targets g x) b → IsSeen marks b) → Meets (targets g x) marks before after
    → IsSearch g (slice_set marks x Finished) trail (finished ++ x ∷ []) after
left g marks trail finished before after x s seen meets = record {
  nodes = length-set marks x Finished ∙ s.nodes;
  open_listed = λ z o. ⊎_elim
      (λ (h : z ≡ x). absurd (let f : slice_get (slice_set marks x Finished) z ≡ Some Finished = subst (λ (n : ℕ). slice_get (slice_set marks x Finished) n ≡ Some Finished) (sym h) here in cc))
      (λ (ne : z ≢ x). ⊎_elim
      (λ (c : Contains trail z). c)
      (λ (h : x ≡ z). absurd (ne (sym h)))
      (Contains-push_cases trail x z (s.open_listed z (sym (set_else marks x z Finished ne) ∙ o))))
      (same_or_not z x);
  listed_open = λ z c.
      set_else marks x z Finished (let p = place_of trail z c in (s.path p.0 (length trail) z x (slice_get_within trail p.0 z p.1) (push_left trail x p.0 z p.1) (push_last trail x)).0)
      ∙ s.listed_open z (Contains-append_left trail (x ∷ []) z c);
  path = λ i j z w l p q. s.path i j z w l (push_left trail x i z p) (push_left trail x j w q);
  finished_listed = λ z f. ⊎_elim
      (λ (h : z ≡ x). subst (λ (n : ℕ). Contains (finished ++ x ∷ []) n) (sym h) (Contains-push finished x))
      (λ (ne : z ≢ x). Contains-append_left finished (x ∷ []) z (s.finished_listed z (sym (set_else marks x z Finished ne) ∙ f)))
      (same_or_not z x);
  listed_finished = λ z c. ⊎_elim
      (λ (d : Contains finished z). set_else marks x z Finished (apart marks z x Finished Open (s.listed_finished z d) opened (λ h. cc)) ∙ s.listed_finished z d)
      (λ (h : x ≡ z). subst (λ (n : ℕ). slice_get (slice_set marks x Finished) n ≡ Some Finished) h here)
      (Contains-push_cases finished x z c);
  once = λ i j z p q. ⊎_elim
      (λ (p' : slice_get finished i ≡ Some z). ⊎_elim
      (λ (q' : slice_get finished j ≡ Some z). s.once i j z p' q')
      (λ (q' : (j ≡ length finished) × (x ≡ z)). absurd (twice z (contained finished i z p') q'.1))
      (push_cases finished x j z q))
      (λ (p' : (i ≡ length finished) × (x ≡ z)). ⊎_elim
      (λ (q' : slice_get finished j ≡ Some z). absurd (twice z (contained finished j z q') p'.1))
      (λ (q' : (j ≡ length finished) × (x ≡ z)). p'.0 ∙ sym q'.0)
      (push_cases finished x j z q))
      (push_cases finished x i z p);
  met = λ c. ⊎_elim
      (λ (m : (after ≡ before) × ((b : ℕ) → Contains (targets g x) b → slice_get marks b ≢ Some Open)). s.met (sym m.0 ∙ c))
      (λ (m : (after ≡ true) × ((b : ℕ) × Contains (targets g x) b × (slice_get marks b ≡ Some Open))). cycle m.1.0 m.1.1 m.1.2)
      meets;
  order = λ c a b l e. ⊎_elim
      (λ (m : (after ≡ before) × ((b : ℕ) → Contains (targets g x) b → slice_get marks b ≢ Some Open)). ⊎_elim
      (λ (d : Contains finished a). before_push finished x b a (s.order (sym m.0 ∙ c) a b d e))
      (λ (h : x ≡ a). subst (λ (n : ℕ). StandsBefore (finished ++ x ∷ []) b n) h
      (behind b m.1 (subst (λ (n : ℕ). Edge g n b) (sym h) e)))
      (Contains-push_cases finished x a l))
      (λ (m : (after ≡ true) × ((b : ℕ) × Contains (targets g x) b × (slice_get marks b ≡ Some Open))). absurd (let t : after ≡ true = m.0 in cc))
      meets;
  counted = omega (arith, s.counted, news_left marks x opened, length_push trail x, length_push finished x, length-set marks x Finished);
}
  where
    opened : slice_get marks x ≡ Some Open
    opened = s.listed_open x (Contains-push trail x)

    here : slice_get (slice_set marks x Finished) x ≡ Some Finished
    here = set_here marks x Open Finished opened

    twice : (z : ℕ) → Contains finished z → x ≡ z → ⊥
    twice z c h = apart marks z x Finished Open (s.listed_finished z c) opened (λ k. cc) (sym h)

    cycle : (b : ℕ) → Contains (targets g x) b → slice_get marks b ≡ Some Open → HasCycle g
    cycle b c o =
        let e : Edge g x b = (omega (arith, s.nodes, slice_get_within marks b Open o), c) in
        let p = place_of (trail ++ x ∷ []) b (s.open_listed b o) in
        (b, reach_target g marks trail finished before x b s e p.0 b p.1)

    behind : (b : ℕ) → ((b : ℕ) → Contains (targets g x) b → slice_get marks b ≢ Some Open) → Edge g x b → StandsBefore (finished ++ x ∷ []) b x
    behind b none e = ⊎_elim
        (λ (m : slice_get marks b ≡ Some New). absurd (seen b e.1 m))
        (λ r. ⊎_elim
        (λ (m : slice_get marks b ≡ Some Open). absurd (none b e.1 m))
        (λ (m : slice_get marks b ≡ Some Finished).
        let p = place_of finished b (s.finished_listed b m) in
        (p.0, length finished, slice_get_within finished p.0 b p.1, push_left finished x p.0 b p.1, push_last finished x))
        r)
        (mark_of marks b (omega (arith, s.nodes, e.0)))

-- ---- what was passed

pub seen_set : (marks : List Mark) (y : ℕ) (m : Mark) → m ≢ New → KeepsSeen marks (slice_set marks y m)
seen_set marks y m ne x s e = ⊎_elim
    (λ (h : x ≡ y). let f : slice_get (slice_set marks y m) y ≡ Some New = subst (λ (n : ℕ). slice_get (slice_set marks y m) n ≡ Some New) h e in
    let l : y < length marks = omega (arith, slice_get_within (slice_set marks y m) y New f, length-set marks y m) in
    ne (one_value (slice_set marks y m) y m New (set_here marks y (get_or marks y New) m (slice_get-get_or marks y New l)) f))
    (λ (d : x ≢ y). s (sym (set_else marks y x m d) ∙ e))
    (same_or_not x y)

pub passed_kept : (g : Rows) (before after : List Mark) (stack : List Frame) → KeepsSeen before after → HavePassed g before stack → HavePassed g after stack
passed_kept g before after stack k p i n b f e l t = k b (p i n b f e l t)

pub passed_front : (g : Rows) (marks : List Mark) (stack : List Frame) (frame : Frame) → HavePassed g marks (stack ++ frame ∷ []) → HavePassed g marks stack
passed_front g marks stack frame p i n b f e l t = p i n b f (push_left stack frame i f e) l t

pub passed_last : (g : Rows) (marks : List Mark) (stack : List Frame) (frame : Frame) → HavePassed g marks (stack ++ frame ∷ [])
    → (k b : ℕ) → k < frame.next → slice_get (targets g frame.node) k ≡ Some b → IsSeen marks b
passed_last g marks stack frame p k b l t = p (length stack) k b frame (push_last stack frame) l t

pub passed_push : (g : Rows) (marks : List Mark) (stack : List Frame) (frame : Frame) → HavePassed g marks stack
    → ((k b : ℕ) → k < frame.next → slice_get (targets g frame.node) k ≡ Some b → IsSeen marks b) → HavePassed g marks (stack ++ frame ∷ [])
passed_push g marks stack frame p q i n b f e l t = ⊎_elim
    (λ (h : slice_get stack i ≡ Some f). p i n b f h l t)
    (λ (h : (i ≡ length stack) × (frame ≡ f)).
    q n b (subst (λ (v : Frame). n < v.next) (sym h.1) l) (subst (λ (v : Frame). slice_get (targets g v.node) n ≡ Some b) (sym h.1) t))
    (push_cases stack frame i f e)

-- ---- a step of a search

pub step_entered : (g : Rows) (marks marks' : List Mark) (stack stack' : List Frame) (finished : List ℕ) (cyclic : Bool) (frame : Frame) (row : List ℕ) (at : ℕ)
    → IsSearch g marks (way_of stack ++ frame.node ∷ []) finished cyclic → HavePassed g marks (stack ++ frame ∷ []) → row ≡ targets g frame.node
    → ((k : ℕ) → frame.next ≤ k → k < at → IsSeen marks (get_or row k 0)) → at < length row → slice_get marks (get_or row at 0) ≡ Some New
    → marks' ≡ slice_set marks (get_or row at 0) Open
    → stack' ≡ (stack ++ record { node = frame.node; next = at + 1 } ∷ []) ++ record { node = get_or row at 0; next = 0 } ∷ []
    → IsStep g marks stack marks' stack' finished cyclic
step_entered g marks marks' stack stack' finished cyclic frame row at s p r passed l e em es = rw (em, es) (record {
  search = subst (λ (w : List ℕ). IsSearch g (slice_set marks y Open) w finished cyclic) (sym nodes)
      (entered g marks (way_of stack ++ x ∷ []) finished cyclic y s e (reach_target g marks (way_of stack) finished cyclic x y s edge));
  passed = passed_push g (slice_set marks y Open) (stack ++ again ∷ []) first
      (passed_push g (slice_set marks y Open) stack again
      (passed_kept g marks (slice_set marks y Open) stack kept (passed_front g marks stack frame p))
      own)
      (λ k b m t. absurd (omega arith));
  seen = kept;
  fewer = omega (arith, news_entered marks y e, length_push stack again, length_push (stack ++ again ∷ []) first);
})
  where
    x : ℕ
    x = frame.node

    y : ℕ
    y = get_or row at 0

    again : Frame
    again = record { node = frame.node; next = at + 1 }

    first : Frame
    first = record { node = get_or row at 0; next = 0 }

    edge : Edge g x y
    edge = (omega (arith, s.nodes, slice_get_within marks y New e), subst (λ (xs : List ℕ). Contains xs y) r (Contains-get_or row at 0 l))

    nodes : way_of ((stack ++ again ∷ []) ++ first ∷ []) ≡ (way_of stack ++ x ∷ []) ++ y ∷ []
    nodes =
        map_push (λ (f : Frame). f.node) (stack ++ again ∷ []) first
        ∙ ap (λ (w : List ℕ). w ++ y ∷ []) (map_push (λ (f : Frame). f.node) stack again)

    kept : KeepsSeen marks (slice_set marks y Open)
    kept = seen_set marks y Open (λ h. cc)

    own : (k b : ℕ) → k < at + 1 → slice_get (targets g x) k ≡ Some b → IsSeen (slice_set marks y Open) b
    own k b m t =
        let t' : slice_get row k ≡ Some b = subst (λ (xs : List ℕ). slice_get xs k ≡ Some b) (sym r) t in
        let v : get_or row k 0 ≡ b = get_or_from_slice_get row k b 0 t' in
        ⊎_elim
        (λ (d : k < frame.next). kept b (passed_last g marks stack frame p k b d t))
        (λ (d : frame.next ≤ k). ⊎_elim
        (λ (h : k ≡ at). λ n. apart (slice_set marks y Open) y b Open New (set_here marks y New Open e) n (λ h. cc) (sym (ap (λ (i : ℕ). get_or row i 0) h) ∙ v))
        (λ (ne : k ≢ at). kept b (subst (λ (z : ℕ). IsSeen marks z) v (passed k d (omega arith))))
        (same_or_not k at))
        (below_or_not k frame.next)

pub step_left : (g : Rows) (marks marks' : List Mark) (stack stack' : List Frame) (finished finished' : List ℕ) (cyclic cyclic' : Bool) (frame : Frame) (row : List ℕ)
    (at : ℕ) → IsSearch g marks (way_of stack ++ frame.node ∷ []) finished cyclic → HavePassed g marks (stack ++ frame ∷ []) → row ≡ targets g frame.node
    → ((k : ℕ) → frame.next ≤ k → k < at → IsSeen marks (get_or row k 0)) → length row ≤ at → Meets row marks cyclic cyclic'
    → marks' ≡ slice_set marks frame.node Finished → stack' ≡ stack → finished' ≡ finished ++ frame.node ∷ []
    → IsStep g marks stack marks' stack' finished' cyclic'
step_left g marks marks' stack stack' finished finished' cyclic cyclic' frame row at s p r passed l meets em es ef = rw (em, es, ef) (record {
  search = left g marks (way_of stack) finished cyclic cyclic' x s all (subst (λ (xs : List ℕ). Meets xs marks cyclic cyclic') r meets);
  passed = passed_kept g marks (slice_set marks x Finished) stack kept (passed_front g marks stack frame p);
  seen = kept;
  fewer = omega (arith, news_left marks x (s.listed_open x (Contains-push (way_of stack) x)));
})
  where
    x : ℕ
    x = frame.node

    kept : KeepsSeen marks (slice_set marks x Finished)
    kept = seen_set marks x Finished (λ h. cc)

    all : (b : ℕ) → Contains (targets g x) b → IsSeen marks b
    all b c =
        let q = place_of (targets g x) b c in
        let t : slice_get row q.0 ≡ Some b = subst (λ (xs : List ℕ). slice_get xs q.0 ≡ Some b) (sym r) q.1 in
        ⊎_elim
        (λ (d : q.0 < frame.next). passed_last g marks stack frame p q.0 b d q.1)
        (λ (d : frame.next ≤ q.0).
        subst (λ (z : ℕ). IsSeen marks z) (get_or_from_slice_get row q.0 b 0 t)
        (passed q.0 d (omega (arith, slice_get_within row q.0 b t))))
        (below_or_not q.0 frame.next)

-- ---- the start and the end

pub search_none : (g : Rows) (marks : List Mark) → marks ≡ replicate (length g) New → IsSearch g marks [] [] false
search_none g marks e = record {
  nodes = ap (λ (ms : List Mark). length ms) e ∙ length-replicate (length g) New;
  open_listed = λ x o. absurd (let h : Open ≡ New = replicated (length g) x New Open (all x Open o) in cc);
  listed_open = λ x c. absurd (omega (arith, c.1));
  path = λ i j x y l p q. absurd (let h : None ≡ Some x = p in cc);
  finished_listed = λ x o. absurd (let h : Finished ≡ New = replicated (length g) x New Finished (all x Finished o) in cc);
  listed_finished = λ x c. absurd (omega (arith, c.1));
  once = λ i j x p q. absurd (let h : None ≡ Some x = p in cc);
  met = λ h. absurd (cc);
  order = λ h a b c e. absurd (omega (arith, c.1));
  counted = omega (arith, ap (λ (ms : List Mark). news ms) e ∙ news_all (length g), ap (λ (ms : List Mark). length ms) e ∙ length-replicate (length g) New);
}
  where
    all : (x : ℕ) (m : Mark) → slice_get marks x ≡ Some m → slice_get (replicate (length g) New) x ≡ Some m
    all x m o = subst (λ (ms : List Mark). slice_get ms x ≡ Some m) e o

    replicated : (n x : ℕ) (m k : Mark) → slice_get (replicate n m) x ≡ Some k → k ≡ m
    replicated zero x m k e = absurd (cc)
    replicated (suc n) zero m k e = sym (one_value (m ∷ []) 0 m k refl e)
    replicated (suc n) (suc x) m k e = replicated n x m k e

    news_all : (n : ℕ) → news (replicate n New) ≡ n
    news_all zero = refl
    news_all (suc n) = ap suc (news_all n)

pub searched : (g : Rows) (marks : List Mark) (finished : List ℕ) (cyclic : Bool) → IsSearch g marks [] finished cyclic
    → ((x : ℕ) → x < length g → IsSeen marks x) → IsSearched g finished cyclic
searched g marks finished cyclic s seen = record {
  all = λ a l. ⊎_elim
      (λ (m : slice_get marks a ≡ Some New). absurd (seen a l m))
      (λ r. ⊎_elim
      (λ (m : slice_get marks a ≡ Some Open). absurd (let c : Contains [] a = s.open_listed a m in omega (arith, c.1)))
      (λ (m : slice_get marks a ≡ Some Finished). s.finished_listed a m)
      r)
      (mark_of marks a (omega (arith, s.nodes)));
  nodes = λ a c. omega (arith, s.nodes, slice_get_within marks a Finished (s.listed_finished a c));
  few = omega (arith, s.counted, s.nodes);
  once = s.once;
  met = s.met;
  order = s.order;
}

-- what is kept while a node is searched, and all that it reaches
pub record IsVisit (g : Rows) (start : List Mark) (root : ℕ) (marks : List Mark) (stack : List Frame) (finished : List ℕ) (cyclic : Bool) : Type 0 where
  pub search : IsSearch g marks (way_of stack) finished cyclic
  pub passed : HavePassed g marks stack
  pub seen : KeepsSeen start marks
  pub rooted : IsSeen marks root

pub visit_start : (g : Rows) (marks marks' : List Mark) (root : ℕ) (stack stack' : List Frame) (finished finished' : List ℕ) (cyclic cyclic' : Bool)
    → IsSearch g marks [] finished cyclic → slice_get marks root ≡ Some New → stack ≡ [] → marks' ≡ slice_set marks root Open
    → stack' ≡ stack ++ record { node = root; next = 0 } ∷ [] → finished' ≡ finished → cyclic' ≡ cyclic → IsVisit g marks root marks' stack' finished' cyclic'
visit_start g marks marks' root stack stack' finished finished' cyclic cyclic' s e none em es ef ec = rw (em, es, none, ef, ec) (record {
  search = entered g marks [] finished cyclic root s e (λ i x p. absurd (let h : None ≡ Some x = p in cc));
  passed = passed_push g (slice_set marks root Open) [] (record { node = root; next = 0 }) (λ i k b f p l t. absurd (let h : None ≡ Some f = p in cc))
      (λ k b l t. absurd (omega arith));
  seen = seen_set marks root Open (λ h. cc);
  rooted = λ n. apart (slice_set marks root Open) root root Open New (set_here marks root New Open e) n (λ h. cc) refl;
})

pub visit_taken : (g : Rows) (start : List Mark) (root : ℕ) (marks : List Mark) (stack below : List Frame) (finished : List ℕ) (cyclic : Bool) (frame : Frame)
    → IsVisit g start root marks stack finished cyclic → stack ≡ below ++ frame ∷ []
    → IsSearch g marks (way_of below ++ frame.node ∷ []) finished cyclic × HavePassed g marks (below ++ frame ∷ [])
visit_taken g start root marks stack below finished cyclic frame v e = (
  subst (λ (w : List ℕ). IsSearch g marks w finished cyclic)
      (ap (λ (fs : List Frame). way_of fs) e ∙ map_push (λ (f : Frame). f.node) below frame) v.search,
  subst (λ (fs : List Frame). HavePassed g marks fs) e v.passed,
)

pub visit_more : (g : Rows) (start : List Mark) (root : ℕ) (marks marks' : List Mark) (stack below stack' : List Frame) (finished finished' : List ℕ)
    (cyclic cyclic' : Bool) → IsVisit g start root marks stack finished cyclic → IsStep g marks below marks' stack' finished' cyclic'
    → IsVisit g start root marks' stack' finished' cyclic'
visit_more g start root marks marks' stack below stack' finished finished' cyclic cyclic' v t = record {
  search = t.search;
  passed = t.passed;
  seen = λ x h. t.seen x (v.seen x h);
  rooted = t.seen root v.rooted;
}
