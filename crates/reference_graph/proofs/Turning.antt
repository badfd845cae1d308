-- What is kept while edges are turned round.
use Rattle.std.proofs.Common.{◌≡◌, ◌≢◌, ℕ, zero, suc, ◌+◌, ◌<◌, ◌≤◌, List, [], ◌∷◌, ◌++◌, length, get_or, replicate, take, arith, refl, sym, subst, ap, ◌∙◌, inl, inr, ⊎_elim, get_or-set_other}
use Rattle.std.specs.Prelude.{slice_set}
use Rattle.std.specs.List.{Contains}
use Rattle.std.proofs.lemmas.List.{length-set, length-replicate, get_or-set_same, get_or-replicate, get_or_past, take_more}
use Rattle.std.proofs.lemmas.List.Elements.{Contains-append_left, Contains-append_right, Contains-push, Contains-push_cases}
use Rattle.reference_graph.specs.Graph.{Rows, Edge, targets, IsTransposed}
use Rattle.reference_graph.specs.steps.Sources.{HaveSource}
use Rattle.reference_graph.proofs.Places.{same_or_not, below_or_not}
use Rattle.reference_graph.proofs.Ways.{from_node}

pub source_none : (node : ℕ) (sources : Rows) → HaveSource node [] sources sources
source_none node sources = record {
  long = refl;
  kept = λ b x c. c;
  added = λ b l c. absurd (omega (arith, c.1));
  only = λ b x c. inl c;
}

-- a node that is none
source_stays : (node target : ℕ) (sources : Rows) → length sources ≤ target → HaveSource node (target ∷ []) sources sources
source_stays node target sources out = record {
  long = refl;
  kept = λ b x c. c;
  added = λ b l c. absurd (let s : target ≡ b = one target b c in omega arith);
  only = λ b x c. inl c;
}
  where
    one : (y x : ℕ) → Contains (y ∷ []) x → y ≡ x
    one y x (zero, l, e) = e
    one y x (suc k, l, e) = absurd (omega arith)

source_added : (node target : ℕ) (sources : Rows) → target < length sources
    → HaveSource node (target ∷ []) sources (slice_set sources target (targets sources target ++ node ∷ []))
source_added node target sources l = record {
  long = length-set sources target (targets sources target ++ node ∷ []);
  kept = λ b x c. ⊎_elim
      (λ (s : b ≡ target). at b s (Contains-append_left (targets sources target) (node ∷ []) x (subst (λ (n : ℕ). Contains (targets sources n) x) s c)))
      (λ (ne : b ≢ target). subst (λ (row : List ℕ). Contains row x) (sym (else b ne)) c)
      (same_or_not b target);
  added = λ b l' c. at b (sym (one target b c)) (Contains-push (targets sources target) node);
  only = λ b x c. ⊎_elim
      (λ (s : b ≡ target). ⊎_elim
      (λ (d : Contains (targets sources target) x). inl (subst (λ (n : ℕ). Contains (targets sources n) x) (sym s) d))
      (λ (e : node ≡ x). inr (e, (0, omega arith, sym s)))
      (Contains-push_cases (targets sources target) node x (subst (λ (row : List ℕ). Contains row x) (here b s) c)))
      (λ (ne : b ≢ target). inl (subst (λ (row : List ℕ). Contains row x) (else b ne) c))
      (same_or_not b target);
}
  where
    one : (y x : ℕ) → Contains (y ∷ []) x → y ≡ x
    one y x (zero, l, e) = e
    one y x (suc k, l, e) = absurd (omega arith)

    here : (b : ℕ) → b ≡ target → targets (slice_set sources target (targets sources target ++ node ∷ [])) b ≡ targets sources target ++ node ∷ []
    here b s =
        ap (λ (n : ℕ). targets (slice_set sources target (targets sources target ++ node ∷ [])) n) s
        ∙ get_or-set_same sources target (targets sources target ++ node ∷ []) [] l

    at : (b : ℕ) {x : ℕ} → b ≡ target → Contains (targets sources target ++ node ∷ []) x
        → Contains (targets (slice_set sources target (targets sources target ++ node ∷ [])) b) x
    at b {x} s c = subst (λ (row : List ℕ). Contains row x) (sym (here b s)) c

    else : (b : ℕ) → b ≢ target → targets (slice_set sources target (targets sources target ++ node ∷ [])) b ≡ targets sources b
    else b ne = get_or-set_other sources target b (targets sources target ++ node ∷ []) [] ne

source_more : (node target : ℕ) (nodes : List ℕ) (s0 s1 s2 : Rows) → HaveSource node nodes s0 s1 → HaveSource node (target ∷ []) s1 s2
    → HaveSource node (nodes ++ target ∷ []) s0 s2
source_more node target nodes s0 s1 s2 p q = record {
  long = q.long ∙ p.long;
  kept = λ b x c. q.kept b x (p.kept b x c);
  added = λ b l c. ⊎_elim
      (λ (d : Contains nodes b). q.kept b node (p.added b l d))
      (λ (e : target ≡ b). q.added b (omega (arith, p.long)) (0, omega arith, e))
      (Contains-push_cases nodes target b c);
  only = λ b x c. ⊎_elim
      (λ (d : Contains (targets s1 b) x). ⊎_elim
      (λ (f : Contains (targets s0 b) x). inl f)
      (λ (f : (node ≡ x) × Contains nodes b). inr (f.0, Contains-append_left nodes (target ∷ []) b f.1))
      (p.only b x d))
      (λ (d : (node ≡ x) × Contains (target ∷ []) b). inr (d.0, Contains-append_right nodes (target ∷ []) b d.1))
      (q.only b x c);
}

pub source_next_stays : (node i : ℕ) (nodes : List ℕ) (s0 s1 : Rows) → i < length nodes → HaveSource node (take i nodes) s0 s1 → length s1 ≤ get_or nodes i 0
    → HaveSource node (take (i + 1) nodes) s0 s1
source_next_stays node i nodes s0 s1 l p out =
    rw (take_more nodes i 0 l) (source_more node (get_or nodes i 0) (take i nodes) s0 s1 s1 p (source_stays node (get_or nodes i 0) s1 out))

pub source_next_added : (node i : ℕ) (nodes : List ℕ) (s0 s1 s2 : Rows) → i < length nodes → HaveSource node (take i nodes) s0 s1 → get_or nodes i 0 < length s1
    → s2 ≡ slice_set s1 (get_or nodes i 0) (targets s1 (get_or nodes i 0) ++ node ∷ []) → HaveSource node (take (i + 1) nodes) s0 s2
source_next_added node i nodes s0 s1 s2 l p within e =
    rw (take_more nodes i 0 l, e)
    (source_more node (get_or nodes i 0) (take i nodes) s0 s1 (slice_set s1 (get_or nodes i 0) (targets s1 (get_or nodes i 0) ++ node ∷ [])) p
    (source_added node (get_or nodes i 0) s1 within))

-- ---- the sources of all nodes, as far as they are known

pub record AreSources (g sources : Rows) (n : ℕ) : Type 0 where
  pub long : length sources ≡ length g
  pub forth : (a b : ℕ) → a < n → Edge g a b → Contains (targets sources b) a
  pub back : (a b : ℕ) → Contains (targets sources b) a → (a < n) × Contains (targets g a) b

pub sources_none : (g sources : Rows) → sources ≡ replicate (length g) [] → AreSources g sources 0
sources_none g sources e = rw e (record {
  long = length-replicate (length g) [];
  forth = λ a b l. absurd (omega arith);
  back = λ a b c. absurd (let d : Contains [] a = subst (λ (row : List ℕ). Contains row a) (empty b) c in omega (arith, d.1));
})
  where
    none : ℕ → Rows
    none n = replicate n []

    empty : (b : ℕ) → targets (replicate (length g) []) b ≡ []
    empty b = ⊎_elim
        (λ (l : b < length g). get_or-replicate (length g) b [] [] l)
        (λ (l : length g ≤ b). get_or_past (replicate (length g) []) b [] (let n : length (none (length g)) ≡ length g = length-replicate (length g) [] in omega arith))
        (below_or_not b (length g))

pub sources_more : (g before after : Rows) (n : ℕ) → AreSources g before n → HaveSource n (targets g n) before after → AreSources g after (n + 1)
sources_more g before after n s p = record {
  long = p.long ∙ s.long;
  forth = λ a b l e. ⊎_elim
      (λ (h : a ≡ n). subst (λ (k : ℕ). Contains (targets after b) k) (sym h)
      (p.added b (omega (arith, s.long, e.0)) (subst (λ (k : ℕ). Contains (targets g k) b) h e.1)))
      (λ (ne : a ≢ n). p.kept b a (s.forth a b (omega arith) e))
      (same_or_not a n);
  back = λ a b c. ⊎_elim
      (λ (d : Contains (targets before b) a). let r = s.back a b d in (omega (arith, r.0), r.1))
      (λ (d : (n ≡ a) × Contains (targets g n) b). (omega (arith, d.0), subst (λ (k : ℕ). Contains (targets g k) b) d.0 d.1))
      (p.only b a c);
}

pub sources_all : (g sources : Rows) (n : ℕ) → length g ≤ n → AreSources g sources n → IsTransposed g sources
sources_all g sources n l s = record {
  nodes = s.long;
  forth = λ a b e. (omega (arith, s.long, from_node g a b e), s.forth a b (omega (arith, from_node g a b e)) e);
  back = λ a b e. (omega (arith, s.long, from_node sources b a e), (s.back a b e.1).1);
}
