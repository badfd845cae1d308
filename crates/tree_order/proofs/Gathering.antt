-- What the rules of a grammar gather: for each value that a word spells a list of what stands in
-- it, and what holds of the word and that list.
-- The lists are of any kind, and so is what holds of them.
use Rattle.std.proofs.Common.{◌≡◌, ℕ, zero, suc, Bool, true, List, [], ◌∷◌, ◌++◌, ◌+◌, append_assoc}
use Rattle.std.proofs.Common.{refl, sym, ap, subst, ◌∙◌, inl, inr}
use Rattle.std.specs.Prelude.{flat_map}
use Rattle.std.proofs.lemmas.List.{append-nil}
use Rattle.std.proofs.lemmas.Grind.{flat_map-append}
use Rattle.token_grammar.specs.declared.token.TokenKind.{TokenKind}
use Rattle.token_grammar.specs.Texts.{Lexeme}
use Rattle.token_grammar.specs.Kinds.{is_kind}
use Rattle.token_grammar.specs.Grammar.{Word, Rule, ◌>>=◌, ◌or◌, give, token, token_as, scoped}
use Rattle.token_grammar.specs.Grammar.{deeper, node, times, many, start_of, end_of}
use Rattle.st_tree.specs.declared.node.Node.{Node}
use Rattle.st_tree.specs.Places.{node_at}

-- What is gathered of a node and of the text of a token, with what holds of a word and the list
-- gathered from it.
pub record Gathering {M : Type 0} (P : Word → List M → Type 0) : Type 0 where
  pub own : Node → List M
  pub spelled : TokenKind → List ℕ → List M
  pub nothing : P [] []
  pub one : (t : Lexeme) (n : ℕ) → P ((t, n) ∷ []) []
  pub text : (kind : TokenKind) (t : Lexeme) (n : ℕ) → is_kind kind t ≡ true →
      P ((t, n) ∷ []) (spelled kind t.bytes)
  pub both : (u v : Word) (ms ns : List M) → P u ms → P v ns → P (u ++ v) (ms ++ ns)
  pub whole : (w : Word) (ms : List M) → (w ≡ [] → ⊥) → P w ms →
      P w (own (node_at (start_of w) (end_of w)) ++ ms)

-- a word of the rule has a lexeme
pub record Filled {A : Type 0} (L : Rule A) : Type 0 where
  pub some : (d : ℕ) (w : Word) (x : A) (e : ℕ) → L d w x e → w ≡ [] → ⊥

-- From a word of the rule this list is gathered.
pub record Lists {M A : Type 0} (P : Word → List M → Type 0) (list : A → List M) (L : Rule A) : Type
    0 where
  pub holds : (d : ℕ) (w : Word) (x : A) (e : ℕ) → L d w x e → P w (list x)

pub record Gathered {M : Type 0} (P : Word → List M → Type 0) (R : List M → Type 0) (w : Word) :
    Type 0 where
  pub list : List M
  pub related : R list
  pub holds : P w list

-- From a word of the rule a list is gathered that is so related to the value.
pub record Gathers {M A : Type 0} (P : Word → List M → Type 0) (R : A → List M →
    Type 0) (L : Rule A) : Type 0 where
  pub gathered : (d : ℕ) (w : Word) (x : A) (e : ℕ) → L d w x e → Gathered P (R x) w

-- ---- words with a lexeme

pub filled_token : {test : Lexeme → Bool} (own more : ℕ) → Filled (token_as test own more)
filled_token own more = record { some = λ d w x e (is, passes, after) empty. absurd cc }

pub filled_first : {A B : Type 0} {L : Rule A} {N : A → Rule B} → Filled L → Filled (L >>= N)
filled_first h =
    record {
      some = λ d w y e (u, v, x, m, is, l, r) empty. h.some d u x m l
          (front_empty u v (sym is ∙ empty));
    }
  where
    front_empty : (u v : Word) → u ++ v ≡ [] → u ≡ []
    front_empty [] v e = refl
    front_empty (p ∷ u) v e = absurd cc

pub filled_or : {A : Type 0} {L N : Rule A} → Filled L → Filled N → Filled (L or N)
filled_or h k =
    record {
      some = λ d w x e either. elim either [
        | inl l ↦ h.some d w x e l
        | inr r ↦ k.some d w x
            e r
      ];
    }

pub filled_scoped : {A : Type 0} {L : Rule A} → Filled L → Filled (scoped L)
filled_scoped h = record { some = λ d w x e (m, l, is). h.some d w x m l }

pub filled_node : {A B : Type 0} (make : ℕ → ℕ → A → B) {L : Rule A} → Filled L →
    Filled (node make L)
filled_node make h = record { some = λ d w y e (x, l, is). h.some d w x e l }

module _ {M : Type 0} {P : Word → List M → Type 0} (G : Gathering P) where
  -- ---- rules one after the other, and either of two

  pub gathers_give : {A : Type 0} {R : A → List M → Type 0} {a : A} → R a [] → Gathers P R (give a)
  gathers_give {R} {a} r = record {
    gathered = λ d w x e (empty, is, same). record {
      list = [];
      related = subst (λ y. R y []) (sym is) r;
      holds = subst (λ v. P v []) (sym empty) G.nothing;
    };
  }

  -- a rule from which a list is gathered, and what follows it
  pub gathers_then : {A B : Type 0} {list : A → List M} {R : B → List M → Type 0} {L : Rule A}
      {N : A → Rule B}
      → Lists P list L → ((x : A) → Gathers P (λ y ns. R y (list x ++ ns)) (N x)) →
      Gathers P R (L >>= N)
  gathers_then {list} {R} h next = record {
    gathered = λ d w y e (u, v, x, m, is, l, r).
        let g = (next x).gathered m v y e r in
        record {
          list = list x ++ g.list;
          related = g.related;
          holds = subst (λ z. P z (list x ++ g.list)) (sym is)
              (G.both u v (list x) g.list (h.holds d u x m l) g.holds);
        };
  }

  -- of three rules the last two may as well stand together
  pub gathers_apart : {A B C : Type 0} {R : C → List M → Type 0} {L : Rule A} {N : A →
      Rule B} {K : B → Rule C} → Gathers P R ((L >>= N) >>= K) → Gathers P R (L >>= λ x. N x >>= K)
  gathers_apart h = record {
    gathered = λ d w z e (u, v, x, m, is, l, (a, b, y, n, apart, r, s)).
        h.gathered d w z e (
          u ++ a,
          b,
          y,
          n,
          is ∙ ap (λ t. u ++ t) apart ∙ sym (append_assoc u a b),
          (u, a, x, m, refl, l, r),
          s,
        );
  }

  -- a token of which nothing is gathered, and what follows it
  pub gathers_behind : {B : Type 0} {R : B → List M → Type 0} {test : Lexeme → Bool} (own more : ℕ)
      {N : Lexeme → Rule B}
      → ((t : Lexeme) → Gathers P R (N t)) → Gathers P R (token_as test own more >>= N)
  gathers_behind {R} own more next = record {
    gathered = λ d w y e (u, v, x, m, is, (one, passes, after), r).
        let g = (next x).gathered m v y e r in
        record {
          list = g.list;
          related = g.related;
          holds = subst (λ z. P z g.list)
              (sym (is ∙ ap (λ z. z ++ v) one)) (G.both ((x, _) ∷ []) v [] g.list (G.one x _)
              g.holds);
        };
  }

  pub gathers_or : {A : Type 0} {R : A → List M → Type 0} {L N : Rule A} → Gathers P R L →
      Gathers P R N → Gathers P R (L or N)
  gathers_or h k =
      record {
        gathered = λ d w x e either. elim either [
          | inl l ↦ h.gathered d w x e l
          | inr r ↦
              k.gathered d w x e r
        ];
      }

  pub lists_or : {A : Type 0} {list : A → List M} {L N : Rule A} → Lists P list L → Lists P list N →
      Lists P list (L or N)
  lists_or h k =
      record {
        holds = λ d w x e either. elim either [
          | inl l ↦ h.holds d w x e l
          | inr r ↦ k.holds d
              w x e r
        ];
      }

  pub gathers_scoped : {A : Type 0} {R : A → List M → Type 0} {L : Rule A} → Gathers P R L →
      Gathers P R (scoped L)
  gathers_scoped h = record { gathered = λ d w x e (m, l, is). h.gathered d w x m l }

  pub lists_scoped : {A : Type 0} {list : A → List M} {L : Rule A} → Lists P list L →
      Lists P list (scoped L)
  lists_scoped h = record { holds = λ d w x e (m, l, is). h.holds d w x m l }

  pub lists_deeper : {A : Type 0} {list : A → List M} {L : Rule A} → Lists P list L →
      Lists P list (deeper L)
  lists_deeper h = record { holds = λ d w x e l. h.holds (d + 1) w x e l }

  -- ---- from what is related to the list itself, and back

  pub lists : {A : Type 0} {list : A → List M} {L : Rule A} → Gathers P (λ x ms. list x ≡ ms) L →
      Lists P list L
  lists {list} h =
      record {
        holds = λ d w x e l. let g = h.gathered d w x e l in subst (λ ms. P w ms)
            (sym g.related) g.holds;
      }

  pub gathers : {A : Type 0} {list : A → List M} {R : A → List M → Type 0} {L : Rule A} →
      ((x : A) → R x (list x)) → Lists P list L → Gathers P R L
  gathers {list} to h =
      record {
        gathered = λ d w x e l. record {
          list = list x;
          related = to x;
          holds = h.holds d w x
              e l;
        };
      }

  pub gathers_as : {A : Type 0} {R S : A → List M → Type 0} {L : Rule A} →
      ((x : A) (ms : List M) → R x ms → S x ms) → Gathers P R L → Gathers P S L
  gathers_as to h =
      record {
        gathered = λ d w x e l. let g = h.gathered d w x e l in record
            { list = g.list; related = to x g.list g.related; holds = g.holds };
      }

  -- ---- the text of a token

  pub lists_word : (kind : TokenKind) → Lists P (G.spelled kind) (token kind >>= λ t. give t.bytes)
  lists_word kind = record {
    holds = λ d w x e (u, v, t, m, is, (one, passes, after), (empty, same, ends)).
        subst (λ z. P z (G.spelled kind x))
        (sym (is ∙ ap (λ z. z ++ v) one ∙ ap (λ z. (t, d + 0) ∷ z) empty))
        (subst (λ z. P ((t, d + 0) ∷ []) (G.spelled kind z)) (sym same)
        (G.text kind t (d + 0) passes));
  }

  -- what stands behind a token, and what it gathers
  pub lists_behind : {A : Type 0} {list : A → List M} {test : Lexeme → Bool} (own more : ℕ)
      {L : Rule A} → Lists P list L → Lists P list (token_as test own more >>= λ _. L)
  lists_behind own more h = lists (gathers_behind own more (λ t. gathers (λ x. refl) h))

  -- between brackets
  pub lists_enclosed : {A : Type 0} {list : A → List M} {opens closes : Lexeme →
      Bool} (own more own_behind more_behind : ℕ) {L : Rule A} → Lists P list L
      → Lists P list (token_as opens own more >>= λ _. L >>= λ x. token_as closes own_behind
      more_behind >>= λ _. give x)
  lists_enclosed {list} own more own_behind more_behind h =
      lists (gathers_behind own more
      (λ t. gathers_then h (λ x. gathers_behind own_behind more_behind
      (λ c. gathers_give (sym (append-nil (list x)))))))

  -- ---- nodes

  pub lists_node : {A B : Type 0} (list : A → List M) (after : B → List M) (make : ℕ → ℕ → A →
      B) {L : Rule A} → Filled L
      → ((start end : ℕ) (x : A) → after (make start end x) ≡ G.own (node_at start end) ++ list x) →
      Lists P list L → Lists P after (node make L)
  lists_node list after make filled to h = record {
    holds = λ d w y e (x, l, is).
        subst (λ z. P w z) (sym (ap after is ∙ to (start_of w) (end_of w) x))
        (G.whole w (list x) (filled.some d w x e l) (h.holds d w x e l));
  }

  pub gathers_node : {A B : Type 0} {R : B → List M → Type 0} {S : A → List M → Type 0} (make : ℕ →
      ℕ → A → B) {L : Rule A} → Filled L
      → ((start end : ℕ) (x : A) (ms : List M) → S x ms →
      R (make start end x) (G.own (node_at start end) ++ ms)) → Gathers P S L →
      Gathers P R (node make L)
  gathers_node {R} make filled to h = record {
    gathered = λ d w y e (x, l, is).
        let g = h.gathered d w x e l in
        record {
          list = G.own (node_at (start_of w) (end_of w)) ++ g.list;
          related =
              subst (λ z. R z (G.own (node_at (start_of w) (end_of w)) ++ g.list)) (sym is)
              (to (start_of w) (end_of w) x g.list g.related);
          holds = G.whole w g.list (filled.some d w x e l) g.holds;
        };
  }

  -- ---- any number of times

  gathers_times : {A : Type 0} {list : A → List M} {step : A → Rule A} →
      ((x : A) → Gathers P (λ y ns. list y ≡ list x ++ ns) (step x))
      → (n : ℕ) (a : A) (d : ℕ) (w : Word) (x : A) (e : ℕ) → times step n a d w x e →
      Gathered P (λ ns. list x ≡ list a ++ ns) w
  gathers_times {list} h zero a d w x e (empty, is, same) = record {
    list = [];
    related = ap list is ∙ sym (append-nil (list a));
    holds = subst (λ v. P v []) (sym empty) G.nothing;
  }
  gathers_times {list} h (suc n) a d w x e (u, v, b, m, is, l, r) =
      let g = (h a).gathered d u b m l in
      let k = gathers_times h n b m v x e r in
      record {
        list = g.list ++ k.list;
        related = k.related ∙ ap (λ z. z ++ k.list) g.related ∙ append_assoc (list a) g.list k.list;
        holds =
            subst (λ z. P z (g.list ++ k.list)) (sym is) (G.both u v g.list k.list g.holds k.holds);
      }

  pub gathers_many : {A : Type 0} {list : A → List M} {step : A → Rule A} →
      ((x : A) → Gathers P (λ y ns. list y ≡ list x ++ ns) (step x)) → (a : A)
      → Gathers P (λ y ns. list y ≡ list a ++ ns) (many step a)
  gathers_many h a = record { gathered = λ d w x e (n, l). gathers_times h n a d w x e l }

  -- ---- lists of what a rule spells

  last_listed : {A : Type 0} (list : A → List M) (xs : List A) (x : A) →
      flat_map list (xs ++ x ∷ []) ≡ flat_map list xs ++ (list x ++ [])
  last_listed list xs x = flat_map-append list xs (x ∷ [])

  -- one more behind others
  pub gathers_another : {A : Type 0} {list : A → List M} {L : Rule A} → Lists P list L
      → (xs : List A) → Gathers P (λ ys ns. flat_map list ys ≡ flat_map list xs ++ ns)
      (L >>= λ x. give (xs ++ x ∷ []))
  gathers_another {list} h xs = gathers_then h (λ x. gathers_give (last_listed list xs x))

  pub gathers_more : {A : Type 0} {list : A → List M} {L : Rule A} {test : Lexeme →
      Bool} (own more : ℕ) → Lists P list L
      → (xs : List A) → Gathers P (λ ys ns. flat_map list ys ≡ flat_map list xs ++ ns)
      (token_as test own more >>= λ _. L >>= λ x. give (xs ++ x ∷ []))
  gathers_more own more h xs = gathers_behind own more (λ t. gathers_another h xs)

  -- none at first
  pub lists_many : {A : Type 0} (list : A → List M) {step : List A → Rule (List A)} →
      ((xs : List A) → Gathers P (λ ys ns. flat_map list ys ≡ flat_map list xs ++ ns) (step xs))
      → Lists P (flat_map list) (many step [])
  lists_many list h = lists (gathers_many h [])

  -- a first one, and more of them
  pub lists_some : {A : Type 0} {list : A → List M} {L : Rule A} {step : List A → Rule (List A)} →
      Lists P list L → ((xs : List A) →
      Gathers P (λ ys ns. flat_map list ys ≡ flat_map list xs ++ ns) (step xs))
      → Lists P (flat_map list) (L >>= λ x. many step (x ∷ []))
  lists_some {list} first h =
      lists (gathers_then first
      (λ x. gathers_as (λ ys ns is. is ∙ ap (λ z. z ++ ns) (append-nil (list x)))
      (gathers_many h (x ∷ []))))
