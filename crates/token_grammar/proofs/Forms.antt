-- What is to be known of a rule that reads one token or more, in one record, and the steps that
-- keep it.
use Rattle.std.proofs.Common.{◌≡◌, ℕ, zero, suc, ◌+◌, ◌<◌, ◌≤◌, Bool, true, false, List, [], ◌∷◌, ◌++◌, refl, sym, subst, ◌∙◌, arith, inl, inr}
use Rattle.std.proofs.lemmas.List.{append-nil}
use Rattle.token_grammar.specs.declared.token.TokenKind.{TokenKind}
use Rattle.token_grammar.specs.Texts.{Lexeme}
use Rattle.token_grammar.specs.Kinds.{is_kind}
use Rattle.token_grammar.specs.steps.Parsers.{Parser, and_then, pure, take_as, choose, repeated, sees_in, scoped as back_after, deeper as deeper_of, node as node_of}
use Rattle.token_grammar.specs.Grammar.{Word, Rule, lexemes_of, Within, ◌>>=◌, ◌or◌, give, token_as, scoped, deeper, node, many, times, max_depth}
use Rattle.token_grammar.proofs.Laws.{Exact, Some_, lexemes_of-two}
use Rattle.token_grammar.proofs.OneToken.{exact_token}
use Rattle.token_grammar.proofs.Bind.{bind}
use Rattle.token_grammar.proofs.Steps.{exact_same, exact_choose, exact_scoped, exact_deeper, exact_node}
use Rattle.token_grammar.proofs.Loops.{Turn, exact_repeated, after}
use Rattle.token_grammar.proofs.Starts.{sees_any, disjoint, Starts, sees_other, only_true, only_false, or_left, any_left, any_right, in_either, refuses_end, one_of, fewer_left, fewer_right, one_of_any, none_of_any, starts_long, starts_token, starts_bind, starts_or, starts_scoped, starts_deeper, starts_node, bind_starts, bind_give, choose_kind, choose_none, or_false, Opens, opens_token, opens_bind, opens_or, opens_scoped, opens_deeper, opens_node, held_of, IsLevel}

-- The parser reads the rule, at the depths of the test. A word of it begins with one of the first
-- kinds, and each of these begins one. It may go on with one of the last kinds.
pub record Form {A : Type 0} (V : ℕ → Type 0) (p : Parser A) (L : Rule A)
    (firsts ends : List TokenKind) : Type 0 where
  pub exact : Exact V p L (sees_any ends)
  pub starts : Starts L firsts
  pub opens : Opens L firsts

-- ---- depths

-- where a rule may begin in which so many rules nest, and behind its first token
abbrev pub Inner : ℕ → ℕ → Type 0
Inner n d = (max_depth < n + d) × (d ≤ max_depth)

abbrev pub Body : ℕ → ℕ → Type 0
Body n d = max_depth < suc n + d

abbrev pub Anywhere : ℕ → Type 0
Anywhere d = Unit {0}

-- what follows stands at the same depth, or deeper
abbrev pub Carries : {A : Type 0} → (V W : ℕ → Type 0) → Rule A → Type 0
Carries V W L = (d : ℕ) (u : Word) (x : _) (m : ℕ) → V d → L d u x m → Within u → W m

pub level_carries : {A : Type 0} (V : ℕ → Type 0) {L : Rule A} → IsLevel L → Carries V V L
level_carries V level d u x m v l within = subst V (sym (level d u x m l)) v

pub body_carries : {A : Type 0} {V : ℕ → Type 0} {p : Parser A} {L : Rule A} {more : List Lexeme
    → Bool} (n : ℕ) → Exact V p L more → Carries (Body n) (Body n) L
body_carries n h d u x m v l within = omega (arith, v, h.rises d u x m l)

pub anywhere : {A : Type 0} (V : ℕ → Type 0) (L : Rule A) → Carries V Anywhere L
anywhere V L d u x m v l within = tt

given : {A : Type 0} (a : A) (d : ℕ) → Some_ (give a) d
given a d = record { word = []; value = a; depth = d; spelled = (refl, refl, refl) }

Within-parts : (u v : Word) → Within (u ++ v) → Within u × Within v
Within-parts [] v h = (tt, h)
Within-parts (p ∷ u) v h = let both = Within-parts u v h.1 in ((h.0, both.0), both.1)

-- ---- one after the other

pub form_token : {V : ℕ → Type 0} (k : TokenKind) (own rise : ℕ)
    → Form V (take_as (is_kind k) own rise) (token_as (is_kind k) own rise) (k ∷ []) []
form_token k own rise = record {
  exact = exact_token k own rise;
  starts = starts_token k own rise;
  opens = opens_token k own rise;
}

-- a rule that goes on nowhere, and what follows it
pub form_then : {A B : Type 0} {V W : ℕ → Type 0} {p : Parser A} {f : A → Parser B} {L : Rule A}
    {M : A → Rule B} {ks es : List TokenKind}
    → Form V p L ks [] → ((x : A) → Exact W (f x) (M x) (sees_any es)) → Carries V W L
    → Form V (λ i. and_then (p i) f) (L >>= M) ks es
form_then h next carry = record {
  exact = bind {more1 = sees_any []} h.exact next carry (λ x m v y e r rest no_more. refl);
  starts = starts_bind h.starts;
  opens = opens_bind h.opens (λ x d. (next x).some d);
}

-- a rule, and what follows it, which begins with none of the kinds with which the rule goes on
pub form_next : {A B : Type 0} {V W : ℕ → Type 0} {p : Parser A} {f : A → Parser B} {L : Rule A}
    {M : A → Rule B} {ks ends js es : List TokenKind}
    → Form V p L ks ends → ((x : A) → Exact W (f x) (M x) (sees_any es))
    → ((x : A) → Starts (M x) js) → disjoint js ends ≡ true → Carries V W L
    → Form V (λ i. and_then (p i) f) (L >>= M) ks es
form_next {ends} h next starts apart carry = record {
  exact = bind_starts ends h.exact next carry starts apart;
  starts = starts_bind h.starts;
  opens = opens_bind h.opens (λ x d. (next x).some d);
}

-- the first kinds of the rule that follows are told by a form
pub form_join : {A B : Type 0} {V W : ℕ → Type 0} {p : Parser A} {f : A → Parser B} {L : Rule A}
    {M : A → Rule B} {ks ends js es : List TokenKind}
    → Form V p L ks ends → ((x : A) → Form W (f x) (M x) js es) → disjoint js ends ≡ true
    → Carries V W L → Form V (λ i. and_then (p i) f) (L >>= M) ks es
form_join h next apart carry = form_next h (λ x. (next x).exact) (λ x. (next x).starts) apart carry

pub form_as : {A B : Type 0} {V : ℕ → Type 0} {p : Parser A} {L : Rule A} {ks es : List TokenKind}
    (g : A → B) → Form V p L ks es
    → Form V (λ i. and_then (p i) (λ x. pure (g x))) (L >>= λ x. give (g x)) ks es
form_as g h = record {
  exact = bind_give g h.exact;
  starts = starts_bind h.starts;
  opens = opens_bind h.opens (λ x d. given (g x) d);
}

-- a token, and what follows it
pub form_take : {B : Type 0} {V W : ℕ → Type 0} {f : Lexeme → Parser B} {M : Lexeme → Rule B}
    {es : List TokenKind} (k : TokenKind) (own rise : ℕ)
    → ((t : Lexeme) → Exact W (f t) (M t) (sees_any es))
    → ((d : ℕ) → V d → d + own ≤ max_depth → W (d + rise))
    → Form V (λ i. and_then (take_as (is_kind k) own rise i) f) (token_as (is_kind k) own rise
    >>= M) (k ∷ []) es
form_take {B} {V} {W} k own rise next carry = form_then (form_token k own rise) next
    (λ d u t m v (eq, is, after) within. rw after
    (carry d v (first_within u t (d + own) eq within)))
  where
    first_within : (u : Word) (t : Lexeme) (n : ℕ) → u ≡ (t, n) ∷ [] → Within u → n ≤ max_depth
    first_within u t n e h = let k : Within ((t, n) ∷ []) = subst Within e h in k.0

-- a last token, and what was read
pub form_last : {B : Type 0} {V : ℕ → Type 0} (k : TokenKind) (b : B)
    → Form V (λ i. and_then (take_as (is_kind k) 0 0 i) (λ _. pure b)) (token_as (is_kind k) 0 0
    >>= λ _. give b) (k ∷ []) []
form_last k b = form_as (λ _. b) (form_token k 0 0)

-- ---- either

pub form_or : {A : Type 0} {V : ℕ → Type 0} {p q : Parser A} {L M : Rule A}
    {ks e1 e2 : List TokenKind} (k : TokenKind)
    → Form V p L (k ∷ []) e1 → Form V q M ks e2 → disjoint ks (k ∷ []) ≡ true
    → Form V (choose (sees_in k) p q) (L or M) (k ∷ ks) (e1 ++ e2)
form_or {e1} {e2} k h j apart = record {
  exact = choose_kind k h.exact j.exact h.starts j.starts apart
      (λ rest e. (fewer_left e1 e2 rest e, fewer_right e1 e2 rest e));
  starts = starts_or h.starts j.starts;
  opens = opens_or h.opens j.opens;
}

-- by a look for some of the kinds
pub exact_by : {A : Type 0} {V : ℕ → Type 0} {p q : Parser A} {L M : Rule A}
    {js ks : List TokenKind} (e1 e2 : List TokenKind) {test : List Lexeme → Bool}
    → ((ts : List Lexeme) → test ts ≡ sees_any js ts) → Exact V p L (sees_any e1) → Starts L js
    → Exact V q M (sees_any e2) → Starts M ks → disjoint ks js ≡ true
    → Exact V (choose test p q) (L or M) (sees_any (e1 ++ e2))
exact_by {js} {ks} e1 e2 {test} is h starts j others apart = exact_choose test h j
    (λ t r1 r2. is (t ∷ r1) ∙ one_of_any js t r1 r2 ∙ sym (is (t ∷ r2))) (is [] ∙ none_of_any js)
    (λ last d v t r e. inl (refuses_end j (starts_long others) last d v)) (sees_any (e1 ++ e2))
    (λ rest e. (fewer_left e1 e2 rest e, fewer_right e1 e2 rest e))
    (λ d w x e l rest _. is (lexemes_of w ++ rest) ∙ starts.sees d w x e l rest)
    (λ d w x e l rest _. is (lexemes_of w ++ rest) ∙ sees_other ks js (lexemes_of w ++ rest) apart
    (others.sees d w x e l rest))

pub form_choose : {A : Type 0} {V : ℕ → Type 0} {p q : Parser A} {L M : Rule A}
    {js ks e1 e2 : List TokenKind} {test : List Lexeme → Bool}
    → ((ts : List Lexeme) → test ts ≡ sees_any js ts) → Form V p L js e1 → Form V q M ks e2
    → disjoint ks js ≡ true → Form V (choose test p q) (L or M) (js ++ ks) (e1 ++ e2)
form_choose {e1} {e2} is h j apart = record {
  exact = exact_by e1 e2 is h.exact h.starts j.exact
      j.starts apart;
  starts = starts_or h.starts j.starts;
  opens = opens_or h.opens j.opens;
}

-- a part that may be left out
pub exact_optional : {A : Type 0} {V : ℕ → Type 0} {p : Parser A} {L : Rule A} {es : List TokenKind}
    (k : TokenKind) (a : A)
    → Form V p L (k ∷ []) es
    → Exact V (choose (sees_in k) p (pure a)) (L or give a) (sees_any (k ∷ es))
exact_optional {es} k a h =
    choose_none k a h.exact h.starts h.opens (none_of_any es) (λ rest e. or_false _ _ e)

-- ---- around a rule

pub form_scoped : {A : Type 0} {V : ℕ → Type 0} {p : Parser A} {L : Rule A} {ks es : List TokenKind}
    → Form V p L ks es → Form V (back_after p) (scoped L) ks es
form_scoped h = record {
  exact = exact_scoped h.exact;
  starts = starts_scoped h.starts;
  opens = opens_scoped h.opens;
}

pub form_deeper : {A : Type 0} {V W : ℕ → Type 0} {p : Parser A} {L : Rule A}
    {ks es : List TokenKind} → Form W p L ks es → ((d : ℕ) → V d → W (d + 1)) → Form V (deeper_of p)
    (deeper L) ks es
form_deeper h carry = record {
  exact = exact_deeper h.exact carry;
  starts = starts_deeper h.starts;
  opens = opens_deeper h.opens;
}

pub form_node : {A B : Type 0} {V : ℕ → Type 0} {p : Parser A} {L : Rule A} {ks es : List TokenKind}
    (make : ℕ → ℕ → A → B) → Form V p L ks es → Form V (node_of make p) (node make L) ks es
form_node make h = record {
  exact = exact_node make (starts_long h.starts) h.exact;
  starts = starts_node make h.starts;
  opens = opens_node make h.opens;
}

-- fewer depths, and the rule in other words
pub form_narrow : {A : Type 0} {V W : ℕ → Type 0} {p : Parser A} {L : Rule A}
    {ks es : List TokenKind} → Form V p L ks es → ((d : ℕ) → W d → V d) → Form W p L ks es
form_narrow h wider = record {
  exact = exact_same h.exact wider (λ d w x e l. l) (λ d w x e l. l)
      (λ rest e. e);
  starts = h.starts;
  opens = h.opens;
}

-- ---- any number of times

module _ {A : Type 0} {V : ℕ → Type 0} {test : List Lexeme → Bool} {step : A → Parser A}
    {rule : A → Rule A} {ks es : List TokenKind}
    (is : (ts : List Lexeme) → test ts ≡ sees_any ks ts) (h : (a : A) → Form V (step a) (rule a) ks
    es) (apart : disjoint ks es ≡ true) (carry : (a : A) → Carries V V (rule a)) where
  turns : Turn V test step rule (sees_any es)
  turns = record {
    exact = λ a. (h a).exact;
    carry = carry;
    begins = λ a d u x m l rest. is (lexemes_of u ++ rest) ∙ (h a).starts.sees d u x m l rest;
    longer = λ a d u x m l. starts_long (h a).starts d u x m l;
    one = λ t r1 r2. is (t ∷ r1) ∙ one_of_any ks t r1 r2 ∙ sym (is (t ∷ r2));
    none = is [] ∙ none_of_any ks;
    apart = λ ts e. sees_other ks es ts apart (sym (is ts) ∙ e);
    held = λ a last d v t r e. held_of (h a).exact (none_of_any es) (h a).opens last d v t r
        (sym (is (t ∷ r)) ∙ e);
  }

  pub exact_many : (a : A) → Exact V (repeated test step a) (many rule a) (sees_any (ks ++ es))
  exact_many a = exact_repeated turns (λ rest e. (
    is rest ∙ fewer_left ks es rest e,
    fewer_right ks
        es rest e,
  )) a

-- behind a first one, which goes on with the same kinds
pub exact_list : {A B : Type 0} {V : ℕ → Type 0} {test : List Lexeme → Bool} {step : B → A
    → Parser A} {rule : B → A → Rule A} {ks es : List TokenKind} {p : Parser B} {L : Rule B}
    → ((ts : List Lexeme) → test ts ≡ sees_any ks ts)
    → ((b : B) (a : A) → Form V (step b a) (rule b a) ks es) → disjoint ks es ≡ true
    → ((b : B) (a : A) → Carries V V (rule b a))
    → (g : B → A) → Exact V p L (sees_any es) → Carries V V L
    → Exact V (λ i. and_then (p i) (λ x. repeated test (step x) (g x)))
    (L >>= λ x. many (rule x) (g x)) (sees_any (ks ++ es))
exact_list {ks} {es} is h apart carry g first over =
    bind {more1 = sees_any es} first (λ x. exact_many is (h x) apart (carry x) (g x)) over
    (λ x m v y e l rest no_more. after (turns is (h x) apart (carry x)) l.0 (g x) m v y e rest
    (fewer_right ks es rest no_more) l.1)

pub form_list : {A B : Type 0} {V : ℕ → Type 0} {test : List Lexeme → Bool} {step : B → A
    → Parser A} {rule : B → A → Rule A} {fs ks es : List TokenKind} {p : Parser B} {L : Rule B}
    → ((ts : List Lexeme) → test ts ≡ sees_any ks ts)
    → ((b : B) (a : A) → Form V (step b a) (rule b a) ks es) → disjoint ks es ≡ true
    → ((b : B) (a : A) → Carries V V (rule b a))
    → (g : B → A) → Form V p L fs es → Carries V V L
    → Form V (λ i. and_then (p i) (λ x. repeated test (step x) (g x)))
    (L >>= λ x. many (rule x) (g x)) fs (ks ++ es)
form_list is h apart carry g first over = record {
  exact = exact_list is h apart carry g first.exact over;
  starts = starts_bind first.starts;
  opens = opens_bind first.opens (λ x d. (exact_many is (h x) apart (carry x) (g x)).some d);
}

-- any number of times, and what follows
module _ {A B : Type 0} {V : ℕ → Type 0} {step : A → Parser A} {rule : A → Rule A}
    {f : A → Parser B} {M : A → Rule B} {ks ends js es : List TokenKind} (a : A)
    (h : (b : A) → Form V (step b) (rule b) ks ends) (next : (b : A) → Form V (f b) (M b) js es)
  where
    starts_then : (n : ℕ) (b : A) (d : ℕ) (u v : Word) (x : A) (m : ℕ) (y : B) (e : ℕ)
        → times rule n b d u x m → M x m v y e → (rest : List Lexeme)
        → sees_any (ks ++ js) (lexemes_of (u ++ v) ++ rest) ≡ true
    starts_then zero b d u v x m y e (empty, is, same) r rest =
        rw empty (any_right ks js (lexemes_of v ++ rest) ((next x).starts.sees m v y e r rest))
    starts_then (suc n) b d u v x m y e (u1, u2, c, m2, eq, l, k) r rest =
        rw (lexemes_of-two u v rest, eq, lexemes_of-two u1 u2 (lexemes_of v ++ rest))
        (any_left ks js _ ((h b).starts.sees d u1 c m2 l (lexemes_of u2 ++ (lexemes_of v ++ rest))))

    opens_then : (d : ℕ) (t : Lexeme) (r : List Lexeme) → sees_any (ks ++ js) (t ∷ r) ≡ true
        → (at : ℕ) × (w : Word) × (y : B) × (e : ℕ) × (many rule a >>= M) d ((t, at) ∷ w) y e
    opens_then d t r e = elim (in_either ks js (t ∷ r) e) [
      | inl is ↦
          let (at, w, x, m, l) = (h a).opens.word d t r is in
          let s = (next x).exact.some m in (
            at,
            w ++ s.word,
            s.value,
            s.depth,
            (
              (t, at) ∷ w,
              s.word,
              x,
              m,
              refl,
              (suc zero, ((t, at) ∷ w, [], x, m, sym (append-nil _), l, (refl, refl, refl))),
              s.spelled,
            ),
          )
      | inr is ↦ let (at, w, y, m, l) = (next a).opens.word d t r is in
          (at, w, y, m, ([], (t, at) ∷ w, a, d, refl, (zero, (refl, refl, refl)), l))
    ]

    pub form_many_then : {test : List Lexeme → Bool} → ((ts : List Lexeme) → test ts ≡ sees_any ks ts)
        → disjoint ks ends ≡ true → ((b : A) → Carries V V (rule b)) → disjoint js (ks ++ ends) ≡ true
        → Form V (λ i. and_then (repeated test step a i) f) (many rule a >>= M) (ks ++ js) es
    form_many_then is apart carry free = record {
      exact = bind_starts (ks ++ ends) (exact_many is h apart carry a) (λ b. (next b).exact)
          (λ d u x m v l within. carried l.0 a d u x m v l.1 within) (λ b. (next b).starts) free;
      starts = record {
        sees = λ d w y e (u, v, x, m, eq, (n, l), r) rest. rw eq
            (starts_then n a d u v x m y e l r rest);
      };
      opens = record { word = opens_then };
    }
      where
        carried : (n : ℕ) (b : A) (d : ℕ) (u : Word) (x : A) (m : ℕ) → V d → times rule n b d u x m
            → Within u → V m
        carried zero b d u x m v (empty, is, same) within = subst V (sym same) v
        carried (suc n) b d u x m v (u1, u2, c, m2, eq, l, k) within =
            let both = Within-parts u1 u2 (subst Within eq within) in
            carried n c m2 u2 x m (carry b d u1 c m2 v l both.0) k both.1

-- ---- a rule, or another that may be empty

-- where this kind doesn't come next, it doesn't come next before a word of the rule either
abbrev pub Avoids : {A : Type 0} → Rule A → TokenKind → Type 0
Avoids L k = (d : ℕ) (w : Word) (x : _) (e : ℕ) → L d w x e → (rest : List Lexeme)
    → sees_in k rest ≡ false → sees_in k (lexemes_of w ++ rest) ≡ false

pub avoids_starts : {A : Type 0} {L : Rule A} {ks : List TokenKind} (k : TokenKind) → Starts L ks
    → disjoint ks (k ∷ []) ≡ true → Avoids L k
avoids_starts {ks} k h apart d w x e l rest other =
    only_false _ (sees_other ks (k ∷ []) _ apart (h.sees d w x e l rest))

pub avoids_give : {A : Type 0} (k : TokenKind) (a : A) → Avoids (give a) k
avoids_give k a d w x e (empty, is, same) rest other = rw empty other

pub avoids_or : {A : Type 0} {L M : Rule A} (k : TokenKind) → Avoids L k → Avoids M k
    → Avoids (L or M) k
avoids_or k one other d w x e (inl l) rest none = one d w x e l rest none
avoids_or k one other d w x e (inr l) rest none = other d w x e l rest none

-- (one after the other, both may be empty)
pub avoids_bind : {A B : Type 0} {L : Rule A} {M : A → Rule B} (k : TokenKind) → Avoids L k
    → ((x : A) → Avoids (M x) k) → Avoids (L >>= M) k
avoids_bind k first next d w y e (u, v, x, m, eq, l, r) rest none = rw (eq, lexemes_of-two u v rest)
    (first d u x m l (lexemes_of v ++ rest) (next x m v y e r rest none))

-- a rule that goes on with one kind, and what follows it, which may be empty
pub exact_after : {A B : Type 0} {V W : ℕ → Type 0} {p : Parser A} {f : A → Parser B} {L : Rule A}
    {M : A → Rule B} {more2 : List Lexeme → Bool} (k : TokenKind)
    → Exact V p L (sees_any (k ∷ [])) → ((x : A) → Exact W (f x) (M x) more2)
    → ((x : A) → Avoids (M x) k)
    → ((rest : List Lexeme) → more2 rest ≡ false → sees_in k rest ≡ false) → Carries V W L
    → Exact V (λ i. and_then (p i) f) (L >>= M) more2
exact_after k h next avoids further carry = bind {more1 = sees_any (k ∷ [])} h next carry
    (λ x m v y e r rest no_more. rw (avoids x m v y e r rest (further rest no_more)) refl)

-- a part that may be left out goes on with no kind with which what stands before it goes on
pub apart_optional : {A B : Type 0} {M : Rule A} (k : TokenKind) (es : List TokenKind)
    → Starts M (k ∷ []) → disjoint (k ∷ []) es ≡ true → (a : A) (g : A → B)
    → (m : ℕ) (v : Word) (y : B) (e : ℕ) → ((M or give a) >>= λ x. give (g x)) m v y e
    → (rest : List Lexeme) → sees_any (k ∷ es) rest ≡ false
    → sees_any es (lexemes_of v ++ rest) ≡ false
apart_optional k es starts apart a g m v y e (u1, u2, x, m1, eq, inl l, r) rest free = sees_other
    (k ∷ []) es (lexemes_of v ++ rest) apart ((starts_bind {M = λ x. give (g x)} starts).sees m v y
    e (u1, u2, x, m1, eq, l, r) rest)
apart_optional k es starts apart a g m v y e (u1, u2, x, m1, eq, inr l, r) rest free =
    rw (eq, l.0, r.0) ((or_false _ _ free).1)

avoids_times : {A : Type 0} {rule : A → Rule A} (k : TokenKind) → ((a : A) → Avoids (rule a) k)
    → (n : ℕ) (a : A) → Avoids (times rule n a) k
avoids_times k one zero a d w x e (empty, is, same) rest none = rw empty none
avoids_times k one (suc n) a d w x e (u, v, b, m, eq, l, r) rest none =
    rw (eq, lexemes_of-two u v rest) (one a d u b m l (lexemes_of v ++ rest)
    (avoids_times k one n b m v x e r rest none))

pub avoids_many : {A : Type 0} {rule : A → Rule A} (k : TokenKind) → ((a : A) → Avoids (rule a) k)
    → (a : A) → Avoids (many rule a) k
avoids_many k one a d w x e (n, l) rest none = avoids_times k one n a d w x e l rest none

pub exact_or_else : {A : Type 0} {V : ℕ → Type 0} {p q : Parser A} {L M : Rule A}
    {e1 : List TokenKind} (e2 : List TokenKind) (k : TokenKind)
    → Form V p L (k ∷ []) e1 → Exact V q M (sees_any e2) → Avoids M k
    → Exact V (choose (sees_in k) p q) (L or M) (sees_any (k ∷ (e1 ++ e2)))
exact_or_else {e1} e2 k h j avoids = exact_choose (sees_in k) h.exact j (one_of k) refl
    (λ last d v t r e. inr (held_of h.exact (none_of_any e1) h.opens last d v t r (or_left _ _ e)))
    (sees_any (k ∷ (e1 ++ e2)))
    (λ rest e. let others = (or_false _ _ e).1 in
    (fewer_left e1 e2 rest others, fewer_right e1 e2 rest others))
    (λ d w x e l rest _. only_true _ (h.starts.sees d w x e l rest))
    (λ d w x e l rest ends_here. avoids d w x e l rest (or_false _ _ ends_here).0)

-- ---- what keeps the depth

pub level_token : (k : TokenKind) → IsLevel (token_as (is_kind k) 0 0)
level_token k d w t e l = omega (arith, l.2)

pub level_give : {A : Type 0} (a : A) → IsLevel (give a)
level_give a d w x e l = l.2

pub level_bind : {A B : Type 0} {L : Rule A} {M : A → Rule B} → IsLevel L
    → ((x : A) → IsLevel (M x)) → IsLevel (L >>= M)
level_bind first next d w y e (u, v, x, m, eq, l, r) = next x m v y e r ∙ first d u x m l

pub level_or : {A : Type 0} {L M : Rule A} → IsLevel L → IsLevel M → IsLevel (L or M)
level_or one other d w x e (inl l) = one d w x e l
level_or one other d w x e (inr l) = other d w x e l

pub level_scoped : {A : Type 0} (L : Rule A) → IsLevel (scoped L)
level_scoped L d w x e (m, l, same) = same

pub level_node : {A B : Type 0} (make : ℕ → ℕ → A → B) {L : Rule A} → IsLevel L
    → IsLevel (node make L)
level_node make level d w y e (x, l, is) = level d w x e l

level_times : {A : Type 0} {rule : A → Rule A} → ((a : A) → IsLevel (rule a))
    → (n : ℕ) (a : A) (d : ℕ) (w : Word) (x : A) (e : ℕ) → times rule n a d w x e → e ≡ d
level_times level zero a d w x e (empty, is, same) = same
level_times level (suc n) a d w x e (u, v, b, m, eq, l, r) =
    level_times level n b m v x e r ∙ level a d u b m l

pub level_many : {A : Type 0} {rule : A → Rule A} → ((a : A) → IsLevel (rule a)) → (a : A)
    → IsLevel (many rule a)
level_many level a d w x e (n, l) = level_times level n a d w x e l

pub level_then : {B : Type 0} {M : Lexeme → Rule B} (k : TokenKind) → ((t : Lexeme) → IsLevel (M t))
    → IsLevel (token_as (is_kind k) 0 0 >>= M)
level_then k next = level_bind (level_token k) next

-- a token that follows and doesn't nest
pub flat : {V : ℕ → Type 0} → ((d : ℕ) → V d → V (d + 0)) → (d : ℕ) → V d → d + 0 ≤ max_depth
    → V (d + 0)
flat f d v le = f d v
