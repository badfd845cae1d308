-- With which kinds of token a rule begins, and where it may go on.
use Rattle.std.proofs.Common.{◌≡◌, ℕ, suc, ◌+◌, ◌<◌, ◌≤◌, Bool, true, false, cond, eqb, List, [], ◌∷◌, ◌++◌, length, Ok, Err, refl, sym, ap, subst, ◌∙◌, arith, inl, inr, ◌⊎◌}
use Rattle.std.proofs.lemmas.Bool.{eqb-true}
use Rattle.std.proofs.lemmas.List.{append-nil}
use Rattle.token_grammar.specs.declared.fault.ParseError.{ParseError}
use Rattle.token_grammar.specs.declared.fault.ParseError.TheVariants.{Memory, Grammar, TooDeep}
use Rattle.token_grammar.specs.declared.token.TokenKind.{TokenKind}
use Rattle.token_grammar.specs.Texts.{Lexeme}
use Rattle.token_grammar.specs.Kinds.{place_of, same_kind, is_kind}
use Rattle.token_grammar.specs.steps.Parsers.{Stop, Outcome, Parser, and_then, pure, sees_in, take_as, choose}
use Rattle.token_grammar.specs.Grammar.{Word, Rule, lexemes_of, Within, ◌>>=◌, ◌or◌, give, token_as, scoped, deeper, node, max_depth}
use Rattle.token_grammar.proofs.Laws.{input, Told, Same, Held, Reason, gate, at_end, Some_, Exact, lexemes_of-two}
use Rattle.token_grammar.proofs.OneToken.{never, a_token, same_kind_refl, exact_that}
use Rattle.token_grammar.proofs.Bind.{bind}
use Rattle.token_grammar.proofs.Front.{gate_ok, gate_err, cons_nil}
use Rattle.token_grammar.proofs.Steps.{IsLong, IsOfOne, exact_give, exact_choose, exact_same}

-- one of these kinds comes next
abbrev pub sees_any : List TokenKind → List Lexeme → Bool
sees_any [] ts = false
sees_any (k ∷ ks) ts = cond (sees_in k ts) true (sees_any ks ts)

abbrev pub has : TokenKind → List TokenKind → Bool
has k [] = false
has k (j ∷ ks) = cond (same_kind k j) true (has k ks)

-- no kind is in both
abbrev pub disjoint : List TokenKind → List TokenKind → Bool
disjoint [] ks = true
disjoint (j ∷ js) ks = cond (has j ks) false (disjoint js ks)

pub record Starts {A : Type 0} (L : Rule A) (ks : List TokenKind) : Type 0 where
  pub sees : (d : ℕ) (w : Word) (x : A) (e : ℕ) → L d w x e → (rest : List Lexeme)
      → sees_any ks (lexemes_of w ++ rest) ≡ true

-- ---- tests

pub only_true : (b : Bool) → cond b true false ≡ true → b ≡ true
only_true true e = e
only_true false e = e

pub only_false : (b : Bool) → cond b true false ≡ false → b ≡ false
only_false true e = e
only_false false e = e

pub or_true : (a b : Bool) → cond a true b ≡ true → (a ≡ true) ⊎ (b ≡ true)
or_true true b e = inl refl
or_true false b e = inr e

pub or_left : (a b : Bool) → a ≡ true → cond a true b ≡ true
or_left a b e = rw e refl

pub or_right : (a b : Bool) → b ≡ true → cond a true b ≡ true
or_right true b e = refl
or_right false b e = e

pub or_false : (a b : Bool) → cond a true b ≡ false → (a ≡ false) × (b ≡ false)
or_false true b e = absurd cc
or_false false b e = (refl, e)

guard_true : (a b : Bool) → cond a false b ≡ true → (a ≡ false) × (b ≡ true)
guard_true true b e = absurd cc
guard_true false b e = (refl, e)

same_as : (t : Lexeme) (j k : TokenKind) → same_kind t.kind j ≡ true
    → same_kind t.kind k ≡ same_kind j k
same_as t j k e = ap (λ (n : ℕ). eqb n (place_of k)) (eqb-true _ _ e)

any_same : (t : Lexeme) (ts : List Lexeme) (j : TokenKind) (ks : List TokenKind)
    → same_kind t.kind j ≡ true → sees_any ks (t ∷ ts) ≡ has j ks
any_same t ts j [] e = refl
any_same t ts j (k ∷ ks) e =
    rw (same_as t j k e) (ap (λ (b : Bool). cond (same_kind j k) true b) (any_same t ts j ks e))

sees_one : (j : TokenKind) (ks : List TokenKind) (ts : List Lexeme) → sees_in j ts ≡ true
    → sees_any ks ts ≡ has j ks
sees_one j ks [] e = absurd cc
sees_one j ks (t ∷ ts) e = any_same t ts j ks e

pub sees_other : (js ks : List TokenKind) (ts : List Lexeme) → disjoint js ks ≡ true
    → sees_any js ts ≡ true → sees_any ks ts ≡ false
sees_other [] ks ts apart e = absurd cc
sees_other (j ∷ js) ks ts apart e =
    let g = guard_true (has j ks) (disjoint js ks) apart in
    elim (or_true (sees_in j ts) (sees_any js ts) e) [
      | inl is ↦ sees_one j ks ts is ∙ g.0
      | inr is ↦ sees_other js ks ts g.1 is
    ]

pub any_left : (js ks : List TokenKind) (ts : List Lexeme) → sees_any js ts ≡ true
    → sees_any (js ++ ks) ts ≡ true
any_left [] ks ts e = absurd cc
any_left (j ∷ js) ks ts e = elim (or_true (sees_in j ts) (sees_any js ts) e) [
  | inl is ↦ or_left _ _ is
  | inr is ↦ or_right (sees_in j ts) (sees_any (js ++ ks) ts) (any_left js ks ts is)
]

pub in_either : (js ks : List TokenKind) (ts : List Lexeme) → sees_any (js ++ ks) ts ≡ true
    → (sees_any js ts ≡ true) ⊎ (sees_any ks ts ≡ true)
in_either [] ks ts e = inr e
in_either (j ∷ js) ks ts e = elim (or_true (sees_in j ts) (sees_any (js ++ ks) ts) e) [
  | inl is ↦ inl (or_left _ _ is)
  | inr is ↦ elim (in_either js ks ts is) [
    | inl x ↦ inl (or_right (sees_in j ts) _ x)
    | inr x ↦ inr
        x
  ]
]

pub any_right : (js ks : List TokenKind) (ts : List Lexeme) → sees_any ks ts ≡ true
    → sees_any (js ++ ks) ts ≡ true
any_right [] ks ts e = e
any_right (j ∷ js) ks ts e = or_right (sees_in j ts) (sees_any (js ++ ks) ts) (any_right js ks ts e)

-- what is none of all is none of each
pub fewer_left : (js ks : List TokenKind) (ts : List Lexeme) → sees_any (js ++ ks) ts ≡ false
    → sees_any js ts ≡ false
fewer_left [] ks ts e = refl
fewer_left (j ∷ js) ks ts e =
    let g = or_false (sees_in j ts) (sees_any (js ++ ks) ts) e in rw g.0 (fewer_left js ks ts g.1)

pub fewer_right : (js ks : List TokenKind) (ts : List Lexeme) → sees_any (js ++ ks) ts ≡ false
    → sees_any ks ts ≡ false
fewer_right [] ks ts e = e
fewer_right (j ∷ js) ks ts e =
    fewer_right js ks ts (or_false (sees_in j ts) (sees_any (js ++ ks) ts) e).1

pub one_of_any : (ks : List TokenKind) → IsOfOne (sees_any ks)
one_of_any [] t r1 r2 = refl
one_of_any (k ∷ ks) t r1 r2 =
    ap (λ (b : Bool). cond (same_kind t.kind k) true b) (one_of_any ks t r1 r2)

pub none_of_any : (ks : List TokenKind) → sees_any ks [] ≡ false
none_of_any [] = refl
none_of_any (k ∷ ks) = none_of_any ks

-- ---- rules

pub starts_long : {A : Type 0} {L : Rule A} {ks : List TokenKind} → Starts L ks → IsLong L
starts_long {A} {L} {ks} h d [] x e l =
    let no : false ≡ true = sym (none_of_any ks) ∙ h.sees d [] x e l [] in absurd cc
starts_long h d (p ∷ w) x e l = omega arith

-- what passes the test is of the kind
pub starts_that : (test : Lexeme → Bool) (k : TokenKind)
    → ((t : Lexeme) → test t ≡ true → is_kind k t ≡ true) → (own rise : ℕ)
    → Starts (token_as test own rise) (k ∷ [])
starts_that test k of own rise =
    record { sees = λ d w t e (eq, is, after) rest. rw (eq, of t is) refl }

pub starts_token : (k : TokenKind) (own rise : ℕ) → Starts (token_as (is_kind k) own rise) (k ∷ [])
starts_token k own rise = starts_that (is_kind k) k (λ t is. is) own rise

pub starts_bind : {A B : Type 0} {L : Rule A} {M : A → Rule B} {ks : List TokenKind} → Starts L ks
    → Starts (L >>= M) ks
starts_bind h = record {
  sees = λ d w y e (u, v, x, m, eq, l, r) rest.
      rw (eq, lexemes_of-two u v rest) (h.sees d u x m l (lexemes_of v ++ rest));
}

pub starts_or : {A : Type 0} {L M : Rule A} {js ks : List TokenKind} → Starts L js → Starts M ks
    → Starts (L or M) (js ++ ks)
starts_or {A} {L} {M} {js} {ks} h k = record {
  sees = λ d w x e either rest. elim either [
    | inl l ↦ any_left js ks (lexemes_of w ++ rest) (h.sees d w x e l rest)
    | inr l ↦ any_right js ks (lexemes_of w ++ rest) (k.sees d w x e l rest)
  ];
}

pub starts_scoped : {A : Type 0} {L : Rule A} {ks : List TokenKind} → Starts L ks
    → Starts (scoped L) ks
starts_scoped h = record { sees = λ d w x e (m, l, same) rest. h.sees d w x m l rest }

pub starts_deeper : {A : Type 0} {L : Rule A} {ks : List TokenKind} → Starts L ks
    → Starts (deeper L) ks
starts_deeper h = record { sees = λ d w x e l rest. h.sees (d + 1) w x e l rest }

pub starts_node : {A B : Type 0} (make : ℕ → ℕ → A → B) {L : Rule A} {ks : List TokenKind}
    → Starts L ks → Starts (node make L) ks
starts_node make h = record { sees = λ d w y e (x, l, is) rest. h.sees d w x e l rest }

-- ---- one after the other

first_within : (u : Word) (t : Lexeme) (n : ℕ) → u ≡ (t, n) ∷ [] → Within u → n ≤ max_depth
first_within u t n e h = let k : Within ((t, n) ∷ []) = subst Within e h in k.0

pub bind_starts : {A B : Type 0} {V W : ℕ → Type 0} {p : Parser A} {f : A → Parser B} {L : Rule A}
    {M : A → Rule B} {more2 : List Lexeme → Bool} {ks : List TokenKind} (ends : List TokenKind)
    → Exact V p L (sees_any ends) → ((x : A) → Exact W (f x) (M x) more2)
    → ((d : ℕ) (u : Word) (x : A) (m : ℕ) → V d → L d u x m → Within u → W m)
    → ((x : A) → Starts (M x) ks) → disjoint ks ends ≡ true
    → Exact V (λ i. and_then (p i) f) (L >>= M) more2
bind_starts {ks} ends first next carry starts apart = bind first next carry
    (λ x m v y e r rest _. sees_other ks ends _ apart ((starts x).sees m v y e r rest))

-- a lexeme that passes a test, and what comes after it
pub then_that : {B : Type 0} {V W : ℕ → Type 0} {f : Lexeme → Parser B} {M : Lexeme → Rule B}
    {more2 : List Lexeme → Bool} (test : Lexeme → Bool) (a : Lexeme) → test a ≡ true
    → (own rise : ℕ)
    → ((t : Lexeme) → Exact W (f t) (M t) more2)
    → ((d : ℕ) → V d → d + own ≤ max_depth → W (d + rise))
    → Exact V (λ i. and_then (take_as test own rise i) f) (token_as test own rise >>= M) more2
then_that {V} {W} test a passes own rise next carry = bind {more1 = never}
    (exact_that test a passes own rise) next (λ d u t m v (eq, is, after) within. rw after
    (carry d v (first_within u t (d + own) eq within))) (λ t m v y e r rest _. refl)

-- a token of this kind, and what comes after it
pub then_token : {B : Type 0} {V W : ℕ → Type 0} {f : Lexeme → Parser B} {M : Lexeme → Rule B}
    {more2 : List Lexeme → Bool} (k : TokenKind) (own rise : ℕ)
    → ((t : Lexeme) → Exact W (f t) (M t) more2)
    → ((d : ℕ) → V d → d + own ≤ max_depth → W (d + rise))
    → Exact V (λ i. and_then (take_as (is_kind k) own rise i) f) (token_as (is_kind k) own rise
    >>= M) more2
then_token k own rise next carry =
    then_that (is_kind k) (a_token k) (same_kind_refl k) own rise next carry

pub bind_give : {A B : Type 0} {V : ℕ → Type 0} {p : Parser A} {L : Rule A} {more : List Lexeme
    → Bool} (g : A
    → B) → Exact V p L more → Exact V (λ i. and_then (p i) (λ x. pure (g x)))
    (L >>= λ x. give (g x)) more
bind_give {A} {B} {V} {p} {L} {more} g first = bind {W = λ m. Unit {0}} first
    (λ x. exact_give (g x)) (λ d u x m v l in_u. tt) (λ x m v y e (empty, is, same) rest ends_here.
    rw empty ends_here)

-- ---- where a rule may begin

-- each token of these kinds begins a word of the rule
pub record Opens {A : Type 0} (L : Rule A) (ks : List TokenKind) : Type 0 where
  pub word : (d : ℕ) (t : Lexeme) (r : List Lexeme) → sees_any ks (t ∷ r) ≡ true
      → (at : ℕ) × (w : Word) × (x : A) × (e : ℕ) × L d ((t, at) ∷ w) x e

-- each token of the kind passes the test
pub opens_that : (test : Lexeme → Bool) (k : TokenKind)
    → ((t : Lexeme) → is_kind k t ≡ true → test t ≡ true) → (own rise : ℕ)
    → Opens (token_as test own rise) (k ∷ [])
opens_that test k of own rise =
    record { word = λ d t r e. (d + own, [], t, d + rise, (refl, of t (only_true _ e), refl)) }

pub opens_token : (k : TokenKind) (own rise : ℕ) → Opens (token_as (is_kind k) own rise) (k ∷ [])
opens_token k own rise = opens_that (is_kind k) k (λ t is. is) own rise

pub opens_bind : {A B : Type 0} {L : Rule A} {M : A → Rule B} {ks : List TokenKind} → Opens L ks
    → ((x : A) (d : ℕ) → Some_ (M x) d) → Opens (L >>= M) ks
opens_bind {A} {B} {L} {M} {ks} h some = record {
  word = λ d t r e. let (at, w, x, m, l) =
      h.word d t r e in let s = some x m in
      (at, w ++ s.word, s.value, s.depth, ((t, at) ∷ w, s.word, x, m, refl, l, s.spelled));
}

pub opens_or : {A : Type 0} {L M : Rule A} {js ks : List TokenKind} → Opens L js → Opens M ks
    → Opens (L or M) (js ++ ks)
opens_or {A} {L} {M} {js} {ks} h k = record {
  word = λ d t r e. elim (in_either js ks (t ∷ r) e) [
    | inl is ↦ let (at, w, x, m, l) = h.word d t r is in (at, w, x, m, inl l)
    | inr is ↦ let (at, w, x, m, l) = k.word d t r is in (at, w, x, m, inr l)
  ];
}

pub opens_scoped : {A : Type 0} {L : Rule A} {ks : List TokenKind} → Opens L ks
    → Opens (scoped L) ks
opens_scoped h = record {
  word = λ d t r e. let (at, w, x, m, l) = h.word d t r e in
      (at, w, x, d, (m, l, refl));
}

pub opens_deeper : {A : Type 0} {L : Rule A} {ks : List TokenKind} → Opens L ks
    → Opens (deeper L) ks
opens_deeper h = record { word = λ d t r e. h.word (d + 1) t r e }

pub opens_node : {A B : Type 0} (make : ℕ → ℕ → A → B) {L : Rule A} {ks : List TokenKind}
    → Opens L ks → Opens (node make L) ks
opens_node make h = record {
  word = λ d t r e. let (at, w, x, m, l) = h.word d t r e in
      (at, w, make _ _ x, m, (x, l, refl));
}

-- so a parser that refuses has taken it
pub held_out : {A : Type 0} (t : Lexeme) (r r2 : List Lexeme) (out out2 : Outcome A)
    → Same t r r2 out out2 → (b : Word) (last : ℕ) (x : A) (m : ℕ) → out2 ≡ gate b [] last x m
    → length (lexemes_of b) ≡ suc (length r2) → Held t r out
held_out t r r2 (Ok q) out2 same b last x m is n = λ e. let none = gate_ok b last x m q.0
    (record q.1 { rest = t ∷ r2 }) (sym is ∙ same [] e) in cons_nil t r2 none
held_out t r r2 (Err s) out2 same b last x m is n = λ code e. let deep = gate_err b [] last x m
    (record s { rest = t ∷ r2 }) (sym is ∙ same [] e) in let clash : Grammar ≡ TooDeep =
    sym code ∙ deep in absurd cc

refused_at : (c : ParseError) (w : Word) (more : Word) (rest : List Lexeme)
    → [] ≡ lexemes_of w ++ rest → Reason c more rest → record { code = c; rest = rest } ≡ at_end
refused_at Memory w more rest e reason = absurd reason
refused_at Grammar [] more rest e reason =
    ap (λ (ts : List Lexeme). record { code = Grammar; rest = ts }) (sym e)
refused_at Grammar (p ∷ w) more rest e reason = absurd cc
refused_at TooDeep w [] rest e reason = absurd reason
refused_at TooDeep w (p ∷ more) [] e reason = absurd reason
refused_at TooDeep [] (p ∷ more) (t ∷ rest) e reason = absurd cc
refused_at TooDeep (q ∷ w) (p ∷ more) (t ∷ rest) e reason = absurd cc

long_end : (w : Word) (rest : List Lexeme) → [] ≡ lexemes_of w ++ rest → 0 < length w → ⊥
long_end [] rest e some = omega (arith, some)
long_end (p ∷ w) rest e some = cc

refused_end : {A : Type 0} (L : Rule A) → IsLong L → (last d : ℕ) (out : Outcome A)
    → Told L (input last d []) out → out ≡ Err at_end
refused_end L long last d (Ok q) h =
    absurd (long_end h.word q.1.rest h.tokens (long d h.word q.0 q.1.depth h.spelled))
refused_end L long last d (Err s) h =
    ap (λ (x : Stop). Err x) (refused_at s.code h.word h.more s.rest h.tokens h.reason)

pub held_of : {A : Type 0} {V : ℕ → Type 0} {p : Parser A} {L : Rule A} {more : List Lexeme → Bool}
    {ks : List TokenKind} → Exact V p L more → more [] ≡ false → Opens L ks → (last d : ℕ) → V d
    → (t : Lexeme) (r : List Lexeme) → sees_any ks (t ∷ r) ≡ true
    → Held t r (p (input last d (t ∷ r)))
held_of {p} h open_end opens last d v t r e =
    let (at, w, x, m, l) = opens.word d t r e in
    held_out t r (lexemes_of w) _ (p (input last d (t ∷ lexemes_of w)))
    (h.local last d v [] t r (lexemes_of w)) ((t, at) ∷ w) last x m
    (ap (λ (ts : List Lexeme). p (input last d ts)) (sym (append-nil (t ∷ lexemes_of w)))
    ∙ h.complete d ((t, at) ∷ w) x m v l last [] open_end) refl

-- a rule of one token or more refuses at the end
pub refuses_end : {A : Type 0} {V : ℕ → Type 0} {p : Parser A} {L : Rule A} {more : List Lexeme
    → Bool} → Exact V p L more → IsLong L → (last d : ℕ) → V d → p (input last d []) ≡ Err at_end
refuses_end {p} {L} h long last d v =
    refused_end L long last d (p (input last d [])) (h.told (input last d []) v)

-- ---- either, by the kind of the next token

pub one_of : (k : TokenKind) → IsOfOne (sees_in k)
one_of k t r1 r2 = refl

pub choose_kind : {A : Type 0} {V : ℕ → Type 0} {p q : Parser A} {L M : Rule A}
    {more1 more2 more3 : List Lexeme → Bool} {ks : List TokenKind} (k : TokenKind)
    → Exact V p L more1 → Exact V q M more2 → Starts L (k ∷ []) → Starts M ks
    → disjoint ks (k ∷ []) ≡ true
    → ((rest : List Lexeme) → more3 rest ≡ false → (more1 rest ≡ false) × (more2 rest ≡ false))
    → Exact V (choose (sees_in k) p q) (L or M) more3
choose_kind {more3} {ks} k h j starts other apart fewer = exact_choose (sees_in k) h j (one_of k)
    refl (λ last d v t r e. inl (refuses_end j (starts_long other) last d v)) more3 fewer
    (λ d w x e l rest _. only_true _ (starts.sees d w x e l rest))
    (λ d w x e l rest _. only_false _ (sees_other ks (k ∷ []) _ apart (other.sees d w x e l rest)))

-- a part that may be left out
pub choose_none : {A : Type 0} {V : ℕ → Type 0} {p : Parser A} {L : Rule A}
    {more1 more3 : List Lexeme → Bool} (k : TokenKind) (a : A)
    → Exact V p L more1 → Starts L (k ∷ []) → Opens L (k ∷ []) → more1 [] ≡ false
    → ((rest : List Lexeme) → more3 rest ≡ false → (sees_in k rest ≡ false) × (more1 rest ≡ false))
    → Exact V (choose (sees_in k) p (pure a)) (L or give a) more3
choose_none {more3} k a h starts opens open_end fewer = exact_choose {more2 = never} (sees_in k) h
    (exact_give a) (one_of k) refl (λ last d v t r e. inr (held_of h open_end opens last d v t r
    (or_left _ _ e))) more3 (λ rest e. ((fewer rest e).1, refl))
    (λ d w x e l rest _. only_true _ (starts.sees d w x e l rest))
    (λ d w x e (empty, is, same) rest ends_here. rw empty (fewer rest ends_here).0)

-- ---- parts that may be left out

pub starts_option : {A B : Type 0} {L : Rule A} {a : A} {M : A → Rule B} {js ks : List TokenKind}
    → Starts L js → ((x : A) → Starts (M x) ks) → Starts ((L or give a) >>= M) (js ++ ks)
starts_option {A} {B} {L} {a} {M} {js} {ks} h k = record {
  sees = λ d w y e (u, v, x, m, eq, either, r) rest. elim either [
    | inl l ↦ any_left js ks (lexemes_of w ++ rest) (rw (eq, lexemes_of-two u v rest)
        (h.sees d u x m l (lexemes_of v ++ rest)))
    | inr l ↦ any_right js ks (lexemes_of w ++ rest) (rw (eq, lexemes_of-two u v rest, l.0)
        ((k x).sees m v y e r rest))
  ];
}

-- fewer depths
pub narrow : {A : Type 0} {V W : ℕ → Type 0} {p : Parser A} {L : Rule A} {more : List Lexeme → Bool}
    → Exact V p L more → ((d : ℕ) → W d → V d) → Exact W p L more
narrow h wider = exact_same h wider (λ d w x e l. l) (λ d w x e l. l) (λ rest e. e)

-- what keeps the depth
abbrev pub IsLevel : {A : Type 0} → Rule A → Type 0
IsLevel L = (d : ℕ) (w : Word) (x : _) (e : ℕ) → L d w x e → e ≡ d
