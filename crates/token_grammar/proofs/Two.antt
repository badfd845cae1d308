-- Either of two rules, by a look at two tokens.
use Rattle.std.proofs.Common.{◌≡◌, ℕ, ◌<◌, ◌≤◌, Bool, true, false, ◌&&◌, cond, ltb, List, [], ◌∷◌, ◌++◌, length, Ok, Err, refl, sym, ap, subst, ◌∙◌, arith, inl, inr, ◌⊎◌}
use Rattle.std.proofs.lemmas.Bool.{le-ltb}
use Rattle.std.proofs.lemmas.List.{append-nil, length-append, nil_from_length}
use Rattle.token_grammar.specs.declared.token.TokenKind.{TokenKind}
use Rattle.token_grammar.specs.Texts.{Lexeme}
use Rattle.token_grammar.specs.declared.fault.ParseError.TheVariants.{TooDeep}
use Rattle.token_grammar.specs.steps.Parsers.{Input, Outcome, Parser, choose, sees_in, second_in, sees_two}
use Rattle.token_grammar.specs.Grammar.{Word, Rule, lexemes_of, Within, ◌or◌, max_depth}
use Rattle.token_grammar.proofs.Laws.{input, ends, Told, gate, Same, Cut, Held, at_end, cut_err, cut_held, Exact}
use Rattle.token_grammar.proofs.Front.{gate_ok, gate_within, cons_nil}
use Rattle.token_grammar.proofs.Steps.{told_choose, same_choose, cut_same}

-- the outcome has taken the next token
abbrev pub Moved : {A : Type 0} → Lexeme → List Lexeme → Outcome A → Type 0
Moved t r (Ok q) = q.1.rest ≡ t ∷ r → ⊥
Moved t r (Err s) = s.rest ≡ t ∷ r → ⊥

none_before : (v w : List Lexeme) (t : Lexeme) (r : List Lexeme) → t ∷ r ≡ w ++ (v ++ t ∷ r)
    → v ≡ []
none_before v w t r e =
    let n = ap length e in
    nil_from_length v (omega (arith, n, length-append w (v ++ t ∷ r), length-append v (t ∷ r)))

pub same_moved : {A : Type 0} (L : Rule A) (t : Lexeme) (r1 r2 : List Lexeme) (i : Input)
    (out out2 : Outcome A) → i.rest ≡ t ∷ r1 → Told L i out → Moved t r1 out → Same t r1 r2 out out2
same_moved L t r1 r2 i (Ok q) out2 is h moved = λ v e. absurd
    (moved (e ∙ ap (λ (x : List Lexeme). x ++ t ∷ r1) (none_before v (lexemes_of h.word) t r1
    (sym is ∙ h.tokens ∙ ap (λ (x : List Lexeme). lexemes_of h.word ++ x) e))))
same_moved L t r1 r2 i (Err s) out2 is h moved = λ v e. absurd
    (moved (e ∙ ap (λ (x : List Lexeme). x ++ t ∷ r1) (none_before v (lexemes_of h.word) t r1
    (sym is ∙ h.tokens ∙ ap (λ (x : List Lexeme). lexemes_of h.word ++ x) e))))

-- ---- a parser takes the next token where a word of the rule begins with it

-- no gate leaves more than its word and what follows
abbrev pub Leaves : {A : Type 0} → List Lexeme → Outcome A → Type 0
Leaves ts (Ok q) = q.1.rest ≡ ts
Leaves ts (Err s) = s.rest ≡ ts

gate_leaves_by : {A : Type 0} (b : Bool) (p : Lexeme) (here ts : List Lexeme) (out : Outcome A)
    → length here < length ts → (Leaves ts out → ⊥)
    → Leaves ts (cond b (Err (record { code = TooDeep; rest = here })) out) → ⊥
gate_leaves_by true p here ts out lt h e = absurd (omega (arith, lt, ap length e))
gate_leaves_by false p here ts out lt h e = h e

pub gate_leaves : {A : Type 0} (w : Word) (rest : List Lexeme) (last : ℕ) (x : A) (m : ℕ)
    (ts : List Lexeme) → length (lexemes_of w ++ rest) < length ts
    → Leaves ts (gate w rest last x m) → ⊥
gate_leaves [] rest last x m ts lt e = absurd (omega (arith, lt, ap length e))
gate_leaves (p ∷ w) rest last x m ts lt e = gate_leaves_by (ltb max_depth p.1) p.0
    (p.0 ∷ (lexemes_of w ++ rest)) ts (gate w rest p.0.end x m) lt (gate_leaves w rest p.0.end x m
    ts (omega (arith, lt))) e

moved_of : {A : Type 0} (t : Lexeme) (r r2 : List Lexeme) (out out2 : Outcome A)
    → Same t r r2 out out2 → (Leaves (t ∷ r2) out2 → ⊥) → Moved t r out
moved_of t r r2 (Ok q) out2 same none =
    λ e. none (subst (λ (o : Outcome _). Leaves (t ∷ r2) o) (sym (same [] e)) refl)
moved_of t r r2 (Err s) out2 same none =
    λ e. none (subst (λ (o : Outcome _). Leaves (t ∷ r2) o) (sym (same [] e)) refl)

pub moves : {A : Type 0} {V : ℕ → Type 0} {p : Parser A} {L : Rule A} {more : List Lexeme → Bool}
    → Exact V p L more → more [] ≡ false → (last d : ℕ) → V d → (t : Lexeme) (r : List Lexeme)
    → (at : ℕ) → at ≤ max_depth → (w : Word) (x : A) (e : ℕ) → L d ((t, at) ∷ w) x e
    → Moved t r (p (input last d (t ∷ r)))
moves {p} {L} h open_end last d v t r at le w x e l =
    let whole : p (input last d (t ∷ lexemes_of w)) ≡ gate ((t, at) ∷ w) [] last x e =
    ap (λ (ts : List Lexeme). p (input last d ts)) (sym (append-nil (t ∷ lexemes_of w)))
    ∙ h.complete d ((t, at) ∷ w) x e v l last [] open_end in
    let first : gate ((t, at) ∷ w) [] last x e ≡ gate w [] t.end x e = rw (le-ltb _ _ le) refl in
    moved_of t r (lexemes_of w) _ (p (input last d (t ∷ lexemes_of w)))
    (h.local last d v [] t r (lexemes_of w))
    (λ leaves. gate_leaves w [] t.end x e (t ∷ lexemes_of w)
    (omega (arith, length-append (lexemes_of w) []))
    (subst (λ (o : Outcome _). Leaves (t ∷ lexemes_of w) o) (whole ∙ first) leaves))

-- ---- either, by a look at two tokens

pick : {A : Type 0} (L M : Rule A) (t : Lexeme) (r1 r2 : List Lexeme) (i1 i2 : Input) (b c : Bool)
    (x1 x2 y1 y2 : Outcome A) → i1.rest ≡ t ∷ r1 → Told L i1 x1 → Told M i1 y1
    → Same t r1 r2 x1 x2 → Same t r1 r2 y1 y2
    → (b ≡ true → c ≡ false → Moved t r1 x1) → (b ≡ false → c ≡ true → Moved t r1 y1)
    → Same t r1 r2 (cond b x1 y1) (cond c x2 y2)
pick L M t r1 r2 i1 i2 true true x1 x2 y1 y2 is h k same1 same2 m1 m2 = same1
pick L M t r1 r2 i1 i2 true false x1 x2 y1 y2 is h k same1 same2 m1 m2 =
    same_moved L t r1 r2 i1 x1 y2 is h (m1 refl refl)
pick L M t r1 r2 i1 i2 false true x1 x2 y1 y2 is h k same1 same2 m1 m2 =
    same_moved M t r1 r2 i1 y1 x2 is k (m2 refl refl)
pick L M t r1 r2 i1 i2 false false x1 x2 y1 y2 is h k same1 same2 m1 m2 = same2

module _ {A : Type 0} {V : ℕ → Type 0} {p q : Parser A} {L M : Rule A} {more1 more2 : List Lexeme
    → Bool} (test : List Lexeme → Bool) (h : Exact V p L more1) (k : Exact V q M more2)
    (two : (a : Lexeme) (u : List Lexeme) (t : Lexeme) (r1 r2 : List Lexeme)
    → test (a ∷ (u ++ t ∷ r1)) ≡ test (a ∷ (u ++ t ∷ r2)))
    (both : (last d : ℕ) → V d → (t : Lexeme) (r1 r2 : List Lexeme) → test (t ∷ r1) ≡ true
    → test (t ∷ r2) ≡ false
    → Moved t r1 (p (input last d (t ∷ r1))) × Moved t r2 (q (input last d (t ∷ r2)))) where
  pub local_two : (last d : ℕ) → V d → (u : List Lexeme) (t : Lexeme) (r1 r2 : List Lexeme)
      → Same t r1 r2 (choose test p q (input last d (u ++ t ∷ r1)))
      (choose test p q (input last d (u ++ t ∷ r2)))
  local_two last d v [] t r1 r2 = pick L M t r1 r2 (input last d (t ∷ r1)) (input last d (t ∷ r2))
      (test (t ∷ r1)) (test (t ∷ r2)) _ _ _ _ refl (h.told (input last d (t ∷ r1)) v)
      (k.told (input last d (t ∷ r1)) v)
      (h.local last d v [] t r1 r2) (k.local last d v [] t r1 r2)
      (λ e1 e2. (both last d v t r1 r2 e1 e2).0) (λ e1 e2. (both last d v t r2 r1 e2 e1).1)
  local_two last d v (a ∷ u) t r1 r2 = rw (two a u t r1 r2)
      (same_choose t r1 r2 (test (a ∷ (u ++ t ∷ r2))) _ _ _ _ (h.local last d v (a ∷ u) t r1 r2)
      (k.local last d v (a ∷ u) t r1 r2))

-- ---- that the input ends

module _ {A : Type 0} {V : ℕ → Type 0} {p q : Parser A} {L M : Rule A} {more1 more2 : List Lexeme
    → Bool} (test : List Lexeme → Bool) (h : Exact V p L more1) (k : Exact V q M more2)
    (two : (a : Lexeme) (u : List Lexeme) (t : Lexeme) (r1 r2 : List Lexeme)
    → test (a ∷ (u ++ t ∷ r1)) ≡ test (a ∷ (u ++ t ∷ r2)))
    (none : test [] ≡ false)
    (further : (a b : Lexeme) (u r : List Lexeme) → test (a ∷ b ∷ (u ++ r)) ≡ test (a ∷ b ∷ u))
    (lone : (last d : ℕ) → V d → (t : Lexeme) (r : List Lexeme) → test (t ∷ r) ≡ true
    → (q (input last d []) ≡ Err at_end) ⊎ Held t r (p (input last d (t ∷ r))))
    (second : (last d : ℕ) → V d → (a t : Lexeme) (r : List Lexeme)
    → (test (a ∷ t ∷ r) ≡ true → test (a ∷ []) ≡ false
    → Held t r (p (input last d (a ∷ t ∷ r)))) × (test (a ∷ t ∷ r) ≡ false
    → test (a ∷ []) ≡ true → ⊥)) where
  cut_at : (last d : ℕ) (u : List Lexeme) (t : Lexeme) (r : List Lexeme) (b c : Bool)
      → test (u ++ t ∷ r) ≡ b → test u ≡ c → V d
      → (b ≡ true → c ≡ false → Cut t r (p (input last d (u ++ t ∷ r))) (q (input last d u)))
      → (b ≡ false → c ≡ true → ⊥)
      → Cut t r (cond b (p (input last d (u ++ t ∷ r))) (q (input last d (u ++ t ∷ r))))
      (cond c (p (input last d u)) (q (input last d u)))
  cut_at last d u t r true true is1 is2 v down up = h.cut last d v u t r
  cut_at last d u t r true false is1 is2 v down up = down refl refl
  cut_at last d u t r false true is1 is2 v down up = absurd (up refl refl)
  cut_at last d u t r false false is1 is2 v down up = k.cut last d v u t r

  pub cut_two : (last d : ℕ) → V d → (u : List Lexeme) (t : Lexeme) (r : List Lexeme)
      → Cut t r (choose test p q (input last d (u ++ t ∷ r))) (choose test p q (input last d u))
  cut_two last d v [] t r = cut_at last d [] t r (test (t ∷ r)) (test []) refl refl v
      (λ yes1 no1. elim (lone last d v t r yes1) [
        | inl e ↦ rw e (cut_err t r (p (input last d (t ∷ r))))
        | inr held ↦ cut_held t r
            (p (input last d (t ∷ r))) (q (input last d [])) held
      ])
      (λ no1 yes1. let clash : false ≡ true = sym none ∙ yes1 in cc)
  cut_two last d v (a ∷ []) t r =
      cut_at last d (a ∷ []) t r (test (a ∷ t ∷ r)) (test (a ∷ [])) refl refl v
      (λ yes1 no1. cut_held t r (p (input last d (a ∷ t ∷ r))) (q (input last d (a ∷ [])))
      ((second last d v a t r).0 yes1 no1))
      (second last d v a t r).1
  cut_two last d v (a ∷ b ∷ u) t r = rw (further a b u (t ∷ r)) (cut_same t r (test (a ∷ b ∷ u)) _ _
      _ _ (h.cut last d v (a ∷ b ∷ u) t r) (k.cut last d v (a ∷ b ∷ u) t r))

pub exact_choose_two : {A : Type 0} {V : ℕ → Type 0} {p q : Parser A} {L M : Rule A}
    {more1 more2 : List Lexeme → Bool} (test : List Lexeme → Bool) → Exact V p L more1
    → Exact V q M more2
    → (two : (a : Lexeme) (u : List Lexeme) (t : Lexeme) (r1 r2 : List Lexeme)
    → test (a ∷ (u ++ t ∷ r1)) ≡ test (a ∷ (u ++ t ∷ r2)))
    -- where the second token decides, both take the first
    → (both : (last d : ℕ) → V d → (t : Lexeme) (r1 r2 : List Lexeme) → test (t ∷ r1) ≡ true
    → test (t ∷ r2) ≡ false
    → Moved t r1 (p (input last d (t ∷ r1))) × Moved t r2 (q (input last d (t ∷ r2))))
    -- (what it answers where the input ends, which the second token may decide)
    → (cut : (last d : ℕ) → V d → (u : List Lexeme) (t : Lexeme) (r : List Lexeme)
    → Cut t r (choose test p q (input last d (u ++ t ∷ r))) (choose test p q (input last d u)))
    → (more3 : List Lexeme → Bool)
    → ((rest : List Lexeme) → more3 rest ≡ false → (more1 rest ≡ false) × (more2 rest ≡ false))
    → (begins : (d : ℕ) (w : Word) (x : A) (e : ℕ) → L d w x e → (rest : List Lexeme)
    → more3 rest ≡ false → test (lexemes_of w ++ rest) ≡ true)
    → (differs : (d : ℕ) → V d → (w : Word) (x : A) (e : ℕ) → M d w x e → (rest : List Lexeme)
    → more3 rest ≡ false → test (lexemes_of w ++ rest) ≡ false)
    → Exact V (choose test p q) (L or M) more3
exact_choose_two {A} {V} {p} {q} {L} {M} test h k two both cut more3 fewer begins differs = record {
  told = λ i v. told_choose L M i (test i.rest) (p i) (q i) (h.told i v) (k.told i v);
  complete = λ d w x e v either last rest ends_here. elim either [
    | inl l ↦ rw (begins d w x e l rest ends_here) (h.complete d w x e v l last rest
        (fewer rest ends_here).0)
    | inr l ↦ rw (differs d v w x e l rest ends_here) (k.complete d w x e v l last rest
        (fewer rest ends_here).1)
  ];
  local = local_two test h k two both;
  cut = cut;
  some = λ d. let s = h.some d in record {
    word = s.word;
    value = s.value;
    depth = s.depth;
    spelled = inl s.spelled;
  };
  rises = λ d w x e either. elim either [ inl l ↦ h.rises d w x e l | inr l ↦ k.rises d w x e l ];
}

-- no word of the rule goes on where the rule doesn't
pub no_longer : {A : Type 0} {V : ℕ → Type 0} {p : Parser A} {L : Rule A} {more : List Lexeme
    → Bool} → Exact V p L more → more [] ≡ false → (d : ℕ) → V d → (w : Word) (x : A) (e : ℕ)
    → L d w x e → Within w
    → (t : Lexeme) (ts : List Lexeme) (w2 : Word) (x2 : A) (e2 : ℕ) → L d w2 x2 e2
    → lexemes_of w2 ≡ lexemes_of w ++ t ∷ ts → more (t ∷ ts) ≡ false → ⊥
no_longer {p} h open_end d v w x e l within t ts w2 x2 e2 l2 same stops =
    let a = h.complete d w x e v l 0 (t ∷ ts) stops ∙ gate_within w (t ∷ ts) 0 x e within in
    let b = h.complete d w2 x2 e2 v l2 0 [] open_end in
    let c = sym b ∙ ap (λ (all : List Lexeme). p (input 0 d all)) (append-nil (lexemes_of w2)
    ∙ same) ∙ a in
    cons_nil t ts (gate_ok w2 0 x2 e2 x (input (ends 0 w) e (t ∷ ts)) c)

-- ---- looks at the second lexeme, as tests for either of two rules

pub second_two : (k : TokenKind) (a : Lexeme) (u : List Lexeme) (t : Lexeme) (r1 r2 : List Lexeme)
    → second_in k (a ∷ (u ++ t ∷ r1)) ≡ second_in k (a ∷ (u ++ t ∷ r2))
second_two k a [] t r1 r2 = refl
second_two k a (b ∷ u) t r1 r2 = refl

pub second_further : (k : TokenKind) (a b : Lexeme) (u r : List Lexeme)
    → second_in k (a ∷ b ∷ (u ++ r)) ≡ second_in k (a ∷ b ∷ u)
second_further k a b u r = refl

pub both_two : (j k : TokenKind) (a : Lexeme) (u : List Lexeme) (t : Lexeme) (r1 r2 : List Lexeme)
    → sees_two j k (a ∷ (u ++ t ∷ r1)) ≡ sees_two j k (a ∷ (u ++ t ∷ r2))
both_two j k a [] t r1 r2 = refl
both_two j k a (b ∷ u) t r1 r2 = refl

pub both_further : (j k : TokenKind) (a b : Lexeme) (u r : List Lexeme)
    → sees_two j k (a ∷ b ∷ (u ++ r)) ≡ sees_two j k (a ∷ b ∷ u)
both_further j k a b u r = refl

and_both : (a b : Bool) → (a && b) ≡ true → (a ≡ true) × (b ≡ true)
and_both true b e = (refl, e)
and_both false b e = absurd cc

-- where a look at two lexemes answers yes
pub both_seen : (j k : TokenKind) (ts : List Lexeme) → sees_two j k ts ≡ true
    → (sees_in j ts ≡ true) × (second_in k ts ≡ true)
both_seen j k ts e = and_both (sees_in j ts) (second_in k ts) e

pub both_of : (j k : TokenKind) (ts : List Lexeme) → sees_in j ts ≡ true → second_in k ts ≡ true
    → sees_two j k ts ≡ true
both_of j k ts a b = rw (a, b) refl

-- one lexeme is not two
pub both_lone : (j k : TokenKind) (a : Lexeme) → sees_two j k (a ∷ []) ≡ true → ⊥
both_lone j k a e = let last : false ≡ true = (both_seen j k (a ∷ []) e).1 in cc
