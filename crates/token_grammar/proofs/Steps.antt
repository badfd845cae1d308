-- No token, either of two rules, and what is over after it.
use Rattle.std.proofs.Common.{◌≡◌, ℕ, ◌+◌, ◌<◌, Bool, true, false, cond, ltb, List, [], ◌∷◌, ◌++◌, length, Ok, Err, refl, sym, ap, ◌∙◌, arith, inl, inr, ◌⊎◌}
use Rattle.std.proofs.lemmas.List.{append_cancel_right}
use Rattle.token_grammar.specs.Texts.{Lexeme}
use Rattle.token_grammar.specs.steps.Parsers.{Input, Stop, Outcome, Parser, pure, back_to, scoped as back_after, start, start_in, choose, node as node_of, deeper as deeper_of, with_place}
use Rattle.token_grammar.specs.Grammar.{Word, Rule, lexemes_of, give, ◌or◌, scoped, node, deeper, start_of, end_of}
use Rattle.token_grammar.proofs.Laws.{input, ends, Told, gate, Same, Exact, Cut, Held, at_end, cut_err, cut_held, none_above}

pub exact_give : {A : Type 0} {V : ℕ → Type 0} {more : List Lexeme → Bool} (a : A)
    → Exact V (pure a) (give a) more
exact_give a = record {
  told = λ i v. record {
    word = [];
    tokens = refl;
    spelled = (refl, refl, refl);
    within = tt;
    last = refl;
  };
  complete = λ d w x e v (empty, is, same) last rest ends_here. rw (empty, is, same) refl;
  local = λ last d v u t r1 r2. λ v' e. ap (λ (x : List Lexeme). Ok (a, input last d (x ++ t ∷ r2)))
      (append_cancel_right u v' (t ∷ r1) e);
  cut = λ last d v u t r. λ e. inl (ap (λ (x : List Lexeme). Ok (a, input last d x))
      (append_cancel_right u [] (t ∷ r) e));
  some = λ d. record { word = []; value = a; depth = d; spelled = (refl, refl, refl) };
  rises = λ d w x e (empty, is, same). omega (arith, same);
}

pub told_same : {A : Type 0} (L M : Rule A) (i : Input) (out : Outcome A) → Told L i out
    → ((d : ℕ) (w : Word) (x : A) (e : ℕ) → L d w x e → M d w x e) → Told M i out
told_same L M i (Ok p) h to = record {
  word = h.word;
  tokens = h.tokens;
  spelled = to i.depth h.word
      p.0 p.1.depth h.spelled;
  within = h.within;
  last = h.last;
}
told_same L M i (Err s) h to = record {
  word = h.word;
  more = h.more;
  value = h.value;
  depth = h.depth;
  tokens = h.tokens;
  spelled = to i.depth (h.word ++ h.more) h.value h.depth
      h.spelled;
  within = h.within;
  reason = h.reason;
}

-- the same rule in other words, and fewer places
pub exact_same : {A : Type 0} {V W : ℕ → Type 0} {p : Parser A} {L M : Rule A}
    {more1 more2 : List Lexeme → Bool} → Exact V p L more1
    → ((d : ℕ) → W d → V d) → ((d : ℕ) (w : Word) (x : A) (e : ℕ) → L d w x e → M d w x e)
    → ((d : ℕ) (w : Word) (x : A) (e : ℕ) → M d w x e → L d w x e)
    → ((rest : List Lexeme) → more2 rest ≡ false → more1 rest ≡ false) → Exact W p M more2
exact_same {A} {V} {W} {p} {L} {M} {more1} {more2} h wider to from fewer = record {
  told = λ i v. told_same L M i (p i) (h.told i (wider i.depth v)) to;
  complete = λ d w x e v k last rest ends_here. h.complete d w x e (wider d v) (from d w x e k) last
      rest (fewer rest ends_here);
  local = λ last d v. h.local last d (wider d v);
  cut = λ last d v. h.cut last d (wider d v);
  some = λ d. let s = h.some d in record {
    word = s.word;
    value = s.value;
    depth = s.depth;
    spelled = to d s.word s.value s.depth s.spelled;
  };
  rises = λ d w x e l. h.rises d w x e (from d w x e l);
}

-- ---- either, by a look at the next token

pub told_choose : {A : Type 0} (L M : Rule A) (i : Input) (b : Bool) (x y : Outcome A) → Told L i x
    → Told M i y → Told (L or M) i (cond b x y)
told_choose L M i true x y h k = told_same L (L or M) i x h (λ d w a e l. inl l)
told_choose L M i false x y h k = told_same M (L or M) i y k (λ d w a e l. inr l)

pub same_choose : {A : Type 0} (t : Lexeme) (r1 r2 : List Lexeme) (b : Bool)
    (x1 x2 y1 y2 : Outcome A) → Same t r1 r2 x1 x2 → Same t r1 r2 y1 y2
    → Same t r1 r2 (cond b x1 y1) (cond b x2 y2)
same_choose t r1 r2 true x1 x2 y1 y2 h k = h
same_choose t r1 r2 false x1 x2 y1 y2 h k = k

-- the test sees the next token alone
abbrev pub IsOfOne : (List Lexeme → Bool) → Type 0
IsOfOne test = (t : Lexeme) (r1 r2 : List Lexeme) → test (t ∷ r1) ≡ test (t ∷ r2)

pub one_of_both : (test : List Lexeme → Bool) → IsOfOne test
    → (u : List Lexeme) (t : Lexeme) (r1 r2 : List Lexeme) → test (u ++ t ∷ r1) ≡ test (u ++ t ∷ r2)
one_of_both test one [] t r1 r2 = one t r1 r2
one_of_both test one (a ∷ u) t r1 r2 = one a (u ++ t ∷ r1) (u ++ t ∷ r2)

pub cut_same : {A : Type 0} (t : Lexeme) (r : List Lexeme) (b : Bool) (x1 x2 y1 y2 : Outcome A)
    → Cut t r x1 x2 → Cut t r y1 y2 → Cut t r (cond b x1 y1) (cond b x2 y2)
cut_same t r true x1 x2 y1 y2 h k = h
cut_same t r false x1 x2 y1 y2 h k = k

cut_lone : {A : Type 0} (t : Lexeme) (r : List Lexeme) (b : Bool) (x y1 y2 : Outcome A)
    → (b ≡ true → (y2 ≡ Err at_end) ⊎ Held t r x) → Cut t r y1 y2 → Cut t r (cond b x y1) y2
cut_lone t r true x y1 y2 h k =
    elim (h refl) [ inl e ↦ rw e (cut_err t r x) | inr held ↦ cut_held t r x y2 held ]
cut_lone t r false x y1 y2 h k = k

cut_choose : {A : Type 0} (test : List Lexeme → Bool) (p q : Parser A) → IsOfOne test
    → test [] ≡ false → (last d : ℕ)
    → (h : (u : List Lexeme) (t : Lexeme) (r : List Lexeme)
    → Cut t r (p (input last d (u ++ t ∷ r))) (p (input last d u)))
    → (k : (u : List Lexeme) (t : Lexeme) (r : List Lexeme)
    → Cut t r (q (input last d (u ++ t ∷ r))) (q (input last d u)))
    → (lone : (t : Lexeme) (r : List Lexeme) → test (t ∷ r) ≡ true
    → (q (input last d []) ≡ Err at_end) ⊎ Held t r (p (input last d (t ∷ r))))
    → (u : List Lexeme) (t : Lexeme) (r : List Lexeme)
    → Cut t r (choose test p q (input last d (u ++ t ∷ r))) (choose test p q (input last d u))
cut_choose test p q one none last d h k lone [] t r =
    rw none (cut_lone t r (test (t ∷ r)) (p (input last d (t ∷ r))) (q (input last d (t ∷ r)))
    (q (input last d [])) (lone t r) (k [] t r))
cut_choose test p q one none last d h k lone (a ∷ u) t r =
    rw (one a (u ++ t ∷ r) u) (cut_same t r (test (a ∷ u)) _ _ _ _ (h (a ∷ u) t r) (k (a ∷ u) t r))

pub exact_choose : {A : Type 0} {V : ℕ → Type 0} {p q : Parser A} {L M : Rule A}
    {more1 more2 : List Lexeme → Bool} (test : List Lexeme → Bool) → Exact V p L more1
    → Exact V q M more2
    → IsOfOne test
    → test [] ≡ false
    -- where the input ends the second refuses, or else the first takes the token
    → (lone : (last d : ℕ) → V d → (t : Lexeme) (r : List Lexeme) → test (t ∷ r) ≡ true
    → (q (input last d []) ≡ Err at_end) ⊎ Held t r (p (input last d (t ∷ r))))
    → (more3 : List Lexeme → Bool)
    → ((rest : List Lexeme) → more3 rest ≡ false → (more1 rest ≡ false) × (more2 rest ≡ false))
    → (begins : (d : ℕ) (w : Word) (x : A) (e : ℕ) → L d w x e → (rest : List Lexeme)
    → more3 rest ≡ false → test (lexemes_of w ++ rest) ≡ true)
    → (differs : (d : ℕ) (w : Word) (x : A) (e : ℕ) → M d w x e → (rest : List Lexeme)
    → more3 rest ≡ false → test (lexemes_of w ++ rest) ≡ false)
    → Exact V (choose test p q) (L or M) more3
exact_choose {A} {V} {p} {q} {L} {M} test h k one none lone more3 fewer begins differs = record {
  told = λ i v. told_choose L M i (test i.rest) (p i) (q i) (h.told i v) (k.told i v);
  complete = λ d w x e v either last rest ends_here. elim either [
    | inl l ↦ rw (begins d w x e l rest ends_here) (h.complete d w x e v l last rest
        (fewer rest ends_here).0)
    | inr l ↦ rw (differs d w x e l rest ends_here) (k.complete d w x e v l last rest
        (fewer rest ends_here).1)
  ];
  local = λ last d v u t r1 r2. rw (one_of_both test one u t r1 r2)
      (same_choose t r1 r2 (test (u ++ t ∷ r2)) _ _ _ _ (h.local last d v u t r1 r2)
      (k.local last d v u t r1 r2));
  cut = λ last d v. cut_choose test p q one none last d (λ u t r. h.cut last d v u t r)
      (λ u t r. k.cut last d v u t r) (λ t r. lone last d v t r);
  some = λ d. let s = h.some d in record {
    word = s.word;
    value = s.value;
    depth = s.depth;
    spelled = inl s.spelled;
  };
  rises = λ d w x e either. elim either [ inl l ↦ h.rises d w x e l | inr l ↦ k.rises d w x e l ];
}

-- ---- what is over after it

told_scoped : {A : Type 0} (L : Rule A) (i : Input) (out : Outcome A) → Told L i out
    → Told (scoped L) i (back_to i.depth out)
told_scoped L i (Ok p) h = record {
  word = h.word;
  tokens = h.tokens;
  spelled = (p.1.depth, h.spelled, refl);
  within = h.within;
  last = h.last;
}
told_scoped L i (Err s) h = record {
  word = h.word;
  more = h.more;
  value = h.value;
  depth = i.depth;
  tokens = h.tokens;
  spelled = (h.depth, h.spelled, refl);
  within = h.within;
  reason = h.reason;
}

cond_back : {A : Type 0} (d : ℕ) (b : Bool) (s : Stop) (x y : Outcome A) → back_to d x ≡ y
    → back_to d (cond b (Err s) x) ≡ cond b (Err s) y
cond_back d true s x y h = refl
cond_back d false s x y h = h

gate_scoped : {A : Type 0} (w : Word) (rest : List Lexeme) (last : ℕ) (x : A) (m d : ℕ)
    → back_to d (gate w rest last x m) ≡ gate w rest last x d
gate_scoped [] rest last x m d = refl
gate_scoped (p ∷ w) rest last x m d =
    cond_back d (ltb _ p.1) _ _ _ (gate_scoped w rest p.0.end x m d)

same_scoped : {A : Type 0} (d : ℕ) (t : Lexeme) (r1 r2 : List Lexeme) (x y : Outcome A)
    → Same t r1 r2 x y → Same t r1 r2 (back_to d x) (back_to d y)
same_scoped d t r1 r2 (Ok p) y h = λ v e. ap (back_to d) (h v e)
same_scoped d t r1 r2 (Err s) y h = λ v e. ap (back_to d) (h v e)

cut_scoped : {A : Type 0} (d : ℕ) (t : Lexeme) (r : List Lexeme) (x y : Outcome A) → Cut t r x y
    → Cut t r (back_to d x) (back_to d y)
cut_scoped d t r (Ok q) y h =
    λ e. elim (h e) [ inl is ↦ inl (ap (back_to d) is) | inr is ↦ inr (ap (back_to d) is) ]
cut_scoped d t r (Err s) y h = λ code e. ap (back_to d) (h code e)

pub exact_scoped : {A : Type 0} {V : ℕ → Type 0} {p : Parser A} {L : Rule A} {more : List Lexeme
    → Bool} → Exact V p L more → Exact V (back_after p) (scoped L) more
exact_scoped {A} {V} {p} {L} h = record {
  told = λ i v. told_scoped L i (p i) (h.told i v);
  complete = λ d w x e v (m, l, same) last rest ends_here. rw (
    h.complete d w x m v l last rest
        ends_here,
    same,
  ) (gate_scoped w rest last x m d);
  local = λ last d v u t r1 r2. same_scoped d t r1 r2 _ _ (h.local last d v u t r1 r2);
  cut = λ last d v u t r. cut_scoped d t r _ _ (h.cut last d v u t r);
  some = λ d. let s = h.some d in record {
    word = s.word;
    value = s.value;
    depth = d;
    spelled = (s.depth, s.spelled, refl);
  };
  rises = λ d w x e (m, l, same). omega (arith, same);
}

-- ---- one deeper

told_deeper : {A : Type 0} (L : Rule A) (i : Input) (out : Outcome A)
    → Told L (record i { depth = i.depth + 1 }) out → Told (deeper L) i out
told_deeper L i (Ok p) h = record {
  word = h.word;
  tokens = h.tokens;
  spelled = h.spelled;
  within = h.within;
  last = h.last;
}
told_deeper L i (Err s) h = record {
  word = h.word;
  more = h.more;
  value = h.value;
  depth = h.depth;
  tokens = h.tokens;
  spelled = h.spelled;
  within = h.within;
  reason = h.reason;
}

pub exact_deeper : {A : Type 0} {V W : ℕ → Type 0} {p : Parser A} {L : Rule A} {more : List Lexeme
    → Bool} → Exact W p L more → ((d : ℕ) → V d → W (d + 1)) → Exact V (deeper_of p) (deeper L) more
exact_deeper {A} {V} {W} {p} {L} h wider = record {
  told = λ i v. told_deeper L i (p (record i { depth = i.depth + 1 }))
      (h.told (record i { depth = i.depth + 1 }) (wider i.depth v));
  complete = λ d w x e v k last rest ends_here. h.complete (d + 1) w x e (wider d v) k last rest
      ends_here;
  local = λ last d v u t r1 r2. h.local last (d + 1) (wider d v) u t r1 r2;
  cut = λ last d v u t r. h.cut last (d + 1) (wider d v) u t r;
  some = λ d. let s = h.some (d + 1) in record {
    word = s.word;
    value = s.value;
    depth = s.depth;
    spelled = s.spelled;
  };
  rises = λ d w x e l. omega (arith, h.rises (d + 1) w x e l);
}

-- ---- a value with its place

-- a rule of one token or more
abbrev pub IsLong : {A : Type 0} → Rule A → Type 0
IsLong L = (d : ℕ) (w : Word) (x : _) (e : ℕ) → L d w x e → 0 < length w

start_is : (last : ℕ) (w : Word) (ts rest : List Lexeme) → 0 < length w → ts ≡ lexemes_of w ++ rest
    → start_in last ts ≡ start_of w
start_is last [] ts rest some e = absurd (omega arith)
start_is last (p ∷ w) ts rest some e = rw e refl

end_is : (last : ℕ) (w : Word) → 0 < length w → ends last w ≡ end_of w
end_is last [] some = absurd (omega arith)
end_is last (p ∷ []) some = refl
end_is last (p ∷ q ∷ w) some = end_is p.0.end (q ∷ w) (omega arith)

told_node : {A B : Type 0} (make : ℕ → ℕ → A → B) (L : Rule A) (i : Input) (out : Outcome A)
    → IsLong L → Told L i out → Told (node make L) i (with_place make (start i) out)
told_node make L i (Ok p) long h =
    let some = long i.depth h.word p.0 p.1.depth h.spelled in
    record {
      word = h.word;
      tokens = h.tokens;
      within = h.within;
      last = h.last;
      spelled = (
        p.0,
        h.spelled,
        ap (λ (s : ℕ). make s p.1.last p.0) (start_is i.last h.word i.rest
            p.1.rest some h.tokens) ∙ ap (λ (e : ℕ). make (start_of h.word) e p.0) (h.last
            ∙ end_is i.last h.word some),
      );
    }
told_node make L i (Err s) long h = record {
  word = h.word;
  more = h.more;
  value = make (start_of (h.word ++ h.more)) (end_of (h.word ++ h.more)) h.value;
  depth = h.depth;
  tokens = h.tokens;
  spelled = (h.value, h.spelled, refl);
  within = h.within;
  reason = h.reason;
}

cond_place : {A B : Type 0} (make : ℕ → ℕ → A → B) (s : ℕ) (b : Bool) (stop : Stop) (x : Outcome A)
    (y : Outcome B) → with_place make s x ≡ y
    → with_place make s (cond b (Err stop) x) ≡ cond b (Err stop) y
cond_place make s true stop x y h = refl
cond_place make s false stop x y h = h

gate_node : {A B : Type 0} (make : ℕ → ℕ → A → B) (s : ℕ) (w : Word) (rest : List Lexeme) (last : ℕ)
    (x : A) (m : ℕ)
    → with_place make s (gate w rest last x m) ≡ gate w rest last (make s (ends last w) x) m
gate_node make s [] rest last x m = refl
gate_node make s (p ∷ w) rest last x m =
    cond_place make s (ltb _ p.1) _ _ _ (gate_node make s w rest p.0.end x m)

same_node : {A B : Type 0} (make : ℕ → ℕ → A → B) (s : ℕ) (t : Lexeme) (r1 r2 : List Lexeme)
    (x y : Outcome A) → Same t r1 r2 x y → Same t r1 r2 (with_place make s x) (with_place make s y)
same_node make s t r1 r2 (Ok p) y h = λ v e. ap (with_place make s) (h v e)
same_node make s t r1 r2 (Err e') y h = λ v e. ap (with_place make s) (h v e)

same_start : (last d : ℕ) (u : List Lexeme) (t : Lexeme) (r1 r2 : List Lexeme)
    → start_in last (u ++ t ∷ r1) ≡ start_in last (u ++ t ∷ r2)
same_start last d [] t r1 r2 = refl
same_start last d (a ∷ u) t r1 r2 = refl

none_read : (w : Word) (ts : List Lexeme) → ts ≡ lexemes_of w ++ ts → 0 < length w → ⊥
none_read [] ts e some = omega (arith, some)
none_read (p ∷ w) ts e some = none_above p.0 (lexemes_of w) ts (sym e)

-- where nothing comes before t, a rule of one token or more has taken t
cut_node : {A B : Type 0} (make : ℕ → ℕ → A → B) (L : Rule A) (long : IsLong L) (last d : ℕ)
    (u : List Lexeme) (t : Lexeme) (r : List Lexeme) (x y : Outcome A)
    → Told L (input last d (u ++ t ∷ r)) x → Cut t r x y
    → Cut t r (with_place make (start (input last d (u ++ t ∷ r))) x)
    (with_place make (start (input last d u)) y)
cut_node make L long last d [] t r (Ok q) y told h = λ e. absurd
    (none_read told.word (t ∷ r) (told.tokens
    ∙ ap (λ (ts : List Lexeme). lexemes_of told.word ++ ts) e) (long d told.word q.0 q.1.depth
    told.spelled))
cut_node make L long last d (a ∷ u) t r (Ok q) y told h = λ e. elim (h e) [
  | inl is ↦ inl (ap (with_place make a.start) is)
  | inr is ↦ inr
      (ap (with_place make a.start) is)
]
cut_node make L long last d u t r (Err s) y told h =
    λ code e. ap (with_place make (start (input last d u))) (h code e)

pub exact_node : {A B : Type 0} {V : ℕ → Type 0} {p : Parser A} {L : Rule A} {more : List Lexeme
    → Bool} (make : ℕ → ℕ → A
    → B) → IsLong L → Exact V p L more → Exact V (node_of make p) (node make L) more
exact_node {A} {B} {V} {p} {L} make long h = record {
  told = λ i v. told_node make L i (p i) long (h.told i v);
  complete = λ d w y e v (x, l, is) last rest ends_here.
      let some = long d w x e l in
      let starts = start_is last w (lexemes_of w ++ rest) rest some refl in
      rw (h.complete d w x e v l last rest ends_here, is, starts) (gate_node make (start_of w) w
      rest last x e ∙ ap (λ (n : ℕ). gate w rest last (make (start_of w) n x) e)
      (end_is last w some));
  local = λ last d v u t r1 r2. rw (same_start last d u t r1 r2)
      (same_node make _ t r1 r2 _ _ (h.local last d v u t r1 r2));
  cut = λ last d v u t r. cut_node make L long last d u t r _ _ (h.told (input last d (u ++ t ∷ r))
      v) (h.cut last d v u t r);
  some = λ d. let s = h.some d in
      record {
        word = s.word;
        value = make (start_of s.word) (end_of s.word) s.value;
        depth = s.depth;
        spelled = (s.value, s.spelled, refl);
      };
  rises = λ d w y e (x, l, is). h.rises d w x e l;
}
