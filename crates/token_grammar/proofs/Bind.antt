-- One rule after another.
use Rattle.std.proofs.Common.{◌≡◌, ℕ, Bool, true, false, cond, ltb, List, [], ◌∷◌, ◌++◌, Ok, Err, refl, sym, ap, subst, ◌∙◌, append_assoc, arith, inl, inr, ◌⊎◌}
use Rattle.std.proofs.lemmas.Bool.{ltb-false}
use Rattle.std.proofs.lemmas.List.{append_cancel_right}
use Rattle.token_grammar.specs.Texts.{Lexeme}
use Rattle.token_grammar.specs.declared.fault.ParseError.TheVariants.{TooDeep}
use Rattle.token_grammar.specs.steps.Parsers.{Input, Outcome, Parser, and_then}
use Rattle.token_grammar.specs.Grammar.{Word, Rule, lexemes_of, Within, ◌>>=◌, max_depth}
use Rattle.token_grammar.proofs.Laws.{input, ends, Read, Told, gate, Same, Cut, at_end, cut_err, Some_, Exact, lexemes_of-two, Within-append, ends-append, Reason-append}

-- ---- what is told

second : {A B : Type 0} (L : Rule A) (M : A → Rule B) (i : Input) (x : A) (o : Input)
    (out : Outcome B) → Read L i x o → Told (M x) o out → Told (L >>= M) i out
second L M i x o (Ok p) r k = record {
  word = r.word ++ k.word;
  tokens = r.tokens ∙ ap (λ (ts : List Lexeme). lexemes_of r.word ++ ts) k.tokens
      ∙ sym (lexemes_of-two r.word k.word p.1.rest);
  spelled = (r.word, k.word, x, o.depth, refl, r.spelled, k.spelled);
  within = Within-append r.word k.word r.within k.within;
  last = k.last ∙ ap (λ (n : ℕ). ends n k.word) r.last ∙ sym (ends-append i.last r.word k.word);
}
second L M i x o (Err s) r k = record {
  word = r.word ++ k.word;
  more = k.more;
  value = k.value;
  depth = k.depth;
  tokens = r.tokens ∙ ap (λ (ts : List Lexeme). lexemes_of r.word ++ ts) k.tokens
      ∙ sym (lexemes_of-two r.word k.word s.rest);
  spelled = (
    r.word,
    k.word ++ k.more,
    x,
    o.depth,
    append_assoc r.word k.word k.more,
    r.spelled,
    k.spelled,
  );
  within = Within-append r.word k.word r.within k.within;
  reason = k.reason;
}

pub told_bind : {A B : Type 0} (L : Rule A) (M : A → Rule B) (f : A → Parser B) (i : Input)
    (out : Outcome A) → Told L i out
    → ((x : A) (o : Input) → Read L i x o → Told (M x) o (f x o))
    → ((x : A) (d : ℕ) → Some_ (M x) d) → Told (L >>= M) i (and_then out f)
told_bind L M f i (Ok p) h k s = second L M i p.0 p.1 (f p.0 p.1) h (k p.0 p.1 h)
told_bind L M f i (Err e) h k s =
    let z = s h.value h.depth in
    record {
      word = h.word;
      more = h.more ++ z.word;
      value = z.value;
      depth = z.depth;
      tokens = h.tokens;
      spelled = (
        h.word ++ h.more,
        z.word,
        h.value,
        h.depth,
        sym
            (append_assoc h.word h.more z.word),
        h.spelled,
        z.spelled,
      );
      within = h.within;
      reason = Reason-append e.code h.more z.word e.rest h.reason;
    }

-- ---- what is read again

gate-by : {A B : Type 0} (f : A → Parser B) (p : Lexeme × ℕ) (u v : Word) (rest : List Lexeme)
    (last : ℕ) (x : A) (m : ℕ) (y : B) (e : ℕ) (b : Bool) → ltb max_depth p.1 ≡ b
    → (Within (p ∷ u) → f x (input (ends p.0.end u) m (lexemes_of v ++ rest)) ≡ gate v rest
    (ends p.0.end u) y e)
    → ((Within u → f x (input (ends p.0.end u) m (lexemes_of v ++ rest)) ≡ gate v rest
    (ends p.0.end u) y e) → and_then (gate u (lexemes_of v ++ rest) p.0.end x m) f ≡ gate
    (u ++ v) rest p.0.end y e)
    → and_then (cond b
    (Err (record { code = TooDeep; rest = p.0 ∷ (lexemes_of u ++ (lexemes_of v ++ rest)) }))
    (gate u (lexemes_of v ++ rest) p.0.end x m)) f ≡ cond b
    (Err (record { code = TooDeep; rest = p.0 ∷ (lexemes_of (u ++ v) ++ rest) }))
    (gate (u ++ v) rest p.0.end y e)
gate-by f p u v rest last x m y e true is h go_on =
    ap (λ (ts : List Lexeme). Err (record { code = TooDeep; rest = p.0 ∷ ts }))
    (sym (lexemes_of-two u v rest))
gate-by f p u v rest last x m y e false is h go_on = go_on (λ k. h (ltb-false _ _ is, k))

pub gate-append : {A B : Type 0} (f : A → Parser B) (u v : Word) (rest : List Lexeme) (last : ℕ)
    (x : A) (m : ℕ) (y : B) (e : ℕ)
    → (Within u → f x (input (ends last u) m (lexemes_of v ++ rest)) ≡ gate v rest (ends last u) y
    e)
    → and_then (gate u (lexemes_of v ++ rest) last x m) f ≡ gate (u ++ v) rest last y e
gate-append f [] v rest last x m y e h = h tt
gate-append f (p ∷ u) v rest last x m y e h = gate-by f p u v rest last x m y e (ltb max_depth p.1)
    refl h (gate-append f u v rest p.0.end x m y e)

-- ---- that later tokens don't matter

join : {B : Type 0} (L : Rule B) (t : Lexeme) (r1 r2 : List Lexeme) (o : Input)
    (out out2 : Outcome B) → Told L o out
    → ((v : List Lexeme) → o.rest ≡ v ++ t ∷ r1 → Same t r1 r2 out out2) → Same t r1 r2 out out2
join L t r1 r2 o (Ok q) out2 h big = λ v eq. big (lexemes_of h.word ++ v) (h.tokens
    ∙ ap (λ (ts : List Lexeme). lexemes_of h.word ++ ts) eq
    ∙ sym (append_assoc (lexemes_of h.word) v (t ∷ r1))) v eq
join L t r1 r2 o (Err s) out2 h big = λ v eq. big (lexemes_of h.word ++ v) (h.tokens
    ∙ ap (λ (ts : List Lexeme). lexemes_of h.word ++ ts) eq
    ∙ sym (append_assoc (lexemes_of h.word) v (t ∷ r1))) v eq

pub local_bind : {A B : Type 0} (L : Rule A) (M : A → Rule B) (f1 f2 : A → Parser B) (i : Input)
    (t : Lexeme) (r1 r2 : List Lexeme) (out out2 : Outcome A)
    → Told L i out → Same t r1 r2 out out2
    → (told2 : (x : A) (o : Input) → Read L i x o → Told (M x) o (f1 x o))
    → (local2 : (x : A) (o : Input) → Read L i x o → (u : List Lexeme) → o.rest ≡ u ++ t ∷ r1
    → Same t r1 r2 (f1 x (input o.last o.depth (u ++ t ∷ r1)))
    (f2 x (input o.last o.depth (u ++ t ∷ r2))))
    → Same t r1 r2 (and_then out f1) (and_then out2 f2)
local_bind L M f1 f2 i t r1 r2 (Err s) out2 h same told2 local2 =
    λ v eq. ap (λ (o : Outcome _). and_then o f2) (same v eq)
local_bind L M f1 f2 i t r1 r2 (Ok p) out2 h same told2 local2 =
    join (M p.0) t r1 r2 p.1 (f1 p.0 p.1) (and_then out2 f2) (told2 p.0 p.1 h)
    (λ v eq. rw (same v eq)
    (subst (λ (ts : List Lexeme). Same t r1 r2 (f1 p.0 (input p.1.last p.1.depth ts))
    (f2 p.0 (input p.1.last p.1.depth (v ++ t ∷ r2)))) (sym eq) (local2 p.0 p.1 h v eq)))

-- ---- that the input ends

cut_join : {B : Type 0} (L : Rule B) (t : Lexeme) (r : List Lexeme) (o : Input)
    (out out2 : Outcome B) → Told L o out
    → ((v : List Lexeme) → o.rest ≡ v ++ t ∷ r → Cut t r out out2) → Cut t r out out2
cut_join L t r o (Ok q) out2 h big = λ e. big (lexemes_of h.word) (h.tokens
    ∙ ap (λ (ts : List Lexeme). lexemes_of h.word ++ ts) e) e
cut_join L t r o (Err s) out2 h big = λ code e. big (lexemes_of h.word) (h.tokens
    ∙ ap (λ (ts : List Lexeme). lexemes_of h.word ++ ts) e) code e

cut_next : {A B : Type 0} (x : A) (o : Input) (t : Lexeme) (r v : List Lexeme) (out2 : Outcome A)
    (f1 f2 : A → Parser B) → (out2 ≡ Ok (x, record o { rest = v })) ⊎ (out2 ≡ Err at_end)
    → o.rest ≡ v ++ t ∷ r
    → Cut t r (f1 x (input o.last o.depth (v ++ t ∷ r))) (f2 x (input o.last o.depth v))
    → Cut t r (f1 x o) (and_then out2 f2)
cut_next x o t r v out2 f1 f2 (inl is) eq h =
    rw is (subst (λ (ts : List Lexeme). Cut t r (f1 x (input o.last o.depth ts))
    (f2 x (input o.last o.depth v))) (sym eq) h)
cut_next x o t r v out2 f1 f2 (inr is) eq h = rw is (cut_err t r (f1 x o))

-- what the first part answers where the input ends after v
shorter_input : {A : Type 0} (p : Parser A) (L : Rule A) (last d : ℕ) (u : List Lexeme) (t : Lexeme)
    (r : List Lexeme) (q : A × Input)
    → Read L (input last d (u ++ t ∷ r)) q.0 q.1 → Ok q ≡ p (input last d (u ++ t ∷ r))
    → (q.1.rest ≡ t ∷ r → (p (input last d u) ≡ Ok (q.0, record q.1 { rest = [] }))
    ⊎ (p (input last d u) ≡ Err at_end))
    → (same : (u1 : List Lexeme) (a : Lexeme) (r1 r2 : List Lexeme)
    → Same a r1 r2 (p (input last d (u1 ++ a ∷ r1))) (p (input last d (u1 ++ a ∷ r2))))
    → (v : List Lexeme) → q.1.rest ≡ v ++ t ∷ r
    → (p (input last d u) ≡ Ok (q.0, record q.1 { rest = v }))
    ⊎ (p (input last d u) ≡ Err at_end)
shorter_input p L last d u t r q h is cut same [] eq = cut eq
shorter_input p L last d u t r q h is cut same (a ∷ v) eq =
    let whole : u ++ t ∷ r ≡ (lexemes_of h.word ++ a ∷ v) ++ t ∷ r = h.tokens
    ∙ ap (λ (ts : List Lexeme). lexemes_of h.word ++ ts) eq
    ∙ sym (append_assoc (lexemes_of h.word) (a ∷ v) (t ∷ r)) in
    let front : u ≡ lexemes_of h.word ++ a ∷ v = append_cancel_right u (lexemes_of h.word ++ a ∷ v)
    (t ∷ r) whole in
    let long : p (input last d (lexemes_of h.word ++ a ∷ (v ++ t ∷ r))) ≡ Ok q =
    ap (λ (ts : List Lexeme). p (input last d ts))
    (sym (append_assoc (lexemes_of h.word) (a ∷ v) (t ∷ r)) ∙ sym whole) ∙ sym is in
    let moved = subst (λ (out : Outcome _). Same a (v ++ t ∷ r) v out
    (p (input last d (lexemes_of h.word ++ a ∷ v)))) long
    (same (lexemes_of h.word) a (v ++ t ∷ r) v) in
    inl (ap (λ (ts : List Lexeme). p (input last d ts)) front ∙ moved [] eq)

pub cut_bind : {A B : Type 0} (p : Parser A) (L : Rule A) (M : A → Rule B) (f1 f2 : A → Parser B)
    (last d : ℕ) (u : List Lexeme) (t : Lexeme) (r : List Lexeme) (out : Outcome A)
    → out ≡ p (input last d (u ++ t ∷ r))
    → Told L (input last d (u ++ t ∷ r)) out → Cut t r out (p (input last d u))
    → (same : (u1 : List Lexeme) (a : Lexeme) (r1 r2 : List Lexeme)
    → Same a r1 r2 (p (input last d (u1 ++ a ∷ r1))) (p (input last d (u1 ++ a ∷ r2))))
    → (told2 : (x : A) (o : Input) → Read L (input last d (u ++ t ∷ r)) x o → Told (M x) o (f1 x o))
    → (cut2 : (x : A) (o : Input) → Read L (input last d (u ++ t ∷ r)) x o → (v : List Lexeme)
    → o.rest ≡ v ++ t ∷ r
    → Cut t r (f1 x (input o.last o.depth (v ++ t ∷ r))) (f2 x (input o.last o.depth v)))
    → Cut t r (and_then out f1) (and_then (p (input last d u)) f2)
cut_bind p L M f1 f2 last d u t r (Err s) is h cut same told2 cut2 =
    λ code e. ap (λ (o : Outcome _). and_then o f2) (cut code e)
cut_bind p L M f1 f2 last d u t r (Ok q) is h cut same told2 cut2 =
    cut_join (M q.0) t r q.1 (f1 q.0 q.1) (and_then (p (input last d u)) f2) (told2 q.0 q.1 h)
    (λ v eq. cut_next q.0 q.1 t r v (p (input last d u)) f1 f2 (shorter_input p L last d u t r q h
    is cut same v eq) eq (cut2 q.0 q.1 h v eq))

-- ---- one after the other

some_bind : {A B : Type 0} (L : Rule A) (M : A → Rule B) (d : ℕ) → Some_ L d
    → ((x : A) (m : ℕ) → Some_ (M x) m) → Some_ (L >>= M) d
some_bind L M d a k =
    let b = k a.value a.depth in
    record {
      word = a.word ++ b.word;
      value = b.value;
      depth = b.depth;
      spelled = (a.word, b.word, a.value, a.depth, refl, a.spelled, b.spelled);
    }

pub bind : {A B : Type 0} {V W : ℕ → Type 0} {p : Parser A} {f : A → Parser B} {L : Rule A}
    {M : A → Rule B} {more1 more2 : List Lexeme → Bool}
    → (first : Exact V p L more1) → (next : (x : A) → Exact W (f x) (M x) more2)
    → (carry : (d : ℕ) (u : Word) (x : A) (m : ℕ) → V d → L d u x m → Within u → W m)
    → (apart : (x : A) (m : ℕ) (v : Word) (y : B) (e : ℕ) → M x m v y e → (rest : List Lexeme)
    → more2 rest ≡ false → more1 (lexemes_of v ++ rest) ≡ false)
    → Exact V (λ i. and_then (p i) f) (L >>= M) more2
bind {A} {B} {V} {W} {p} {f} {L} {M} {more1} {more2} first next carry apart = record {
  told = λ i v. told_bind L M f i (p i) (first.told i v)
      (λ x o r. (next x).told o (carry i.depth r.word x o.depth v r.spelled r.within))
      (λ x d. (next x).some d);
  complete = λ d w y e v (u1, u2, x, m, eq, l, r) last rest ends_here.
      let a = first.complete d u1 x m v l last (lexemes_of u2 ++ rest)
      (apart x m u2 y e r rest ends_here) in
      let both = gate-append f u1 u2 rest last x m y e (λ within. (next x).complete m u2 y e
      (carry d u1 x m v l within) r (ends last u1) rest ends_here) in
      rw (eq, lexemes_of-two u1 u2 rest, a) both;
  local = λ last d v u t r1 r2.
      local_bind L M f f (input last d (u ++ t ∷ r1)) t r1 r2 (p (input last d (u ++ t ∷ r1)))
      (p (input last d (u ++ t ∷ r2))) (first.told (input last d (u ++ t ∷ r1)) v)
      (first.local last d v u t r1 r2)
      (λ x o r. (next x).told o (carry d r.word x o.depth v r.spelled r.within))
      (λ x o r u' eq. (next x).local o.last o.depth (carry d r.word x o.depth v r.spelled r.within)
      u' t r1 r2);
  cut = λ last d v u t r.
      cut_bind p L M f f last d u t r (p (input last d (u ++ t ∷ r))) refl
      (first.told (input last d (u ++ t ∷ r)) v) (first.cut last d v u t r)
      (first.local last d v)
      (λ x o r'. (next x).told o (carry d r'.word x o.depth v r'.spelled r'.within))
      (λ x o r' v' eq. (next x).cut o.last o.depth (carry d r'.word x o.depth v r'.spelled
      r'.within) v' t r);
  some = λ d. some_bind L M d (first.some d) (λ x m. (next x).some m);
  rises = λ d w y e (u1, u2, x, m, eq, l, r). omega (
    arith,
    first.rises d u1 x m l,
    (next x).rises m
        u2 y e r,
  );
}
