-- Whole lists of lexemes: what a parser's answer says of them, and that no two answers are true of
-- one list.
use Rattle.std.proofs.Common.{◌≡◌, ◌⊎◌, ℕ, suc, ◌<◌, ◌≤◌, Bool, true, false, cond, ltb, List, [], ◌∷◌, ◌++◌, length, Ok, Err, refl, sym, ap, subst, ◌∙◌, append_assoc, arith, inl, inr}
use Rattle.std.proofs.lemmas.Bool.{le-ltb, lt-ltb}
use Rattle.std.proofs.lemmas.List.{append-nil, length-append}
use Rattle.token_grammar.specs.Texts.{Lexeme}
use Rattle.token_grammar.specs.declared.fault.ParseError.TheVariants.{Grammar, TooDeep}
use Rattle.token_grammar.specs.steps.Parsers.{Input, Stop, Outcome, Parser}
use Rattle.token_grammar.specs.Grammar.{Word, Rule, lexemes_of, Within, max_depth, Begins, Stops, Spells, IsLongestFront, IsTooDeep, IsWrong}
use Rattle.token_grammar.proofs.Laws.{input, gate, Same, Exact, lexemes_of-append}
use Rattle.token_grammar.proofs.Front.{spells, is_fault, is_too_deep, finds, one_value}
use Rattle.token_grammar.proofs.OneFront.{begins_first, one_rest}

-- ---- lists

-- of two lists that go on to the same one, one is a front of the other
fronts : (xs ys r s : List Lexeme) → xs ++ r ≡ ys ++ s
    → ((z : Lexeme) × (zs : List Lexeme) × (xs ≡ ys ++ z ∷ zs) × (s ≡ z ∷ (zs ++ r)))
    ⊎ ((zs : List Lexeme) × (ys ≡ xs ++ zs) × (r ≡ zs ++ s))
fronts [] ys r s e = inr (ys, refl, e)
fronts (x ∷ xs) [] r s e = inl (x, xs, refl, sym e)
fronts (x ∷ xs) (y ∷ ys) r s e =
    let first : x ≡ y = cc in
    let rest : xs ++ r ≡ ys ++ s = cc in
    elim (fronts xs ys r s rest) [
      | inl (z, zs, a, b) ↦ inl (
        z,
        zs,
        ap (λ (l : List Lexeme). x ∷ l) a
            ∙ ap (λ (q : Lexeme). q ∷ (ys ++ z ∷ zs)) first,
        b,
      )
      | inr (zs, a, b) ↦ inr (
        zs,
        ap (λ (l : List Lexeme). y ∷ l) a
            ∙ ap (λ (q : Lexeme). q ∷ (xs ++ zs)) (sym first),
        b,
      )
    ]

length-lexemes : (w : Word) → length (lexemes_of w) ≡ length w
length-lexemes [] = refl
length-lexemes (p ∷ w) = ap suc (length-lexemes w)

-- ---- gates

gate_deep : {A : Type 0} (w : Word) (q : Lexeme × ℕ) (more : Word) (last : ℕ) (x : A) (e : ℕ)
    → Within w → max_depth < q.1
    → gate (w ++ q ∷ more) [] last x e ≡ Err
    (record { code = TooDeep; rest = q.0 ∷ (lexemes_of more ++ []) })
gate_deep [] q more last x e within deep = rw (lt-ltb _ _ deep) refl
gate_deep (p ∷ w) q more last x e within deep =
    rw (le-ltb _ _ within.0) (gate_deep w q more p.0.end x e within.1 deep)

-- what is refused of a gate is no longer than its word
short_by : {A : Type 0} (b : Bool) (n : ℕ) (ts : List Lexeme) (out : Outcome A) (s : Stop)
    → length ts ≤ suc n → (out ≡ Err s → length s.rest ≤ n)
    → cond b (Err (record { code = TooDeep; rest = ts })) out ≡ Err s → length s.rest ≤ suc n
short_by true n ts out s le h e = let same : ts ≡ s.rest = cc in omega (arith, le, ap length same)
short_by false n ts out s le h e = omega (arith, h e)

gate_short : {A : Type 0} (w : Word) (last : ℕ) (x : A) (e : ℕ) (s : Stop)
    → gate w [] last x e ≡ Err s → length s.rest ≤ length w
gate_short [] last x e s is = absurd cc
gate_short (p ∷ w) last x e s is = short_by (ltb max_depth p.1) (length w)
    (p.0 ∷ (lexemes_of w ++ [])) (gate w [] p.0.end x e) s
    (omega (arith, length-append (lexemes_of w) [], length-lexemes w)) (gate_short w p.0.end x e s)
    is

gate_passes : {A : Type 0} (w more : Word) (last : ℕ) (x : A) (e : ℕ) (s : Stop) → Within w
    → gate (w ++ more) [] last x e ≡ Err s → length s.rest ≤ length more
gate_passes [] more last x e s within is = gate_short more last x e s is
gate_passes (p ∷ w) more last x e s within is =
    gate_passes w more p.0.end x e s within.1 (sym (rw (le-ltb _ _ within.0) refl) ∙ is)

abbrev left_of : {A : Type 0} → Outcome A → List Lexeme
left_of (Ok q) = []
left_of (Err s) = s.rest

-- ---- what a list begins

pub begun_all : {A : Type 0} (L : Rule A) (ts : List Lexeme) (x : A) → Spells L ts x → Begins L 0 ts
begun_all L ts x s = record {
  word = s.word;
  more = [];
  value = x;
  depth = s.depth;
  tokens = s.tokens;
  spelled =
      subst (λ (w : Word). L 0 w x s.depth) (sym (append-nil s.word)) s.spelled;
}

no_word : {A : Type 0} (L : Rule A) (ts front : List Lexeme) (t : Lexeme) (r : List Lexeme) (x : A)
    → ts ≡ front ++ t ∷ r → Stops L 0 front (t ∷ r) → Spells L ts x → ⊥
no_word L ts front t r x is stops s = stops t r refl (begins_first L 0 (front ++ t ∷ []) r
    (subst (Begins L 0) (is ∙ sym (append_assoc front (t ∷ []) r)) (begun_all L ts x s)))

pub longest_of : {A : Type 0} {L : Rule A} {ts rest : List Lexeme} → IsWrong L ts rest
    → IsLongestFront L ts rest
longest_of w = record {
  front = lexemes_of w.word;
  tokens = w.tokens;
  begun = record {
    word = w.word;
    more = w.more;
    value = w.value;
    depth = w.depth;
    tokens = refl;
    spelled = w.begun;
  };
  stops = w.longest;
}

module _ {A : Type 0} {V : ℕ → Type 0} {p : Parser A} {L : Rule A} {more : List Lexeme → Bool}
    (h : Exact V p L more) (open_end : more [] ≡ false) (v : V 0) where
  abbrev read : List Lexeme → Outcome A
  read ts = p (input 0 0 ts)

  -- ---- what an answer says

  -- all was read
  pub whole : (ts : List Lexeme) (x : A) (o : Input) → read ts ≡ Ok (x, o) → o.rest ≡ []
      → Spells L ts x
  whole ts x o e none =
      let s = spells h open_end (input 0 0 ts) v x o e in
      record {
        word = s.word;
        depth = s.depth;
        tokens = sym (s.tokens ∙ ap (λ (r : List Lexeme). lexemes_of s.word ++ r) none
            ∙ append-nil (lexemes_of s.word));
        spelled = s.spelled;
        within = s.within;
      }

  -- something is left
  pub wrong_behind : (ts : List Lexeme) (x : A) (o : Input) (t : Lexeme) (r : List Lexeme)
      → read ts ≡ Ok (x, o) → o.rest ≡ t ∷ r → IsWrong L ts (t ∷ r)
  wrong_behind ts x o t r e left =
      let s = spells h open_end (input 0 0 ts) v x o e in
      let all : ts ≡ lexemes_of s.word ++ t ∷ r = s.tokens
      ∙ ap (λ (l : List Lexeme). lexemes_of s.word ++ l) left in
      let stops : Stops L 0 (lexemes_of s.word) (t ∷ r) = subst (Stops L 0 (lexemes_of s.word)) left
      s.longest in
      record {
        word = s.word;
        more = [];
        value = x;
        depth = s.depth;
        tokens = all;
        begun = subst (λ (w : Word). L 0 w x s.depth) (sym (append-nil s.word)) s.spelled;
        within = s.within;
        longest =
            stops;
        unspelled = λ y k. no_word L ts (lexemes_of s.word) t r y all stops k;
      }

  unspelled_by : (ts : List Lexeme) (front rest : List Lexeme) → ts ≡ front ++ rest
      → Stops L 0 front rest
      → ((w : Word) (x : A) (e : ℕ) → L 0 w x e → ts ≡ lexemes_of w ++ rest → ⊥) → (x : A)
      → Spells L ts x → ⊥
  unspelled_by ts front [] is stops none x s =
      none s.word x s.depth s.spelled (sym s.tokens ∙ sym (append-nil (lexemes_of s.word)))
  unspelled_by ts front (t ∷ r) is stops none x s = no_word L ts front t r x is stops s

  -- the grammar is broken
  pub wrong_at : (ts rest : List Lexeme) → read ts ≡ Err (record { code = Grammar; rest = rest })
      → IsWrong L ts rest
  wrong_at ts rest e =
      let f = is_fault h open_end (input 0 0 ts) v rest e in
      record {
        word = f.word;
        more = f.more;
        value = f.value;
        depth = f.depth;
        tokens = f.tokens;
        begun = f.begun;
        within = f.within;
        longest = f.longest;
        unspelled = unspelled_by ts
            (lexemes_of f.word) rest f.tokens f.longest f.unspelled;
      }

  pub deep_at : (ts rest : List Lexeme) → read ts ≡ Err (record { code = TooDeep; rest = rest })
      → IsTooDeep L 0 ts rest
  deep_at ts rest e = is_too_deep h open_end (input 0 0 ts) v rest e

  -- ---- that no two answers are true

  -- where a lexeme stands too deep, the parser says so, whatever follows
  deep_read : (word : Word) (next : Lexeme × ℕ) (more : Word) (x : A) (e : ℕ)
      → L 0 (word ++ next ∷ more) x e → Within word → max_depth < next.1 → (after : List Lexeme)
      → read (lexemes_of word ++ next.0 ∷ after) ≡ Err
      (record { code = TooDeep; rest = next.0 ∷ after })
  deep_read word next more x e l within deep after =
      let list : lexemes_of (word ++ next ∷ more) ++ [] ≡ lexemes_of word ++ next.0 ∷ lexemes_of
      more = append-nil (lexemes_of (word ++ next ∷ more))
      ∙ lexemes_of-append word (next ∷ more) in
      let known : read (lexemes_of word ++ next.0 ∷ lexemes_of more) ≡ Err
      (record { code = TooDeep; rest = next.0 ∷ lexemes_of more }) =
      sym (ap read list) ∙ h.complete 0 (word ++ next ∷ more) x e v l 0 [] open_end
      ∙ gate_deep word next more 0 x e within deep
      ∙ ap (λ (r : List Lexeme). Err (record { code = TooDeep; rest = next.0 ∷ r }))
      (append-nil (lexemes_of more)) in
      let same = subst (λ (out : Outcome A). Same next.0 (lexemes_of more) after out
      (read (lexemes_of word ++ next.0 ∷ after))) known (h.local 0 0 v (lexemes_of word) next.0
      (lexemes_of more) after) in
      same [] refl

  deep_found : (ts rest : List Lexeme) → IsTooDeep L 0 ts rest
      → read ts ≡ Err (record { code = TooDeep; rest = rest })
  deep_found ts rest d = rw (d.tokens, d.there) (deep_read d.word d.next d.more d.value d.depth
      d.begun d.within d.deep d.after)

  found : (ts : List Lexeme) (x : A) → (s : Spells L ts x) → (o : Input) × (read ts ≡ Ok (x, o))
  found ts x s =
      (_, sym (ap read s.tokens) ∙ finds h open_end 0 0 v s.word x s.depth s.spelled s.within)

  pub one_spelled : (ts : List Lexeme) (x y : A) → Spells L ts x → Spells L ts y → x ≡ y
  one_spelled ts x y s k = one_value h open_end 0 v s.word k.word x y s.depth k.depth (s.tokens
      ∙ sym k.tokens) s.spelled k.spelled s.within k.within

  pub not_deep : (ts rest : List Lexeme) (x : A) → Spells L ts x → IsTooDeep L 0 ts rest → ⊥
  not_deep ts rest x s d =
      let (o, e) = found ts x s in let clash = sym e ∙ deep_found ts rest d in cc

  pub one_wrong : (ts r s : List Lexeme) → IsWrong L ts r → IsWrong L ts s → r ≡ s
  one_wrong ts r s a b = one_rest L ts r s (longest_of a) (longest_of b)

  pub one_deep : (ts r s : List Lexeme) → IsTooDeep L 0 ts r → IsTooDeep L 0 ts s → r ≡ s
  one_deep ts r s a b = ap left_of (sym (deep_found ts r a) ∙ deep_found ts s b)

  pub not_both : (ts r s : List Lexeme) → IsWrong L ts r → IsTooDeep L 0 ts s → ⊥
  not_both ts r s w d =
      elim (fronts (lexemes_of w.word) (lexemes_of d.word) r s (sym w.tokens ∙ d.tokens)) [
        | inl (z, zs, a, b) ↦
            let first : z ≡ d.next.0 = ap head_or (sym b ∙ d.there) in
            let list : lexemes_of (w.word ++ w.more) ++ [] ≡ lexemes_of
            d.word ++ d.next.0 ∷ (zs ++ lexemes_of w.more) =
            append-nil (lexemes_of (w.word ++ w.more)) ∙ lexemes_of-append w.word w.more
            ∙ ap (λ (l : List Lexeme). l ++ lexemes_of w.more) a ∙ append_assoc (lexemes_of d.word)
            (z ∷ zs) (lexemes_of w.more)
            ∙ ap (λ (q : Lexeme). lexemes_of d.word ++ q ∷ (zs ++ lexemes_of w.more)) first in
            let known = sym (h.complete 0 (w.word ++ w.more) w.value w.depth v w.begun 0 [] open_end)
            ∙ ap read list ∙ deep_read d.word d.next d.more d.value d.depth d.begun d.within d.deep
            (zs ++ lexemes_of w.more) in
            let short = gate_passes w.word w.more 0 w.value w.depth
            (record { code = TooDeep; rest = d.next.0 ∷ (zs ++ lexemes_of w.more) }) w.within
            known in
            omega (arith, short, length-append zs (lexemes_of w.more), length-lexemes w.more)
        | inr (zs, a, b) ↦ stops_by zs a (b ∙ ap (λ (l : List Lexeme). zs ++ l) d.there)
      ]
    where
      head_or : List Lexeme → Lexeme
      head_or [] = d.next.0
      head_or (t ∷ ts) = t

      begun : Begins L 0 (lexemes_of d.word ++ d.next.0 ∷ [])
      begun = record {
        word = d.word ++ d.next ∷ [];
        more = d.more;
        value = d.value;
        depth = d.depth;
        tokens = lexemes_of-append d.word (d.next ∷ []);
        spelled = subst (λ (l : Word). L 0 l d.value d.depth)
            (sym (append_assoc d.word (d.next ∷ []) d.more)) d.begun;
      }

      stops_by : (zs : List Lexeme) → lexemes_of d.word ≡ lexemes_of w.word ++ zs
          → r ≡ zs ++ d.next.0 ∷ d.after → ⊥
      stops_by [] same is = w.longest d.next.0 d.after is
          (subst (λ (l : List Lexeme). Begins L 0 (l ++ d.next.0 ∷ [])) (same
          ∙ append-nil (lexemes_of w.word)) begun)
      stops_by (z ∷ zs) same is = w.longest z (zs ++ d.next.0 ∷ d.after) is
          (begins_first L 0 (lexemes_of w.word ++ z ∷ []) (zs ++ d.next.0 ∷ [])
          (subst (Begins L 0) (ap (λ (l : List Lexeme). l ++ d.next.0 ∷ []) same
          ∙ append_assoc (lexemes_of w.word) (z ∷ zs) (d.next.0 ∷ [])
          ∙ sym (append_assoc (lexemes_of w.word) (z ∷ []) (zs ++ d.next.0 ∷ []))) begun))
