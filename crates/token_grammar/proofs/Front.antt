-- What the laws say of an answer: the front, and that there is no other.
use Rattle.std.proofs.Common.{◌≡◌, ℕ, Bool, true, false, cond, ltb, List, [], ◌∷◌, ◌++◌, Ok, Err, refl, sym, ap, subst, ◌∙◌, append_assoc}
use Rattle.std.proofs.lemmas.Bool.{le-ltb}
use Rattle.std.proofs.lemmas.List.{append-nil}
use Rattle.token_grammar.specs.Texts.{Lexeme}
use Rattle.token_grammar.specs.declared.fault.ParseError.TheVariants.{Grammar, TooDeep}
use Rattle.token_grammar.specs.steps.Parsers.{Input, Stop, Outcome, Parser}
use Rattle.token_grammar.specs.Grammar.{Word, Rule, lexemes_of, Within, Begins, Stops, SpellsFront, IsGrammarFault, IsTooDeep, max_depth}
use Rattle.token_grammar.proofs.Laws.{input, ends, Deep, Cut, at_end, Read, Refused, Told, gate, Same, Exact, lexemes_of-append}

abbrev ok_of : {A : Type 0} → A × Input → Outcome A
ok_of p = Ok p

ok_is : {A : Type 0} (a b : A × Input) → ok_of a ≡ ok_of b → a ≡ b
ok_is a b e = cc

-- ---- what a gate can be

gate_ok_by : {A : Type 0} (b : Bool) (s : Stop) (out : Outcome A) (y : A) (o : Input)
    → (out ≡ Ok (y, o) → o.rest ≡ []) → cond b (Err s) out ≡ Ok (y, o) → o.rest ≡ []
gate_ok_by true s out y o h e = absurd cc
gate_ok_by false s out y o h e = h e

pub gate_ok : {A : Type 0} (w : Word) (last : ℕ) (x : A) (m : ℕ) (y : A) (o : Input)
    → gate w [] last x m ≡ Ok (y, o) → o.rest ≡ []
gate_ok [] last x m y o e =
    sym (ap (λ (q : _ × Input). q.1.rest) (ok_is (x, input last m []) (y, o) e))
gate_ok (p ∷ w) last x m y o e =
    gate_ok_by (ltb max_depth p.1) _ (gate w [] p.0.end x m) y o (gate_ok w p.0.end x m y o) e

gate_err_by : {A : Type 0} (b : Bool) (ts : List Lexeme) (out : Outcome A) (s : Stop)
    → (out ≡ Err s → s.code ≡ TooDeep)
    → cond b (Err (record { code = TooDeep; rest = ts })) out ≡ Err s → s.code ≡ TooDeep
gate_err_by true ts out s h e =
    let q : s ≡ record { code = TooDeep; rest = ts } = cc in ap (λ (s : Stop). s.code) q
gate_err_by false ts out s h e = h e

pub gate_err : {A : Type 0} (w : Word) (rest : List Lexeme) (last : ℕ) (x : A) (m : ℕ) (s : Stop)
    → gate w rest last x m ≡ Err s → s.code ≡ TooDeep
gate_err [] rest last x m s e = absurd cc
gate_err (p ∷ w) rest last x m s e =
    gate_err_by (ltb max_depth p.1) _ (gate w rest p.0.end x m) s (gate_err w rest p.0.end x m s) e

no_refusal : {A : Type 0} (w : Word) (last : ℕ) (x : A) (m : ℕ) (s : Stop) → s.code ≡ Grammar
    → gate w [] last x m ≡ Err s → ⊥
no_refusal w last x m s code is =
    let deep = gate_err w [] last x m s is in let clash : Grammar ≡ TooDeep = sym code ∙ deep in cc

pub gate_within : {A : Type 0} (w : Word) (rest : List Lexeme) (last : ℕ) (x : A) (m : ℕ) → Within w
    → gate w rest last x m ≡ Ok (x, input (ends last w) m rest)
gate_within [] rest last x m h = refl
gate_within (p ∷ w) rest last x m h = rw (le-ltb _ _ h.0) (gate_within w rest p.0.end x m h.1)

pub cons_nil : (t : Lexeme) (ts : List Lexeme) → t ∷ ts ≡ [] → ⊥
cons_nil t ts e = cc

ok_first : {A : Type 0} (a b : A × Input) → ok_of a ≡ ok_of b → a.0 ≡ b.0
ok_first a b e = ap (λ (p : _ × Input). p.0) (ok_is a b e)

-- ---- no longer list begins the rule

deep_at : {A : Type 0} (L : Rule A) (d : ℕ) (ts rest : List Lexeme) (word more : Word) (value : A)
    (depth : ℕ) → ts ≡ lexemes_of word ++ rest → L d (word ++ more) value depth → Within word
    → Deep more rest → IsTooDeep L d ts rest
deep_at L d ts rest word [] value depth tokens begun within deep = absurd deep
deep_at L d ts [] word (q ∷ more) value depth tokens begun within deep = absurd deep
deep_at L d ts (t ∷ rest) word (q ∷ more) value depth tokens begun within deep =
    record {
      word = word;
      next = q;
      more = more;
      value = value;
      depth = depth;
      after = rest;
      tokens = tokens;
      there =
          ap (λ (x : Lexeme). x ∷ rest) (sym deep.0);
      begun = begun;
      within = within;
      deep = deep.1;
    }

module _ {A : Type 0} {V : ℕ → Type 0} {p : Parser A} {L : Rule A} {more : List Lexeme → Bool}
    (h : Exact V p L more) (open_end : more [] ≡ false) where
  -- a run on tokens that go on as a word does
  run : (last d : ℕ) → V d → (u : List Lexeme) (t : Lexeme) (b : Begins L d (u ++ t ∷ []))
      → p (input last d (u ++ t ∷ lexemes_of b.more)) ≡ gate (b.word ++ b.more) [] last b.value
      b.depth
  run last d v u t b =
      let whole : lexemes_of (b.word ++ b.more) ++ [] ≡ u ++ t ∷ lexemes_of b.more = append-nil
      (lexemes_of (b.word ++ b.more)) ∙ lexemes_of-append b.word b.more
      ∙ ap (λ (ts : List Lexeme). ts ++ lexemes_of b.more) b.tokens ∙ append_assoc u (t ∷ [])
      (lexemes_of b.more) in
      sym (ap (λ (ts : List Lexeme). p (input last d ts)) whole) ∙ h.complete d (b.word ++ b.more)
      b.value b.depth v b.spelled last [] open_end

  ok_stops_at : (last d : ℕ) → V d
      → (x : A) (o : Input) (u : List Lexeme) (t : Lexeme) (r : List Lexeme) → o.rest ≡ t ∷ r
      → p (input last d (u ++ t ∷ r)) ≡ Ok (x, o) → Begins L d (u ++ t ∷ []) → ⊥
  ok_stops_at last d v x o u t r next e b =
      let same = subst (λ (out : Outcome A). Same t r (lexemes_of b.more) out
      (p (input last d (u ++ t ∷ lexemes_of b.more)))) e
      (h.local last d v u t r (lexemes_of b.more)) in
      let again = same [] next in
      let none = gate_ok (b.word ++ b.more) last b.value b.depth x
      (record o { rest = t ∷ lexemes_of b.more }) (sym (run last d v u t b) ∙ again) in
      cons_nil t (lexemes_of b.more) none

  err_stops_at : (last d : ℕ) → V d → (s : Stop) (u : List Lexeme) (t : Lexeme) (r : List Lexeme)
      → s.rest ≡ t ∷ r → s.code ≡ Grammar → p (input last d (u ++ t ∷ r)) ≡ Err s
      → Begins L d (u ++ t ∷ []) → ⊥
  err_stops_at last d v s u t r next code e b =
      let same = subst (λ (out : Outcome A). Same t r (lexemes_of b.more) out
      (p (input last d (u ++ t ∷ lexemes_of b.more)))) e
      (h.local last d v u t r (lexemes_of b.more)) in
      let again = same [] next in
      let deep = gate_err (b.word ++ b.more) [] last b.value b.depth
      (record s { rest = t ∷ lexemes_of b.more }) (sym (run last d v u t b) ∙ again) in
      let clash : Grammar ≡ TooDeep = sym code ∙ deep in cc

  -- what the parser answers Ok is spelled so, and the tokens up to there are the longest that begin
  -- the rule
  pub reads : (i : Input) → V i.depth → (x : A) (o : Input) → p i ≡ Ok (x, o)
      → (r : Read L i x o) × Stops L i.depth (lexemes_of r.word) o.rest
  reads i v x o e =
      let r : Read L i x o = subst (λ (out : Outcome A). Told L i out) e (h.told i v) in (
        r,
        λ t ts next b. ok_stops_at i.last i.depth v x o (lexemes_of r.word) t ts next
            (ap (λ (all : List Lexeme). p (input i.last i.depth all))
            (sym (r.tokens ∙ ap (λ (all : List Lexeme). lexemes_of r.word ++ all) next)) ∙ e) b,
      )

  -- where it refuses, the tokens up to there begin the rule. With the next one they don't, or that
  -- one stands too deep.
  pub refuses : (i : Input) → V i.depth → (s : Stop) → p i ≡ Err s
      → (r : Refused L i s) × (s.code ≡ Grammar → Stops L i.depth (lexemes_of r.word) s.rest)
  refuses i v s e =
      let r : Refused L i s = subst (λ (out : Outcome A). Told L i out) e (h.told i v) in (
        r,
        λ code t ts next b. err_stops_at i.last i.depth v s (lexemes_of r.word) t ts next code
            (ap (λ (all : List Lexeme). p (input i.last i.depth all))
            (sym (r.tokens ∙ ap (λ (all : List Lexeme). lexemes_of r.word ++ all) next)) ∙ e) b,
      )

  -- what the tokens spell within the depth is what is read
  pub finds : (last d : ℕ) → V d → (w : Word) (x : A) (e : ℕ) → L d w x e → Within w
      → p (input last d (lexemes_of w)) ≡ Ok (x, input (ends last w) e [])
  finds last d v w x e l within =
      ap (λ (ts : List Lexeme). p (input last d ts)) (sym (append-nil (lexemes_of w)))
      ∙ h.complete d w x e v l last [] open_end ∙ gate_within w [] last x e within

  -- no tokens spell two values
  pub one_value : (d : ℕ) → V d → (w1 w2 : Word) (x1 x2 : A) (e1 e2 : ℕ)
      → lexemes_of w1 ≡ lexemes_of w2 → L d w1 x1 e1 → L d w2 x2 e2 → Within w1 → Within w2
      → x1 ≡ x2
  one_value d v w1 w2 x1 x2 e1 e2 same l1 l2 in1 in2 =
      let a = finds 0 d v w1 x1 e1 l1 in1 in
      let b = finds 0 d v w2 x2 e2 l2 in2 in
      let c = sym a ∙ ap (λ (ts : List Lexeme). p (input 0 d ts)) same ∙ b in
      ok_first _ _ c

  pub spells : (i : Input) → V i.depth → (x : A) (o : Input) → p i ≡ Ok (x, o)
      → SpellsFront L i.depth i.rest x o.rest
  spells i v x o e =
      let (r, longest) = reads i v x o e in
      record {
        word = r.word;
        depth = o.depth;
        tokens = r.tokens;
        spelled = r.spelled;
        within = r.within;
        longest = longest;
      }

  -- where it refuses for the grammar, the tokens up to there spell nothing
  unspelled_at : (last d : ℕ) → V d → (w : Word) (x : A) (e : ℕ) → L d w x e → (rest : List Lexeme)
      → p (input last d (lexemes_of w ++ rest)) ≡ Err (record { code = Grammar; rest = rest }) → ⊥
  unspelled_at last d v w x e l [] is = no_refusal w last x e (record { code = Grammar; rest = [] })
      refl (sym (h.complete d w x e v l last [] open_end) ∙ is)
  unspelled_at last d v w x e l (t ∷ r) is =
      let cut = subst (λ (out : Outcome A). Cut t r out (p (input last d (lexemes_of w)))) is
      (h.cut last d v (lexemes_of w) t r) in
      let ended : p (input last d (lexemes_of w)) ≡ Err at_end = cut refl refl in
      no_refusal w last x e at_end refl (sym (h.complete d w x e v l last [] open_end)
      ∙ ap (λ (ts : List Lexeme). p (input last d ts)) (append-nil (lexemes_of w)) ∙ ended)

  unspelled : (i : Input) → V i.depth → (rest : List Lexeme)
      → p i ≡ Err (record { code = Grammar; rest = rest }) → (w : Word) (x : A) (e : ℕ)
      → L i.depth w x e → i.rest ≡ lexemes_of w ++ rest → ⊥
  unspelled i v rest is w x e l eq = unspelled_at i.last i.depth v w x e l rest
      (ap (λ (ts : List Lexeme). p (input i.last i.depth ts)) (sym eq) ∙ is)

  pub is_fault : (i : Input) → V i.depth → (rest : List Lexeme)
      → p i ≡ Err (record { code = Grammar; rest = rest }) → IsGrammarFault L i.depth i.rest rest
  is_fault i v rest e =
      let (r, longest) = refuses i v (record { code = Grammar; rest = rest }) e in
      record {
        word = r.word;
        more = r.more;
        value = r.value;
        depth = r.depth;
        tokens = r.tokens;
        begun = r.spelled;
        within =
            r.within;
        longest = longest refl;
        unspelled = unspelled i v rest e;
      }

  pub is_too_deep : (i : Input) → V i.depth → (rest : List Lexeme)
      → p i ≡ Err (record { code = TooDeep; rest = rest }) → IsTooDeep L i.depth i.rest rest
  is_too_deep i v rest e =
      let r = (refuses i v (record { code = TooDeep; rest = rest }) e).0 in
      deep_at L i.depth i.rest rest r.word r.more r.value r.depth r.tokens r.spelled r.within
      r.reason
