-- Either of two rules, by a look at three lexemes: words of both begin with the first two, at the
-- same depths.
use Rattle.std.proofs.Common.{◌≡◌, ℕ, ◌<◌, ◌≤◌, Bool, true, false, ◌&&◌, cond, ltb, List, [], ◌∷◌, ◌++◌, Ok, Err, refl, sym, ap, subst, ◌∙◌, append_assoc, arith, inl, inr, ◌⊎◌}
use Rattle.std.proofs.lemmas.Bool.{le-ltb, lt-ltb, ltb-false, ltb-true}
use Rattle.std.proofs.lemmas.List.{append-nil, length-append, append_cancel_right}
use Rattle.token_grammar.specs.declared.token.TokenKind.{TokenKind}
use Rattle.token_grammar.specs.Texts.{Lexeme}
use Rattle.token_grammar.specs.Kinds.{is_kind}
use Rattle.token_grammar.specs.declared.fault.ParseError.TheVariants.{Grammar, TooDeep}
use Rattle.token_grammar.specs.steps.Parsers.{Outcome, Parser, choose, sees_in, second_in, third_in, sees_three}
use Rattle.token_grammar.specs.Grammar.{Word, Rule, lexemes_of, Within, ◌or◌, max_depth}
use Rattle.token_grammar.proofs.Laws.{input, ends, gate, Same, Cut, Held, cut_err, cut_held, Exact, lexemes_of-append, lexemes_of-two}
use Rattle.token_grammar.proofs.OneToken.{a_token, same_kind_refl}
use Rattle.token_grammar.proofs.Front.{gate_ok, gate_err, cons_nil}
use Rattle.token_grammar.proofs.Steps.{IsLong, told_choose, cut_same, same_choose}
use Rattle.token_grammar.proofs.Starts.{sees_any, none_of_any, fewer_left, fewer_right, refuses_end}
use Rattle.token_grammar.proofs.Two.{Leaves, gate_leaves}

-- ---- the first lexemes of a word, and what a parser answers there

-- one of the lexemes is the first that stands too deep
pub record IsDeepAt (w : Word) : Type 0 where
  pub front : Word
  pub next : Lexeme × ℕ
  pub more : Word
  pub parts : w ≡ front ++ next ∷ more
  pub within : Within front
  pub deep : max_depth < next.1

within_cons : (p : Lexeme × ℕ) (w : Word) → p.1 ≤ max_depth → Within w ⊎ IsDeepAt w
    → Within (p ∷ w) ⊎ IsDeepAt (p ∷ w)
within_cons p w le (inl within) = inl (le, within)
within_cons p w le (inr h) = inr (record {
  front = p ∷ h.front;
  next = h.next;
  more = h.more;
  parts = ap (λ (v : Word). p ∷ v) h.parts;
  within = (le, h.within);
  deep = h.deep;
})

within_first : (p : Lexeme × ℕ) (w : Word) (b : Bool) → ltb max_depth p.1 ≡ b
    → Within w ⊎ IsDeepAt w → Within (p ∷ w) ⊎ IsDeepAt (p ∷ w)
within_first p w true is h = inr (record {
  front = [];
  next = p;
  more = w;
  parts = refl;
  within = tt;
  deep = ltb-true _ _ is;
})
within_first p w false is h = within_cons p w (ltb-false _ _ is) h

within_or_deep : (w : Word) → Within w ⊎ IsDeepAt w
within_or_deep [] = inl tt
within_or_deep (p ∷ w) = within_first p w (ltb max_depth p.1) refl (within_or_deep w)

gate_deep : {A : Type 0} (front : Word) (b : Lexeme × ℕ) (w : Word) (rest : List Lexeme) (last : ℕ)
    (x : A) (e : ℕ) → Within front → max_depth < b.1
    → gate (front ++ b ∷ w) rest last x e ≡ Err
    (record { code = TooDeep; rest = b.0 ∷ (lexemes_of w ++ rest) })
gate_deep [] b w rest last x e within deep = rw (lt-ltb _ _ deep) refl
gate_deep (p ∷ front) b w rest last x e within deep =
    rw (le-ltb _ _ within.0) (gate_deep front b w rest p.0.end x e within.1 deep)

gate_over : {A : Type 0} (front w : Word) (rest : List Lexeme) (last : ℕ) (x : A) (e : ℕ)
    → Within front → gate (front ++ w) rest last x e ≡ gate w rest (ends last front) x e
gate_over [] w rest last x e within = refl
gate_over (p ∷ front) w rest last x e within =
    rw (le-ltb _ _ within.0) (gate_over front w rest p.0.end x e within.1)

-- the outcome has taken the lexeme t
abbrev Past : {A : Type 0} → Lexeme → List Lexeme → Outcome A → Type 0
Past t r (Ok q) = (v : List Lexeme) → q.1.rest ≡ v ++ t ∷ r → ⊥
Past t r (Err s) = (v : List Lexeme) → s.rest ≡ v ++ t ∷ r → ⊥

past_of : {A : Type 0} (t : Lexeme) (r r2 : List Lexeme) (out out2 : Outcome A)
    → Same t r r2 out out2 → ((v : List Lexeme) → Leaves (v ++ t ∷ r2) out2 → ⊥) → Past t r out
past_of t r r2 (Ok q) out2 same none =
    λ v e. none v (subst (λ (o : Outcome _). Leaves (v ++ t ∷ r2) o) (sym (same v e)) refl)
past_of t r r2 (Err s) out2 same none =
    λ v e. none v (subst (λ (o : Outcome _). Leaves (v ++ t ∷ r2) o) (sym (same v e)) refl)

same_past : {A : Type 0} (t : Lexeme) (r1 r2 : List Lexeme) (out out2 : Outcome A) → Past t r1 out
    → Same t r1 r2 out out2
same_past t r1 r2 (Ok q) out2 past = λ v e. absurd (past v e)
same_past t r1 r2 (Err s) out2 past = λ v e. absurd (past v e)

held_at : {A : Type 0} (t : Lexeme) (r r2 : List Lexeme) (out out2 : Outcome A)
    → Same t r r2 out out2 → (b : Word) (last : ℕ) (x : A) (m : ℕ) → out2 ≡ gate b [] last x m
    → Held t r out
held_at t r r2 (Ok q) out2 same b last x m is = λ e. let none = gate_ok b last x m q.0
    (record q.1 { rest = t ∷ r2 }) (sym is ∙ same [] e) in cons_nil t r2 none
held_at t r r2 (Err s) out2 same b last x m is = λ code e. let deep = gate_err b [] last x m
    (record s { rest = t ∷ r2 }) (sym is ∙ same [] e) in let clash : Grammar ≡ TooDeep =
    sym code ∙ deep in absurd cc

-- the lexemes of a front that ends with t, and what follows it
front_then : (front : Word) (u : List Lexeme) (t : Lexeme) (r : List Lexeme)
    → lexemes_of front ≡ u ++ t ∷ [] → lexemes_of front ++ r ≡ u ++ t ∷ r
front_then front u t r e = ap (λ (ts : List Lexeme). ts ++ r) e ∙ append_assoc u (t ∷ []) r

module _ {A : Type 0} {V : ℕ → Type 0} {p : Parser A} {L : Rule A} {more : List Lexeme → Bool}
    (h : Exact V p L more) (open_end : more [] ≡ false) where
  run : (last d : ℕ) → V d → (w : Word) (x : A) (e : ℕ) → L d w x e
      → p (input last d (lexemes_of w)) ≡ gate w [] last x e
  run last d v w x e l = sym (ap (λ (ts : List Lexeme). p (input last d ts))
      (append-nil (lexemes_of w))) ∙ h.complete d w x e v l last [] open_end

  -- where a lexeme of a word stands too deep, whatever follows it
  deep_there : (last d : ℕ) → V d → (front : Word) (b : Lexeme × ℕ) (w : Word) (x : A) (e : ℕ)
      → L d (front ++ b ∷ w) x e → Within front → max_depth < b.1 → (r : List Lexeme)
      → p (input last d (lexemes_of front ++ b.0 ∷ r)) ≡ Err
      (record { code = TooDeep; rest = b.0 ∷ r })
  deep_there last d v front b w x e l within deep r =
      let whole = sym (ap (λ (ts : List Lexeme). p (input last d ts))
      (lexemes_of-append front (b ∷ w))) ∙ run last d v (front ++ b ∷ w) x e l
      ∙ gate_deep front b w [] last x e within deep
      ∙ ap (λ (ts : List Lexeme). Err (record { code = TooDeep; rest = b.0 ∷ ts }))
      (append-nil (lexemes_of w)) in
      let same = subst (λ (out : Outcome A). Same b.0 (lexemes_of w) r out
      (p (input last d (lexemes_of front ++ b.0 ∷ r)))) whole
      (h.local last d v (lexemes_of front) b.0 (lexemes_of w) r) in
      same [] refl

  word_run : (last d : ℕ) → V d → (front : Word) (u : List Lexeme) (t : Lexeme)
      → lexemes_of front ≡ u ++ t ∷ [] → (w : Word) (x : A) (e : ℕ) → L d (front ++ w) x e
      → p (input last d (u ++ t ∷ lexemes_of w)) ≡ gate (front ++ w) [] last x e
  word_run last d v front u t is w x e l = sym (ap (λ (ts : List Lexeme). p (input last d ts))
      (lexemes_of-append front w ∙ front_then front u t (lexemes_of w) is))
      ∙ run last d v (front ++ w) x e l

  past : (last d : ℕ) → V d → (front : Word) (u : List Lexeme) (t : Lexeme)
      → lexemes_of front ≡ u ++ t ∷ [] → Within front → (w : Word) (x : A) (e : ℕ)
      → L d (front ++ w) x e → (r : List Lexeme) → Past t r (p (input last d (u ++ t ∷ r)))
  past last d v front u t is within w x e l r =
      past_of t r (lexemes_of w) _ (p (input last d (u ++ t ∷ lexemes_of w)))
      (h.local last d v u t r (lexemes_of w))
      (λ u2 leaves. gate_leaves w [] (ends last front) x e (u2 ++ t ∷ lexemes_of w)
      (omega (arith, length-append (lexemes_of w) [], length-append u2 (t ∷ lexemes_of w)))
      (subst (λ (o : Outcome _). Leaves (u2 ++ t ∷ lexemes_of w) o) (word_run last d v front u t is
      w x e l ∙ gate_over front w [] last x e within) leaves))

  -- what begins with the lexemes of a word isn't refused at one of these
  pub held_there : (last d : ℕ) → V d → (front : Word) (u : List Lexeme) (t : Lexeme)
      → lexemes_of front ≡ u ++ t ∷ [] → (w : Word) (x : A) (e : ℕ) → L d (front ++ w) x e
      → (r : List Lexeme) → Held t r (p (input last d (u ++ t ∷ r)))
  held_there last d v front u t is w x e l r =
      held_at t r (lexemes_of w) _ (p (input last d (u ++ t ∷ lexemes_of w)))
      (h.local last d v u t r (lexemes_of w)) (front ++ w) last x e
      (word_run last d v front u t is w x e l)

-- ---- two parsers whose rules have words with the same first lexemes, at the same depths

stuck_rest : (front : Word) (u : List Lexeme) (t : Lexeme) → lexemes_of front ≡ u ++ t ∷ []
    → (h : IsDeepAt front) (r : List Lexeme)
    → u ++ t ∷ r ≡ lexemes_of h.front ++ h.next.0 ∷ (lexemes_of h.more ++ r)
stuck_rest front u t is h r = sym (front_then front u t r is) ∙ ap (λ (w : Word). lexemes_of w ++ r)
    h.parts ∙ lexemes_of-two h.front (h.next ∷ h.more) r

same_stuck : {A : Type 0} (t : Lexeme) (r1 r2 f : List Lexeme) (out out2 : Outcome A)
    → out ≡ Err (record { code = TooDeep; rest = f ++ r1 })
    → out2 ≡ Err (record { code = TooDeep; rest = f ++ r2 }) → Same t r1 r2 out out2
same_stuck t r1 r2 f out out2 is is2 = rw (is, is2) (λ v e.
    let front : f ≡ v ++ t ∷ [] = append_cancel_right f (v ++ t ∷ []) r1
    (e ∙ sym (append_assoc v (t ∷ []) r1)) in
    ap (λ (ts : List Lexeme). Err (record { code = TooDeep; rest = ts }))
    (ap (λ (ts : List Lexeme). ts ++ r2) front ∙ append_assoc v (t ∷ []) r2))

module _ {A : Type 0} {V : ℕ → Type 0} {p q : Parser A} {L M : Rule A} {more1 more2 : List Lexeme
    → Bool} (h : Exact V p L more1) (k : Exact V q M more2) (end1 : more1 [] ≡ false)
    (end2 : more2 [] ≡ false) where
  same_across : (last d : ℕ) → V d → (front : Word) (u : List Lexeme) (t : Lexeme)
      → lexemes_of front ≡ u ++ t ∷ [] → (w1 : Word) (x1 : A) (m1 : ℕ) → L d (front ++ w1) x1 m1
      → (w2 : Word) (x2 : A) (m2 : ℕ) → M d (front ++ w2) x2 m2
      → Within front ⊎ IsDeepAt front → (r1 r2 : List Lexeme)
      → Same t r1 r2 (p (input last d (u ++ t ∷ r1))) (q (input last d (u ++ t ∷ r2)))
  same_across last d v front u t is w1 x1 m1 l1 w2 x2 m2 l2 (inl within) r1 r2 =
      same_past t r1 r2 _ _ (past h end1 last d v front u t is within w1 x1 m1 l1 r1)
  same_across last d v front u t is w1 x1 m1 l1 w2 x2 m2 l2 (inr s) r1 r2 =
      let split1 : front ++ w1 ≡ s.front ++ s.next ∷ (s.more ++ w1) = ap (λ (w : Word). w ++ w1)
      s.parts ∙ append_assoc s.front (s.next ∷ s.more) w1 in
      let split2 : front ++ w2 ≡ s.front ++ s.next ∷ (s.more ++ w2) = ap (λ (w : Word). w ++ w2)
      s.parts ∙ append_assoc s.front (s.next ∷ s.more) w2 in
      same_stuck t r1 r2 (s.next.0 ∷ lexemes_of s.more) _ _
      (ap (λ (ts : List Lexeme). p (input last d ts)) (stuck_rest front u t is s r1)
      ∙ deep_there h end1 last d v s.front s.next (s.more ++ w1) x1 m1
      (subst (λ (w : Word). L d w x1 m1) split1 l1) s.within s.deep (lexemes_of s.more ++ r1))
      (ap (λ (ts : List Lexeme). q (input last d ts)) (stuck_rest front u t is s r2)
      ∙ deep_there k end2 last d v s.front s.next (s.more ++ w2) x2 m2
      (subst (λ (w : Word). M d w x2 m2) split2 l2) s.within s.deep (lexemes_of s.more ++ r2))

-- ---- the look

and_both : (a b : Bool) → (a && b) ≡ true → (a ≡ true) × (b ≡ true)
and_both true b e = (refl, e)
and_both false b e = absurd cc

pub three_seen : (i j k : TokenKind) (ts : List Lexeme) → sees_three i j k ts ≡ true
    → (sees_in i ts ≡ true) × (second_in j ts ≡ true) × (third_in k ts ≡ true)
three_seen i j k ts e = let a = and_both (sees_in i ts) (second_in j ts && third_in k ts) e in
    let b = and_both (second_in j ts) (third_in k ts) a.1 in (a.0, b.0, b.1)

pub three_of : (i j k : TokenKind) (ts : List Lexeme) → sees_in i ts ≡ true → second_in j ts ≡ true
    → third_in k ts ≡ true → sees_three i j k ts ≡ true
three_of i j k ts a b c = rw (a, b, c) refl

none_of_two : (i j k : TokenKind) (a b : Lexeme) → sees_three i j k (a ∷ b ∷ []) ≡ true → ⊥
none_of_two i j k a b e = let last : false ≡ true = (three_seen i j k (a ∷ b ∷ []) e).2 in cc

none_of_one : (i j k : TokenKind) (a : Lexeme) → sees_three i j k (a ∷ []) ≡ true → ⊥
none_of_one i j k a e = let last : false ≡ true = (three_seen i j k (a ∷ []) e).2 in cc

seen_further : (i j k : TokenKind) (a b : Lexeme) (u : List Lexeme) (t : Lexeme)
    (r1 r2 : List Lexeme) → sees_three i j k (a ∷ b ∷ (u ++ t ∷ r1)) ≡ sees_three i j k
    (a ∷ b ∷ (u ++ t ∷ r2))
seen_further i j k a b [] t r1 r2 = refl
seen_further i j k a b (c ∷ u) t r1 r2 = refl

pick_same : {A : Type 0} (t : Lexeme) (r1 r2 : List Lexeme) (b c : Bool) (x1 x2 y1 y2 : Outcome A)
    → Same t r1 r2 x1 x2 → Same t r1 r2 y1 y2 → (b ≡ true → Same t r1 r2 x1 y2)
    → (c ≡ true → Same t r1 r2 y1 x2) → Same t r1 r2 (cond b x1 y1) (cond c x2 y2)
pick_same t r1 r2 true true x1 x2 y1 y2 same1 same2 f g = same1
pick_same t r1 r2 true false x1 x2 y1 y2 same1 same2 f g = f refl
pick_same t r1 r2 false true x1 x2 y1 y2 same1 same2 f g = g refl
pick_same t r1 r2 false false x1 x2 y1 y2 same1 same2 f g = same2

pick_cut : {A : Type 0} (t : Lexeme) (r : List Lexeme) (b c : Bool) (x1 x2 y1 y2 : Outcome A)
    → (c ≡ true → ⊥) → (b ≡ true → Cut t r x1 y2) → Cut t r y1 y2
    → Cut t r (cond b x1 y1) (cond c x2 y2)
pick_cut t r b true x1 x2 y1 y2 none f cut = absurd (none refl)
pick_cut t r true false x1 x2 y1 y2 none f cut = f refl
pick_cut t r false false x1 x2 y1 y2 none f cut = cut

-- ---- the law

-- lexemes of the three kinds begin a word of the rule, the first two at these depths
abbrev pub BeginsThree : {A : Type 0} → Rule A → (i j k : TokenKind) → (at1 at2 : ℕ → ℕ) → Type 0
BeginsThree {A} L i j k at1 at2 = (d : ℕ) (a b c : Lexeme) → is_kind i a ≡ true → is_kind j b ≡ true
    → is_kind k c ≡ true
    → (at3 : ℕ) × (w : Word) × (x : A) × (e : ℕ) × L d ((a, at1 d) ∷ (b, at2 d) ∷ (c, at3) ∷ w) x e

-- lexemes of the first two kinds begin a word of the rule
abbrev pub BeginsTwo : {A : Type 0} → Rule A → (i j : TokenKind) → (at1 at2 : ℕ → ℕ) → Type 0
BeginsTwo {A} M i j at1 at2 = (d : ℕ) (a b : Lexeme) → is_kind i a ≡ true → is_kind j b ≡ true
    → (w : Word) × (x : A) × (e : ℕ) × M d ((a, at1 d) ∷ (b, at2 d) ∷ w) x e

module _ {A : Type 0} {V : ℕ → Type 0} {p q : Parser A} {L M : Rule A} (e1 e2 : List TokenKind)
    (i j k : TokenKind) (at1 at2 : ℕ → ℕ) (h : Exact V p L (sees_any e1))
    (g : Exact V q M (sees_any e2))
    (first : BeginsThree L i j k at1 at2) (other : BeginsTwo M i j at1 at2) (long : IsLong M)
    (begins : (d : ℕ) (w : Word) (x : A) (e : ℕ) → L d w x e → (rest : List Lexeme)
    → sees_three i j k (lexemes_of w ++ rest) ≡ true)
    (differs : (d : ℕ) (w : Word) (x : A) (e : ℕ) → M d w x e → (rest : List Lexeme)
    → sees_three i j k (lexemes_of w ++ rest) ≡ false) where
  abbrev test : List Lexeme → Bool
  test = sees_three i j k

  -- where the lexemes up to t begin words of both
  after_one : (last d : ℕ) → V d → (t : Lexeme) → is_kind i t ≡ true → (r1 r2 : List Lexeme)
      → Same t r1 r2 (p (input last d (t ∷ r1))) (q (input last d (t ∷ r2)))
      × Same t r1 r2 (q (input last d (t ∷ r1))) (p (input last d (t ∷ r2)))
  after_one last d v t is r1 r2 =
      let (n3, w1, x1, m1, l1) = first d t (a_token j) (a_token k) is (same_kind_refl j)
      (same_kind_refl k) in
      let (w2, x2, m2, l2) = other d t (a_token j) is (same_kind_refl j) in
      let front : Word = (t, at1 d) ∷ [] in (
        same_across h g (none_of_any e1) (none_of_any e2) last d v front [] t refl
            ((a_token j, at2 d) ∷ (a_token k, n3) ∷ w1) x1 m1 l1 ((a_token j, at2 d) ∷ w2) x2 m2 l2
            (within_or_deep front) r1 r2,
        same_across g h (none_of_any e2) (none_of_any e1) last d v front [] t refl
            ((a_token j, at2 d) ∷ w2) x2 m2 l2 ((a_token j, at2 d) ∷ (a_token k, n3) ∷ w1) x1 m1 l1
            (within_or_deep front) r1 r2,
      )

  after_two : (last d : ℕ) → V d → (a t : Lexeme) → is_kind i a ≡ true → is_kind j t ≡ true
      → (r1 r2 : List Lexeme)
      → Same t r1 r2 (p (input last d (a ∷ t ∷ r1))) (q (input last d (a ∷ t ∷ r2)))
      × Same t r1 r2 (q (input last d (a ∷ t ∷ r1))) (p (input last d (a ∷ t ∷ r2)))
  after_two last d v a t is next r1 r2 =
      let (n3, w1, x1, m1, l1) = first d a t (a_token k) is next (same_kind_refl k) in
      let (w2, x2, m2, l2) = other d a t is next in
      let front : Word = (a, at1 d) ∷ (t, at2 d) ∷ [] in (
        same_across h g (none_of_any e1) (none_of_any e2) last d v front (a ∷ []) t refl
            ((a_token k, n3) ∷ w1) x1 m1 l1 w2 x2 m2 l2 (within_or_deep front) r1 r2,
        same_across g h (none_of_any e2) (none_of_any e1) last d v front (a ∷ []) t refl w2 x2 m2 l2
            ((a_token k, n3) ∷ w1) x1 m1 l1 (within_or_deep front) r1 r2,
      )

  local_three : (last d : ℕ) → V d → (u : List Lexeme) (t : Lexeme) (r1 r2 : List Lexeme)
      → Same t r1 r2 (choose test p q (input last d (u ++ t ∷ r1)))
      (choose test p q (input last d (u ++ t ∷ r2)))
  local_three last d v [] t r1 r2 =
      pick_same t r1 r2 (test (t ∷ r1)) (test (t ∷ r2)) _ _ _ _ (h.local last d v [] t r1 r2)
      (g.local last d v [] t r1 r2)
      (λ e. (after_one last d v t (three_seen i j k (t ∷ r1) e).0 r1 r2).0)
      (λ e. (after_one last d v t (three_seen i j k (t ∷ r2) e).0 r1 r2).1)
  local_three last d v (a ∷ []) t r1 r2 =
      pick_same t r1 r2 (test (a ∷ t ∷ r1)) (test (a ∷ t ∷ r2)) _ _ _ _
      (h.local last d v (a ∷ []) t r1 r2) (g.local last d v (a ∷ []) t r1 r2)
      (λ e. let seen = three_seen i j k (a ∷ t ∷ r1) e in
      (after_two last d v a t seen.0 seen.1 r1 r2).0) (λ e. let seen =
      three_seen i j k (a ∷ t ∷ r2) e in (after_two last d v a t seen.0 seen.1 r1 r2).1)
  local_three last d v (a ∷ b ∷ u) t r1 r2 = rw (seen_further i j k a b u t r1 r2)
      (same_choose t r1 r2 (test (a ∷ b ∷ (u ++ t ∷ r2))) _ _ _ _ (h.local last d v (a ∷ b ∷ u) t r1
      r2) (g.local last d v (a ∷ b ∷ u) t r1 r2))

  held_two : (last d : ℕ) → V d → (a t : Lexeme) (r : List Lexeme) → test (a ∷ t ∷ r) ≡ true
      → Held t r (p (input last d (a ∷ t ∷ r)))
  held_two last d v a t r e =
      let seen = three_seen i j k (a ∷ t ∷ r) e in
      let (n3, w, x, m, l) = first d a t (a_token k) seen.0 seen.1 (same_kind_refl k) in
      held_there h (none_of_any e1) last d v ((a, at1 d) ∷ (t, at2 d) ∷ []) (a ∷ []) t refl
      ((a_token k, n3) ∷ w) x m l r

  held_three : (last d : ℕ) → V d → (a b t : Lexeme) (r : List Lexeme) → test (a ∷ b ∷ t ∷ r) ≡ true
      → Held t r (p (input last d (a ∷ b ∷ t ∷ r)))
  held_three last d v a b t r e =
      let seen = three_seen i j k (a ∷ b ∷ t ∷ r) e in
      let (n3, w, x, m, l) = first d a b t seen.0 seen.1 seen.2 in
      held_there h (none_of_any e1) last d v ((a, at1 d) ∷ (b, at2 d) ∷ (t, n3) ∷ []) (a ∷ b ∷ []) t
      refl w x m l r

  cut_three : (last d : ℕ) → V d → (u : List Lexeme) (t : Lexeme) (r : List Lexeme)
      → Cut t r (choose test p q (input last d (u ++ t ∷ r))) (choose test p q (input last d u))
  cut_three last d v [] t r =
      pick_cut t r (test (t ∷ r)) (test []) (p (input last d (t ∷ r))) (p (input last d []))
      (q (input last d (t ∷ r))) (q (input last d [])) (λ e. let clash : false ≡ true = e in cc)
      (λ e. rw (refuses_end g long last d v) (cut_err t r (p (input last d (t ∷ r)))))
      (g.cut last d v [] t r)
  cut_three last d v (a ∷ []) t r =
      pick_cut t r (test (a ∷ t ∷ r)) (test (a ∷ [])) _ _ _ _ (none_of_one i j k a)
      (λ e. cut_held t r _ _ (held_two last d v a t r e)) (g.cut last d v (a ∷ []) t r)
  cut_three last d v (a ∷ b ∷ []) t r =
      pick_cut t r (test (a ∷ b ∷ t ∷ r)) (test (a ∷ b ∷ [])) _ _ _ _ (none_of_two i j k a b)
      (λ e. cut_held t r _ _ (held_three last d v a b t r e)) (g.cut last d v (a ∷ b ∷ []) t r)
  cut_three last d v (a ∷ b ∷ c ∷ u) t r = cut_same t r (test (a ∷ b ∷ c ∷ u)) _ _ _ _
      (h.cut last d v (a ∷ b ∷ c ∷ u) t r) (g.cut last d v (a ∷ b ∷ c ∷ u) t r)

  pub exact_three : Exact V (choose (sees_three i j k) p q) (L or M) (sees_any (e1 ++ e2))
  exact_three = record {
    told = λ i v. told_choose L M i (test i.rest) (p i) (q i) (h.told i v) (g.told i v);
    complete = λ d w x e v either last rest ends_here. elim either [
      | inl l ↦ rw (begins d w x e l rest) (h.complete d w x e v l last rest
          (fewer_left e1 e2 rest ends_here))
      | inr l ↦ rw (differs d w x e l rest) (g.complete d w x e v l last rest
          (fewer_right e1 e2 rest ends_here))
    ];
    local = local_three;
    cut = cut_three;
    some = λ d. let s = h.some d in record {
      word = s.word;
      value = s.value;
      depth = s.depth;
      spelled = inl s.spelled;
    };
    rises = λ d w x e either. elim either [ inl l ↦ h.rises d w x e l | inr l ↦ g.rises d w x e l ];
  }
