-- Of a list of lexemes no two answers are true, at each depth from which a parser reads the rule.
use Rattle.std.proofs.Common.{◌≡◌, ℕ, zero, suc, ◌≤◌, Bool, false, List, [], ◌∷◌, ◌++◌, Ok, Err, refl, sym, ap, subst, ◌∙◌, append_assoc, arith}
use Rattle.std.proofs.lemmas.List.{append-nil, append_cancel_right}
use Rattle.token_grammar.specs.Texts.{Lexeme}
use Rattle.token_grammar.specs.steps.Parsers.{Input, Outcome, Parser}
use Rattle.token_grammar.specs.Grammar.{Word, Rule, lexemes_of, Begins, Stops, Spells, IsLongestFront, SpellsFront, IsGrammarFault, IsTooDeep, IsWrong}
use Rattle.token_grammar.proofs.Laws.{input, Told, Exact, Some_}
use Rattle.token_grammar.proofs.Front.{one_value}
use Rattle.token_grammar.proofs.OneFront.{begins_first, one_rest}
use Rattle.token_grammar.proofs.Whole.{begun_all, not_deep, one_deep, not_both}

-- ---- the rule as it begins at a depth, put at depth 0, of which the laws of whole lists speak

abbrev at_start : {A : Type 0} → ℕ → Rule A → Rule A
at_start d L zero = L d
at_start d L (suc k) = L (suc k)

told_start : {A : Type 0} (d : ℕ) (L : Rule A) (i : Input) (out : Outcome A) → i.depth ≡ 0
    → Told L (input i.last d i.rest) out → Told (at_start d L) i out
told_start d L i (Ok q) v h = record {
  word = h.word;
  tokens = h.tokens;
  spelled =
      subst (λ (k : ℕ). at_start d L k h.word q.0 q.1.depth) (sym v) h.spelled;
  within = h.within;
  last = h.last;
}
told_start d L i (Err s) v h = record {
  word = h.word;
  more = h.more;
  value = h.value;
  depth =
      h.depth;
  tokens = h.tokens;
  spelled = subst
      (λ (k : ℕ). at_start d L k (h.word ++ h.more) h.value h.depth) (sym v) h.spelled;
  within =
      h.within;
  reason = h.reason;
}

some_start : {A : Type 0} (d : ℕ) (L : Rule A) → ((k : ℕ) → Some_ L k) → (k : ℕ)
    → Some_ (at_start d L) k
some_start d L some zero = let s = some d in record {
  word = s.word;
  value = s.value;
  depth =
      s.depth;
  spelled = s.spelled;
}
some_start d L some (suc k) = let s = some (suc k) in
    record { word = s.word; value = s.value; depth = s.depth; spelled = s.spelled }

rises_start : {A : Type 0} (d : ℕ) (L : Rule A)
    → ((k : ℕ) (w : Word) (x : A) (e : ℕ) → L k w x e → k ≤ e) → (k : ℕ) (w : Word) (x : A) (e : ℕ)
    → at_start d L k w x e → k ≤ e
rises_start d L rises zero w x e l = omega arith
rises_start d L rises (suc k) w x e l = rises (suc k) w x e l

exact_start : {A : Type 0} {V : ℕ → Type 0} {p : Parser A} {L : Rule A} {more : List Lexeme → Bool}
    (d : ℕ) → V d → Exact V p L more → Exact (λ k. k ≡ 0)
    (λ i. p (input i.last d i.rest)) (at_start d L) more
exact_start {p} {L} d vd h = record {
  told = λ i v. told_start d L i (p (input i.last d i.rest)) v (h.told (input i.last d i.rest) vd);
  complete = λ k w x e v l last rest ends_here. h.complete d w x e vd
      (subst (λ (k : ℕ). at_start d L k w x e) v l) last rest ends_here;
  local = λ last k v. h.local last d vd;
  cut = λ last k v. h.cut last d vd;
  some = some_start d L h.some;
  rises = rises_start d L h.rises;
}

module _ {A : Type 0} (L : Rule A) (d : ℕ) where
  begins_back : (ts : List Lexeme) → Begins (at_start d L) 0 ts → Begins L d ts
  begins_back ts b = record {
    word = b.word;
    more = b.more;
    value = b.value;
    depth = b.depth;
    tokens = b.tokens;
    spelled = b.spelled;
  }

  stops_start : (front rest : List Lexeme) → Stops L d front rest
      → Stops (at_start d L) 0 front rest
  stops_start front rest stops = λ t after is b. stops t after is (begins_back (front ++ t ∷ []) b)

  deep_start : (ts rest : List Lexeme) → IsTooDeep L d ts rest → IsTooDeep (at_start d L) 0 ts rest
  deep_start ts rest a = record {
    word = a.word;
    next = a.next;
    more = a.more;
    value = a.value;
    depth = a.depth;
    after = a.after;
    tokens = a.tokens;
    there = a.there;
    begun = a.begun;
    within = a.within;
    deep = a.deep;
  }

  longest_front : (ts : List Lexeme) (x : A) (rest : List Lexeme) → SpellsFront L d ts x rest
      → IsLongestFront (at_start d L) ts rest
  longest_front ts x rest s = record {
    front = lexemes_of s.word;
    tokens = s.tokens;
    begun = record {
      word = s.word;
      more = [];
      value = x;
      depth = s.depth;
      tokens = refl;
      spelled =
          subst (λ (w : Word). L d w x s.depth) (sym (append-nil s.word)) s.spelled;
    };
    stops = stops_start (lexemes_of s.word) rest s.longest;
  }

  longest_fault : (ts rest : List Lexeme) → IsGrammarFault L d ts rest → IsLongestFront (at_start d L) ts rest
  longest_fault ts rest f = record {
    front = lexemes_of f.word;
    tokens = f.tokens;
    begun = record {
      word = f.word;
      more = f.more;
      value = f.value;
      depth = f.depth;
      tokens = refl;
      spelled = f.begun;
    };
    stops = stops_start (lexemes_of f.word) rest f.longest;
  }

  -- a list that goes on behind its longest front spells nothing
  unspelled : (ts front : List Lexeme) (t : Lexeme) (rest : List Lexeme) → ts ≡ front ++ t ∷ rest
      → Stops L d front (t ∷ rest) → (y : A) → Spells (at_start d L) ts y → ⊥
  unspelled ts front t rest is stops y s =
      stops t rest refl (begins_back (front ++ t ∷ [])
      (begins_first (at_start d L) 0 (front ++ t ∷ []) rest
      (subst (Begins (at_start d L) 0) (is ∙ sym (append_assoc front (t ∷ []) rest))
      (begun_all (at_start d L) ts y s))))

  wrong_front : (ts : List Lexeme) (x : A) (t : Lexeme) (rest : List Lexeme)
      → SpellsFront L d ts x (t ∷ rest) → IsWrong (at_start d L) ts (t ∷ rest)
  wrong_front ts x t rest s = record {
    word = s.word;
    more = [];
    value = x;
    depth = s.depth;
    tokens = s.tokens;
    begun = subst (λ (w : Word). L d w x s.depth) (sym (append-nil s.word)) s.spelled;
    within = s.within;
    longest = stops_start (lexemes_of s.word) (t ∷ rest) s.longest;
    unspelled = unspelled ts (lexemes_of s.word) t rest s.tokens s.longest;
  }

  none_whole : (ts rest : List Lexeme) (f : IsGrammarFault L d ts rest) → ts ≡ lexemes_of f.word ++ rest
      → (y : A) → Spells (at_start d L) ts y → ⊥
  none_whole ts [] f is y s = f.unspelled s.word y s.depth s.spelled
      (sym s.tokens ∙ sym (append-nil (lexemes_of s.word)))
  none_whole ts (t ∷ rest) f is y s = unspelled ts (lexemes_of f.word) t rest is f.longest y s

  wrong_fault : (ts rest : List Lexeme) → IsGrammarFault L d ts rest → IsWrong (at_start d L) ts rest
  wrong_fault ts rest f = record {
    word = f.word;
    more = f.more;
    value = f.value;
    depth = f.depth;
    tokens = f.tokens;
    begun = f.begun;
    within = f.within;
    longest = stops_start (lexemes_of f.word) rest f.longest;
    unspelled = none_whole ts rest f f.tokens;
  }

  -- nothing is left
  whole_front : (ts : List Lexeme) (x : A) → SpellsFront L d ts x [] → Spells (at_start d L) ts x
  whole_front ts x s = record {
    word = s.word;
    depth = s.depth;
    tokens =
        sym (s.tokens ∙ append-nil (lexemes_of s.word));
    spelled = s.spelled;
    within = s.within;
  }

-- ---- laws

module _ {A : Type 0} {V : ℕ → Type 0} {p : Parser A} {L : Rule A} {more : List Lexeme → Bool}
    (h : Exact V p L more) (open_end : more [] ≡ false) (d : ℕ) (v : V d) where
  pub one_rest_front : (ts r s : List Lexeme) (x y : A) → SpellsFront L d ts x r
      → SpellsFront L d ts y s → r ≡ s
  one_rest_front ts r s x y a b = one_rest (at_start d L) ts r s (longest_front L d ts x r a)
      (longest_front L d ts y s b)

  pub one_tree : (ts r s : List Lexeme) (x y : A) → SpellsFront L d ts x r → SpellsFront L d ts y s
      → x ≡ y
  one_tree ts r s x y a b =
      let all : lexemes_of a.word ++ s ≡ lexemes_of b.word ++ s =
      ap (λ (rest : List Lexeme). lexemes_of a.word ++ rest)
      (sym (one_rest_front ts r s x y a b)) ∙ sym a.tokens ∙ b.tokens in
      one_value h open_end d v a.word b.word x y a.depth b.depth
      (append_cancel_right (lexemes_of a.word) (lexemes_of b.word) s all) a.spelled b.spelled
      a.within b.within

  pub front_not_fault : (ts r s : List Lexeme) (x : A) → SpellsFront L d ts x r → IsGrammarFault L d ts s
      → ⊥
  front_not_fault ts r s x a f =
      let same : r ≡ s = one_rest (at_start d L) ts r s (longest_front L d ts x r a)
      (longest_fault L d ts s f) in
      f.unspelled a.word x a.depth a.spelled (a.tokens ∙ ap
      (λ (rest : List Lexeme). lexemes_of a.word ++ rest) same)

  pub front_not_deep : (ts r s : List Lexeme) (x : A) → SpellsFront L d ts x r → IsTooDeep L d ts s
      → ⊥
  front_not_deep ts [] s x a b = not_deep (exact_start d v h) open_end refl ts s x
      (whole_front L d ts x a) (deep_start L d ts s b)
  front_not_deep ts (t ∷ r) s x a b = not_both (exact_start d v h) open_end refl ts (t ∷ r) s
      (wrong_front L d ts x t r a) (deep_start L d ts s b)

  pub one_fault : (ts r s : List Lexeme) → IsGrammarFault L d ts r → IsGrammarFault L d ts s → r ≡ s
  one_fault ts r s a b = one_rest (at_start d L) ts r s (longest_fault L d ts r a)
      (longest_fault L d ts s b)

  pub one_too_deep : (ts r s : List Lexeme) → IsTooDeep L d ts r → IsTooDeep L d ts s → r ≡ s
  one_too_deep ts r s a b = one_deep (exact_start d v h) open_end refl ts r s
      (deep_start L d ts r a) (deep_start L d ts s b)

  pub fault_not_deep : (ts r s : List Lexeme) → IsGrammarFault L d ts r → IsTooDeep L d ts s → ⊥
  fault_not_deep ts r s a b = not_both (exact_start d v h) open_end refl ts r s
      (wrong_fault L d ts r a) (deep_start L d ts s b)
