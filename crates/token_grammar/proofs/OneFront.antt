-- Lexemes have one longest front that begins a rule.
use Rattle.std.proofs.Common.{◌≡◌, ℕ, List, [], ◌∷◌, ◌++◌, append_assoc, append-nil, refl, sym, ap, subst, ◌∙◌}
use Rattle.token_grammar.specs.Texts.{Lexeme}
use Rattle.token_grammar.specs.Grammar.{Word, Rule, lexemes_of, Begins, Stops, IsLongestFront}

-- the words of two parts of its lexemes
word_parts : (w : Word) (xs ys : List Lexeme) → lexemes_of w ≡ xs ++ ys
    → (u v : Word) × (w ≡ u ++ v) × (lexemes_of u ≡ xs)
word_parts w [] ys e = ([], w, refl, refl)
word_parts [] (x ∷ xs) ys e = absurd cc
word_parts (p ∷ w) (x ∷ xs) ys e =
    let first : p.0 ≡ x = cc in
    let rest : lexemes_of w ≡ xs ++ ys = cc in
    let (u, v, split, same) = word_parts w xs ys rest in
    (p ∷ u, v, ap (λ (l : Word). p ∷ l) split, cc)

module _ {A : Type 0} (L : Rule A) (d : ℕ) where
  -- the first of lexemes that begin the rule begin it too
  pub begins_first : (xs ys : List Lexeme) → Begins L d (xs ++ ys) → Begins L d xs
  begins_first xs ys b =
      let (u, v, split, same) = word_parts b.word xs ys b.tokens in
      let all : b.word ++ b.more ≡ u ++ (v ++ b.more) = ap (λ (l : Word). l ++ b.more) split
      ∙ append_assoc u v b.more in
      record {
        word = u;
        more = v ++ b.more;
        value = b.value;
        depth = b.depth;
        tokens = same;
        spelled = subst (λ (l : Word). L d l b.value b.depth) all b.spelled;
      }

  -- nothing follows a front that stops, if one that has more begins the rule
  stopped : (front : List Lexeme) (t : Lexeme) (more rest : List Lexeme)
      → Stops L d front (t ∷ (more ++ rest)) → Begins L d (front ++ t ∷ more) → ⊥
  stopped front t more rest stops b = stops t (more ++ rest) refl (begins_first (front ++ t ∷ [])
      more (subst (Begins L d) (sym (append_assoc front (t ∷ []) more)) b))

  -- the two fronts have a part in common, before what is compared
  one_rest_by : (same f g r s : List Lexeme) → f ++ r ≡ g ++ s → Begins L d (same ++ f)
      → Begins L d (same ++ g) → Stops L d (same ++ f) r → Stops L d (same ++ g) s → r ≡ s
  one_rest_by same [] [] r s e b c p q = e
  one_rest_by same [] (y ∷ g) r s e b c p q =
      absurd (stopped same y g s (subst (λ (ls : List Lexeme). Stops L d ls (y ∷ (g ++ s)))
      (append-nil same) (subst (Stops L d (same ++ [])) e p)) c)
  one_rest_by same (x ∷ f) [] r s e b c p q =
      absurd (stopped same x f r (subst (λ (ls : List Lexeme). Stops L d ls (x ∷ (f ++ r)))
      (append-nil same) (subst (Stops L d (same ++ [])) (sym e) q)) b)
  one_rest_by same (x ∷ f) (y ∷ g) r s e b c p q =
      let first : y ≡ x = cc in
      let rest : f ++ r ≡ g ++ s = cc in
      let left : same ++ x ∷ f ≡ (same ++ x ∷ []) ++ f = sym (append_assoc same (x ∷ []) f) in
      let right : same ++ y ∷ g ≡ (same ++ x ∷ []) ++ g = ap (λ (t : Lexeme). same ++ t ∷ g) first
      ∙ sym (append_assoc same (x ∷ []) g) in
      one_rest_by (same ++ x ∷ []) f g r s rest (subst (Begins L d) left b)
      (subst (Begins L d) right c)
      (subst (λ (ls : List Lexeme). Stops L d ls r) left p)
      (subst (λ (ls : List Lexeme). Stops L d ls s) right q)

-- What follows the longest front is determined.
pub one_rest : {A : Type 0} (L : Rule A) (ts r s : List Lexeme) → IsLongestFront L ts r
    → IsLongestFront L ts s → r ≡ s
one_rest L ts r s a b = one_rest_by L 0 [] a.front b.front r s (sym a.tokens ∙ b.tokens) a.begun
    b.begun a.stops b.stops
