-- Either of two rules that both begin with a lexeme of one kind: the second lexeme tells which.
use Rattle.std.proofs.Common.{◌≡◌, ℕ, ◌+◌, ◌≤◌, Bool, true, false, List, [], ◌∷◌, ◌++◌, refl, sym, ◌∙◌, arith, inl}
use Rattle.token_grammar.specs.declared.token.TokenKind.{TokenKind}
use Rattle.token_grammar.specs.Texts.{Lexeme}
use Rattle.token_grammar.specs.Kinds.{is_kind}
use Rattle.token_grammar.specs.steps.Parsers.{Parser, sees_in, sees_two, choose}
use Rattle.token_grammar.specs.Grammar.{Word, Rule, lexemes_of, max_depth, ◌or◌}
use Rattle.token_grammar.proofs.Laws.{input, Exact, Held}
use Rattle.token_grammar.proofs.Steps.{IsLong}
use Rattle.token_grammar.proofs.Two.{Moved, exact_choose_two, cut_two, moves, both_two, both_further, both_seen, both_lone}
use Rattle.token_grammar.proofs.Starts.{sees_any, none_of_any, fewer_left, fewer_right, or_false, refuses_end}

-- a lexeme of the kind, at the depth of what is around it, begins a word of the rule
abbrev pub BeginsWith : {A : Type 0} → Rule A → TokenKind → Type 0
BeginsWith L j = (d : ℕ) (t : Lexeme) → is_kind j t ≡ true → (w : Word) × (x : _) × (e : ℕ)
    × L d ((t, d + 0) ∷ w) x e

-- no word of the rule begins with lexemes of the two kinds
abbrev pub HasNone : {A : Type 0} → Rule A → TokenKind → TokenKind → (ℕ → Type 0) → Type 0
HasNone M j k V = (d : ℕ) → V d → (a b : Lexeme × ℕ) (w : Word) (x : _) (e : ℕ)
    → M d (a ∷ b ∷ w) x e → is_kind j a.0 ≡ true → is_kind k b.0 ≡ true → ⊥

module _ {A : Type 0} {V : ℕ → Type 0} {p q : Parser A} {L M : Rule A} (e1 e2 : List TokenKind)
    (j k : TokenKind) (h : Exact V p L (sees_any e1)) (i : Exact V q M (sees_any e2))
    (shallow : (d : ℕ) → V d → d ≤ max_depth) (first : BeginsWith L j) (other : BeginsWith M j)
    (long : IsLong M)
    (begins : (d : ℕ) (w : Word) (x : A) (e : ℕ) → L d w x e → (rest : List Lexeme)
    → sees_two j k (lexemes_of w ++ rest) ≡ true)
    (held : (last d : ℕ) → V d → (a t : Lexeme) (r : List Lexeme) → is_kind j a ≡ true
    → is_kind k t ≡ true → Held t r (p (input last d (a ∷ t ∷ r))))
    (none : HasNone M j k V) where
  both : (last d : ℕ) → V d → (t : Lexeme) (r1 r2 : List Lexeme) → sees_two j k (t ∷ r1) ≡ true
      → sees_two j k (t ∷ r2) ≡ false
      → Moved t r1 (p (input last d (t ∷ r1))) × Moved t r2 (q (input last d (t ∷ r2)))
  both last d v t r1 r2 e1' e2' =
      let is : is_kind j t ≡ true = (both_seen j k (t ∷ r1) e1').0 in
      let (w1, x1, m1, l1) = first d t is in
      let (w2, x2, m2, l2) = other d t is in
      let le : d + 0 ≤ max_depth = omega (arith, shallow d v) in (
        moves h (none_of_any e1) last d v t r1 (d + 0) le w1 x1 m1 l1,
        moves i (none_of_any e2) last
            d v t r2 (d + 0) le w2 x2 m2 l2,
      )

  differs : (d : ℕ) → V d → (w : Word) (x : A) (e : ℕ) → M d w x e → (rest : List Lexeme)
      → sees_in k rest ≡ false → (b : Bool) → sees_two j k (lexemes_of w ++ rest) ≡ b → b ≡ false
  differs d v w x e l rest free false is = refl
  differs d v [] x e l rest free true is = absurd (omega (arith, long d [] x e l))
  differs d v (a ∷ []) x e l rest free true is = let found : sees_in k rest ≡ true =
      (both_seen j k (a.0 ∷ rest) is).1 in absurd (let clash : true ≡ false = sym found ∙ free in
      cc)
  differs d v (a ∷ b ∷ w) x e l rest free true is =
      let found = both_seen j k (a.0 ∷ b.0 ∷ (lexemes_of w ++ rest)) is in
      absurd (none d v a b w x e l found.0 found.1)

  pub exact_pair : Exact V (choose (sees_two j k) p q) (L or M) (sees_any (k ∷ (e1 ++ e2)))
  exact_pair = exact_choose_two (sees_two j k) h i (both_two j k) both
      (cut_two (sees_two j k) h i (both_two j k) refl (both_further j k)
      (λ last d v t r e. inl (refuses_end i long last d v))
      (λ last d v a t r. (
        (λ yes1 no1. let found = both_seen j k (a ∷ t ∷ r) yes1 in
            held last d v a t r found.0 found.1),
        (λ no1 yes1. both_lone j k a yes1),
      )))
      (sees_any (k ∷ (e1 ++ e2)))
      (λ rest e. let others = (or_false _ _ e).1 in
      (fewer_left e1 e2 rest others, fewer_right e1 e2 rest others))
      (λ d w x e l rest ends_here. begins d w x e l rest)
      (λ d v w x e l rest ends_here. differs d v w x e l rest (or_false _ _ ends_here).0
      (sees_two j k (lexemes_of w ++ rest)) refl)
