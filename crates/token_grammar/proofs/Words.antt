-- Words taken apart and put together: their first and last bytes, and rules that only change the
-- value.
use Rattle.std.proofs.Common.{◌≡◌, ℕ, ◌+◌, ◌<◌, [], ◌∷◌, ◌++◌, length, refl, sym, ap, subst, ◌∙◌, append_assoc, arith}
use Rattle.std.proofs.lemmas.List.{append-nil, length-append}
use Rattle.token_grammar.specs.declared.token.TokenKind.{TokenKind}
use Rattle.token_grammar.specs.Texts.{Lexeme}
use Rattle.token_grammar.specs.Grammar.{Word, Rule, ◌>>=◌, give, token, start_of, end_of}

-- ---- parts

pub within_last : (w u v u1 v1 : Word) → w ≡ u ++ v → v ≡ u1 ++ v1 → w ≡ (u ++ u1) ++ v1
within_last w u v u1 v1 a b = a ∙ ap (λ (z : Word). u ++ z) b ∙ sym (append_assoc u u1 v1)

pub within_first : (w p q u u1 : Word) → w ≡ p ++ q → p ≡ u ++ u1 → w ≡ u ++ (u1 ++ q)
within_first w p q u u1 a b = a ∙ ap (λ (z : Word). z ++ q) b ∙ append_assoc u u1 q

pub long_behind : (u v : Word) → 0 < length v → 0 < length (u ++ v)
long_behind u v some = omega (arith, some, length-append u v)

-- ---- the first byte, and the byte after the last

pub start_before : (u v : Word) → 0 < length u → start_of (u ++ v) ≡ start_of u
start_before [] v some = absurd (omega (arith, some))
start_before (p ∷ u) v some = refl

pub end_behind : (u v : Word) → 0 < length v → end_of (u ++ v) ≡ end_of v
end_behind [] v some = refl
end_behind (p ∷ []) [] some = absurd (omega (arith, some))
end_behind (p ∷ []) (q ∷ v) some = refl
end_behind (p ∷ q ∷ u) v some = end_behind (q ∷ u) v some

-- ---- a rule whose value is changed

pub given : {A B : Type 0} (L : Rule A) (f : A → B) (d : ℕ) (w : Word) (y : B) (e : ℕ)
    → (L >>= λ x. give (f x)) d w y e → (x : A) × L d w x e × (y ≡ f x)
given L f d w y e (u, v, x, m, eq, l, (empty, is, same)) =
    let whole : w ≡ u = eq ∙ ap (λ (z : Word). u ++ z) empty ∙ append-nil u in
    (x, subst (λ (k : ℕ). L d w x k) (sym same) (subst (λ (z : Word). L d z x m) (sym whole) l), is)

pub gives : {A B : Type 0} (L : Rule A) (f : A → B) (d : ℕ) (w : Word) (x : A) (e : ℕ)
    → L d w x e → (L >>= λ x. give (f x)) d w (f x) e
gives L f d w x e l = (w, [], x, e, sym (append-nil w), l, (refl, refl, refl))

-- ---- a last lexeme

alone : (v u2 v2 : Word) (l : Lexeme) (n : ℕ) → v ≡ u2 ++ v2 → u2 ≡ (l, n) ∷ [] → v2 ≡ []
    → v ≡ (l, n) ∷ []
alone v u2 v2 l n eq one empty = rw (eq, one, empty) refl

-- a lexeme of the kind, and a value made of the byte after it
abbrev pub up_to : {A : Type 0} → TokenKind → (ℕ → A) → Rule A
up_to kind f = token kind >>= λ l. give (f l.end)

module _ {A B : Type 0} (kind : TokenKind) (f : ℕ → A) (b : B) (m : ℕ) (v : Word) (e : ℕ) where
  -- any other value with it
  pub last_to : (x : A) → up_to kind f m v x e
      → (token kind >>= λ _. give b) m v b e × (x ≡ f (end_of v)) × (0 < length v)
  last_to x (u2, v2, l, m2, eq, (one, is, after), (empty, made, same)) =
      let whole = alone v u2 v2 l (m + 0) eq one empty in
      let ends : end_of v ≡ l.end = ap end_of whole in (
        (u2, v2, l, m2, eq, (one, is, after), (empty, refl, same)),
        made ∙ ap f (sym ends),
        omega (arith, ap length whole),
      )

  pub last_from : (y : B) → (token kind >>= λ _. give b) m v y e
      → up_to kind f m v (f (end_of v)) e × (y ≡ b) × (0 < length v)
  last_from y (u2, v2, l, m2, eq, (one, is, after), (empty, made, same)) =
      let whole = alone v u2 v2 l (m + 0) eq one empty in
      let ends : end_of v ≡ l.end = ap end_of whole in (
        (u2, v2, l, m2, eq, (one, is, after), (empty, ap f ends, same)),
        made,
        omega (arith, ap length whole),
      )
