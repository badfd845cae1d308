-- Numbers of 128 bits, which come back from the words that they are kept in.
use Rattle.std.proofs.Common.{◌≡◌, ℤ, ◌≤ℤ◌, FitsSigned, to_z, of_z, sym, ◌∙◌}
use Rattle.std.proofs.lemmas.Int.{to_z-of_z}
use mir.Syntax.{w128}
use Rattle.interval_domain.specs.Interval.{Interval, Span, strict}
use Rattle.interval_domain.specs.Operators.{kept}
use Rattle.interval_domain.specs.Bits.{exact_or, pattern_at}

-- as a word, and back
abbrev pub back : ℤ → ℤ
back z = to_z w128 (of_z w128 z)

abbrev pub Fits : ℤ → Type 0
Fits z = FitsSigned w128 z

pub le-by : (x y u v : ℤ) → x ≡ u → y ≡ v → u ≤ℤ v → x ≤ℤ y
le-by x y u v e f h = rw (e, f) h

-- a result of one number, and of two
pub one-back : (f : ℤ → ℤ) (r x : ℤ) → Fits r → Fits x → r ≡ f (back x) → back r ≡ f x
one-back f r x p q e = to_z-of_z w128 r p ∙ e ∙ (λ n. f (to_z-of_z w128 x q n))

pub two-back : (f : ℤ → ℤ → ℤ) (r x y : ℤ) → Fits r → Fits x → Fits y → r ≡ f (back x) (back y) → back r ≡ f x y
two-back f r x y p q s e =
    to_z-of_z w128 r p ∙ e ∙ (λ n. f (to_z-of_z w128 x q n) (to_z-of_z w128 y s n))

-- the same, kept in the limit of bounds
pub kept-back : (op : ℤ → ℤ → ℤ) (r x y : ℤ) → Fits r → Fits x → Fits y → r ≡ kept (op (back x) (back y))
    → back r ≡ kept (op x y)
kept-back op = two-back (λ x y. kept (op x y))

-- what a function of bounds gives for two spans
pub strict-at : (at : (a b c d : ℤ) → Interval) (i j r : Interval) (a b c d : ℤ) → i ≡ Span a b → j ≡ Span c d
    → Fits a → Fits b → Fits c → Fits d → r ≡ at (back a) (back b) (back c) (back d) → r ≡ strict at i j
strict-at at i j r a b c d e f p q s t g =
    g ∙ (λ n. at (to_z-of_z w128 a p n) (to_z-of_z w128 b q n) (to_z-of_z w128 c s n) (to_z-of_z w128 d t n))
    ∙ sym (λ n. strict at (e n) (f n))

-- what an operator on patterns gives for bounds, from its exact result and the other interval
pub pattern-back : (op : ℤ → ℤ → ℤ) (other : (a b c d : ℤ) → Interval) (r o : Interval) (x a b c d : ℤ)
    → Fits x → Fits a → Fits b → Fits c → Fits d
    → r ≡ exact_or (back a) (back b) (back c) (back d) (back x) o → x ≡ op (back a) (back c)
    → o ≡ other (back a) (back b) (back c) (back d) → r ≡ pattern_at op other a b c d
pattern-back op other r o x a b c d v p q s t e f g =
    e ∙ (λ n. exact_or (back a) (back b) (back c) (back d) ((to_z-of_z w128 x v ∙ f) n) (g n))
    ∙ (λ n. pattern_at op other (to_z-of_z w128 a p n) (to_z-of_z w128 b q n) (to_z-of_z w128 c s n)
    (to_z-of_z w128 d t n))
