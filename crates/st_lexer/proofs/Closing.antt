-- A comment that is read byte by byte.
use Rattle.std.proofs.Common.{◌≡◌, ℕ, zero, suc, ◌+◌, ◌-◌, ◌<◌, true, false, List, ◌∷◌, Option, Some, None, refl, ap, arith}
use Rattle.st_lexer.specs.declared.comments.Style.{Style}
use Rattle.st_lexer.specs.Texts.{is_pair, behind, closes, opener, closer}

pub behind_twice : (n m : ℕ) (o : Option ℕ) → behind n (behind m o) ≡ behind (n + m) o
behind_twice n m None = refl
behind_twice n m (Some j) = ap (λ (k : ℕ). Some k) (omega arith)

pub opened : (s : Style) (d : ℕ) (b c : ℕ) (bs : List ℕ) (n : ℕ) → is_pair (opener s) 42 b c ≡ true → behind n (closes s d (b ∷ c ∷ bs)) ≡ behind (n + 2) (closes s (d + 1) bs)
unfolding closes
opened s d b c bs n e = let up : d + 1 ≡ suc d = omega arith in rw (e, up) (behind_twice n 2 (closes s (suc d) bs))

pub shut_at : (s : Style) (d : ℕ) (b c : ℕ) (bs : List ℕ) (n : ℕ) → 0 < d → is_pair (opener s) 42 b c ≡ false → is_pair 42 (closer s) b c ≡ true
    → behind n (closes s d (b ∷ c ∷ bs)) ≡ behind (n + 2) (closes s (d - 1) bs)
unfolding closes
shut_at s zero b c bs n lt e1 e2 = absurd (omega (arith, lt))
shut_at s (suc d) b c bs n lt e1 e2 = let down : suc d - 1 ≡ d = omega arith in rw (e1, e2, down) (behind_twice n 2 (closes s d bs))

pub shut_last : (s : Style) (b c : ℕ) (bs : List ℕ) (n : ℕ) → is_pair (opener s) 42 b c ≡ false → is_pair 42 (closer s) b c ≡ true → behind n (closes s 0 (b ∷ c ∷ bs)) ≡ Some (n + 2)
unfolding closes
shut_last s b c bs n e1 e2 = rw (e1, e2) refl

pub passed : (s : Style) (d : ℕ) (b c : ℕ) (bs : List ℕ) (n : ℕ) → is_pair (opener s) 42 b c ≡ false → is_pair 42 (closer s) b c ≡ false
    → behind n (closes s d (b ∷ c ∷ bs)) ≡ behind (n + 1) (closes s d (c ∷ bs))
unfolding closes
passed s d b c bs n e1 e2 = rw (e1, e2) (behind_twice n 1 (closes s d (c ∷ bs)))
