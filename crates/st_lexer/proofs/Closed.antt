-- Where comments and pragmas close.
use Rattle.std.proofs.Common.{◌≡◌, ℕ, zero, suc, ◌+◌, ◌≤◌, Bool, true, false, cond, not, List, [], ◌∷◌, ◌++◌, length, take, Option, Some, None, refl, sym, ap, ◌∙◌, arith}
use Rattle.std.specs.Prelude.{nat_eq}
use Rattle.std.specs.List.{list_all}
use Rattle.std.proofs.lemmas.Bool.{eqb-true}
use Rattle.st_lexer.specs.declared.comments.Style.{Style}
use Rattle.st_lexer.specs.Texts.{is_pair, behind, shut, closes, opener, closer}
use Rattle.st_lexer.specs.Front.{longer, pragma_at}
use Rattle.st_lexer.proofs.Tests.{both}
use Rattle.st_lexer.proofs.Numerals.{longer_some}

behind_some : (n : ℕ) (o : Option ℕ) (m : ℕ) → behind n o ≡ Some m → (j : ℕ) × (o ≡ Some j) × (n + j ≡ m)
behind_some n None m e = absurd cc
behind_some n (Some j) m e = (j, refl, cc)

behind_on : (n : ℕ) (o o2 : Option ℕ) (m : ℕ) → ((j : ℕ) → o ≡ Some j → o2 ≡ Some j) → behind n o ≡ Some m → behind n o2 ≡ Some m
behind_on n None o2 m h e = absurd cc
behind_on n (Some j) o2 m h e = rw (h j refl) e

shut_on : (d : ℕ) (f g : ℕ → Option ℕ) (m : ℕ) → ((i j : ℕ) → f i ≡ Some j → g i ≡ Some j) → shut d f ≡ Some m → shut d g ≡ Some m
shut_on zero f g m h e = e
shut_on (suc d) f g m h e = h d m e

three_on : (a b : Bool) (x1 x2 y1 y2 z1 z2 : Option ℕ) (n : ℕ) → (x1 ≡ Some n → x2 ≡ Some n) → (y1 ≡ Some n → y2 ≡ Some n) → (z1 ≡ Some n → z2 ≡ Some n)
    → cond a x1 (cond b y1 z1) ≡ Some n → cond a x2 (cond b y2 z2) ≡ Some n
three_on true b x1 x2 y1 y2 z1 z2 n hx hy hz e = hx e
three_on false true x1 x2 y1 y2 z1 z2 n hx hy hz e = hy e
three_on false false x1 x2 y1 y2 z1 z2 n hx hy hz e = hz e

-- what closes a comment closes it whatever follows
pub closes_on : (s : Style) (d : ℕ) (bs rest : List ℕ) (n : ℕ) → closes s d bs ≡ Some n → closes s d (bs ++ rest) ≡ Some n
unfolding closes
closes_on s d [] rest n e = absurd cc
closes_on s d (b ∷ []) rest n e = absurd cc
closes_on s d (b ∷ c ∷ bs) rest n e =
    three_on (is_pair (opener s) 42 b c) (is_pair 42 (closer s) b c) _ _ _ _ _ _ n
    (behind_on 2 _ _ n (λ j. closes_on s (suc d) bs rest j))
    (shut_on d _ _ n (λ i j. behind_on 2 _ _ j (λ m. closes_on s i bs rest m)))
    (behind_on 1 _ _ n (λ j. closes_on s d (c ∷ bs) rest j)) e

pub some_is : (n m : ℕ) → Some n ≡ Some m → n ≡ m
some_is n m e = cc

-- the front that closes it
pub record Shut (s : Style) (d : ℕ) (bs : List ℕ) (n : ℕ) : Type 0 where
  pub within : n ≤ length bs
  pub shut : closes s d (take n bs) ≡ Some n

two_more : (n : ℕ) → 2 + n ≡ suc (suc n)
two_more n = omega arith

one_more : (n : ℕ) → 1 + n ≡ suc n
one_more n = omega arith

open_front : (s : Style) (d b c : ℕ) (bs : List ℕ) (n : ℕ) → is_pair (opener s) 42 b c ≡ true → ((j : ℕ) → closes s (suc d) bs ≡ Some j → Shut s (suc d) bs j) → behind 2 (closes s (suc d) bs) ≡ Some n → Shut s d (b ∷ c ∷ bs) n
unfolding closes
open_front s d b c bs n is h e =
    let a = behind_some 2 (closes s (suc d) bs) n e in
    let f = h a.0 a.1 in
    let up : n ≡ suc (suc a.0) = omega (arith, a.2) in
    record { within = omega (arith, up, f.within); shut = rw up (rw (is, f.shut) (ap (λ (k : ℕ). Some k) (two_more a.0))) }

shut_front : (s : Style) (d b c : ℕ) (bs : List ℕ) (n : ℕ) → is_pair (opener s) 42 b c ≡ false → is_pair 42 (closer s) b c ≡ true → ((i j : ℕ) → closes s i bs ≡ Some j → Shut s i bs j) → shut d (λ i. behind 2 (closes s i bs)) ≡ Some n
    → Shut s d (b ∷ c ∷ bs) n
unfolding closes
shut_front s zero b c bs n other is h e = let up : n ≡ 2 = sym (some_is 2 n e) in record { within = omega (arith, up); shut = rw up (rw (other, is) refl) }
shut_front s (suc d) b c bs n other is h e =
    let a = behind_some 2 (closes s d bs) n e in
    let f = h d a.0 a.1 in
    let up : n ≡ suc (suc a.0) = omega (arith, a.2) in
    record { within = omega (arith, up, f.within); shut = rw up (rw (other, is, f.shut) (ap (λ (k : ℕ). Some k) (two_more a.0))) }

pass_front : (s : Style) (d b c : ℕ) (bs : List ℕ) (n j : ℕ) → is_pair (opener s) 42 b c ≡ false → is_pair 42 (closer s) b c ≡ false → Shut s d (c ∷ bs) j → 1 + j ≡ n → Shut s d (b ∷ c ∷ bs) n
unfolding closes
pass_front s d b c bs n zero other is f e = let h = f.shut in absurd cc
pass_front s d b c bs n (suc j) other is f e =
    let up : n ≡ suc (suc j) = omega (arith, e) in
    record { within = omega (arith, up, f.within); shut = rw up (rw (other, is, f.shut) (ap (λ (k : ℕ). Some k) (one_more (suc j)))) }

front_by : (s : Style) (d b c : ℕ) (bs : List ℕ) (n : ℕ) (v w : Bool) → is_pair (opener s) 42 b c ≡ v → is_pair 42 (closer s) b c ≡ w
    → ((i j : ℕ) → closes s i bs ≡ Some j → Shut s i bs j) → ((j : ℕ) → closes s d (c ∷ bs) ≡ Some j → Shut s d (c ∷ bs) j)
    → cond v (behind 2 (closes s (suc d) bs)) (cond w (shut d (λ i. behind 2 (closes s i bs))) (behind 1 (closes s d (c ∷ bs)))) ≡ Some n → Shut s d (b ∷ c ∷ bs) n
front_by s d b c bs n true w is1 is2 h1 h2 e = open_front s d b c bs n is1 (h1 (suc d)) e
front_by s d b c bs n false true is1 is2 h1 h2 e = shut_front s d b c bs n is1 is2 h1 e
front_by s d b c bs n false false is1 is2 h1 h2 e =
    let a = behind_some 1 (closes s d (c ∷ bs)) n e in
    pass_front s d b c bs n a.0 is1 is2 (h2 a.0 a.1) a.2

pub closes_front : (s : Style) (d : ℕ) (bs : List ℕ) (n : ℕ) → closes s d bs ≡ Some n → Shut s d bs n
unfolding closes
closes_front s d [] n e = absurd cc
closes_front s d (b ∷ []) n e = absurd cc
closes_front s d (b ∷ c ∷ bs) n e = front_by s d b c bs n (is_pair (opener s) 42 b c) (is_pair 42 (closer s) b c) refl refl (λ i j. closes_front s i bs j) (λ j. closes_front s d (c ∷ bs) j) e

-- ---- pragmas

abbrev pub no_brace : ℕ → Bool
no_brace b = not (nat_eq b 125)

-- the body up to the first `}`
pub record Braced (bytes : List ℕ) (n : ℕ) : Type 0 where
  pub within : n ≤ length bytes
  pub body : List ℕ
  pub text : take n bytes ≡ body ++ 125 ∷ []
  pub first : list_all no_brace body ≡ true

pub pragma_some : (bytes : List ℕ) (n : ℕ) → pragma_at bytes ≡ Some n → Braced bytes n
unfolding pragma_at
pragma_some [] n e = absurd cc
pragma_some (b ∷ bytes) n e = by (nat_eq b 125) refl e (pragma_some bytes)
  where
    by : (v : Bool) → nat_eq b 125 ≡ v → cond v (Some 1) (longer 1 (pragma_at bytes)) ≡ Some n → ((j : ℕ) → pragma_at bytes ≡ Some j → Braced bytes j) → Braced (b ∷ bytes) n
    by true is h go =
        let up : n ≡ 1 = sym (some_is 1 n h) in
        let brace : b ≡ 125 = eqb-true b 125 is in
        record { within = omega (arith, up); body = []; text = ap (λ (k : ℕ). take k (b ∷ bytes)) up ∙ ap (λ (x : ℕ). x ∷ []) brace; first = refl }
    by false is h go =
        let l = longer_some 1 n (pragma_at bytes) h in
        let r = go l.0 l.1 in
        let up : n ≡ suc l.0 = omega (arith, l.2) in
        record { within = omega (arith, up, r.within); body = b ∷ r.body; text = ap (λ (k : ℕ). take k (b ∷ bytes)) up ∙ ap (λ (t : List ℕ). b ∷ t) r.text; first = rw is r.first }

pub pragma_none : (bytes : List ℕ) → pragma_at bytes ≡ None → list_all no_brace bytes ≡ true
unfolding pragma_at
pragma_none [] e = refl
pragma_none (b ∷ bytes) e = by (nat_eq b 125) refl e (pragma_none bytes)
  where
    no_some : (o : Option ℕ) → longer 1 o ≡ None → o ≡ None
    no_some None h = refl
    no_some (Some j) h = absurd cc

    by : (v : Bool) → nat_eq b 125 ≡ v → cond v (Some 1) (longer 1 (pragma_at bytes)) ≡ None → (pragma_at bytes ≡ None → list_all no_brace bytes ≡ true) → list_all no_brace (b ∷ bytes) ≡ true
    by true is h go = absurd cc
    by false is h go = rw is (go (no_some (pragma_at bytes) h))

-- the first `}` ends it
pub pragma_found : (body rest : List ℕ) → list_all no_brace body ≡ true → pragma_at (body ++ 125 ∷ rest) ≡ Some (suc (length body))
unfolding pragma_at
pragma_found [] rest h = refl
pragma_found (b ∷ body) rest h =
    let parts = both (no_brace b) (list_all no_brace body) h in
    let other : nat_eq b 125 ≡ false = not_true (nat_eq b 125) parts.0 in
    rw (other, pragma_found body rest parts.1) (ap (λ (k : ℕ). Some k) (one_more (suc (length body))))
  where
    not_true : (v : Bool) → not v ≡ true → v ≡ false
    not_true true h = absurd cc
    not_true false h = refl
