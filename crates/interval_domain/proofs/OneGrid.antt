-- A rising list is determined by its members, and so the grid by the members of the literals.
use Rattle.std.proofs.Common.{◌≡◌, ◌⊎◌, ℕ, zero, suc, Bool, true, false, cond, not, List, [], ◌∷◌, ◌++◌, take, refl, sym, ap, subst, ◌∙◌, inl, inr, ⊎_elim, arith}
use Rattle.std.specs.Prelude.{ℤ, negsuc, map, ◌↔◌}
use Rattle.std.specs.List.{AllByRecursion, Contains, filter, flat_map, list_any}
use Rattle.std.specs.List.Sorted.{IsStrictlySortedBy}
use Rattle.std.specs.declared.cmp.Ordering.{Ordering}
use Rattle.std.specs.declared.cmp.Ordering.TheVariants.{Less}
use Rattle.std.specs.Ordering.{int_cmp}
use Rattle.std.specs.Cmp.{IsTotalOrder, nat_cmp_total}
use Rattle.std.proofs.lemmas.Cmp.{int_cmp_total, tied_itself}
use Rattle.std.proofs.lemmas.List.Elements.{Contains-append_left, Contains-append_right, Contains-append_cases}
use Rattle.interval_domain.specs.Grid.{IsSetOf, IsGrid, candidates, neighbours, ranks_of, rank_of, is_bound_of, all_types, number_of, type_bounds}

-- ---- lists that rise

abbrev pub Rises : {X : Type 0} → (X → X → Type 0) → List X → Type 0
Rises Below [] = Unit {0}
Rises Below (x ∷ xs) = ((y : _) → Contains xs y → Below x y) × Rises Below xs

in_either : {X : Type 0} (x y : X) (xs : List X) → Contains (x ∷ xs) y → (x ≡ y) ⊎ Contains xs y
in_either x y xs (zero, l, e) = inl e
in_either x y xs (suc k, l, e) = inr (k, omega arith, e)

first_in : {X : Type 0} (x : X) (xs : List X) → Contains (x ∷ xs) x
first_in x xs = (0, omega arith, refl)

later_in : {X : Type 0} (x y : X) (xs : List X) → Contains xs y → Contains (x ∷ xs) y
later_in x y xs c = (suc c.0, omega arith, c.2)

module _ {X : Type 0} (Below : X → X → Type 0) (not_itself : (x : X) → Below x x → ⊥)
    (along : (x y z : X) → Below x y → Below y z → Below x z) where
  -- the first of both lists
  same_first : (x y : X) (xs ys : List X) → Rises Below (x ∷ xs) → Rises Below (y ∷ ys) → Contains (y ∷ ys) x
      → Contains (x ∷ xs) y → x ≡ y
  same_first x y xs ys a b cx cy =
      ⊎_elim sym (λ in_ys. ⊎_elim (λ e. e) (λ in_xs. absurd (not_itself x (along x y x (a.0 y in_xs) (b.0 x in_ys))))
      (in_either x y xs cy)) (in_either y x ys cx)

  -- what is in both lists is behind their first
  behind : (x y z : X) (xs ys : List X) → x ≡ y → Rises Below (x ∷ xs) → Contains xs z → Contains (y ∷ ys) z
      → Contains ys z
  behind x y z xs ys e a cz c =
      ⊎_elim (λ same. absurd (not_itself z (subst (λ (w : X). Below w z) (e ∙ same) (a.0 z cz)))) (λ d. d)
      (in_either y z ys c)

  pub one_rising : (xs ys : List X) → Rises Below xs → Rises Below ys → ((z : X) → Contains xs z → Contains ys z)
      → ((z : X) → Contains ys z → Contains xs z) → xs ≡ ys
  one_rising [] [] a b f g = refl
  one_rising [] (y ∷ ys) a b f g = absurd (omega (arith, (g y (first_in y ys)).1))
  one_rising (x ∷ xs) [] a b f g = absurd (omega (arith, (f x (first_in x xs)).1))
  one_rising (x ∷ xs) (y ∷ ys) a b f g =
      let e : x ≡ y = same_first x y xs ys a b (f x (first_in x xs)) (g y (first_in y ys)) in
      let rest : xs ≡ ys =
      one_rising xs ys a.1 b.1 (λ z c. behind x y z xs ys e a c (f z (later_in x z xs c)))
      (λ z c. behind y x z ys xs (sym e) b c (g z (later_in y z ys c))) in
      cc

-- ---- sets as lists

all_in : {X : Type 0} (P : X → Type 0) (xs : List X) (x : X) → AllByRecursion P xs → Contains xs x → P x
all_in P [] x h c = absurd (omega (arith, c.1))
all_in P (y ∷ xs) x h c = ⊎_elim (λ e. subst P e h.0) (λ d. all_in P xs x h.1 d) (in_either y x xs c)

rises : {X : Type 0} (R : X → X → Ordering) (xs : List X) → IsStrictlySortedBy R xs
    → Rises (λ (x y : X). R x y ≡ Less) xs
unfolding IsStrictlySortedBy
rises R [] h = tt
rises R (x ∷ xs) h = (λ y c. all_in (λ z. R x z ≡ Less) xs y h.0 c, rises R xs h.1)

one_set : {X : Type 0} {R : X → X → Ordering} (o : IsTotalOrder R) (xs ys rs ss : List X)
    → ((x : X) → Contains xs x ↔ Contains ys x) → IsSetOf R xs rs → IsSetOf R ys ss → rs ≡ ss
one_set {X} {R} o xs ys rs ss same a b =
    one_rising (λ (x y : X). R x y ≡ Less) (λ x e. let tied = sym e ∙ tied_itself o x in absurd cc) o.trans rs ss
    (rises R rs a.rising) (rises R ss b.rising)
    (λ z c. b.all z ((same z).0 (a.no_other z c))) (λ z c. a.all z ((same z).1 (b.no_other z c)))

-- ---- members of what is made of lists

-- each member of the first list is one of the second
abbrev Has : {X : Type 0} → List X → List X → Type 0
Has xs ys = (x : _) → Contains xs x → Contains ys x

in_flat_map : {X Y : Type 0} (f : X → List Y) (xs : List X) (x : X) (y : Y) → Contains xs x → Contains (f x) y
    → Contains (flat_map f xs) y
in_flat_map f [] x y c d = absurd (omega (arith, c.1))
in_flat_map f (z ∷ xs) x y c d =
    ⊎_elim (λ e. Contains-append_left (f z) (flat_map f xs) y (subst (λ w. Contains (f w) y) (sym e) d))
    (λ c. Contains-append_right (f z) (flat_map f xs) y (in_flat_map f xs x y c d)) (in_either z x xs c)

has_flat_map : {X Y : Type 0} (f : X → List Y) (xs ys : List X) → Has xs ys → Has (flat_map f xs) (flat_map f ys)
has_flat_map f [] ys h y c = absurd (omega (arith, c.1))
has_flat_map f (x ∷ xs) ys h y c =
    ⊎_elim (λ d. in_flat_map f ys x y (h x (first_in x xs)) d)
    (λ d. has_flat_map f xs ys (λ z e. h z (later_in x z xs e)) y d)
    (Contains-append_cases (f x) (flat_map f xs) y c)

has_cons : {X : Type 0} (x : X) (xs ys : List X) → Has xs ys → Has (x ∷ xs) (x ∷ ys)
has_cons x xs ys h y c =
    ⊎_elim (λ e. subst (Contains (x ∷ ys)) e (first_in x ys)) (λ d. later_in x y ys (h y d)) (in_either x y xs c)

-- the rank of a number that is no bound of a type
abbrev rank_alone : ℤ → List ℕ
rank_alone z = ranks_of (z ∷ [])

abbrev is_alone : ℤ → Bool
is_alone z = not (list_any (is_bound_of z) all_types)

one_rank : (b : Bool) (z : ℤ) (zs : List ℤ)
    → map rank_of (cond b (z ∷ zs) zs) ≡ map rank_of (cond b (z ∷ []) []) ++ map rank_of zs
one_rank true z zs = refl
one_rank false z zs = refl

ranks_flat : (numbers : List ℤ) → ranks_of numbers ≡ flat_map rank_alone numbers
ranks_flat [] = refl
ranks_flat (z ∷ numbers) =
    one_rank (is_alone z) z (filter is_alone numbers) ∙ ap (λ (ranks : List ℕ). rank_alone z ++ ranks)
    (ranks_flat numbers)

has_ranks : (xs ys : List ℤ) → Has xs ys → Has (ranks_of (candidates xs)) (ranks_of (candidates ys))
has_ranks xs ys h n c =
    let all : Has (candidates xs) (candidates ys) = has_cons (negsuc 0) (flat_map neighbours xs)
    (flat_map neighbours ys) (has_flat_map neighbours xs ys h) in
    subst (λ (ranks : List ℕ). Contains ranks n) (sym (ranks_flat (candidates ys)))
    (has_flat_map rank_alone (candidates xs) (candidates ys) all n
    (subst (λ (ranks : List ℕ). Contains ranks n) (ranks_flat (candidates xs)) c))

-- ---- the law

-- Literals with the same members have one grid.
pub one_grid : (xs ys grid other : List ℤ) → ((n : ℤ) → Contains xs n ↔ Contains ys n) → IsGrid xs grid
    → IsGrid ys other → grid ≡ other
one_grid xs ys grid other same (first, a, g) (second, b, h) =
    let there : Has xs ys = λ n c. (same n).0 c in
    let back : Has ys xs = λ n c. (same n).1 c in
    let ranks : a.0 ≡ b.0 = one_set nat_cmp_total (ranks_of (candidates xs)) (ranks_of (candidates ys)) a.0 b.0
    (λ n. (has_ranks xs ys there n, has_ranks ys xs back n)) a.1 b.1 in
    let firsts : first ≡ second = a.2 ∙ ap (λ (rs : List ℕ). take 1024 rs) ranks ∙ sym b.2 in
    let numbers : List ℕ → List ℤ = λ rs. type_bounds ++ map number_of rs in
    one_set int_cmp_total (numbers first) (numbers first) grid other (λ n. (λ c. c, λ c. c)) g
    (subst (λ (rs : List ℕ). IsSetOf int_cmp (numbers rs) other) (sym firsts) h)
