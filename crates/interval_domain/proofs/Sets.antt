-- The lists of ranks and numbers from which the grid is made.
use Rattle.std.proofs.Common.{◌≡◌, ℕ, ◌+◌, ◌<◌, nat_eq, take, get_or, length, List, [], ◌∷◌, ◌++◌, map, ℤ, pos, negsuc, Bool, true, false, not, cond, arith, ap, ◌∙◌, sym, refl, subst, append_assoc}
use Rattle.std.specs.List.{flat_map, dedup, list_any}
use Rattle.std.specs.List.Sorted.{IsPermutation, IsSorted}
use Rattle.std.specs.declared.cmp.Ordering.{Ordering}
use Rattle.std.specs.Ordering.{eq_by_cmp, int_cmp, int_eq, nat_cmp}
use Rattle.std.proofs.lemmas.Bool.{eqb-true}
use Rattle.std.proofs.lemmas.Bool.Decides.{Decides-int_eq}
use Rattle.std.proofs.lemmas.Cmp.{int_cmp_total, int_eq_equiv, nat_eq_equiv}
use Rattle.std.specs.Cmp.{IsTotalOrder, IsEquivalence, nat_cmp_total, unsigned_tied}
use Rattle.std.proofs.lemmas.Grind.{common_steps}
use Rattle.std.proofs.lemmas.List.Kept.{IsStrictlySortedBy-dedup, Contains-dedup, Contains-from_dedup}
use Rattle.std.proofs.lemmas.List.Sorted.{Contains-permutation, IsPermutation-sym}
use Rattle.interval_domain.specs.Operators.{kept, sum_of, difference_of}
use Rattle.interval_domain.specs.Grid.{rank_of, ranks_of, is_bound_of, all_types, candidates, neighbours, IsSetOf}

-- what a sort and a `dedup` leave
pub dedup-set : {X : Type 0} {R : X → X → Ordering} (o : IsTotalOrder R) {E : X → X → Bool} (e : IsEquivalence E)
    → ((x y : X) → E x y ≡ eq_by_cmp R x y) → ((x y : X) → E x y ≡ true → x ≡ y)
    → (xs ys : List X) → IsPermutation xs ys → IsSorted R ys → IsSetOf R xs (dedup E ys)
dedup-set o {E} e ties same xs ys p s = record {
  rising = IsStrictlySortedBy-dedup o ties ys s;
  all = λ x h. Contains-dedup e same ys x (Contains-permutation xs ys x p h);
  no_other = λ x h. Contains-permutation ys xs x (IsPermutation-sym xs ys p) (Contains-from_dedup E ys x h);
}

ranks-append : (xs ys : List ℤ) → ranks_of (xs ++ ys) ≡ ranks_of xs ++ ranks_of ys
ranks-append xs ys = grind (arith, common_steps)

ranks-three : (xs : List ℕ) (a b c : ℤ)
    → ((xs ++ ranks_of (a ∷ [])) ++ ranks_of (b ∷ [])) ++ ranks_of (c ∷ []) ≡ xs ++ ranks_of (a ∷ b ∷ c ∷ [])
ranks-three xs a b c =
    append_assoc (xs ++ ranks_of (a ∷ [])) (ranks_of (b ∷ [])) (ranks_of (c ∷ []))
    ∙ ap (λ l. (xs ++ ranks_of (a ∷ [])) ++ l) (sym (ranks-append (b ∷ []) (c ∷ [])))
    ∙ append_assoc xs (ranks_of (a ∷ [])) (ranks_of (b ∷ c ∷ []))
    ∙ ap (λ l. xs ++ l) (sym (ranks-append (a ∷ []) (b ∷ c ∷ [])))

-- what three pushes make
pub pushed-three : (l : ℤ) (xs ys zs ws : List ℕ) (a b c : ℤ)
    → ys ≡ xs ++ ranks_of (a ∷ []) → zs ≡ ys ++ ranks_of (b ∷ []) → ws ≡ zs ++ ranks_of (c ∷ [])
    → a ≡ kept (difference_of l (pos 1)) → b ≡ kept l → c ≡ kept (sum_of l (pos 1))
    → ws ≡ xs ++ ranks_of (neighbours l)
pushed-three l xs ys zs ws a b c p q r u v w =
    r ∙ ap (λ k. k ++ ranks_of (c ∷ [])) (q ∙ ap (λ k. k ++ ranks_of (b ∷ [])) p) ∙ ranks-three xs a b c
    ∙ (λ i. xs ++ ranks_of (u i ∷ v i ∷ w i ∷ []))

neighbours-more : (ls : List ℤ) (i : ℕ) (d : ℤ) → i < length ls
    → flat_map neighbours (take (i + 1) ls) ≡ flat_map neighbours (take i ls) ++ neighbours (get_or ls i d)
neighbours-more ls i d h = grind (arith, common_steps)

pub ranks-more : (ls : List ℤ) (i : ℕ) (d : ℤ) → i < length ls
    → ranks_of (candidates (take (i + 1) ls)) ≡ ranks_of (candidates (take i ls)) ++ ranks_of (neighbours (get_or ls i d))
ranks-more ls i d h =
    ap (λ l. ranks_of (negsuc 0 ∷ l)) (neighbours-more ls i d h) ∙ ranks-append (candidates (take i ls))
    (neighbours (get_or ls i d))

int_same : (x y : ℤ) → int_eq x y ≡ true → x ≡ y
int_same x y e = (Decides-int_eq x y).0 e

-- from the clauses of a sort and a `dedup`
pub numbers-set : (xs made ys zs : List ℤ) → made ≡ xs → IsPermutation made ys → IsSorted int_cmp ys
    → zs ≡ dedup int_eq ys → IsSetOf int_cmp xs zs
numbers-set xs made ys zs e p s f =
    subst (λ (l : List ℤ). IsSetOf int_cmp xs l) (sym f)
    (dedup-set int_cmp_total int_eq_equiv (λ x y. refl) int_same xs ys
    (subst (λ (l : List ℤ). IsPermutation l ys) e p) s)

pub ranks-set : (xs made ys zs : List ℕ) → made ≡ xs → IsPermutation made ys → IsSorted nat_cmp ys
    → zs ≡ dedup nat_eq ys → IsSetOf nat_cmp xs zs
ranks-set xs made ys zs e p s f =
    subst (λ (l : List ℕ). IsSetOf nat_cmp xs l) (sym f)
    (dedup-set nat_cmp_total nat_eq_equiv (λ x y. sym (unsigned_tied x y)) eqb-true xs ys
    (subst (λ (l : List ℕ). IsPermutation l ys) e p) s)

-- what is pushed is mapped
pub mapped-more : (f : ℕ → ℤ) (xs ys zs : List ℤ) (ranks : List ℕ) (i d : ℕ) (z : ℤ) → i < length ranks
    → ys ≡ xs ++ map f (take i ranks) → zs ≡ ys ++ z ∷ [] → z ≡ f (get_or ranks i d) → zs ≡ xs ++ map f (take (i + 1) ranks)
mapped-more f xs ys zs ranks i d z l e g h = grind (arith, common_steps)

-- ---- one rank, or none of a bound of a type

alone-ranks : (b : Bool) (z : ℤ) → b ≡ true → map rank_of (cond b (z ∷ []) []) ≡ rank_of z ∷ []
alone-ranks true z e = refl
alone-ranks false z e = cc

no-ranks : (b : Bool) (z : ℤ) → b ≡ false → map rank_of (cond b (z ∷ []) []) ≡ []
no-ranks true z e = cc
no-ranks false z e = refl

pub rank-alone : (z : ℤ) (b : Bool) → b ≡ list_any (is_bound_of z) all_types → b ≡ false
    → ranks_of (z ∷ []) ≡ rank_of z ∷ []
rank-alone z b e f = alone-ranks (not (list_any (is_bound_of z) all_types)) z (ap not (sym e ∙ f))

pub no-rank : (z : ℤ) (b : Bool) → b ≡ list_any (is_bound_of z) all_types → b ≡ true → ranks_of (z ∷ []) ≡ []
no-rank z b e f = no-ranks (not (list_any (is_bound_of z) all_types)) z (ap not (sym e ∙ f))

pub none-pushed : (xs ys : List ℕ) → ys ≡ [] → xs ≡ xs ++ ys
none-pushed xs ys e = grind (arith, common_steps)
