-- Nodes that are numbered one after the other.
use Rattle.std.proofs.Common.{◌≡◌, ◌⊎◌, ℕ, zero, suc, ◌+◌, ◌<◌, ◌≤◌, true, false, List, [], ◌∷◌, ◌++◌, length, ap, inl, inr, arith}
use Rattle.std.proofs.lemmas.Bool.{false≢true, or_cases, or_left, or_right, eqb-true, eq-eqb, cases_eq, false_from_ne_true}
use Rattle.std.specs.Prelude.{map, Contains, nat_eq}
use Rattle.st_tree.specs.declared.node.Node.{Node}
use Rattle.st_tree.specs.declared.node.NodeNo.{NodeNo}
use Rattle.first_form.specs.Nodes.{CountsFrom}
use Rattle.first_form.proofs.Parts.{counts_left, counts_right}
use Rattle.finding_spans.specs.Places.{has_number}

-- the numbers of a list are those from its first one on
pub has_in : (n : ℕ) (number : NodeNo) (xs : List Node) → CountsFrom n xs → has_number number xs ≡ true → (n ≤ number.0) × (number.0 < n + length xs)
has_in n number [] c h = absurd (false≢true h)
has_in n number (x ∷ xs) c h =
    elim (or_cases (nat_eq x.number.0 number.0) (has_number number xs) h) [
      | inl e ↦ let q = eqb-true x.number.0 number.0 e in let p : x.number.0 ≡ n = c.0 in (omega arith, omega arith)
      | inr e ↦ let ih = has_in (suc n) number xs c.1 e in (omega arith, omega arith)
    ]

pub has_from : (n : ℕ) (number : NodeNo) (xs : List Node) → CountsFrom n xs → n ≤ number.0 → number.0 < n + length xs → has_number number xs ≡ true
has_from n number [] c a b = absurd (omega arith)
has_from n number (x ∷ xs) c a b =
    let p : x.number.0 ≡ n = c.0 in
    elim (cases_eq x.number.0 number.0) [
      | inl e ↦ or_left (nat_eq x.number.0 number.0) (has_number number xs) (eq-eqb x.number.0 number.0 e)
      | inr e ↦ or_right (nat_eq x.number.0 number.0) (has_number number xs) (has_from (suc n) number xs c.1 (omega arith) (omega arith))
    ]

pub has_not : (n : ℕ) (number : NodeNo) (xs : List Node) → CountsFrom n xs → number.0 < n → has_number number xs ≡ false
has_not n number xs c a = false_from_ne_true _ (λ e. let h = has_in n number xs c e in omega arith)

pub has_beyond : (n : ℕ) (number : NodeNo) (xs : List Node) → CountsFrom n xs → n + length xs ≤ number.0 → has_number number xs ≡ false
has_beyond n number xs c a = false_from_ne_true _ (λ e. let h = has_in n number xs c e in omega arith)

-- of two parts of a list, one has the node
pub apart : (n : ℕ) (number : NodeNo) (xs ys : List Node) → CountsFrom n (xs ++ ys) → has_number number xs ≡ true → has_number number ys ≡ false
apart n number xs ys c h =
    false_from_ne_true _ (λ e.
    let a = has_in n number xs (counts_left n xs ys c) h in
    let b = has_in (n + length xs) number ys (counts_right n xs ys c) e in
    omega arith)

pub contains_cases : {X : Type 0} (y : X) (xs : List X) (x : X) → Contains (y ∷ xs) x → (y ≡ x) ⊎ Contains xs x
contains_cases y xs x (zero, l, e) = inl e
contains_cases y xs x (suc k, l, e) = inr (k, omega arith, e)

pub has_of_numbers : (number : NodeNo) (xs : List Node) → Contains (map (λ node. node.number) xs) number → has_number number xs ≡ true
has_of_numbers number [] h = absurd (omega (arith, h.1))
has_of_numbers number (x ∷ xs) h =
    elim (contains_cases x.number (map (λ node. node.number) xs) number h) [
      | inl e ↦ or_left (nat_eq x.number.0 number.0) (has_number number xs) (eq-eqb x.number.0 number.0 (ap (λ (no : NodeNo). no.0) e))
      | inr e ↦ or_right (nat_eq x.number.0 number.0) (has_number number xs) (has_of_numbers number xs e)
    ]
