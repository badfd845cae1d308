-- A list of items, each with its nodes, where the nodes of all are numbered one after the other.
use Rattle.std.proofs.Common.{◌≡◌, ℕ, zero, suc, ◌+◌, ◌<◌, ◌≤◌, Bool, true, false, ◌||◌, leb, List, [], ◌∷◌, ◌++◌, length, get_or, Option, Some, None, refl, ap, sym, ◌∙◌, subst, inl, inr, append-nil, arith}
use Rattle.std.proofs.lemmas.Bool.{cases_Bool, or_right, or_parts, cond-true, cond-false, le-leb, lt-leb, both_ways, cases_lt}
use Rattle.std.proofs.lemmas.Option.{same_Some, none-some}
use Rattle.std.proofs.lemmas.List.{length-append}
use Rattle.std.proofs.lemmas.List.Elements.{filter-append}
use Rattle.std.proofs.lemmas.List.Folds.{list_any-append}
use Rattle.std.specs.Prelude.{flat_map, Contains, nat_eq}
use Rattle.std.specs.List.{find, filter, prefix_len}
use Rattle.std.specs.List.Sorted.{IsNonDecreasingBy, IsPartitionedBy, IsPartitionPoint}
use Rattle.std.proofs.lemmas.List.Sorted.{IsPartitionedBy-leb}
use Rattle.st_tree.specs.declared.node.Node.{Node}
use Rattle.st_tree.specs.declared.node.NodeNo.{NodeNo}
use Rattle.first_form.specs.Nodes.{CountsFrom}
use Rattle.finding_spans.specs.Places.{Holder, has_number, holds}
use Rattle.finding_spans.specs.Searches.{IsAmong, last_of_first}
use Rattle.finding_spans.proofs.Points.{point_is, rising_cons}
use Rattle.first_form.proofs.Parts.{counts_left, counts_right}
use Rattle.finding_spans.proofs.Numbers.{has_from, has_not, has_beyond, apart, contains_cases}

pub has_append : (number : NodeNo) (xs ys : List Node) (b c : Bool) → has_number number xs ≡ b → has_number number ys ≡ c → has_number number (xs ++ ys) ≡ (b || c)
has_append number xs ys b c d e = list_any-append (λ node. nat_eq node.number.0 number.0) xs ys ∙ ap (λ (v : Bool). v || has_number number ys) d ∙ ap (λ (v : Bool). b || v) e

module _ {X : Type 0} (f : X → List Node) (number : NodeNo) where
  abbrev pub with_node : List X → Option X
  with_node xs = find (λ x. has_number number (f x)) xs

  first_has : (x : X) (xs : List X) → has_number number (f x) ≡ true → with_node (x ∷ xs) ≡ Some x
  first_has x xs h = cond-true (has_number number (f x)) (Some x) (with_node xs) h

  later_has : (x : X) (xs : List X) → has_number number (f x) ≡ false → with_node (x ∷ xs) ≡ with_node xs
  later_has x xs h = cond-false (has_number number (f x)) (Some x) (with_node xs) h

  pub none_has : (xs : List X) → with_node xs ≡ None → has_number number (flat_map f xs) ≡ false
  none_has [] h = refl
  none_has (x ∷ xs) h =
      elim (cases_Bool (has_number number (f x))) [
        | inl e ↦ absurd (none-some x (sym h ∙ first_has x xs e))
        | inr e ↦ has_append number (f x) (flat_map f xs) false false e (none_has xs (sym (later_has x xs e) ∙ h))
      ]

  pub has_part : (xs : List X) (x : X) → Contains xs x → has_number number (f x) ≡ true → has_number number (flat_map f xs) ≡ true
  has_part [] x c h = absurd (omega (arith, c.1))
  has_part (y ∷ xs) x c h =
      elim (contains_cases y xs x c) [
        | inl e ↦
            let yes : has_number number (f y) ≡ true = ap (λ (z : X). has_number number (f z)) e ∙ h in
            has_append number (f y) (flat_map f xs) true (has_number number (flat_map f xs)) yes refl
        | inr e ↦
            has_append number (f y) (flat_map f xs) (has_number number (f y)) true refl (has_part xs x e h)
            ∙ or_right (has_number number (f y)) true refl
      ]

  pub has_found : (xs : List X) (x : X) → with_node xs ≡ Some x → has_number number (flat_map f xs) ≡ true
  has_found [] x h = absurd (none-some x h)
  has_found (y ∷ xs) x h =
      elim (cases_Bool (has_number number (f y))) [
        | inl e ↦ has_append number (f y) (flat_map f xs) true (has_number number (flat_map f xs)) e refl
        | inr e ↦ has_append number (f y) (flat_map f xs) false true e (has_found xs x (sym (later_has y xs e) ∙ h))
      ]

  pub part_of : (n : ℕ) (xs : List X) (x : X) → CountsFrom n (flat_map f xs) → with_node xs ≡ Some x → IsAmong number (f x)
  part_of n [] x c h = absurd (none-some x h)
  part_of n (y ∷ xs) x c h =
      elim (cases_Bool (has_number number (f y))) [
        | inl e ↦
            let here : IsAmong number (f y) = record { from = n; counts = counts_left n (f y) (flat_map f xs) c; has = e } in
            subst (λ z. IsAmong number (f z)) (same_Some y x (sym (first_has y xs e) ∙ h)) here
        | inr e ↦ part_of (n + length (f y)) xs x (counts_right n (f y) (flat_map f xs) c) (sym (later_has y xs e) ∙ h)
      ]

  pub found : (n : ℕ) (xs : List X) (x : X) → CountsFrom n (flat_map f xs) → Contains xs x → has_number number (f x) ≡ true → with_node xs ≡ Some x
  found n [] x c h e = absurd (omega (arith, h.1))
  found n (y ∷ xs) x c h e =
      elim (cases_Bool (has_number number (f y))) [
        | inl has ↦
            elim (contains_cases y xs x h) [
              | inl same ↦ first_has y xs has ∙ ap (λ (z : X). Some z) same
              | inr later ↦ absurd (both_ways (has_number number (flat_map f xs)) (apart n number (f y) (flat_map f xs) c has) (has_part xs x later e))
            ]
        | inr lacks ↦
            elim (contains_cases y xs x h) [
              | inl same ↦ absurd (both_ways (has_number number (f y)) lacks (ap (λ (z : X). has_number number (f z)) same ∙ e))
              | inr later ↦ later_has y xs lacks ∙ found (n + length (f y)) xs x (counts_right n (f y) (flat_map f xs) c) later e
            ]
      ]

  module _ (g : X → List Holder) (quiet : (x : X) → has_number number (f x) ≡ false → filter (holds number) (g x) ≡ []) where
    pub held_by_none : (xs : List X) → has_number number (flat_map f xs) ≡ false → filter (holds number) (flat_map g xs) ≡ []
    held_by_none [] h = refl
    held_by_none (x ∷ xs) h =
        let parts = or_parts (has_number number (f x)) (has_number number (flat_map f xs)) (sym (has_append number (f x) (flat_map f xs) _ _ refl refl) ∙ h) in
        filter-append (holds number) (g x) (flat_map g xs) ∙ ap (λ (hs : List Holder). hs ++ filter (holds number) (flat_map g xs)) (quiet x parts.0) ∙ held_by_none xs parts.1

    pub held_by_one : (n : ℕ) (xs : List X) (x : X) → CountsFrom n (flat_map f xs) → with_node xs ≡ Some x → filter (holds number) (flat_map g xs) ≡ filter (holds number) (g x)
    held_by_one n [] x c h = absurd (none-some x h)
    held_by_one n (y ∷ xs) x c h =
        elim (cases_Bool (has_number number (f y))) [
          | inl e ↦
              let none = held_by_none xs (apart n number (f y) (flat_map f xs) c e) in
              filter-append (holds number) (g y) (flat_map g xs) ∙ ap (λ (hs : List Holder). filter (holds number) (g y) ++ hs) none ∙ append-nil (filter (holds number) (g y))
              ∙ ap (λ (z : X). filter (holds number) (g z)) (same_Some y x (sym (first_has y xs e) ∙ h))
          | inr e ↦
              filter-append (holds number) (g y) (flat_map g xs) ∙ ap (λ (hs : List Holder). hs ++ filter (holds number) (flat_map g xs)) (quiet y e)
              ∙ held_by_one (n + length (f y)) xs x (counts_right n (f y) (flat_map f xs) c) (sym (later_has y xs e) ∙ h)
        ]

  -- the search by the numbers of the items' first nodes
  module _ (head : X → Node) (rest : X → List Node) (same : (x : X) → f x ≡ head x ∷ rest x) where
    abbrev pub key : X → ℕ
    key x = (head x).number.0

    abbrev pub begun : X → Bool
    begun x = leb (key x) number.0

    key_is : (n : ℕ) (x : X) (xs : List X) → CountsFrom n (flat_map f (x ∷ xs)) → (key x ≡ n) × (0 < length (f x))
    key_is n x xs c =
        let whole : CountsFrom n (head x ∷ rest x) = subst (λ nodes. CountsFrom n nodes) (same x) (counts_left n (f x) (flat_map f xs) c) in
        let long : length (f x) ≡ length (head x ∷ rest x) = ap length (same x) in
        (whole.0, omega arith)

    none_begun : (n : ℕ) (xs : List X) → CountsFrom n (flat_map f xs) → number.0 < n → prefix_len begun xs ≡ 0
    none_begun n [] c h = refl
    none_begun n (x ∷ xs) c h =
        let at : key x ≡ n = (key_is n x xs c).0 in
        cond-false (begun x) (1 + prefix_len begun xs) 0 (lt-leb (key x) number.0 (omega arith))

    some_begun : (n : ℕ) (xs : List X) → CountsFrom n (flat_map f xs) → n ≤ number.0 → number.0 < n + length (flat_map f xs) → (m : ℕ) × (prefix_len begun xs ≡ suc m)
    some_begun n [] c l h = absurd (omega arith)
    some_begun n (x ∷ xs) c l h =
        let at : key x ≡ n = (key_is n x xs c).0 in
        let one : prefix_len begun (x ∷ xs) ≡ 1 + prefix_len begun xs = cond-true (begun x) (1 + prefix_len begun xs) 0 (le-leb (key x) number.0 (omega arith)) in
        (prefix_len begun xs, omega arith)

    nothing : (n : ℕ) (xs : List X) → CountsFrom n (flat_map f xs) → number.0 < n → with_node xs ≡ None
    nothing n [] c h = refl
    nothing n (x ∷ xs) c h =
        later_has x xs (has_not n number (f x) (counts_left n (f x) (flat_map f xs) c) h)
        ∙ nothing (n + length (f x)) xs (counts_right n (f x) (flat_map f xs) c) (omega arith)

    searched : (n : ℕ) (xs : List X) → CountsFrom n (flat_map f xs) → number.0 < n + length (flat_map f xs) → last_of_first xs (prefix_len begun xs) ≡ with_node xs
    searched n [] c h = refl
    searched n (x ∷ xs) c h =
        let at : key x ≡ n = (key_is n x xs c).0 in
        let here = counts_left n (f x) (flat_map f xs) c in
        let later = counts_right n (f x) (flat_map f xs) c in
        elim (cases_lt number.0 n) [
          | inl before ↦
              ap (last_of_first (x ∷ xs)) (none_begun n (x ∷ xs) c before)
              ∙ sym (later_has x xs (has_not n number (f x) here before) ∙ nothing (n + length (f x)) xs later (omega arith))
          | inr from ↦
              let one : prefix_len begun (x ∷ xs) ≡ 1 + prefix_len begun xs = cond-true (begun x) (1 + prefix_len begun xs) 0 (le-leb (key x) number.0 (omega arith)) in
              elim (cases_lt number.0 (n + length (f x))) [
                | inl within ↦
                    let none : prefix_len begun xs ≡ 0 = none_begun (n + length (f x)) xs later within in
                    let single : prefix_len begun (x ∷ xs) ≡ suc 0 = omega arith in
                    ap (last_of_first (x ∷ xs)) single ∙ sym (first_has x xs (has_from n number (f x) here from within))
                | inr beyond ↦
                    let total : length (flat_map f (x ∷ xs)) ≡ length (f x) + length (flat_map f xs) = length-append (f x) (flat_map f xs) in
                    let more = some_begun (n + length (f x)) xs later beyond (omega arith) in
                    let next : prefix_len begun xs ≡ suc more.0 = more.1 in
                    let both : prefix_len begun (x ∷ xs) ≡ suc (suc more.0) = omega arith in
                    let ih = searched (n + length (f x)) xs later (omega arith) in
                    ap (last_of_first (x ∷ xs)) both ∙ sym (ap (last_of_first xs) next) ∙ ih ∙ sym (later_has x xs (has_beyond n number (f x) here beyond))
              ]
        ]

    no_earlier : (n : ℕ) (xs : List X) → CountsFrom n (flat_map f xs) → (j : ℕ) (d : X) → j < length xs → n ≤ key (get_or xs j d)
    no_earlier n [] c j d h = absurd (omega arith)
    no_earlier n (x ∷ xs) c zero d h = let at : key x ≡ n = (key_is n x xs c).0 in omega arith
    no_earlier n (x ∷ xs) c (suc j) d h =
        let ih = no_earlier (n + length (f x)) xs (counts_right n (f x) (flat_map f xs) c) j d (omega arith) in
        omega arith

    rising : (n : ℕ) (xs : List X) → CountsFrom n (flat_map f xs) → IsNonDecreasingBy key xs
    rising n [] c = λ i j d l h. absurd (omega arith)
    rising n (x ∷ xs) c =
        let at : key x ≡ n = (key_is n x xs c).0 in
        let later = counts_right n (f x) (flat_map f xs) c in
        rising_cons key x xs (λ j d l. let k = no_earlier (n + length (f x)) xs later j d l in omega arith) (rising (n + length (f x)) xs later)

    -- what `partition_point` answers of a slice that holds the items, where its closure computes `begun`
    pub point_found : (n : ℕ) (xs slice : List X) (count : ℕ) → CountsFrom n (flat_map f xs) → number.0 < n + length (flat_map f xs) → slice ≡ xs → count ≤ length slice
        → (IsPartitionedBy begun slice → IsPartitionPoint (λ x. begun x ≡ true) (λ x. begun x ≡ false) slice count) → last_of_first slice count ≡ with_node xs
    point_found n xs slice count c h e bound point =
        let P : List X → Type 0 = λ ys. CountsFrom n (flat_map f ys) in
        let counts : CountsFrom n (flat_map f slice) = subst P (sym e) c in
        let last : number.0 < n + length (flat_map f slice) = subst (λ ys. number.0 < n + length (flat_map f ys)) (sym e) h in
        ap (last_of_first slice) (sym (point_is begun slice count bound (point (IsPartitionedBy-leb key slice number.0 (rising n slice counts))))) ∙ searched n slice counts last ∙ ap with_node e
