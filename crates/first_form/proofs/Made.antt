-- A list that is made item after item.
use Rattle.std.proofs.Common.{◌≡◌, ℕ, ◌+◌, ◌<◌, ◌≤◌, length, drop, get_or, List, [], ◌∷◌, ◌++◌, Option, Some, None, refl, sym, ap, ◌∙◌, append_assoc}
use Rattle.std.specs.Prelude.{map, flat_map, option_map, option_and_then}
use Rattle.std.proofs.lemmas.List.{map-append, append-nil, drop_more}
use Rattle.std.proofs.Math.ListN.{drop_of_length-le}
use Rattle.std.proofs.lemmas.Grind.{flat_map-append}
use Rattle.st_tree.specs.declared.node.Node.{Node}
use Rattle.first_form.specs.FirstForm.{each, ◌>>=◌}
use Rattle.first_form.specs.steps.Numbering.{Counts}
use Rattle.first_form.proofs.Counting.{counts_none, counts_append, counts_same}

pub at_item : {X : Type 0} (xs : List X) (i : ℕ) (x : X) → i < length xs → x ≡ get_or xs i x
    → drop i xs ≡ x ∷ drop (i + 1) xs
at_item xs i x lt is = drop_more xs i x lt ∙ ap (λ y. y ∷ drop (i + 1) xs) (sym is)

pub at_end : {X : Type 0} (xs : List X) (i : ℕ) → length xs ≤ i → drop i xs ≡ []
at_end xs i le = drop_of_length-le xs le

-- These are made so far, of all but those that are left, and their nodes are numbered.
pub record IsMade {X Y : Type 0} (f : X → Option Y) (bare : Y → Y) (nodes : Y → List Node)
    (sources : List X) (from : ℕ) (left : List X) (made : List Y) (next : ℕ) : Type 0 where
  pub form : each f sources ≡ option_map (λ ys. map bare made ++ ys) (each f left)
  pub counted : Counts from (flat_map nodes made) next

module _ {X Y : Type 0} (f : X → Option Y) (bare : Y → Y) (nodes : Y → List Node) where
  as_it_is : (o : Option (List Y)) → o ≡ option_map (λ ys. [] ++ ys) o
  as_it_is None = refl
  as_it_is (Some ys) = refl

  one_more : (made : List Y) (y : Y) (o : Option (List Y)) → option_map (λ ys. made ++ ys)
      (option_and_then (λ ys. Some (y ∷ ys)) o) ≡ option_map (λ ys. (made ++ y ∷ []) ++ ys) o
  one_more made y None = refl
  one_more made y (Some ys) = ap Some (sym (append_assoc made (y ∷ []) ys))

  pub made_none : (sources : List X) (from : ℕ) → IsMade f bare nodes sources from sources [] from
  made_none sources from = record { form = as_it_is (each f sources); counted = counts_none from }

  module _ (sources left rest : List X) (x : X) (from next : ℕ) (made : List Y)
      (h : IsMade f bare nodes sources from left made next) (e : left ≡ x ∷ rest) where
    pub made_more : (y : Y) (after : List Y) (end : ℕ) → f x ≡ Some (bare y) → Counts next (nodes y)
        end → after ≡ made ++ y ∷ [] → IsMade f bare nodes sources from rest after end
    made_more y after end is counts more = record {
      form = h.form ∙ ap (λ (xs : List X). option_map (λ ys. map bare made ++ ys) (each f xs)) e
          ∙ ap (λ (o : Option Y). option_map (λ ys. map bare made ++ ys)
          (o >>= λ y. each f rest >>= λ ys. Some (y ∷ ys))) is
          ∙ one_more (map bare made) (bare y) (each f rest)
          ∙ ap (λ (zs : List Y). option_map (λ ys. zs ++ ys) (each f rest))
          (sym (ap (map bare) more ∙ map-append bare made (y ∷ [])));
      counted = counts_same from end (flat_map nodes made ++ nodes y) (flat_map nodes after)
          (sym (ap (flat_map nodes) more ∙ flat_map-append nodes made (y ∷ [])
          ∙ ap (λ (ns : List Node). flat_map nodes made ++ ns) (append-nil (nodes y))))
          (counts_append from next end (flat_map nodes made) (nodes y) h.counted counts);
    }

    pub made_refused : f x ≡ None → each f sources ≡ None
    made_refused none =
        h.form ∙ ap (λ (xs : List X). option_map (λ ys. map bare made ++ ys) (each f xs)) e
        ∙ ap (λ (o : Option Y). option_map (λ ys. map bare made ++ ys)
        (o >>= λ y. each f rest >>= λ ys. Some (y ∷ ys))) none

  pub made_all : (sources left : List X) (from next : ℕ) (made : List Y)
      → IsMade f bare nodes sources from left made next → left ≡ [] → each f sources
      ≡ Some (map bare made)
  made_all sources left from next made h e =
      h.form ∙ ap (λ (xs : List X). option_map (λ ys. map bare made ++ ys) (each f xs)) e
      ∙ ap Some (append-nil (map bare made))

pub each_some : {X Y : Type 0} (g : X → Y) (xs : List X) → each (λ x. Some (g x)) xs
    ≡ Some (map g xs)
each_some g [] = refl
each_some g (x ∷ xs) = ap (λ o. o >>= λ ys. Some (g x ∷ ys)) (each_some g xs)
