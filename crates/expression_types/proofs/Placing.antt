-- Loops over the names of arguments of a function of the standard.
use Rattle.std.proofs.Common.{◌≡◌, ℕ, suc, ◌+◌, ◌<◌, ◌≤◌, true, false, List, [], length, get_or, drop, map, Option, Some, None, refl, sym, ap, ◌∙◌, arith}
use Rattle.std.specs.Prelude.{option_map}
use Rattle.std.proofs.lemmas.List.{drop_all}
use Rattle.st_tree.specs.declared.expression.Identifier.{Identifier}
use Rattle.expression_types.specs.Inputs.{without_enables}
use Rattle.expression_types.specs.StandardInputs.{is_left_out, has_name, place_named}
use Rattle.expression_types.specs.steps.Three.{further}
use Rattle.expression_types.proofs.Loops.{cut}

-- ---- the place of a name

next_place : (i p : ℕ) → i + suc p ≡ (i + 1) + p
next_place i p = omega arith

same_place : (i : ℕ) → i + 0 ≡ i
same_place i = omega arith

further_next : (i : ℕ) (o : Option ℕ) → further i (option_map suc o) ≡ further (i + 1) o
further_next i None = refl
further_next i (Some p) = ap Some (next_place i p)

pub place_next : {E : Type 0} (input : List ℕ) (g : E → Option Identifier) (items : List E) (i : ℕ) (e : E)
    (whole : Option ℕ) → i < length items → e ≡ get_or items i e → has_name input (g e) ≡ false
    → whole ≡ further i (place_named (map g (drop i items)) input)
    → whole ≡ further (i + 1) (place_named (map g (drop (i + 1) items)) input)
place_next input g items i e whole lt is t left =
    left ∙ ap (λ ys. further i (place_named (map g ys) input)) (cut items i e lt is)
    ∙ rw t (further_next i (place_named (map g (drop (i + 1) items)) input))

pub place_stop : {E : Type 0} (input : List ℕ) (g : E → Option Identifier) (items : List E) (i : ℕ) (e : E)
    (whole : Option ℕ) → i < length items → e ≡ get_or items i e → has_name input (g e) ≡ true
    → whole ≡ further i (place_named (map g (drop i items)) input) → Some i ≡ whole
place_stop input g items i e whole lt is t left =
    sym (left ∙ ap (λ ys. further i (place_named (map g ys) input)) (cut items i e lt is)
    ∙ rw t (ap Some (same_place i)))

pub place_end : {E : Type 0} (input : List ℕ) (g : E → Option Identifier) (items : List E) (i : ℕ)
    (whole : Option ℕ) → length items ≤ i
    → whole ≡ further i (place_named (map g (drop i items)) input) → None ≡ whole
place_end input g items i whole le left =
    sym (left ∙ ap (λ ys. further i (place_named (map g ys) input)) (drop_all i items le))

-- ---- how many there are

count_up : (n m : ℕ) → n + suc m ≡ (n + 1) + m
count_up n m = omega arith

pub count_more : {E : Type 0} (g : E → Option Identifier) (items : List E) (i : ℕ) (e : E)
    (count whole : ℕ) → i < length items → e ≡ get_or items i e → is_left_out (g e) ≡ false
    → count + length (without_enables [] (map g (drop i items))) ≡ whole
    → (count + 1) + length (without_enables [] (map g (drop (i + 1) items))) ≡ whole
count_more g items i e count whole lt is t left =
    sym (ap (λ ys. count + length (without_enables [] (map g ys))) (cut items i e lt is)
    ∙ rw t (count_up count (length (without_enables [] (map g (drop (i + 1) items)))))) ∙ left

pub count_same : {E : Type 0} (g : E → Option Identifier) (items : List E) (i : ℕ) (e : E)
    (count whole : ℕ) → i < length items → e ≡ get_or items i e → is_left_out (g e) ≡ true
    → count + length (without_enables [] (map g (drop i items))) ≡ whole
    → count + length (without_enables [] (map g (drop (i + 1) items))) ≡ whole
count_same g items i e count whole lt is t left =
    sym (ap (λ ys. count + length (without_enables [] (map g ys))) (cut items i e lt is) ∙ rw t refl)
    ∙ left

pub count_end : {E : Type 0} (g : E → Option Identifier) (items : List E) (i : ℕ) (count whole : ℕ)
    → length items ≤ i → count + length (without_enables [] (map g (drop i items))) ≡ whole
    → count ≡ whole
count_end g items i count whole le left =
    sym (same_place count)
    ∙ sym (ap (λ ys. count + length (without_enables [] (map g ys))) (drop_all i items le)) ∙ left
