-- A loop over parts that stand side by side, whose good answers are listed.
use Rattle.std.proofs.Common.{◌≡◌, ℕ, suc, ◌+◌, ◌<◌, ◌≤◌, Bool, true, false, ◌&&◌, List, [], ◌∷◌, ◌++◌, length, get_or, drop, map, Option, Some, None, refl, sym, ap, ◌∙◌, subst, add-one, drop-cons}
use Rattle.std.specs.Option.{option_to_list}
use Rattle.std.specs.Prelude.{if◌then◌else◌}
use Rattle.std.proofs.lemmas.List.{drop_all}
use Rattle.expression_types.specs.steps.Several.{still_good}
use Rattle.std.proofs.lemmas.Option.{none-some}
use Rattle.link_faults.specs.First.{after}
use Rattle.link_faults.specs.Checked.{Checked, Good, Bad, answer, Tells}
use Rattle.link_faults.specs.declared.fault.Faults.{Faults}
use Rattle.link_faults.proofs.Tells.{after_append}
use Rattle.expression_types.specs.Lists.{are_good, faults_of}
use Rattle.declared_types.specs.Ranges.{goods, all_of}
use Rattle.declared_types.specs.steps.Telling.{TellsList}

-- what is told of all is what is told of those that are left, after what is known of the others
pub record LeftList {A : Type 0} (xs ys : List (Checked A)) (old mid : Faults) (so_far : Bool)
    (found : List A) : Type 0 where
  pub first : after old (faults_of xs) ≡ after mid (faults_of ys)
  pub all : are_good xs ≡ (so_far && are_good ys)
  pub list : goods xs ≡ found ++ goods ys

and_true : (b : Bool) → (b && true) ≡ b
and_true true = refl
and_true false = refl

and_false : (b : Bool) → (b && false) ≡ false
and_false true = refl
and_false false = refl

no_more : {A : Type 0} (xs : List A) → xs ++ [] ≡ xs
no_more [] = refl
no_more (x ∷ xs) = ap (λ ys. x ∷ ys) (no_more xs)

one_more : {A : Type 0} (xs : List A) (a : A) (ys : List A) → xs ++ (a ∷ ys) ≡ (xs ++ (a ∷ [])) ++ ys
one_more [] a ys = refl
one_more (x ∷ xs) a ys = ap (λ zs. x ∷ zs) (one_more xs a ys)

same_answer : {A : Type 0} (a b : A) → Some a ≡ Some b → a ≡ b
same_answer a b e = ap (λ (o : Option _). elim o as (λ _. _) [ None ↦ a | Some x ↦ x ]) e

pub next_good : {A : Type 0} (xs ys : List (Checked A)) (y : Checked A) (old mid new : Faults)
    (all : Bool) (found : List A) (a : A) → LeftList xs (y ∷ ys) old mid all found
    → Tells y mid new (Some a) → LeftList xs ys old new all (found ++ (a ∷ []))
next_good xs ys (Good b) old mid new all found a left t =
    record {
      first = left.first ∙ ap (λ m. after m (faults_of ys)) (sym t.first);
      all = left.all;
      list = left.list ∙ one_more found b (goods ys)
          ∙ ap (λ x. (found ++ (x ∷ [])) ++ goods ys) (sym (same_answer a b t.answer));
    }
next_good xs ys (Bad fs) old mid new all found a left t = absurd (none-some a (sym t.answer))

pub next_bad : {A : Type 0} (xs ys : List (Checked A)) (y : Checked A) (old mid new : Faults)
    (all : Bool) (found : List A) → LeftList xs (y ∷ ys) old mid all found → Tells y mid new None
    → LeftList xs ys old new false found
next_bad xs ys (Good b) old mid new all found left t = absurd (none-some b t.answer)
next_bad xs ys (Bad fs) old mid new all found left t =
    record {
      first = left.first ∙ after_append mid fs (faults_of ys)
          ∙ ap (λ m. after m (faults_of ys)) (sym t.first);
      all = left.all ∙ and_false all;
      list = left.list;
    }

pub end_good : {A : Type 0} (xs : List (Checked A)) (found : List A) → are_good xs ≡ true
    → goods xs ≡ found → Some found ≡ answer (all_of xs)
end_good xs found all list = rw all (ap (λ ys. Some ys) (sym list))

pub end_bad : {A : Type 0} (xs : List (Checked A)) → are_good xs ≡ false → None ≡ answer (all_of xs)
end_bad xs all = rw all refl

pub list_end : {E A : Type 0} (f : E → Checked A) (items : List E) (i : ℕ) (old new : Faults)
    (all : Bool) (found : List A) → length items ≤ i
    → LeftList (map f items) (map f (drop i items)) old new all found
    → TellsList (map f items) old new (if all then Some found else None)
list_end {A = A} f items i old new true found le left =
    let P : List (Checked A) → Type 0 = λ ys. LeftList (map f items) ys old new true found in
    let done = subst P (ap (map f) (drop_all i items le)) left in
    record {
      first = sym done.first;
      list = end_good (map f items) found done.all (done.list ∙ no_more found);
    }
list_end {A = A} f items i old new false found le left =
    let P : List (Checked A) → Type 0 = λ ys. LeftList (map f items) ys old new false found in
    let done = subst P (ap (map f) (drop_all i items le)) left in
    record { first = sym done.first; list = end_bad (map f items) done.all }

cut : {E : Type 0} (items : List E) (i : ℕ) (e : E) → i < length items → e ≡ get_or items i e
    → drop i items ≡ e ∷ drop (i + 1) items
cut items i e lt is = rw add-one (drop-cons items i e lt ∙ ap (λ y. y ∷ drop (suc i) items) (sym is))

pub list_step : {E A : Type 0} (f : E → Checked A) (items : List E) (i : ℕ) (e : E)
    (old mid new : Faults) (all next : Bool) (found more : List A) (r : Option A) → i < length items
    → e ≡ get_or items i e → LeftList (map f items) (map f (drop i items)) old mid all found
    → Tells (f e) mid new r → next ≡ still_good all r → more ≡ found ++ option_to_list r
    → LeftList (map f items) (map f (drop (i + 1) items)) old new next more
list_step {A = A} f items i e old mid new all next found more (Some a) lt is left t same adds =
    let P : List (Checked A) → Type 0 = λ ys. LeftList (map f items) ys old mid all found in
    rw (same, adds) (next_good (map f items) (map f (drop (i + 1) items)) (f e) old mid new all found a
    (subst P (ap (map f) (cut items i e lt is)) left) t)
list_step {A = A} f items i e old mid new all next found more None lt is left t same adds =
    let P : List (Checked A) → Type 0 = λ ys. LeftList (map f items) ys old mid all found in
    rw (same, adds ∙ no_more found) (next_bad (map f items) (map f (drop (i + 1) items)) (f e) old mid new all found
    (subst P (ap (map f) (cut items i e lt is)) left) t)
