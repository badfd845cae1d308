-- Names that stand side by side, and what is told beside them.
use Rattle.std.proofs.Common.{◌≡◌, ℕ, suc, ◌+◌, ◌<◌, ◌≤◌, Bool, true, false, ◌&&◌, List, [], ◌∷◌, length, get_or, drop, map, Option, Some, None, refl, sym, ap, ◌∙◌, subst, add-one, drop-cons}
use Rattle.std.proofs.lemmas.List.{drop_all}
use Rattle.std.proofs.lemmas.Bool.{false≢true}
use Rattle.std.proofs.lemmas.Option.{none-some}
use Rattle.link_faults.specs.First.{after}
use Rattle.link_faults.specs.Checked.{Checked, Good, Bad, Tells}
use Rattle.link_faults.specs.declared.fault.Faults.{Faults}
use Rattle.link_faults.proofs.Tells.{after_append}
use Rattle.expression_types.specs.Lists.{are_good, faults_of, with_all, TellsAll}
use Rattle.expression_types.specs.steps.Several.{still_good, where_all}

-- what is told of all is what is told of those that are left, after what is known of the others
pub record LeftOf {A : Type 0} (xs ys : List (Checked A)) (old mid : Faults) (so_far : Bool)
    : Type 0 where
  pub first : after old (faults_of xs) ≡ after mid (faults_of ys)
  pub all : are_good xs ≡ (so_far && are_good ys)

and_true : (b : Bool) → (b && true) ≡ b
and_true true = refl
and_true false = refl

and_false : (b : Bool) → (b && false) ≡ false
and_false true = refl
and_false false = refl

next_good : {A : Type 0} (xs ys : List (Checked A)) (y : Checked A) (old mid new : Faults) (all : Bool)
    (a : A) → LeftOf xs (y ∷ ys) old mid all → Tells y mid new (Some a) → LeftOf xs ys old new all
next_good xs ys (Good b) old mid new all a left t =
    record {
      first = left.first ∙ ap (λ m. after m (faults_of ys)) (sym t.first);
      all = left.all;
    }
next_good xs ys (Bad fs) old mid new all a left t = absurd (none-some a (sym t.answer))

next_bad : {A : Type 0} (xs ys : List (Checked A)) (y : Checked A) (old mid new : Faults) (all : Bool)
    → LeftOf xs (y ∷ ys) old mid all → Tells y mid new None → LeftOf xs ys old new false
next_bad xs ys (Good b) old mid new all left t = absurd (none-some b t.answer)
next_bad xs ys (Bad fs) old mid new all left t =
    record {
      first = left.first ∙ after_append mid fs (faults_of ys)
          ∙ ap (λ m. after m (faults_of ys)) (sym t.first);
      all = left.all ∙ and_false all;
    }

next_told : {A : Type 0} (xs ys : List (Checked A)) (y : Checked A) (old mid new : Faults) (all : Bool)
    (r : Option A) → LeftOf xs (y ∷ ys) old mid all → Tells y mid new r
    → LeftOf xs ys old new (still_good all r)
next_told xs ys y old mid new all (Some a) left t = next_good xs ys y old mid new all a left t
next_told xs ys y old mid new all None left t = next_bad xs ys y old mid new all left t

cut : {E : Type 0} (items : List E) (i : ℕ) (e : E) → i < length items → e ≡ get_or items i e
    → drop i items ≡ e ∷ drop (i + 1) items
cut items i e lt is = rw add-one (drop-cons items i e lt ∙ ap (λ y. y ∷ drop (suc i) items) (sym is))

pub name_step : {E A : Type 0} (f : E → Checked A) (items : List E) (i : ℕ) (e : E)
    (old mid new : Faults) (all next : Bool) (r : Option A) → i < length items → e ≡ get_or items i e
    → LeftOf (map f items) (map f (drop i items)) old mid all → Tells (f e) mid new r
    → next ≡ still_good all r → LeftOf (map f items) (map f (drop (i + 1) items)) old new next
name_step {A = A} f items i e old mid new all next r lt is left t same =
    let P : List (Checked A) → Type 0 = λ ys. LeftOf (map f items) ys old mid all in
    let Q : Bool → Type 0 = λ b. LeftOf (map f items) (map f (drop (i + 1) items)) old new b in
    subst Q (sym same)
    (next_told (map f items) (map f (drop (i + 1) items)) (f e) old mid new all r
    (subst P (ap (map f) (cut items i e lt is)) left) t)

pub names_end : {E A : Type 0} (f : E → Checked A) (items : List E) (i : ℕ) (old new : Faults)
    (all : Bool) → length items ≤ i → LeftOf (map f items) (map f (drop i items)) old new all
    → TellsAll (map f items) old new all
names_end {A = A} f items i old new all le left =
    let P : List (Checked A) → Type 0 = λ ys. LeftOf (map f items) ys old new all in
    let done = subst P (ap (map f) (drop_all i items le)) left in
    record { first = sym done.first; all = sym (done.all ∙ and_true all) }

-- ---- what is told beside them

good_have_none : {A : Type 0} (xs : List (Checked A)) → are_good xs ≡ true → faults_of xs ≡ []
good_have_none [] e = refl
good_have_none (Good a ∷ xs) e = good_have_none xs e
good_have_none (Bad fs ∷ xs) e = absurd (false≢true e)

all_good : {A B : Type 0} (x : Checked B) (xs : List (Checked A)) (old mid new : Faults)
    (r : Option B) → Tells x old mid r → TellsAll xs mid new true → Tells (with_all x xs) old new r
all_good (Good b) xs old mid new r t u =
    rw (sym u.all) (record {
      first = u.first ∙ ap (after mid) (good_have_none xs (sym u.all)) ∙ t.first;
      answer = t.answer;
    })
all_good (Bad fs) xs old mid new r t u =
    record {
      first = u.first ∙ ap (λ m. after m (faults_of xs)) t.first
          ∙ sym (after_append old fs (faults_of xs));
      answer = t.answer;
    }

some_bad : {A B : Type 0} (x : Checked B) (xs : List (Checked A)) (old mid new : Faults)
    (r : Option B) → Tells x old mid r → TellsAll xs mid new false → Tells (with_all x xs) old new None
some_bad (Good b) xs old mid new r t u =
    rw (sym u.all) (record {
      first = u.first ∙ ap (λ m. after m (faults_of xs)) t.first;
      answer = refl;
    })
some_bad (Bad fs) xs old mid new r t u =
    record {
      first = u.first ∙ ap (λ m. after m (faults_of xs)) t.first
          ∙ sym (after_append old fs (faults_of xs));
      answer = refl;
    }

pub with_all_told : {A B : Type 0} (x : Checked B) (xs : List (Checked A)) (old mid new : Faults)
    (r s : Option B) (all : Bool) → Tells x old mid r → TellsAll xs mid new all
    → s ≡ where_all all r → Tells (with_all x xs) old new s
with_all_told {B = B} x xs old mid new r s true t u same =
    let P : Option B → Type 0 = λ o. Tells (with_all x xs) old new o in
    subst P (sym same) (all_good x xs old mid new r t u)
with_all_told {B = B} x xs old mid new r s false t u same =
    let P : Option B → Type 0 = λ o. Tells (with_all x xs) old new o in
    subst P (sym same) (some_bad x xs old mid new r t u)
