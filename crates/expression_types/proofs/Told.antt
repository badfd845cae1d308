-- What is told of parts that stand together: the lemmas of faults, under names of this crate.
use Rattle.std.proofs.Common.{◌≡◌, ◌∷◌, [], List, Bool, true, false, Option, Some, None, refl, sym, ap, ◌∙◌, subst, map}
use Rattle.std.proofs.lemmas.Bool.{false≢true}
use Rattle.link_faults.specs.First.{after}
use Rattle.link_faults.specs.Checked.{Checked, Good, Bad, bind, both, Tells}
use Rattle.link_faults.specs.declared.fault.Faults.{Faults}
use Rattle.link_faults.proofs.Tells as told
use Rattle.expression_types.specs.steps.Pairs.{of_both}
use Rattle.st_tree.specs.declared.node.Node.{Node}
use Rattle.expression_types.specs.declared.judged.Judged.{Judged}
use Rattle.expression_types.specs.declared.judged.Standing.{Standing}
use Rattle.expression_types.specs.declared.meaning.Seen.{Seen}
use Rattle.expression_types.specs.Reads.{ReadPart, with_parts, root_type, seen_judged}
use Rattle.expression_types.specs.steps.Several.{where_all}
use Rattle.expression_types.specs.Lists.{are_good, faults_of, with_all, TellsAll}

pub bind_some : {A B : Type 0} (x : Checked A) (k : A → Checked B) (old mid new : Faults) (a : A)
    (r : Option B) → Tells x old mid (Some a) → Tells (k a) mid new r → Tells (bind x k) old new r
bind_some = told.bind_some

pub bind_none : {A B : Type 0} (x : Checked A) (k : A → Checked B) (old new : Faults)
    → Tells x old new None → Tells (bind x k) old new None
bind_none = told.bind_none

pub both_some : {A B C : Type 0} (x : Checked A) (y : Checked B) (k : A → B → Checked C)
    (old mid mid' new : Faults) (a : A) (b : B) (r : Option C) → Tells x old mid (Some a)
    → Tells y mid mid' (Some b) → Tells (k a b) mid' new r → Tells (both x y k) old new r
both_some = told.both_some

pub both_left : {A B C : Type 0} (x : Checked A) (y : Checked B) (k : A → B → Checked C)
    (old mid new : Faults) (s : Option B) → Tells x old mid None → Tells y mid new s
    → Tells (both x y k) old new None
both_left = told.both_left

pub both_right : {A B C : Type 0} (x : Checked A) (y : Checked B) (k : A → B → Checked C)
    (old mid new : Faults) (a : A) → Tells x old mid (Some a) → Tells y mid new None
    → Tells (both x y k) old new None
both_right = told.both_right

-- a rule on the answers of two parts
pub both_of : {A B C : Type 0} (x : Checked A) (y : Checked B) (k : A → B → Checked C)
    (old mid mid' new : Faults) (a : Option A) (b : Option B) (r : Option C) → Tells x old mid a
    → Tells y mid mid' b → Tells (of_both a b k) mid' new r → Tells (both x y k) old new r
both_of x y k old mid mid' new (Some a) (Some b) r t u v =
    told.both_some x y k old mid mid' new a b r t u v
both_of {B = B} x y k old mid mid' new (Some a) None r t u v =
    let here : Tells (both x y k) old mid' None = told.both_right x y k old mid mid' a t u in
    record { first = v.first ∙ here.first; answer = v.answer ∙ here.answer }
both_of x y k old mid mid' new None b r t u v =
    let here : Tells (both x y k) old mid' None = told.both_left x y k old mid mid' b t u in
    record { first = v.first ∙ here.first; answer = v.answer ∙ here.answer }

-- ---- parts side by side

good_have_none : {A : Type 0} (xs : List (Checked A)) → are_good xs ≡ true → faults_of xs ≡ []
good_have_none [] e = refl
good_have_none (Good a ∷ xs) e = good_have_none xs e
good_have_none (Bad fs ∷ xs) e = absurd (false≢true e)

with_all_good : {A B : Type 0} (x : Checked B) (xs : List (Checked A)) (old mid new : Faults)
    (r : Option B) → Tells x old mid r → TellsAll xs mid new true → Tells (with_all x xs) old new r
with_all_good (Good b) xs old mid new r t u =
    rw (sym u.all) (record {
      first = u.first ∙ ap (after mid) (good_have_none xs (sym u.all)) ∙ t.first;
      answer = t.answer;
    })
with_all_good (Bad fs) xs old mid new r t u =
    record {
      first = u.first ∙ ap (λ m. after m (faults_of xs)) t.first
          ∙ sym (told.after_append old fs (faults_of xs));
      answer = t.answer;
    }

with_all_bad : {A B : Type 0} (x : Checked B) (xs : List (Checked A)) (old mid new : Faults)
    (r : Option B) → Tells x old mid r → TellsAll xs mid new false → Tells (with_all x xs) old new None
with_all_bad (Good b) xs old mid new r t u =
    rw (sym u.all) (record {
      first = u.first ∙ ap (λ m. after m (faults_of xs)) t.first;
      answer = refl;
    })
with_all_bad (Bad fs) xs old mid new r t u =
    record {
      first = u.first ∙ ap (λ m. after m (faults_of xs)) t.first
          ∙ sym (told.after_append old fs (faults_of xs));
      answer = refl;
    }

pub with_all_told : {A B : Type 0} (x : Checked B) (xs : List (Checked A)) (old mid new : Faults)
    (r s : Option B) (all : Bool) → Tells x old mid r → TellsAll xs mid new all
    → s ≡ where_all all r → Tells (with_all x xs) old new s
with_all_told {B = B} x xs old mid new r s true t u same =
    let P : Option B → Type 0 = λ o. Tells (with_all x xs) old new o in
    subst P (sym same) (with_all_good x xs old mid new r t u)
with_all_told {B = B} x xs old mid new r s false t u same =
    let P : Option B → Type 0 = λ o. Tells (with_all x xs) old new o in
    subst P (sym same) (with_all_bad x xs old mid new r t u)

pub alone : {A B : Type 0} (xs : List (Checked A)) (old new : Faults) (all : Bool)
    → TellsAll xs old new all → Tells {A = B} (Bad (faults_of xs)) old new None
alone xs old new all t = record { first = t.first; answer = refl }

-- ---- paths

pub parts_told : {E : Type 0} (c : Standing) (node : Node) (seen : Seen) (g : E → ReadPart)
    (items : List E) (x : E) (xs : List E) (old new : Faults) (r : Option Judged) → items ≡ x ∷ xs
    → Tells (with_parts c node (map g items) (root_type c node seen)) old new r
    → Tells (seen_judged c node seen (map g items)) old new r
parts_told {E = E} c node seen g items x xs old new r is t =
    let P : List E → Type 0 = λ ys. Tells (seen_judged c node seen (map g ys)) old new r in
    let Q : List E → Type 0 =
    λ ys. Tells (with_parts c node (map g ys) (root_type c node seen)) old new r in
    subst P (sym is) (subst Q is t)
