-- What is told of parts that stand together: the lemmas of faults, under names of this crate.
use Rattle.std.proofs.Common.{◌≡◌, List, ◌++◌, Option, Some, None, sym, ap, ◌∙◌, subst}
use Rattle.std.proofs.lemmas.Option.{none-some, same_Some}
use Rattle.link_faults.specs.First.{after}
use Rattle.link_faults.specs.Checked.{Checked, Good, Bad, faults, answer, bind, both, Tells}
use Rattle.link_faults.specs.declared.fault.LinkFault.{LinkFault}
use Rattle.link_faults.specs.declared.fault.Faults.{Faults}
use Rattle.link_faults.proofs.Tells as told
use Rattle.body_rules.specs.Told.{followed}
use Rattle.body_rules.specs.steps.Both.{of_both}

pub after_append : (old : Faults) (fs gs : List LinkFault)
    → after old (fs ++ gs) ≡ after (after old fs) gs
after_append = told.after_append

-- two lists, one after the other
pub noted_both : (fs gs : List LinkFault) (old mid new : Faults)
    → mid ≡ after old fs → new ≡ after mid gs → new ≡ after old (fs ++ gs)
noted_both fs gs old mid new h k =
    k ∙ ap (λ m. after m gs) h ∙ sym (told.after_append old fs gs)

pub bind_some : {A B : Type 0} (x : Checked A) (k : A → Checked B) (old mid new : Faults) (a : A)
    (r : Option B) → Tells x old mid (Some a) → Tells (k a) mid new r → Tells (bind x k) old new r
bind_some = told.bind_some

pub bind_none : {A B : Type 0} (x : Checked A) (k : A → Checked B) (old new : Faults)
    → Tells x old new None → Tells (bind x k) old new None
bind_none = told.bind_none

pub bound : {A B : Type 0} (x : Checked A) (k : A → Checked B) (old mid new : Faults) (a : A)
    (o : Option A) (r : Option B) → Tells x old mid o → o ≡ Some a → Tells (k a) mid new r
    → Tells (bind x k) old new r
bound {A = A} x k old mid new a o r t some u =
    let P : Option A → Type 0 = λ s. Tells x old mid s in
    told.bind_some x k old mid new a r (subst P some t) u

-- a rule on the answers of two parts
pub both_of : {A B C : Type 0} (x : Checked A) (y : Checked B) (k : A → B → Checked C)
    (old mid mid' new : Faults) (a : Option A) (b : Option B) (r : Option C) → Tells x old mid a
    → Tells y mid mid' b → Tells (of_both a b k) mid' new r → Tells (both x y k) old new r
both_of x y k old mid mid' new (Some a) (Some b) r t u v =
    told.both_some x y k old mid mid' new a b r t u v
both_of {B = B} x y k old mid mid' new (Some a) None r t u v =
    let here : Tells (both x y k) old mid' None = told.both_right x y k old mid mid' a t u in
    record { first = v.first ∙ here.first; answer = v.answer ∙ here.answer }
both_of x y k old mid mid' new None b r t u v =
    let here : Tells (both x y k) old mid' None = told.both_left x y k old mid mid' b t u in
    record { first = v.first ∙ here.first; answer = v.answer ∙ here.answer }

-- what depends on a part's answer, behind the part's own faults
pub answered : {A : Type 0} (x : Checked A) (rest : Option A → List LinkFault) (old mid new : Faults)
    (a : Option A) → Tells x old mid a → new ≡ after mid (rest a)
    → new ≡ after old (faults x ++ rest (answer x))
answered x rest old mid new a t is =
    is ∙ ap (λ m. after m (rest a)) t.first ∙ ap (λ b. after (after old (faults x)) (rest b)) t.answer
    ∙ sym (told.after_append old (faults x) (rest (answer x)))

pub followed_some : {A : Type 0} (x : Checked A) (rule : A → List LinkFault) (others : List LinkFault)
    (old mid new : Faults) (a : A) → Tells x old mid (Some a) → new ≡ after mid (rule a)
    → new ≡ after old (followed x rule others)
followed_some (Good b) rule others old mid new a t is =
    is ∙ ap (λ m. after m (rule a)) t.first ∙ ap (λ c. after old (rule c)) (same_Some a b t.answer)
followed_some (Bad fs) rule others old mid new a t is = absurd (none-some a (sym t.answer))

bad_others : {A : Type 0} (x : Checked A) (rule : A → List LinkFault) (others : List LinkFault)
    (old mid new : Faults) → Tells x old mid None → new ≡ after mid others
    → new ≡ after old (followed x rule others)
bad_others (Good b) rule others old mid new t is = absurd (none-some b t.answer)
bad_others (Bad fs) rule others old mid new t is =
    is ∙ ap (λ m. after m others) t.first ∙ sym (told.after_append old fs others)

pub followed_none : {A : Type 0} (x : Checked A) (rule : A → List LinkFault) (others : List LinkFault)
    (old mid new : Faults) (r : Option A) → Tells x old mid r → r ≡ None → new ≡ after mid others
    → new ≡ after old (followed x rule others)
followed_none {A = A} x rule others old mid new r t none is =
    let P : Option A → Type 0 = λ s. Tells x old mid s in
    bad_others x rule others old mid new (subst P none t) is
