-- What is told of parts that stand together. With these five lemmas code that asks one rule after the
-- other is proved against `bind` and `both`.
use Rattle.std.proofs.Common.{◌≡◌, List, [], ◌∷◌, ◌++◌, Option, Some, None, refl, sym, ap, ◌∙◌, subst}
use Rattle.std.proofs.lemmas.Option.{none-some, same_Some}
use Rattle.link_faults.specs.First.{after, noted}
use Rattle.link_faults.specs.Checked.{Checked, Good, Bad, faults, answer, bind, both, Tells}
use Rattle.link_faults.specs.declared.fault.LinkFault.{LinkFault}
use Rattle.link_faults.specs.declared.fault.Faults.{Faults}

pub after_append : (old : Faults) (fs gs : List LinkFault)
    → after old (fs ++ gs) ≡ after (after old fs) gs
after_append old [] gs = refl
after_append old (f ∷ fs) gs = after_append (noted old f) fs gs

-- where an answer came, the part is good
pub is_good : {A : Type 0} (x : Checked A) (a : A) → Some a ≡ answer x → x ≡ Good a
is_good (Good b) a e = ap Good (sym (same_Some a b e))
is_good (Bad fs) a e = absurd (none-some a (sym e))

pub is_bad : {A : Type 0} (x : Checked A) → None ≡ answer x → x ≡ Bad (faults x)
is_bad (Good b) e = absurd (none-some b e)
is_bad (Bad fs) e = refl

pub bind_some : {A B : Type 0} (x : Checked A) (k : A → Checked B) (old mid new : Faults) (a : A)
    (r : Option B) → Tells x old mid (Some a) → Tells (k a) mid new r → Tells (bind x k) old new r
bind_some {A = A} (Good b) k old mid new a r t u =
    let e : a ≡ b = same_Some a b t.answer in
    let P : A → Type 0 = λ c. Tells (k c) old new r in
    subst P e (let Q : Faults → Type 0 = λ m. Tells (k a) m new r in subst Q t.first u)
bind_some (Bad fs) k old mid new a r t u = absurd (none-some a (sym t.answer))

pub bind_none : {A B : Type 0} (x : Checked A) (k : A → Checked B) (old new : Faults)
    → Tells x old new None → Tells (bind x k) old new None
bind_none (Good b) k old new t = absurd (none-some b t.answer)
bind_none (Bad fs) k old new t = record { first = t.first; answer = refl }

pub both_some : {A B C : Type 0} (x : Checked A) (y : Checked B) (k : A → B → Checked C)
    (old mid mid' new : Faults) (a : A) (b : B) (r : Option C) → Tells x old mid (Some a)
    → Tells y mid mid' (Some b) → Tells (k a b) mid' new r → Tells (both x y k) old new r
both_some {A = A} (Good a') y k old mid mid' new a b r t u v =
    let e : a ≡ a' = same_Some a a' t.answer in
    let P : A → Type 0 = λ c. Tells (bind y (k c)) old new r in
    subst P e (bind_some y (k a) old mid' new b r
    (let Q : Faults → Type 0 = λ m. Tells y m mid' (Some b) in subst Q t.first u) v)
both_some (Bad fs) y k old mid mid' new a b r t u v = absurd (none-some a (sym t.answer))

pub both_left : {A B C : Type 0} (x : Checked A) (y : Checked B) (k : A → B → Checked C)
    (old mid new : Faults) (s : Option B) → Tells x old mid None → Tells y mid new s
    → Tells (both x y k) old new None
both_left (Good a') y k old mid new s t u = absurd (none-some a' t.answer)
both_left (Bad fs) y k old mid new s t u =
    record {
      first = u.first ∙ ap (λ m. after m (faults y)) t.first ∙ sym (after_append old fs (faults y));
      answer = refl;
    }

pub both_right : {A B C : Type 0} (x : Checked A) (y : Checked B) (k : A → B → Checked C)
    (old mid new : Faults) (a : A) → Tells x old mid (Some a) → Tells y mid new None
    → Tells (both x y k) old new None
both_right (Good a') y k old mid new a t u =
    bind_none y (k a') old new (let Q : Faults → Type 0 = λ m. Tells y m new None in subst Q t.first u)
both_right (Bad fs) y k old mid new a t u = absurd (none-some a (sym t.answer))
