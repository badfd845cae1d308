-- Loops over parts that stand side by side, and over parts of which each is a part of the one before.
use Rattle.std.proofs.Common.{◌≡◌, ℕ, suc, ◌+◌, ◌<◌, ◌≤◌, Bool, true, false, ◌&&◌, List, [], ◌∷◌, length, get_or, drop, map, Option, Some, None, refl, sym, ap, ◌∙◌, subst, add-one, drop-cons}
use Rattle.std.proofs.lemmas.List.{drop_all}
use Rattle.std.proofs.lemmas.Option.{none-some}
use Rattle.st_tree.specs.declared.node.Node.{Node}
use Rattle.link_faults.specs.First.{after}
use Rattle.link_faults.specs.Checked.{Checked, Good, Bad, faults, answer, bind, both, Tells}
use Rattle.link_faults.specs.declared.fault.Faults.{Faults}
use Rattle.link_faults.proofs.Tells.{after_append}
use Rattle.expression_types.specs.Lists.{are_good, faults_of, TellsAll}
use Rattle.expression_types.specs.steps.Several.{still_good}
use Rattle.expression_types.specs.Reads.{ReadPart, part_of, walk}
use Rattle.expression_types.specs.declared.meaning.ValueType.{ValueType}

pub cut : {E : Type 0} (items : List E) (i : ℕ) (e : E) → i < length items → e ≡ get_or items i e
    → drop i items ≡ e ∷ drop (i + 1) items
cut items i e lt is = rw add-one (drop-cons items i e lt ∙ ap (λ y. y ∷ drop (suc i) items) (sym is))

-- ---- side by side

-- what is told of all is what is told of those that are left, after what is known of the others
pub record LeftOf {A : Type 0} (xs ys : List (Checked A)) (old mid : Faults) (so_far : Bool)
    : Type 0 where
  pub first : after old (faults_of xs) ≡ after mid (faults_of ys)
  pub all : are_good xs ≡ (so_far && are_good ys)

pub and_true : (b : Bool) → (b && true) ≡ b
and_true true = refl
and_true false = refl

and_false : (b : Bool) → (b && false) ≡ false
and_false true = refl
and_false false = refl

next_good : {A : Type 0} (xs ys : List (Checked A)) (y : Checked A) (old mid new : Faults) (all : Bool)
    (a : A) → LeftOf xs (y ∷ ys) old mid all → Tells y mid new (Some a) → LeftOf xs ys old new all
next_good xs ys (Good b) old mid new all a left t =
    record {
      first = left.first ∙ ap (λ m. after m (faults_of ys)) (sym t.first);
      all = left.all;
    }
next_good xs ys (Bad fs) old mid new all a left t = absurd (none-some a (sym t.answer))

next_bad : {A : Type 0} (xs ys : List (Checked A)) (y : Checked A) (old mid new : Faults) (all : Bool)
    → LeftOf xs (y ∷ ys) old mid all → Tells y mid new None → LeftOf xs ys old new false
next_bad xs ys (Good b) old mid new all left t = absurd (none-some b t.answer)
next_bad xs ys (Bad fs) old mid new all left t =
    record {
      first = left.first ∙ after_append mid fs (faults_of ys)
          ∙ ap (λ m. after m (faults_of ys)) (sym t.first);
      all = left.all ∙ and_false all;
    }

pub next_told : {A : Type 0} (xs ys : List (Checked A)) (y : Checked A) (old mid new : Faults) (all : Bool)
    (r : Option A) → LeftOf xs (y ∷ ys) old mid all → Tells y mid new r
    → LeftOf xs ys old new (still_good all r)
next_told xs ys y old mid new all (Some a) left t = next_good xs ys y old mid new all a left t
next_told xs ys y old mid new all None left t = next_bad xs ys y old mid new all left t

pub told_step : {E R A : Type 0} (f : R → Checked A) (g : E → R) (items : List E) (i : ℕ) (e : E)
    (old mid new : Faults) (all next : Bool) (r : Option A) → i < length items → e ≡ get_or items i e
    → LeftOf (map f (map g items)) (map f (map g (drop i items))) old mid all
    → Tells (f (g e)) mid new r → next ≡ still_good all r
    → LeftOf (map f (map g items)) (map f (map g (drop (i + 1) items))) old new next
told_step {A = A} f g items i e old mid new all next r lt is left t same =
    let P : List (Checked A) → Type 0 = λ ys. LeftOf (map f (map g items)) ys old mid all in
    let Q : Bool → Type 0 =
    λ b. LeftOf (map f (map g items)) (map f (map g (drop (i + 1) items))) old new b in
    subst Q (sym same)
    (next_told (map f (map g items)) (map f (map g (drop (i + 1) items))) (f (g e)) old mid new all r
    (subst P (ap (λ ys. map f (map g ys)) (cut items i e lt is)) left) t)

pub all_end : {E R A : Type 0} (f : R → Checked A) (g : E → R) (items : List E) (i : ℕ)
    (old new : Faults) (all : Bool) → length items ≤ i
    → LeftOf (map f (map g items)) (map f (map g (drop i items))) old new all
    → TellsAll (map f (map g items)) old new all
all_end {A = A} f g items i old new all le left =
    let P : List (Checked A) → Type 0 = λ ys. LeftOf (map f (map g items)) ys old new all in
    let done = subst P (ap (λ ys. map f (map g ys)) (drop_all i items le)) left in
    record { first = sym done.first; all = sym (done.all ∙ and_true all) }

-- ---- one a part of the other

-- what is told of the whole is what is told of the rest, after what is known of the first ones
pub record LeftTo {A : Type 0} (x y : Checked A) (old mid : Faults) : Type 0 where
  pub first : after old (faults x) ≡ after mid (faults y)
  pub answer : answer x ≡ answer y

bind_same : {A : Type 0} (y : Checked A) → bind y (λ (a : A). Good a) ≡ y
bind_same (Good a) = refl
bind_same (Bad fs) = refl

walk_none : (node : Node) (parts : List ReadPart) → answer (walk node parts None) ≡ None
walk_none node [] = refl
walk_none node (part ∷ parts) = refl

next_part : (x p : Checked ValueType) (node : Node) (parts : List ReadPart) (old mid new : Faults)
    (r : Option ValueType)
    → LeftTo x (both p (walk node parts (answer p)) (λ t last. Good last)) old mid
    → Tells p mid new r → LeftTo x (walk node parts r) old new
next_part x (Good t) node parts old mid new r left told =
    let same : bind (walk node parts (Some t)) (λ (last : ValueType). Good last)
    ≡ walk node parts (Some t) = bind_same (walk node parts (Some t)) in
    let here : LeftTo x (walk node parts (Some t)) old new =
    record {
      first = left.first ∙ ap (λ y. after mid (faults y)) same
          ∙ ap (λ m. after m (faults (walk node parts (Some t)))) (sym told.first);
      answer = left.answer ∙ ap answer same;
    } in
    let P : Option ValueType → Type 0 = λ s. LeftTo x (walk node parts s) old new in
    subst P (sym told.answer) here
next_part x (Bad fs) node parts old mid new r left told =
    let here : LeftTo x (walk node parts None) old new =
    record {
      first = left.first ∙ after_append mid fs (faults (walk node parts None))
          ∙ ap (λ m. after m (faults (walk node parts None))) (sym told.first);
      answer = left.answer ∙ sym (walk_none node parts);
    } in
    let P : Option ValueType → Type 0 = λ s. LeftTo x (walk node parts s) old new in
    subst P (sym told.answer) here

pub part_step : {E : Type 0} (x : Checked ValueType) (g : E → ReadPart) (node : Node) (items : List E)
    (i : ℕ) (e : E) (before : Option ValueType) (old mid new : Faults) (r : Option ValueType)
    → i < length items → e ≡ get_or items i e
    → LeftTo x (walk node (map g (drop i items)) before) old mid
    → Tells (part_of (g e) node before) mid new r
    → LeftTo x (walk node (map g (drop (i + 1) items)) r) old new
part_step x g node items i e before old mid new r lt is left t =
    let P : List ReadPart → Type 0 = λ ys. LeftTo x (walk node ys before) old mid in
    next_part x (part_of (g e) node before) node (map g (drop (i + 1) items)) old mid new r
    (subst P (ap (map g) (cut items i e lt is)) left) t

last_part : (x : Checked ValueType) (node : Node) (old new : Faults) (r : Option ValueType)
    → LeftTo x (walk node [] r) old new → Tells x old new r
last_part x node old new None left = record { first = sym left.first; answer = sym left.answer }
last_part x node old new (Some t) left = record { first = sym left.first; answer = sym left.answer }

pub part_end : {E : Type 0} (x : Checked ValueType) (g : E → ReadPart) (node : Node) (items : List E)
    (i : ℕ) (old new : Faults) (r : Option ValueType) → length items ≤ i
    → LeftTo x (walk node (map g (drop i items)) r) old new → Tells x old new r
part_end x g node items i old new r le left =
    let P : List ReadPart → Type 0 = λ ys. LeftTo x (walk node ys r) old new in
    last_part x node old new r (subst P (ap (map g) (drop_all i items le)) left)
