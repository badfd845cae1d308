-- What is told of parts that stand together: the lemmas of faults, under names of this crate.
use Rattle.std.proofs.Common.{◌≡◌, ℕ, suc, ◌∷◌, [], ◌++◌, List, Bool, true, false, Option, Some, None, Ok, Err, IfOk, OnOk, refl, sym, ap, ◌∙◌, subst, length, nat_lt, ◌+◌, append_assoc}
use Rattle.std.proofs.lemmas.List.{length-append}
use Rattle.std.specs.Prelude.{if◌then◌else◌, Result}
use Rattle.std.proofs.lemmas.Bool.{false≢true}
use Rattle.link_faults.specs.declared.code.LinkCode.TheVariants as code
use Rattle.std.proofs.lemmas.Option.{none-some}
use Rattle.link_faults.specs.First.{after}
use Rattle.link_faults.specs.Checked.{Checked, Good, Bad, bind, both, Tells, faults, answer, unusable}
use Rattle.link_faults.specs.declared.fault.Faults.{Faults}
use Rattle.link_faults.specs.declared.fault.LinkFault.{LinkFault}
use Rattle.link_faults.proofs.Tells as told
use Rattle.expression_types.specs.Lists.{with_all, faults_of, are_good}
use Rattle.st_tree.specs.declared.node.Node.{Node}
use Rattle.st_tree.specs.declared.declaration.Range.{Range}
use Rattle.st_tree.specs.declared.declaration.Spec.{Spec, roll-Spec, fold-roll-Spec, map-Spec}
use Rattle.st_tree.specs.declared.declaration.Spec.TheVariants as specs
use denote.Hole.Carrier
use Rattle.st_tree.specs.declared.declaration.Spec.TheOpen.{Spec-F}
use Rattle.declared_types.specs.Around.{Around}
use Rattle.declared_types.specs.Ranges.{all_of, goods, wrong_at}
use Rattle.declared_types.specs.Specifications.{Made, MadeAt, made, made_in, dims_in, array, array_at, array_made, array_given, small_array, max_dims, too_many}
use Rattle.declared_types.specs.declared.given.Given.{Given}
use Rattle.declared_types.specs.declared.forms.Dim.{Dim}
use Rattle.declared_types.specs.declared.forms.ArrayForm.{ArrayForm}
use Rattle.declared_types.specs.declared.forms.Form.{Form}
use Rattle.declared_types.specs.BareForms.{BareForm, Array, bare_form, bare_forms}
use Rattle.declared_types.specs.steps.Telling.{on_both, TellsList, known_array, Makes, rows_of, given_of}

pub bind_some : {A B : Type 0} (x : Checked A) (k : A → Checked B) (old mid new : Faults) (a : A)
    (r : Option B) → Tells x old mid (Some a) → Tells (k a) mid new r → Tells (bind x k) old new r
bind_some = told.bind_some

pub bind_none : {A B : Type 0} (x : Checked A) (k : A → Checked B) (old new : Faults)
    → Tells x old new None → Tells (bind x k) old new None
bind_none = told.bind_none

pub both_some : {A B C : Type 0} (x : Checked A) (y : Checked B) (k : A → B → Checked C)
    (old mid mid' new : Faults) (a : A) (b : B) (r : Option C) → Tells x old mid (Some a)
    → Tells y mid mid' (Some b) → Tells (k a b) mid' new r → Tells (both x y k) old new r
both_some = told.both_some

pub both_left : {A B C : Type 0} (x : Checked A) (y : Checked B) (k : A → B → Checked C)
    (old mid new : Faults) (s : Option B) → Tells x old mid None → Tells y mid new s
    → Tells (both x y k) old new None
both_left = told.both_left

pub both_right : {A B C : Type 0} (x : Checked A) (y : Checked B) (k : A → B → Checked C)
    (old mid new : Faults) (a : A) → Tells x old mid (Some a) → Tells y mid new None
    → Tells (both x y k) old new None
both_right = told.both_right

-- a rule on the answers of two parts
pub both_of : {A B C : Type 0} (x : Checked A) (y : Checked B) (k : A → B → Checked C)
    (old mid mid' new : Faults) (a : Option A) (b : Option B) (r : Option C) → Tells x old mid a
    → Tells y mid mid' b → Tells (on_both a b k) mid' new r → Tells (both x y k) old new r
both_of x y k old mid mid' new (Some a) (Some b) r t u v =
    told.both_some x y k old mid mid' new a b r t u v
both_of {B = B} x y k old mid mid' new (Some a) None r t u v =
    let here : Tells (both x y k) old mid' None = told.both_right x y k old mid mid' a t u in
    record { first = v.first ∙ here.first; answer = v.answer ∙ here.answer }
both_of x y k old mid mid' new None b r t u v =
    let here : Tells (both x y k) old mid' None = told.both_left x y k old mid mid' b t u in
    record { first = v.first ∙ here.first; answer = v.answer ∙ here.answer }

-- ---- a rule beside one more part

no_more : {A : Type 0} (xs : List A) → xs ++ [] ≡ xs
no_more [] = refl
no_more (x ∷ xs) = ap (λ ys. x ∷ ys) (no_more xs)

pub beside : {A B : Type 0} (x : Checked A) (y : Checked B) (old mid new : Faults) (s : Option B)
    → Tells x old mid None → Tells y mid new s → Tells (with_all x (y ∷ [])) old new None
beside (Good a) y old mid new s t u = absurd (none-some a t.answer)
beside (Bad fs) (Good b) old mid new s t u =
    record {
      first = u.first ∙ t.first ∙ ap (after old) (sym (no_more fs));
      answer = refl;
    }
beside (Bad fs) (Bad gs) old mid new s t u =
    record {
      first = u.first ∙ ap (λ m. after m gs) t.first ∙ sym (told.after_append old fs gs)
          ∙ ap (λ hs. after old (fs ++ hs)) (sym (no_more gs));
      answer = refl;
    }

-- where the first part is told before
pub told_beside : {A B : Type 0} (fs : List LinkFault) (y : Checked B) (old mid new : Faults)
    (s : Option B) → Tells {A = A} (Bad fs) old mid None
    → Tells {A = A} (with_all unusable (y ∷ [])) mid new None
    → Tells {A = A} (with_all (Bad fs) (y ∷ [])) old new None
told_beside {A = A} fs y old mid new s t u =
    record {
      first = u.first ∙ ap (λ m. after m (faults_of (y ∷ []))) t.first
          ∙ sym (told.after_append old fs (faults_of (y ∷ [])));
      answer = refl;
    }

-- ---- arrays

good_have_none : {A : Type 0} (xs : List (Checked A)) → are_good xs ≡ true → faults_of xs ≡ []
good_have_none [] e = refl
good_have_none (Good a ∷ xs) e = good_have_none xs e
good_have_none (Bad fs ∷ xs) e = absurd (false≢true e)

all_told : {A : Type 0} (b : Bool) (xs : List (Checked A)) (old mid : Faults) (ds : Option (List A))
    → are_good xs ≡ b → TellsList xs old mid ds
    → ds ≡ answer (if b then Good (goods xs) else Bad (faults_of xs))
    → Tells (if b then Good (goods xs) else Bad (faults_of xs)) old mid ds
all_told true xs old mid ds e t same =
    record { first = t.first ∙ ap (after old) (good_have_none xs e); answer = same }
all_told false xs old mid ds e t same = record { first = t.first; answer = same }

pub list_told : {A : Type 0} (xs : List (Checked A)) (old mid : Faults) (ds : Option (List A))
    → TellsList xs old mid ds → Tells (all_of xs) old mid ds
list_told xs old mid ds t = all_told (are_good xs) xs old mid ds refl t t.list

many : (o : Around) (node : Node) (ranges : List Range) (element : Checked Given)
    (old mid mid' new : Faults) (ds : Option (List Dim)) (e : Option Given) (r : Option ArrayForm)
    → TellsList (dims_in o ranges) old mid ds → Tells element mid mid' e
    → Tells {A = ArrayForm} (wrong_at o node code.BadBound) mid' new r
    → Tells (too_many o node ranges element) old new r
many o node ranges element old mid mid' new ds e r t u v =
    let fs : List LinkFault = faults_of (dims_in o ranges) in
    let gs : List LinkFault = faults element in
    let hs : List LinkFault = faults {A = Given} (wrong_at o node code.BadBound) in
    record {
      first = v.first ∙ ap (λ m. after m hs) (u.first ∙ ap (λ m. after m gs) t.first)
          ∙ sym (told.after_append (after old fs) gs hs) ∙ sym (told.after_append old fs (gs ++ hs));
      answer = v.answer;
    }

by_dims : (b : Bool) (o : Around) (node : Node) (ranges : List Range) (element : Checked Given)
    (old mid mid' new : Faults) (ds : Option (List Dim)) (e : Option Given) (r : Option ArrayForm)
    → TellsList (dims_in o ranges) old mid ds → Tells element mid mid' e
    → Tells (if b then wrong_at o node code.BadBound else on_both ds e (small_array o node)) mid' new r
    → Tells (if b then too_many o node ranges element
    else both (all_of (dims_in o ranges)) element (small_array o node)) old new r
by_dims true o node ranges element old mid mid' new ds e r t u v =
    many o node ranges element old mid mid' new ds e r t u v
by_dims false o node ranges element old mid mid' new ds e r t u v =
    both_of (all_of (dims_in o ranges)) element (small_array o node) old mid mid' new ds e r
    (list_told (dims_in o ranges) old mid ds t) u v

array_told : (o : Around) (node : Node) (ranges : List Range) (n : ℕ)
    (element : Checked Given) (old mid mid' new : Faults) (ds : Option (List Dim)) (e : Option Given)
    (r : Option ArrayForm) → n ≡ length ranges → TellsList (dims_in o ranges) old mid ds
    → Tells element mid mid' e → Tells (known_array o node n ds e) mid' new r
    → Tells (array o node ranges element) old new r
array_told o node ranges n element old mid mid' new ds e r same t u v =
    by_dims (nat_lt max_dims (length ranges)) o node ranges element old mid mid' new ds e r t u
    (subst (λ (k : ℕ). Tells (known_array o node k ds e) mid' new r) same v)

-- ---- rows of the table of forms

pub bare_append : (forms more : List Form) → bare_forms (forms ++ more) ≡ bare_forms forms ++ bare_forms more
bare_append [] more = refl
bare_append (f ∷ forms) more = ap (λ fs. bare_form f ∷ fs) (bare_append forms more)

pub bare_length : (forms : List Form) → length (bare_forms forms) ≡ length forms
bare_length [] = refl
bare_length (f ∷ forms) = ap suc (bare_length forms)

at_number : (before : ℕ) (forms mid : List Form) (inner : List BareForm) → before ≡ length forms
    → bare_forms mid ≡ bare_forms forms ++ inner → length mid ≡ before + length inner
at_number before forms mid inner same is =
    sym (bare_length mid) ∙ ap length is ∙ length-append (bare_forms forms) inner
    ∙ ap (λ n. n + length inner) (bare_length forms ∙ sym same)

array_adds : (before : ℕ) (told : Checked ArrayForm) (forms mid : List Form) (inner : List BareForm)
    (old new : Faults) (r : Option ArrayForm) → Tells told old new r → before ≡ length forms
    → bare_forms mid ≡ bare_forms forms ++ inner
    → Makes (array_made before inner told) forms (mid ++ rows_of r) old new (given_of (length mid) r)
array_adds before (Good a) forms mid inner old new r t same is =
    record {
      told = record {
        first = t.first;
        answer = ap (given_of (length mid)) t.answer
            ∙ ap (λ n. Some (array_given n a)) (at_number before forms mid inner same is);
      };
      forms_are = ap (λ x. bare_forms (mid ++ rows_of x)) t.answer ∙ bare_append mid (rows_of (Some a))
          ∙ ap (λ fs. fs ++ (Array a ∷ [])) is ∙ append_assoc (bare_forms forms) inner (Array a ∷ []);
    }
array_adds before (Bad fs) forms mid inner old new r t same is =
    record {
      told = record { first = t.first; answer = ap (given_of (length mid)) t.answer };
      forms_are = ap (λ x. bare_forms (mid ++ rows_of x)) t.answer ∙ ap bare_forms (no_more mid) ∙ is;
    }

array_makes : (o : Around) (node : Node) (ranges : List Range) (n : ℕ) (element : Made)
    (before : ℕ) (forms mid_forms : List Form) (old f g new : Faults) (ds : Option (List Dim))
    (e : Option Given) (r : Option ArrayForm) → before ≡ length forms → n ≡ length ranges
    → TellsList (dims_in o ranges) old f ds → Makes element forms mid_forms f g e
    → Tells (known_array o node n ds e) g new r
    → Makes (array_at o node ranges before element) forms (mid_forms ++ rows_of r) old new
    (given_of (length mid_forms) r)
array_makes o node ranges n element before forms mid_forms old f g new ds e r same are t u v =
    array_adds before (array o node ranges element.told) forms mid_forms element.forms old new r
    (array_told o node ranges n element.told old f g new ds e r are t u.told v) same u.forms_are

array_ok_of : {E : Type 0} (o : Around) (node : Node) (ranges : List Range) (n : ℕ) (element : Made)
    (before : ℕ) (forms mid_forms new_forms : List Form) (result : Result (Option Given) E)
    (old f g new : Faults) (ds : Option (List Dim)) (e : Option Given) (r : Option ArrayForm)
    → before ≡ length forms → n ≡ length ranges
    → TellsList (dims_in o ranges) old f ds → Makes element forms mid_forms f g e
    → Tells (known_array o node n ds e) g new r
    → OnOk result (new_forms ≡ mid_forms ++ rows_of r)
    → IfOk result (λ it. it ≡ given_of (length mid_forms) r)
    → IfOk result (λ it. Makes (array_at o node ranges before element) forms new_forms old new it)
array_ok_of o node ranges n element before forms mid_forms new_forms (Ok it) old f g new ds e r same are t u v rows is =
    rw (rows, is)
    (array_makes o node ranges n element before forms mid_forms old f g new ds e r same are t u v)
array_ok_of o node ranges n element before forms mid_forms new_forms (Err x) old f g new ds e r same are t u v rows is =
    tt

-- as the code reads ranges and the element
pub array_ok : {E : Type 0} (o : Around) (node : Node) (ranges list : List Range) (n : ℕ)
    (at : Spec → Made) (inner read : Spec) (before : ℕ) (forms mid_forms new_forms : List Form)
    (result : Result (Option Given) E) (old f g new : Faults) (ds : Option (List Dim))
    (e : Option Given) (r : Option ArrayForm)
    → before ≡ length forms → list ≡ ranges → n ≡ length ranges → read ≡ inner
    → TellsList (dims_in o list) old f ds → Makes (at read) forms mid_forms f g e
    → Tells (known_array o node n ds e) g new r
    → OnOk result (new_forms ≡ mid_forms ++ rows_of r)
    → IfOk result (λ it. it ≡ given_of (length mid_forms) r)
    → IfOk result (λ it. Makes (array_at o node ranges before (at inner)) forms new_forms old new it)
array_ok o node ranges list n at inner read before forms mid_forms new_forms result old f g new ds e r same lists are reads t u v rows is =
    array_ok_of o node ranges n (at inner) before forms mid_forms new_forms result old f g new ds e r
    same are (subst (λ (x : List Range). TellsList (dims_in o x) old f ds) lists t)
    (subst (λ (x : Spec). Makes (at x) forms mid_forms f g e) reads u) v rows is

rolled : (o : Around) (y : Spec-F Spec) → made o (roll-Spec y) ≡ made_in o (map-Spec Spec MadeAt (made o) y)
unfolding made
rolled o y = fold-roll-Spec MadeAt (made_in o) y

made_array : (o : Around) (node : Node) (ranges : List Range) (element : Spec) (b : Bool) (before : ℕ)
    → made o (specs.Array node ranges element) b before
    ≡ array_at o node ranges before (made o element false before)
unfolding roll-Spec Carrier.roll
made_array o node ranges element b before =
    ap (λ (f : MadeAt). f b before) (rolled o (Spec-F.Array node ranges element))

pub array_spec_ok : {E : Type 0} (o : Around) (spec : Spec) (b : Bool) (node : Node)
    (ranges list : List Range) (n : ℕ) (inner read : Spec) (before : ℕ)
    (forms mid_forms new_forms : List Form)
    (result : Result (Option Given) E) (old f g new : Faults) (ds : Option (List Dim))
    (e : Option Given) (r : Option ArrayForm)
    → spec ≡ specs.Array node ranges inner
    → before ≡ length forms → list ≡ ranges → n ≡ length ranges → read ≡ inner
    → TellsList (dims_in o list) old f ds → Makes (made o read false before) forms mid_forms f g e
    → Tells (known_array o node n ds e) g new r
    → OnOk result (new_forms ≡ mid_forms ++ rows_of r)
    → IfOk result (λ it. it ≡ given_of (length mid_forms) r)
    → IfOk result (λ it. Makes (made o spec b before) forms new_forms old new it)
array_spec_ok {E = E} o spec b node ranges list n inner read before forms mid_forms new_forms result old f g new ds e r is same lists are reads t u v rows gives =
    let P : Made → Type 0 = λ m. IfOk result (λ it. Makes m forms new_forms old new it) in
    subst P (sym (ap (λ (s : Spec). made o s b before) is ∙ made_array o node ranges inner b before))
    (array_ok o node ranges list n (λ s. made o s false before) inner read before forms mid_forms
    new_forms result old f g new ds e r same lists are reads t u v rows gives)
