-- What lists of rows hold, and what they hold after a change at the place that was found.
use Rattle.std.proofs.Common.{◌≡◌, ℕ, zero, suc, ◌+◌, ◌-◌, ◌^◌, ◌<◌, ◌≤◌, Bool, true, false, ◌&&◌, cond, List, [], ◌∷◌, ◌++◌, length, map, arith, refl, sym, subst, ap, ◌∙◌, Some, None}
use Rattle.std.specs.Prelude.{◌||◌, not, slice_get, slice_set, Option, option_map, Result, Ok, Err, OnOk, OnErr, bytes_eq, min, IsSomeAnd}
use Rattle.std.specs.List.{list_all, list_any, find, position_or_len, sum_by}
use Rattle.std.proofs.lemmas.Slice.Eq.{bytes_eq-Decides}
use Rattle.project_keeper.specs.declared.edit.Edit.{Edit}
use Rattle.project_keeper.specs.declared.rows.ProjectRow.{ProjectRow}
use Rattle.project_keeper.specs.declared.rows.CallerRows.{CallerRows}
use Rattle.project_keeper.specs.Names.{is_name}
use Rattle.project_keeper.specs.Projects.{Rows, is_lawful, is_named, edits_of, with_edit, with_project, changed_for}
use Rattle.project_keeper.specs.Keeping.{max_edits, are_lawful_edits, is_lawful_project, is_lawful_caller, are_lawful, is_caller, own_of, HasRoom}

pub both_true : (a b : Bool) → (a && b) ≡ true → (a ≡ true) × (b ≡ true)
both_true true b h = (refl, h)
both_true false b h = cc

pub and_is_true : (a b : Bool) → a ≡ true → b ≡ true → (a && b) ≡ true
and_is_true true b h k = k
and_is_true false b h k = h

pub either_way : {T E A B C : Type 0} (answer : Result T E) → OnOk answer A → OnErr answer B → (A → C) → (B → C) → C
either_way (Ok x) a b f g = f a
either_way (Err e) a b f g = g b

pub on_ok_by : {T E A B : Type 0} (answer : Result T E) → OnOk answer A → (A → B) → OnOk answer B
on_ok_by (Ok x) a f = f a
on_ok_by (Err e) a f = tt

pub on_err_by : {T E A B : Type 0} (answer : Result T E) → OnErr answer A → (A → B) → OnErr answer B
on_err_by (Ok x) a f = tt
on_err_by (Err e) a f = f a

bytes_same : (xs ys : List ℕ) → bytes_eq xs ys ≡ true → xs ≡ ys
bytes_same xs ys h = (bytes_eq-Decides xs ys).0 h

bytes_are : (xs ys : List ℕ) → xs ≡ ys → bytes_eq xs ys ≡ true
bytes_are xs ys h = (bytes_eq-Decides xs ys).1 h

-- ---- the first that passes, at its place

abbrev pub IsFirstAt : {X : Type 0} → (X → Bool) → List X → ℕ → X → Type 0
IsFirstAt test [] n x = ⊥
IsFirstAt test (y ∷ ys) zero x = (test y ≡ true) × (y ≡ x)
IsFirstAt test (y ∷ ys) (suc n) x = (test y ≡ false) × IsFirstAt test ys n x

some_same : {X : Type 0} (x y : X) → Some x ≡ Some y → x ≡ y
some_same {X} x y e = ap (λ (o : Option X). get o) e
  where
    get : Option X → X
    get None = x
    get (Some z) = z

behind : (n : ℕ) → 1 + n ≡ suc n
behind n = omega arith

pub first_at : {X : Type 0} (test : X → Bool) (xs : List X) (n : ℕ) (x : X) → n ≡ position_or_len test xs → slice_get xs n ≡ Some x → IsFirstAt test xs n x
first_at test [] n x e g = cc
first_at {X} test (y ∷ ys) n x e g = step (test y) refl (λ k i h. first_at test ys k x i h) e
  where
    step : (b : Bool) → test y ≡ b → ((k : ℕ) → k ≡ position_or_len test ys → slice_get ys k ≡ Some x → IsFirstAt test ys k x) → n ≡ cond (not b) (1 + position_or_len test ys) 0 → IsFirstAt test (y ∷ ys) n x
    step true is ih at = subst (λ (k : ℕ). IsFirstAt test (y ∷ ys) k x) (sym at) (is, some_same y x (subst (λ (k : ℕ). slice_get (y ∷ ys) k ≡ Some x) at g))
    step false is ih at =
        let place : n ≡ suc (position_or_len test ys) = at ∙ behind (position_or_len test ys) in
        subst (λ (k : ℕ). IsFirstAt test (y ∷ ys) k x) (sym place) (is, ih (position_or_len test ys) refl (subst (λ (k : ℕ). slice_get (y ∷ ys) k ≡ Some x) place g))

pub nowhere : {X : Type 0} (test : X → Bool) (xs : List X) → length xs ≤ position_or_len test xs → list_any test xs ≡ false
nowhere test [] h = refl
nowhere {X} test (x ∷ xs) h = step (test x) (nowhere test xs) h
  where
    step : (b : Bool) → (length xs ≤ position_or_len test xs → list_any test xs ≡ false) → length (x ∷ xs) ≤ cond (not b) (1 + position_or_len test xs) 0 → (b || list_any test xs) ≡ false
    step true ih h = absurd (omega arith)
    step false ih h = ih (omega arith)

pub set_same : {X : Type 0} (test : X → Bool) (xs : List X) (n : ℕ) (x : X) → IsFirstAt test xs n x → slice_set xs n x ≡ xs
set_same test [] n x h = absurd h
set_same test (y ∷ ys) zero x h = ap (λ (z : _). z ∷ ys) (sym h.1)
set_same test (y ∷ ys) (suc n) x h = ap (λ (zs : List _). y ∷ zs) (set_same test ys n x h.1)

-- the edits of the first project where it passes, and else those among the others
abbrev edits_in : Bool → ProjectRow → List ℕ → List ProjectRow → Option (List Edit)
edits_in b p name ps = option_map (λ (project : ProjectRow). project.edits) (cond b (Some p) (find (is_named name) ps))

-- ---- what holds of all

pub all_set : {X : Type 0} (p : X → Bool) (xs : List X) (n : ℕ) (y : X) → list_all p xs ≡ true → p y ≡ true → list_all p (slice_set xs n y) ≡ true
all_set p [] n y h k = refl
all_set p (x ∷ xs) zero y h k = and_is_true (p y) (list_all p xs) k (both_true (p x) (list_all p xs) h).1
all_set p (x ∷ xs) (suc n) y h k =
    let b = both_true (p x) (list_all p xs) h in
    and_is_true (p x) (list_all p (slice_set xs n y)) b.0 (all_set p xs n y b.1 k)

pub all_at : {X : Type 0} (p test : X → Bool) (xs : List X) (n : ℕ) (x : X) → IsFirstAt test xs n x → list_all p xs ≡ true → p x ≡ true
all_at p test [] n x f h = absurd f
all_at p test (y ∷ ys) zero x f h = subst (λ (z : _). p z ≡ true) f.1 (both_true (p y) (list_all p ys) h).0
all_at p test (y ∷ ys) (suc n) x f h = all_at p test ys n x f.1 (both_true (p y) (list_all p ys) h).1

pub all_push : {X : Type 0} (p : X → Bool) (xs : List X) (y : X) → list_all p xs ≡ true → p y ≡ true → list_all p (xs ++ y ∷ []) ≡ true
all_push p [] y h k = and_is_true (p y) true k refl
all_push p (x ∷ xs) y h k =
    let b = both_true (p x) (list_all p xs) h in
    and_is_true (p x) (list_all p (xs ++ y ∷ [])) b.0 (all_push p xs y b.1 k)

pub names_lawful : (projects : List ProjectRow) → list_all is_lawful_project projects ≡ true → list_all is_name (map (λ project. project.name) projects) ≡ true
names_lawful [] h = refl
names_lawful (p ∷ ps) h =
    let b = both_true (is_lawful_project p) (list_all is_lawful_project ps) h in
    and_is_true (is_name p.name) (list_all is_name (map (λ (project : ProjectRow). project.name) ps)) (both_true (is_name p.name) (are_lawful_edits p.edits) b.0).0 (names_lawful ps b.1)

pub edits_lawful : (name : List ℕ) (projects : List ProjectRow) (edits : List Edit) → edits_of name projects ≡ Some edits → list_all is_lawful_project projects ≡ true → are_lawful_edits edits ≡ true
edits_lawful name [] edits e h = cc
edits_lawful name (p ∷ ps) edits e h = step (is_named name p) (edits_lawful name ps edits) e
  where
    b : (is_lawful_project p ≡ true) × (list_all is_lawful_project ps ≡ true)
    b = both_true (is_lawful_project p) (list_all is_lawful_project ps) h

    step : (t : Bool) → (edits_of name ps ≡ Some edits → list_all is_lawful_project ps ≡ true → are_lawful_edits edits ≡ true)
        → edits_in t p name ps ≡ Some edits → are_lawful_edits edits ≡ true
    step true ih e = subst (λ (es : List Edit). are_lawful_edits es ≡ true) (some_same p.edits edits e) (both_true (is_name p.name) (are_lawful_edits p.edits) b.0).1
    step false ih e = ih e b.1

-- ---- the rows of a caller at a place

pub own_at : (name : List ℕ) (callers : List CallerRows) (n : ℕ) (caller : CallerRows) → IsFirstAt (is_caller name) callers n caller → own_of callers name ≡ caller.projects
own_at name [] n caller h = absurd h
own_at name (c ∷ cs) zero caller h = ap (λ b. cond b c.projects (own_of cs name)) h.0 ∙ ap (λ (x : CallerRows). x.projects) h.1
own_at name (c ∷ cs) (suc n) caller h = ap (λ b. cond b c.projects (own_of cs name)) h.0 ∙ own_at name cs n caller h.1

pub own_nowhere : (name : List ℕ) (callers : List CallerRows) → list_any (is_caller name) callers ≡ false → own_of callers name ≡ []
own_nowhere name [] h = refl
own_nowhere name (c ∷ cs) h = step (is_caller name c) (own_nowhere name cs) h
  where
    step : (b : Bool) → (list_any (is_caller name) cs ≡ false → own_of cs name ≡ []) → (b || list_any (is_caller name) cs) ≡ false → cond b c.projects (own_of cs name) ≡ []
    step true ih h = cc
    step false ih h = ih h

-- of a caller of another name the rows stand before what is changed behind it
passed : (name other : List ℕ) (c : CallerRows) (ps own new : List ProjectRow) → is_caller name c ≡ false → new ≡ cond (bytes_eq name other) ps own
    → cond (bytes_eq c.name other) c.projects new ≡ cond (bytes_eq name other) ps (cond (bytes_eq c.name other) c.projects own)
passed name other c ps own new n e = step (bytes_eq c.name other) refl (bytes_eq name other) refl
  where
    step : (b : Bool) → bytes_eq c.name other ≡ b → (d : Bool) → bytes_eq name other ≡ d → cond b c.projects new ≡ cond d ps (cond b c.projects own)
    step true is true same =
        let wrong : is_caller name c ≡ true = bytes_are c.name name (bytes_same c.name other is ∙ sym (bytes_same name other same)) in cc
    step true is false same = refl
    step false is true same = e ∙ ap (λ b. cond b ps own) same
    step false is false same = e ∙ ap (λ b. cond b ps own) same

pub own_set : (name : List ℕ) (callers : List CallerRows) (n : ℕ) (caller : CallerRows) (ps : List ProjectRow) (other : List ℕ) → IsFirstAt (is_caller name) callers n caller
    → own_of (slice_set callers n (record { name = caller.name; projects = ps })) other ≡ cond (bytes_eq name other) ps (own_of callers other)
own_set name [] n caller ps other h = absurd h
own_set name (c ∷ cs) zero caller ps other h =
    subst (λ (at : List ℕ). cond (bytes_eq at other) ps (own_of cs other) ≡ cond (bytes_eq name other) ps (cond (bytes_eq c.name other) c.projects (own_of cs other)))
    (ap (λ (x : CallerRows). x.name) h.1)
    (subst (λ (at : List ℕ). cond (bytes_eq c.name other) ps (own_of cs other) ≡ cond (bytes_eq at other) ps (cond (bytes_eq c.name other) c.projects (own_of cs other))) (bytes_same c.name name h.0) (step (bytes_eq c.name other)))
  where
    step : (b : Bool) → cond b ps (own_of cs other) ≡ cond b ps (cond b c.projects (own_of cs other))
    step true = refl
    step false = refl
own_set name (c ∷ cs) (suc n) caller ps other h =
    passed name other c ps (own_of cs other) (own_of (slice_set cs n (record { name = caller.name; projects = ps })) other) h.0 (own_set name cs n caller ps other h.1)

either_false : (a b : Bool) → (a || b) ≡ false → (a ≡ false) × (b ≡ false)
either_false true b h = cc
either_false false b h = (refl, h)

pub own_push : (name : List ℕ) (callers : List CallerRows) (ps : List ProjectRow) (other : List ℕ) → list_any (is_caller name) callers ≡ false
    → own_of (callers ++ (record { name = name; projects = ps }) ∷ []) other ≡ cond (bytes_eq name other) ps (own_of callers other)
own_push name [] ps other h = refl
own_push name (c ∷ cs) ps other h =
    let b = either_false (is_caller name c) (list_any (is_caller name) cs) h in
    passed name other c ps (own_of cs other) (own_of (cs ++ (record { name = name; projects = ps }) ∷ []) other) b.0 (own_push name cs ps other b.1)

-- where the caller's own rows were changed, the rows of all are the changed ones
pub changed_rows : (name : List ℕ) (callers : List CallerRows) (change : List ProjectRow → List ProjectRow) (other : List ℕ) (ps : List ProjectRow) → ps ≡ change (own_of callers name)
    → cond (bytes_eq name other) ps (own_of callers other) ≡ changed_for name change (own_of callers) other
changed_rows name callers change other ps e = step (bytes_eq name other) refl
  where
    step : (b : Bool) → bytes_eq name other ≡ b → cond b ps (own_of callers other) ≡ cond b (change (own_of callers other)) (own_of callers other)
    step true is = e ∙ ap (λ (at : List ℕ). change (own_of callers at)) (bytes_same name other is)
    step false is = refl

-- ---- the edits of a project at a place

pub edits_at : (name : List ℕ) (projects : List ProjectRow) (n : ℕ) (project : ProjectRow) → IsFirstAt (is_named name) projects n project → edits_of name projects ≡ Some project.edits
edits_at name [] n project h = absurd h
edits_at name (p ∷ ps) zero project h = ap (λ b. edits_in b p name ps) h.0 ∙ ap (λ (x : ProjectRow). Some x.edits) h.1
edits_at name (p ∷ ps) (suc n) project h = ap (λ b. edits_in b p name ps) h.0 ∙ edits_at name ps n project h.1

pub edit_set : (name : List ℕ) (edit : Edit) (projects : List ProjectRow) (n : ℕ) (project : ProjectRow) → IsFirstAt (is_named name) projects n project
    → slice_set projects n (record { name = project.name; edits = project.edits ++ edit ∷ [] }) ≡ with_edit name edit projects
edit_set name edit [] n project h = absurd h
edit_set name edit (p ∷ ps) zero project h =
    sym (ap (λ b. cond b ((record { name = p.name; edits = p.edits ++ edit ∷ [] }) ∷ ps) (p ∷ with_edit name edit ps)) h.0
    ∙ ap (λ (x : ProjectRow). (record { name = x.name; edits = x.edits ++ edit ∷ [] }) ∷ ps) h.1)
edit_set name edit (p ∷ ps) (suc n) project h =
    sym (ap (λ b. cond b ((record { name = p.name; edits = p.edits ++ edit ∷ [] }) ∷ ps) (p ∷ with_edit name edit ps)) h.0
    ∙ ap (λ (xs : List ProjectRow). p ∷ xs) (sym (edit_set name edit ps n project h.1)))

pub edit_nowhere : (name : List ℕ) (edit : Edit) (projects : List ProjectRow) → list_any (is_named name) projects ≡ false → projects ≡ with_edit name edit projects
edit_nowhere name edit [] h = refl
edit_nowhere name edit (p ∷ ps) h = step (is_named name p) (edit_nowhere name edit ps) h
  where
    step : (b : Bool) → (list_any (is_named name) ps ≡ false → ps ≡ with_edit name edit ps) → (b || list_any (is_named name) ps) ≡ false
        → p ∷ ps ≡ cond b ((record { name = p.name; edits = p.edits ++ edit ∷ [] }) ∷ ps) (p ∷ with_edit name edit ps)
    step true ih h = cc
    step false ih h = ap (λ (xs : List ProjectRow). p ∷ xs) (ih h)

-- a new project behind the caller's own
pub project_added : (name given : List ℕ) (edits : List Edit) (before own new : List ProjectRow) → given ≡ name → edits ≡ [] → before ≡ own
    → new ≡ before ++ (record { name = given; edits = edits }) ∷ [] → new ≡ with_project name own
project_added name given edits before own new g e b n =
    n ∙ ap (λ (xs : List ProjectRow). xs ++ (record { name = given; edits = edits }) ∷ []) b
    ∙ ap (λ (at : List ℕ). own ++ (record { name = at; edits = edits }) ∷ []) g
    ∙ ap (λ (es : List Edit). own ++ (record { name = name; edits = es }) ∷ []) e

pub new_lawful : (name given : List ℕ) (edits : List Edit) → given ≡ name → edits ≡ [] → is_name name ≡ true → is_lawful_project (record { name = given; edits = edits }) ≡ true
new_lawful name given edits g e h = and_is_true (is_name given) (are_lawful_edits edits) (ap is_name g ∙ h) (ap are_lawful_edits e)

-- ---- sums as far as a u64 goes

pub sum_ended : (most total rest all : ℕ) → total ≤ most → rest ≡ 0 → min (total + rest) most ≡ all → total ≡ all
sum_ended most total rest all l z e = omega (arith, l, z, e)

pub no_sum : {X : Type 0} (f : X → ℕ) (xs : List X) → xs ≡ [] → sum_by f xs ≡ 0
no_sum f xs e = ap (λ (ys : List _). sum_by f ys) e
