-- What a change of a list at a place is, and that it leaves the entries apart.
use Rattle.std.proofs.Common.{◌≡◌, ℕ, suc, ◌+◌, ◌<◌, ◌≤◌, nat_lt, Bool, true, false, cond, ◌&&◌, List, [], ◌∷◌, ◌++◌, length, arith, refl, sym, subst, ap, ◌∙◌, inl, inr}
use Rattle.std.specs.Prelude.{slice_set, not, ◌||◌, ◌⊎◌, bytes_eq, Result, Ok, Err, OnOk, OnErr}
use Rattle.std.specs.List.{list_any, position_or_len, remove}
use Rattle.std.proofs.lemmas.Slice.Eq.{bytes_eq-Decides}
use Rattle.station_ports.specs.declared.lists.FileEntry.{FileEntry}
use Rattle.station_ports.specs.declared.lists.Waiver.{Waiver}
use Rattle.station_ports.specs.declared.lists.WaiverKey.{WaiverKey}
use Rattle.station_ports.specs.Lists.{placed, taken_out, AreApart, has_name, is_file_in, has_key, key_of}

behind : (n : ℕ) → suc n ≡ 1 + n
behind n = omega arith

-- ---- where an entry is, and where there is none

there_step : {X : Type 0} (new x : X) (xs ys : List X) (n : ℕ) (b : Bool) → (n < length xs → ys ≡ slice_set xs n new)
    → cond (not b) (1 + n) 0 < length (x ∷ xs) → cond b (new ∷ xs) (x ∷ ys) ≡ slice_set (x ∷ xs) (cond (not b) (1 + n) 0) new
there_step new x xs ys n true ih h = refl
there_step new x xs ys n false ih h = subst (λ (k : ℕ). x ∷ ys ≡ slice_set (x ∷ xs) k new) (behind n) (ap (λ (zs : List _). x ∷ zs) (ih (omega arith)))

pub placed_there : {X : Type 0} (same : X → Bool) (new : X) (xs : List X) → position_or_len same xs < length xs
    → placed same new xs ≡ slice_set xs (position_or_len same xs) new
placed_there same new [] h = absurd (omega arith)
placed_there same new (x ∷ xs) h = there_step new x xs (placed same new xs) (position_or_len same xs) (same x) (placed_there same new xs) h

last_step : {X : Type 0} (new x : X) (xs ys : List X) (n : ℕ) (b : Bool) → (length xs ≤ n → ys ≡ xs ++ new ∷ [])
    → length (x ∷ xs) ≤ cond (not b) (1 + n) 0 → cond b (new ∷ xs) (x ∷ ys) ≡ x ∷ (xs ++ new ∷ [])
last_step new x xs ys n true ih h = absurd (omega arith)
last_step new x xs ys n false ih h = ap (λ (zs : List _). x ∷ zs) (ih (omega arith))

pub placed_last : {X : Type 0} (same : X → Bool) (new : X) (xs : List X) → length xs ≤ position_or_len same xs → placed same new xs ≡ xs ++ new ∷ []
placed_last same new [] h = refl
placed_last same new (x ∷ xs) h = last_step new x xs (placed same new xs) (position_or_len same xs) (same x) (placed_last same new xs) h

out_step : {X : Type 0} (x : X) (xs ys : List X) (n : ℕ) (b : Bool) → (n < length xs → ys ≡ remove xs n)
    → cond (not b) (1 + n) 0 < length (x ∷ xs) → cond b xs (x ∷ ys) ≡ remove (x ∷ xs) (cond (not b) (1 + n) 0)
out_step x xs ys n true ih h = refl
out_step x xs ys n false ih h = subst (λ (k : ℕ). x ∷ ys ≡ remove (x ∷ xs) k) (behind n) (ap (λ (zs : List _). x ∷ zs) (ih (omega arith)))

pub out_there : {X : Type 0} (same : X → Bool) (xs : List X) → position_or_len same xs < length xs → taken_out same xs ≡ remove xs (position_or_len same xs)
out_there same [] h = absurd (omega arith)
out_there same (x ∷ xs) h = out_step x xs (taken_out same xs) (position_or_len same xs) (same x) (out_there same xs) h

none_step : {X : Type 0} (x : X) (xs ys : List X) (n : ℕ) (b : Bool) → (length xs ≤ n → ys ≡ xs)
    → length (x ∷ xs) ≤ cond (not b) (1 + n) 0 → cond b xs (x ∷ ys) ≡ x ∷ xs
none_step x xs ys n true ih h = absurd (omega arith)
none_step x xs ys n false ih h = ap (λ (zs : List _). x ∷ zs) (ih (omega arith))

pub out_nowhere : {X : Type 0} (same : X → Bool) (xs : List X) → length xs ≤ position_or_len same xs → taken_out same xs ≡ xs
out_nowhere same [] h = refl
out_nowhere same (x ∷ xs) h = none_step x xs (taken_out same xs) (position_or_len same xs) (same x) (out_nowhere same xs) h

pub any_there : {X : Type 0} (same : X → Bool) (xs : List X) → position_or_len same xs < length xs → list_any same xs ≡ true
any_there same [] h = absurd (omega arith)
any_there {X} same (x ∷ xs) h = step (same x) (any_there same xs) h
  where
    step : (b : Bool) → (position_or_len same xs < length xs → list_any same xs ≡ true) → cond (not b) (1 + position_or_len same xs) 0 < length (x ∷ xs) → (b || list_any same xs) ≡ true
    step true ih h = refl
    step false ih h = ih (omega arith)

pub any_nowhere : {X : Type 0} (same : X → Bool) (xs : List X) → length xs ≤ position_or_len same xs → list_any same xs ≡ false
any_nowhere same [] h = refl
any_nowhere {X} same (x ∷ xs) h = step (same x) (any_nowhere same xs) h
  where
    step : (b : Bool) → (length xs ≤ position_or_len same xs → list_any same xs ≡ false) → length (x ∷ xs) ≤ cond (not b) (1 + position_or_len same xs) 0 → (b || list_any same xs) ≡ false
    step true ih h = absurd (omega arith)
    step false ih h = ih (omega arith)

-- ---- how many entries

pub placed_length : {X : Type 0} (same : X → Bool) (new : X) (xs : List X) → length (placed same new xs) ≤ length xs + 1
placed_length same new [] = omega arith
placed_length {X} same new (x ∷ xs) = step (same x) (placed_length same new xs)
  where
    step : (b : Bool) → length (placed same new xs) ≤ length xs + 1 → length (cond b (new ∷ xs) (x ∷ placed same new xs)) ≤ length (x ∷ xs) + 1
    step true ih = omega arith
    step false ih = omega (arith, ih)

pub placed_known : {X : Type 0} (same : X → Bool) (new : X) (xs : List X) → list_any same xs ≡ true → length (placed same new xs) ≡ length xs
placed_known same new [] h = cc
placed_known {X} same new (x ∷ xs) h = step (same x) (placed_known same new xs) h
  where
    step : (b : Bool) → (list_any same xs ≡ true → length (placed same new xs) ≡ length xs) → (b || list_any same xs) ≡ true → length (cond b (new ∷ xs) (x ∷ placed same new xs)) ≡ length (x ∷ xs)
    step true ih h = refl
    step false ih h = let e : length (placed same new xs) ≡ length xs = ih h in omega (arith, e)

pub out_length : {X : Type 0} (same : X → Bool) (xs : List X) → length (taken_out same xs) ≤ length xs
out_length same [] = omega arith
out_length {X} same (x ∷ xs) = step (same x) (out_length same xs)
  where
    step : (b : Bool) → length (taken_out same xs) ≤ length xs → length (cond b xs (x ∷ taken_out same xs)) ≤ length (x ∷ xs)
    step true ih = omega arith
    step false ih = omega (arith, ih)

-- ---- entries stay apart

-- the test says that two have the same key
pub record IsByKey {X : Type 0} (same : X → X → Bool) : Type 0 where
  pub turned : (x y : X) → same x y ≡ true → same y x ≡ true
  pub along : (x y z : X) → same x y ≡ true → same y z ≡ true → same x z ≡ true

or_false : (a b : Bool) → (a || b) ≡ false → (a ≡ false) × (b ≡ false)
or_false true b h = cc
or_false false b h = (refl, h)

or_is_false : (a b : Bool) → a ≡ false → b ≡ false → (a || b) ≡ false
or_is_false true b h k = h
or_is_false false b h k = k

-- of an entry that is apart from all, and from the new one
apart_placed : {X : Type 0} (same : X → X → Bool) (new y : X) (xs : List X) → same y new ≡ false → list_any (same y) xs ≡ false → list_any (same y) (placed (same new) new xs) ≡ false
apart_placed same new y [] n h = or_is_false (same y new) false n refl
apart_placed {X} same new y (x ∷ xs) n h = step (same new x) (or_false (same y x) (list_any (same y) xs) h) (apart_placed same new y xs n)
  where
    step : (b : Bool) → (same y x ≡ false) × (list_any (same y) xs ≡ false) → (list_any (same y) xs ≡ false → list_any (same y) (placed (same new) new xs) ≡ false)
        → list_any (same y) (cond b (new ∷ xs) (x ∷ placed (same new) new xs)) ≡ false
    step true h ih = or_is_false (same y new) (list_any (same y) xs) n h.1
    step false h ih = or_is_false (same y x) (list_any (same y) (placed (same new) new xs)) h.0 (ih h.1)

-- an entry of the new one's key is apart from all where the new one is
apart_like : {X : Type 0} (same : X → X → Bool) (k : IsByKey same) (new x : X) (xs : List X) → same new x ≡ true → list_any (same x) xs ≡ false → list_any (same new) xs ≡ false
apart_like same k new x [] e h = refl
apart_like {X} same k new x (y ∷ ys) e h =
    let both = or_false (same x y) (list_any (same x) ys) h in
    or_is_false (same new y) (list_any (same new) ys) (step (same new y) refl both.0) (apart_like same k new x ys e both.1)
  where
    step : (b : Bool) → same new y ≡ b → same x y ≡ false → b ≡ false
    step true is n = let wrong : same x y ≡ true = k.along x new y (k.turned new x e) is in cc
    step false is n = refl

unlike : {X : Type 0} (same : X → X → Bool) (k : IsByKey same) (new x : X) (b : Bool) → same x new ≡ b → same new x ≡ false → b ≡ false
unlike same k new x true is n = let wrong : same new x ≡ true = k.turned x new is in cc
unlike same k new x false is n = refl

pub placed_apart : {X : Type 0} (same : X → X → Bool) (k : IsByKey same) (new : X) (xs : List X) → AreApart same xs → AreApart same (placed (same new) new xs)
placed_apart same k new [] h = (refl, tt)
placed_apart {X} same k new (x ∷ xs) h = step (same new x) refl (placed_apart same k new xs h.1)
  where
    step : (b : Bool) → same new x ≡ b → AreApart same (placed (same new) new xs) → AreApart same (cond b (new ∷ xs) (x ∷ placed (same new) new xs))
    step true is ih = (apart_like same k new x xs is h.0, h.1)
    step false is ih = (apart_placed same new x xs (unlike same k new x (same x new) refl is) h.0, ih)

apart_out : {X : Type 0} (test other : X → Bool) (xs : List X) → list_any other xs ≡ false → list_any other (taken_out test xs) ≡ false
apart_out test other [] h = refl
apart_out {X} test other (x ∷ xs) h = step (test x) (or_false (other x) (list_any other xs) h) (apart_out test other xs)
  where
    step : (b : Bool) → (other x ≡ false) × (list_any other xs ≡ false) → (list_any other xs ≡ false → list_any other (taken_out test xs) ≡ false) → list_any other (cond b xs (x ∷ taken_out test xs)) ≡ false
    step true h ih = h.1
    step false h ih = or_is_false (other x) (list_any other (taken_out test xs)) h.0 (ih h.1)

pub out_apart : {X : Type 0} (same : X → X → Bool) (test : X → Bool) (xs : List X) → AreApart same xs → AreApart same (taken_out test xs)
out_apart same test [] h = tt
out_apart {X} same test (x ∷ xs) h = step (test x) (out_apart same test xs h.1)
  where
    step : (b : Bool) → AreApart same (taken_out test xs) → AreApart same (cond b xs (x ∷ taken_out test xs))
    step true ih = h.1
    step false ih = (apart_out test (same x) xs h.0, ih)

-- ---- names and keys

bytes_same : (xs ys : List ℕ) → bytes_eq xs ys ≡ true → xs ≡ ys
bytes_same xs ys h = (bytes_eq-Decides xs ys).0 h

bytes_are : (xs ys : List ℕ) → xs ≡ ys → bytes_eq xs ys ≡ true
bytes_are xs ys h = (bytes_eq-Decides xs ys).1 h

pub by_name : IsByKey (λ (one : FileEntry). has_name one.name)
by_name = record {
  turned = λ x y e. bytes_are y.name x.name (sym (bytes_same x.name y.name e));
  along = λ x y z e f. bytes_are x.name z.name (bytes_same x.name y.name e ∙ bytes_same y.name z.name f);
}

and_true : (a b : Bool) → (a && b) ≡ true → (a ≡ true) × (b ≡ true)
and_true true b h = (refl, h)
and_true false b h = cc

and_is_true : (a b : Bool) → a ≡ true → b ≡ true → (a && b) ≡ true
and_is_true true b h k = k
and_is_true false b h k = h

pub key_same : (key : WaiverKey) (waiver : Waiver) → has_key key waiver ≡ true → key ≡ key_of waiver
key_same key waiver h =
    let one = and_true (bytes_eq key.code waiver.code) (bytes_eq key.unit waiver.unit && bytes_eq key.subject waiver.subject) h in
    let two = and_true (bytes_eq key.unit waiver.unit) (bytes_eq key.subject waiver.subject) one.1 in
    let c : key.code ≡ waiver.code = bytes_same key.code waiver.code one.0 in
    let u : key.unit ≡ waiver.unit = bytes_same key.unit waiver.unit two.0 in
    let s : key.subject ≡ waiver.subject = bytes_same key.subject waiver.subject two.1 in
    ap (λ (code : List ℕ). record { code = code; unit = key.unit; subject = key.subject }) c
    ∙ ap (λ (unit : List ℕ). record { code = waiver.code; unit = unit; subject = key.subject }) u
    ∙ ap (λ (subject : List ℕ). record { code = waiver.code; unit = waiver.unit; subject = subject }) s

pub key_is : (key : WaiverKey) (waiver : Waiver) → key ≡ key_of waiver → has_key key waiver ≡ true
key_is key waiver e =
    and_is_true (bytes_eq key.code waiver.code) (bytes_eq key.unit waiver.unit && bytes_eq key.subject waiver.subject)
    (bytes_are key.code waiver.code (ap (λ (k : WaiverKey). k.code) e))
    (and_is_true (bytes_eq key.unit waiver.unit) (bytes_eq key.subject waiver.subject) (bytes_are key.unit waiver.unit (ap (λ (k : WaiverKey). k.unit) e)) (bytes_are key.subject waiver.subject (ap (λ (k : WaiverKey). k.subject) e)))

pub by_key : IsByKey (λ (one : Waiver). has_key (key_of one))
by_key = record {
  turned = λ x y e. key_is (key_of y) x (sym (key_same (key_of x) y e));
  along = λ x y z e f. key_is (key_of x) z (key_same (key_of x) y e ∙ key_same (key_of y) z f);
}

-- ---- what the code does at the place that it found

pub set_at : {X : Type 0} (same : X → Bool) (new : X) (xs : List X) (n : ℕ) → n ≡ position_or_len same xs → n < length xs → slice_set xs n new ≡ placed same new xs
set_at same new xs n e l = subst (λ (k : ℕ). slice_set xs k new ≡ placed same new xs) (sym e) (sym (placed_there same new xs (omega (arith, e))))

pub set_last : {X : Type 0} (same : X → Bool) (new : X) (xs : List X) (n : ℕ) → n ≡ position_or_len same xs → length xs ≤ n → xs ++ new ∷ [] ≡ placed same new xs
set_last same new xs n e l = sym (placed_last same new xs (omega (arith, e)))

pub remove_at : {X : Type 0} (same : X → Bool) (xs : List X) (n : ℕ) → n ≡ position_or_len same xs → n < length xs → remove xs n ≡ taken_out same xs
remove_at same xs n e l = subst (λ (k : ℕ). remove xs k ≡ taken_out same xs) (sym e) (sym (out_there same xs (omega (arith, e))))

pub remove_none : {X : Type 0} (same : X → Bool) (xs : List X) (n : ℕ) → n ≡ position_or_len same xs → length xs ≤ n → xs ≡ taken_out same xs
remove_none same xs n e l = sym (out_nowhere same xs (omega (arith, e)))

pub has_at : {X : Type 0} (same : X → Bool) (xs : List X) (n : ℕ) → n ≡ position_or_len same xs → nat_lt n (length xs) ≡ list_any same xs
has_at {X} same xs n e = step (nat_lt n (length xs)) refl
  where
    step : (b : Bool) → nat_lt n (length xs) ≡ b → b ≡ list_any same xs
    step true is = let l : n < length xs = grind (arith, is) in sym (any_there same xs (omega (arith, e, l)))
    step false is = let l : length xs ≤ n = grind (arith, is) in sym (any_nowhere same xs (omega (arith, e, l)))

-- ---- what the types of the lists keep

pub set_or_not : {T E : Type 0} {A B C : Type 0} (answer : Result T E) → OnOk answer A → OnErr answer B → (A → C) → (B → C) → C
set_or_not (Ok x) a b f g = f a
set_or_not (Err e) a b f g = g b

pub fits_after : (most : ℕ) (entry : FileEntry) (files new : List FileEntry) → (is_file_in entry.name files ≡ true) ⊎ (length files < most) → length files ≤ most
    → new ≡ placed (has_name entry.name) entry files → length new ≤ most
fits_after most entry files new (inl has) l e =
    let same : length (placed (has_name entry.name) entry files) ≡ length files = placed_known (has_name entry.name) entry files has in
    subst (λ (xs : List FileEntry). length xs ≤ most) (sym e) (omega (arith, same))
fits_after most entry files new (inr room) l e =
    let longer : length (placed (has_name entry.name) entry files) ≤ length files + 1 = placed_length (has_name entry.name) entry files in
    subst (λ (xs : List FileEntry). length xs ≤ most) (sym e) (omega (arith, longer))
