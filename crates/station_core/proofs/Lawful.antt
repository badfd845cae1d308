-- That the edits which the station appends are lawful.
use Rattle.std.proofs.Common.{◌≡◌, ℕ, ◌<◌, ◌≤◌, Bool, true, false, ◌&&◌, cond, List, [], ◌∷◌, length, arith, refl, sym, subst, ap, ◌∙◌, Some, None}
use Rattle.std.specs.Prelude.{◌||◌, not, nat_eq, nat_lt, nat_le, Option, option_map}
use Rattle.std.specs.List.{list_all}
use Rattle.std.proofs.lemmas.List.{length-map}
use Rattle.iec_tables.specs.Letters.{raised}
use Rattle.iec_tables.specs.Words.{raised_all}
use Rattle.station_ports.specs.declared.lists.Waiver.{Waiver}
use Rattle.station_ports.specs.declared.lists.WaiverKey.{WaiverKey}
use Rattle.station_ports.specs.Lists.{placed, taken_out, has_key, key_of, is_waived_in, with_file}
use Rattle.station_ports.proofs.Entries.{key_same}
use Rattle.project_keeper.specs.declared.edit.Edit.{Edit}
use Rattle.project_keeper.specs.declared.request.Request.{Request}
use Rattle.project_keeper.specs.declared.request.Request.TheVariants.{ListProjects, Create, Show, ReadFile, PutFile, DropFile, Waive, Unwaive, Report}
use Rattle.project_keeper.specs.Names.{is_name, is_within, is_short, is_subject, is_valid, is_valid_key, is_code, is_reason, is_raised, is_lawful_key, is_lawful_waiver, raised_key, raised_waiver}
use Rattle.project_keeper.specs.Projects.{State, after, after_all, state_of, is_lawful}
use Rattle.project_keeper.proofs.Tables.{both_true, and_is_true}
use Rattle.project_keeper.specs.declared.rows.ProjectRow.{ProjectRow}
use Rattle.project_keeper.specs.declared.request.StationCode.{StationCode}
use Rattle.project_keeper.specs.declared.request.StationCode.TheVariants.{StoreFull}
use Rattle.station_core.specs.Answer.{first_cause, edits_causes, edit_of, project_of, has_bad_name, max_text, max_bytes, max_revision, bytes_of, is_full_of_edits, is_full_store, settled, refused, done}
use Rattle.station_core.specs.steps.Deciding.{added}
use Rattle.station_core.proofs.Outcomes.{passed}

-- ---- letters are raised once

raised_within : (byte : ℕ) → is_within 33 126 byte ≡ true → is_within 33 126 (raised byte) ≡ true
raised_within byte h = grind (arith, h)

raised_twice : (byte : ℕ) → nat_eq (raised (raised byte)) (raised byte) ≡ true
raised_twice byte = grind arith

all_raised : (bytes : List ℕ) → list_all (is_within 33 126) bytes ≡ true → list_all (is_within 33 126) (raised_all bytes) ≡ true
all_raised [] h = refl
all_raised (b ∷ bs) h =
    let p = both_true (is_within 33 126 b) (list_all (is_within 33 126) bs) h in
    and_is_true (is_within 33 126 (raised b)) (list_all (is_within 33 126) (raised_all bs)) (raised_within b p.0) (all_raised bs p.1)

pub raised_is : (bytes : List ℕ) → is_raised (raised_all bytes) ≡ true
raised_is [] = refl
raised_is (b ∷ bs) = and_is_true (nat_eq (raised (raised b)) (raised b)) (is_raised (raised_all bs)) (raised_twice b) (raised_is bs)

subject_raised : (bytes : List ℕ) → is_subject bytes ≡ true → is_subject (raised_all bytes) ≡ true
subject_raised bytes h =
    let p = both_true (is_short bytes) (list_all (is_within 33 126) bytes) h in
    and_is_true (is_short (raised_all bytes)) (list_all (is_within 33 126) (raised_all bytes)) (ap (is_within 1 200) (length-map bytes raised) ∙ p.0) (all_raised bytes p.1)

pub waive_lawful : (waiver : Waiver) → is_valid waiver ≡ true → is_lawful_waiver (raised_waiver waiver) ≡ true
waive_lawful w h =
    let p = both_true (is_valid_key (key_of w)) (is_reason w.reason) h in
    let q = both_true (is_code w.code) (is_subject w.unit && is_subject w.subject) p.0 in
    let r = both_true (is_subject w.unit) (is_subject w.subject) q.1 in
    and_is_true (is_valid (raised_waiver w)) (is_raised (raised_all w.unit) && is_raised (raised_all w.subject))
    (and_is_true (is_valid_key (key_of (raised_waiver w))) (is_reason w.reason)
    (and_is_true (is_code w.code) (is_subject (raised_all w.unit) && is_subject (raised_all w.subject)) q.0
    (and_is_true (is_subject (raised_all w.unit)) (is_subject (raised_all w.subject)) (subject_raised w.unit r.0) (subject_raised w.subject r.1)))
    p.1)
    (and_is_true (is_raised (raised_all w.unit)) (is_raised (raised_all w.subject)) (raised_is w.unit) (raised_is w.subject))

-- ---- the waivers in force are lawful

all_placed : {X : Type 0} (p same : X → Bool) (new : X) (xs : List X) → list_all p xs ≡ true → p new ≡ true → list_all p (placed same new xs) ≡ true
all_placed p same new [] h k = and_is_true (p new) true k refl
all_placed {X} p same new (x ∷ xs) h k = step (same x) (all_placed p same new xs)
  where
    b : (p x ≡ true) × (list_all p xs ≡ true)
    b = both_true (p x) (list_all p xs) h

    step : (t : Bool) → (list_all p xs ≡ true → p new ≡ true → list_all p (placed same new xs) ≡ true) → list_all p (cond t (new ∷ xs) (x ∷ placed same new xs)) ≡ true
    step true ih = and_is_true (p new) (list_all p xs) k b.1
    step false ih = and_is_true (p x) (list_all p (placed same new xs)) b.0 (ih b.1 k)

all_out : {X : Type 0} (p test : X → Bool) (xs : List X) → list_all p xs ≡ true → list_all p (taken_out test xs) ≡ true
all_out p test [] h = refl
all_out {X} p test (x ∷ xs) h = step (test x) (all_out p test xs)
  where
    b : (p x ≡ true) × (list_all p xs ≡ true)
    b = both_true (p x) (list_all p xs) h

    step : (t : Bool) → (list_all p xs ≡ true → list_all p (taken_out test xs) ≡ true) → list_all p (cond t xs (x ∷ taken_out test xs)) ≡ true
    step true ih = b.1
    step false ih = and_is_true (p x) (list_all p (taken_out test xs)) b.0 (ih b.1)

one_lawful : (state : State) (edit : Edit) → is_lawful edit ≡ true → list_all is_lawful_waiver state.waivers ≡ true → list_all is_lawful_waiver (after state edit).waivers ≡ true
one_lawful state (Edit.PutFile name text) l h = h
one_lawful state (Edit.DropFile name) l h = h
one_lawful state (Edit.Waive waiver) l h = all_placed is_lawful_waiver (has_key (key_of waiver)) waiver state.waivers h l
one_lawful state (Edit.Unwaive key) l h = all_out is_lawful_waiver (has_key key) state.waivers h

waivers_lawful : (state : State) (edits : List Edit) → list_all is_lawful edits ≡ true → list_all is_lawful_waiver state.waivers ≡ true → list_all is_lawful_waiver (after_all state edits).waivers ≡ true
waivers_lawful state [] l h = h
waivers_lawful state (e ∷ es) l h =
    let b = both_true (is_lawful e) (list_all is_lawful es) l in
    waivers_lawful (after state e) es b.1 (one_lawful state e b.0 h)

key_lawful : (key : WaiverKey) (waiver : Waiver) → has_key key waiver ≡ true → is_lawful_waiver waiver ≡ true → is_lawful_key key ≡ true
key_lawful key waiver h l =
    let p = both_true (is_valid waiver) (is_raised waiver.unit && is_raised waiver.subject) l in
    let q = both_true (is_valid_key (key_of waiver)) (is_reason waiver.reason) p.0 in
    subst (λ (k : WaiverKey). is_lawful_key k ≡ true) (sym (key_same key waiver h))
    (and_is_true (is_valid_key (key_of waiver)) (is_raised waiver.unit && is_raised waiver.subject) q.0 p.1)

in_force_lawful : (key : WaiverKey) (waivers : List Waiver) → is_waived_in key waivers ≡ true → list_all is_lawful_waiver waivers ≡ true → is_lawful_key key ≡ true
in_force_lawful key [] h l = cc
in_force_lawful key (w ∷ ws) h l = step (has_key key w) refl (in_force_lawful key ws) h
  where
    b : (is_lawful_waiver w ≡ true) × (list_all is_lawful_waiver ws ≡ true)
    b = both_true (is_lawful_waiver w) (list_all is_lawful_waiver ws) l

    step : (t : Bool) → has_key key w ≡ t → (is_waived_in key ws ≡ true → list_all is_lawful_waiver ws ≡ true → is_lawful_key key ≡ true) → (t || is_waived_in key ws) ≡ true → is_lawful_key key ≡ true
    step true is ih h = key_lawful key w is b.0
    step false is ih h = ih h b.1

-- ---- what is known of a request that the project's edits don't refuse

true_of : (b : Bool) → not b ≡ false → b ≡ true
true_of true h = refl
true_of false h = cc

first_false : (a b : Bool) → (a || b) ≡ false → a ≡ false
first_false true b h = cc
first_false false b h = refl

at_most : (m n : ℕ) → nat_lt m n ≡ false → n ≤ m
at_most m n h = grind (arith, h)

below : (m n : ℕ) → nat_le m n ≡ false → n < m
below m n h = grind (arith, h)

abbrev pub AllFalse : List (Bool × StationCode) → Type 0
AllFalse [] = Unit {0}
AllFalse (row ∷ rows) = (row.0 ≡ false) × AllFalse rows

pub each_false : (rows : List (Bool × StationCode)) → first_cause rows ≡ None → AllFalse rows
each_false [] h = tt
each_false (row ∷ rows) h = let p = passed row.0 row.1 (first_cause rows) h in (p.0, each_false rows p.1)

pub put_fits : (edits : List Edit) (project : List ℕ) (base : ℕ) (file text : List ℕ) → first_cause (edits_causes edits (PutFile project base file text)) ≡ None → length text ≤ max_text
put_fits edits project base file text h =
    at_most max_text (length text)
    (first_false (nat_lt max_text (length text)) (nat_lt max_bytes (bytes_of (with_file file text (state_of edits).files))) (each_false (edits_causes edits (PutFile project base file text)) h).1.1.1.1.1.0)

full_at : (edits : List Edit) (edit : Edit) (o : Option (ℕ × Edit)) → option_map (λ asked. asked.1) o ≡ Some edit → is_full_of_edits edits o ≡ false → nat_le max_revision (length edits) ≡ false
full_at edits edit None e h = cc
full_at edits edit (Some asked) e h = h

pub has_room : (edits : List Edit) (request : Request) (edit : Edit) → option_map (λ asked. asked.1) (edit_of request) ≡ Some edit → first_cause (edits_causes edits request) ≡ None → length edits < max_revision
has_room edits request edit e h = below max_revision (length edits) (full_at edits edit (edit_of request) e (each_false (edits_causes edits request) h).1.1.1.1.1.1.1.0)

some_edit : (x y : Edit) → Some x ≡ Some y → x ≡ y
some_edit x y e = ap (λ (o : Option Edit). get o) e
  where
    get : Option Edit → Edit
    get None = x
    get (Some z) = z

pub edit_lawful : (edits : List Edit) (request : Request) (edit : Edit) → list_all is_lawful edits ≡ true → has_bad_name request ≡ false → option_map (λ asked. asked.1) (edit_of request) ≡ Some edit
    → first_cause (edits_causes edits request) ≡ None → is_lawful edit ≡ true
edit_lawful edits ListProjects edit l n e h = cc
edit_lawful edits (Create project) edit l n e h = cc
edit_lawful edits (Show project) edit l n e h = cc
edit_lawful edits (ReadFile project file) edit l n e h = cc
edit_lawful edits (Report project revision) edit l n e h = cc
edit_lawful edits (PutFile project b file text) edit l n e h =
    subst (λ (x : Edit). is_lawful x ≡ true) (some_edit (Edit.PutFile file text) edit e) (both_true (is_name project) (is_name file) (true_of (is_name project && is_name file) n)).1
edit_lawful edits (DropFile project b file) edit l n e h =
    subst (λ (x : Edit). is_lawful x ≡ true) (some_edit (Edit.DropFile file) edit e) (both_true (is_name project) (is_name file) (true_of (is_name project && is_name file) n)).1
edit_lawful edits (Waive project b waiver) edit l n e h =
    subst (λ (x : Edit). is_lawful x ≡ true) (some_edit (Edit.Waive (raised_waiver waiver)) edit e)
    (waive_lawful waiver (true_of (is_valid waiver) (each_false (edits_causes edits (Waive project b waiver)) h).1.1.0))
edit_lawful edits (Unwaive project b key) edit l n e h =
    subst (λ (x : Edit). is_lawful x ≡ true) (some_edit (Edit.Unwaive (raised_key key)) edit e)
    (in_force_lawful (raised_key key) (state_of edits).waivers (true_of (is_waived_in (raised_key key) (state_of edits).waivers) (each_false (edits_causes edits (Unwaive project b key)) h).1.1.0)
    (waivers_lawful (record { files = []; waivers = [] }) edits l refl))

-- ---- the outcome of an edit, by what the store has room for

by_store : (own : List ProjectRow) (edits : List Edit) (request : Request) (b : Bool) → settled own edits request (first_cause ((b, StoreFull) ∷ [])) ≡ cond b (refused edits StoreFull) (done own edits request)
by_store own edits request true = refl
by_store own edits request false = refl

some_name : (x y : List ℕ) → Some x ≡ Some y → x ≡ y
some_name x y e = ap (λ (o : Option (List ℕ)). get o) e
  where
    get : Option (List ℕ) → List ℕ
    get None = x
    get (Some z) = z

named_edit : (own : List ProjectRow) (edits : List Edit) (p project : List ℕ) (e edit : Edit) → Some p ≡ Some project → Some e ≡ Some edit → added own edits p e ≡ added own edits project edit
named_edit own edits p project e edit n k =
    ap (λ (at : List ℕ). added own edits at e) (some_name p project n) ∙ ap (λ (x : Edit). added own edits project x) (some_edit e edit k)

pub added_outcome : (own : List ProjectRow) (edits : List Edit) (request : Request) (project : List ℕ) (edit : Edit) → project_of request ≡ Some project → option_map (λ asked. asked.1) (edit_of request) ≡ Some edit
    → settled own edits request (first_cause ((is_full_store own (edit_of request), StoreFull) ∷ [])) ≡ added own edits project edit
added_outcome own edits ListProjects project edit n e = cc
added_outcome own edits (Create p) project edit n e = cc
added_outcome own edits (Show p) project edit n e = cc
added_outcome own edits (ReadFile p file) project edit n e = cc
added_outcome own edits (Report p revision) project edit n e = cc
added_outcome own edits (PutFile p b file text) project edit n e =
    by_store own edits (PutFile p b file text) (is_full_store own (Some (b, Edit.PutFile file text))) ∙ named_edit own edits p project (Edit.PutFile file text) edit n e
added_outcome own edits (DropFile p b file) project edit n e =
    by_store own edits (DropFile p b file) (is_full_store own (Some (b, Edit.DropFile file))) ∙ named_edit own edits p project (Edit.DropFile file) edit n e
added_outcome own edits (Waive p b waiver) project edit n e =
    by_store own edits (Waive p b waiver) (is_full_store own (Some (b, Edit.Waive (raised_waiver waiver)))) ∙ named_edit own edits p project (Edit.Waive (raised_waiver waiver)) edit n e
added_outcome own edits (Unwaive p b key) project edit n e =
    by_store own edits (Unwaive p b key) (is_full_store own (Some (b, Edit.Unwaive (raised_key key)))) ∙ named_edit own edits p project (Edit.Unwaive (raised_key key)) edit n e
