-- What the table says of a request, cause by cause.
use Rattle.std.proofs.Common.{◌≡◌, ℕ, ◌<◌, ◌≤◌, Bool, true, false, cond, List, [], ◌∷◌, ◌++◌, length, map, arith, refl, ap, ◌∙◌, Some, None}
use Rattle.std.specs.Prelude.{◌||◌, not, nat_le, is_some, unwrap_or, Option, bytes_eq}
use Rattle.std.specs.List.{list_any}
use Rattle.st_tree.specs.declared.settings.Settings.{Settings}
use Rattle.project_keeper.specs.declared.edit.Edit.{Edit}
use Rattle.project_keeper.specs.declared.rows.ProjectRow.{ProjectRow}
use Rattle.project_keeper.specs.declared.request.Request.{Request}
use Rattle.project_keeper.specs.declared.request.Request.TheVariants.{ListProjects, Create, Show, ReadFile, PutFile, DropFile, Waive, Unwaive, Report}
use Rattle.project_keeper.specs.declared.request.StationCode.{StationCode}
use Rattle.project_keeper.specs.declared.request.StationCode.TheVariants.{Unauthorised, NoSuchProject, ProjectExists, StoreFull, ProjectsFull, BadName}
use Rattle.project_keeper.specs.Projects.{has_project, edits_of}
use Rattle.station_core.specs.Answer.{Outcome, outcome, own_outcome, settled, refused, done, first_cause, edits_causes, own_causes, project_of, edit_of, edits_at, is_missing, exists, is_full_of_projects, is_full_store, is_unknown, has_bad_name, max_projects}

-- ---- the first cause of lists

pub passed : (b : Bool) (code : StationCode) (rest : Option StationCode) → cond b (Some code) rest ≡ None → (b ≡ false) × (rest ≡ None)
passed true code rest h = cc
passed false code rest h = (refl, h)

pub none_of_both : (xs ys : List (Bool × StationCode)) → first_cause xs ≡ None → first_cause (xs ++ ys) ≡ first_cause ys
none_of_both [] ys h = refl
none_of_both (x ∷ xs) ys h =
    let p = passed x.0 x.1 (first_cause xs) h in
    ap (λ b. cond b (Some x.1) (first_cause (xs ++ ys))) p.0 ∙ none_of_both xs ys p.1

pub one_of_first : (xs ys : List (Bool × StationCode)) (code : StationCode) → first_cause xs ≡ Some code → first_cause (xs ++ ys) ≡ Some code
one_of_first [] ys code h = cc
one_of_first (x ∷ xs) ys code h = step x.0 (one_of_first xs ys code) h
  where
    step : (b : Bool) → (first_cause xs ≡ Some code → first_cause (xs ++ ys) ≡ Some code) → cond b (Some x.1) (first_cause xs) ≡ Some code → cond b (Some x.1) (first_cause (xs ++ ys)) ≡ Some code
    step true ih h = h
    step false ih h = ih h

-- ---- requests on a project

pub only_named : (own : List ProjectRow) (request : Request) (project : List ℕ) → project_of request ≡ Some project → (exists own request ≡ false) × (is_full_of_projects own request ≡ false)
only_named own ListProjects project h = cc
only_named own (Create name) project h = cc
only_named own (Show name) project h = (refl, refl)
only_named own (ReadFile name file) project h = (refl, refl)
only_named own (PutFile name base file text) project h = (refl, refl)
only_named own (DropFile name base file) project h = (refl, refl)
only_named own (Waive name base waiver) project h = (refl, refl)
only_named own (Unwaive name base key) project h = (refl, refl)
only_named own (Report name revision) project h = (refl, refl)

-- the last row of the table
abbrev store_row : List ProjectRow → Request → List (Bool × StationCode)
store_row own request = (is_full_store own (edit_of request), StoreFull) ∷ []

abbrev whole : List ProjectRow → Request → Bool → Bool → Bool → List Edit → Outcome
whole own request missing there full edits =
    settled own edits request
    (first_cause ((missing, NoSuchProject) ∷ (there, ProjectExists) ∷ (full, ProjectsFull) ∷ edits_causes edits request ++ store_row own request))

on_found : (own : List ProjectRow) (request : Request) (project : List ℕ) (edits : List Edit) → project_of request ≡ Some project → edits_of project own ≡ Some edits
    → own_outcome own request ≡ settled own edits request (first_cause (edits_causes edits request ++ store_row own request))
on_found own request project edits named found =
    let no = only_named own request project named in
    ap (λ (b : Bool). whole own request b (exists own request) (is_full_of_projects own request) (edits_at own (project_of request))) (ap (is_missing own) named ∙ ap (λ (o : Option (List Edit)). not (is_some o)) found)
    ∙ ap (λ (b : Bool). whole own request false b (is_full_of_projects own request) (edits_at own (project_of request))) no.0
    ∙ ap (λ (b : Bool). whole own request false false b (edits_at own (project_of request))) no.1
    ∙ ap (λ (es : List Edit). whole own request false false false es) (ap (edits_at own) named ∙ ap (λ (o : Option (List Edit)). unwrap_or o []) found)

pub missing_outcome : (own : List ProjectRow) (request : Request) (project : List ℕ) → project_of request ≡ Some project → edits_of project own ≡ None → own_outcome own request ≡ refused [] NoSuchProject
missing_outcome own request project named none =
    ap (λ (b : Bool). whole own request b (exists own request) (is_full_of_projects own request) (edits_at own (project_of request))) (ap (is_missing own) named ∙ ap (λ (o : Option (List Edit)). not (is_some o)) none)

pub refused_outcome : (own : List ProjectRow) (request : Request) (project : List ℕ) (edits : List Edit) (code : StationCode) → project_of request ≡ Some project → edits_of project own ≡ Some edits
    → first_cause (edits_causes edits request) ≡ Some code → own_outcome own request ≡ refused edits code
refused_outcome own request project edits code named found cause =
    on_found own request project edits named found ∙ ap (settled own edits request) (one_of_first (edits_causes edits request) (store_row own request) code cause)

pub passed_outcome : (own : List ProjectRow) (request : Request) (project : List ℕ) (edits : List Edit) → project_of request ≡ Some project → edits_of project own ≡ Some edits
    → first_cause (edits_causes edits request) ≡ None → own_outcome own request ≡ settled own edits request (first_cause ((is_full_store own (edit_of request), StoreFull) ∷ []))
passed_outcome own request project edits named found cause =
    on_found own request project edits named found ∙ ap (settled own edits request) (none_of_both (edits_causes edits request) (store_row own request) cause)

-- ---- Create

pub names_have : (project : List ℕ) (own : List ProjectRow) → list_any (bytes_eq project) (map (λ row. row.name) own) ≡ has_project project own
names_have project [] = refl
names_have project (p ∷ ps) = ap (λ b. bytes_eq project p.name || b) (names_have project ps)

pub create_exists : (own : List ProjectRow) (project : List ℕ) → has_project project own ≡ true → own_outcome own (Create project) ≡ refused [] ProjectExists
create_exists own project h = ap (λ b. settled own [] (Create project) (cond b (Some ProjectExists) (cond (nat_le max_projects (length own)) (Some ProjectsFull) None))) h

full_test : (n : ℕ) → max_projects ≤ n → nat_le max_projects n ≡ true
full_test n h = grind (arith, h)

room_test : (n : ℕ) → n < max_projects → nat_le max_projects n ≡ false
room_test n h = grind (arith, h)

pub create_full : (own : List ProjectRow) (project : List ℕ) → has_project project own ≡ false → max_projects ≤ length own → own_outcome own (Create project) ≡ refused [] ProjectsFull
create_full own project h l =
    ap (λ b. settled own [] (Create project) (cond b (Some ProjectExists) (cond (nat_le max_projects (length own)) (Some ProjectsFull) None))) h
    ∙ ap (λ b. settled own [] (Create project) (cond b (Some ProjectsFull) None)) (full_test (length own) l)

pub create_done : (own : List ProjectRow) (project : List ℕ) → has_project project own ≡ false → length own < max_projects → own_outcome own (Create project) ≡ done own [] (Create project)
create_done own project h l =
    ap (λ b. settled own [] (Create project) (cond b (Some ProjectExists) (cond (nat_le max_projects (length own)) (Some ProjectsFull) None))) h
    ∙ ap (λ b. settled own [] (Create project) (cond b (Some ProjectsFull) None)) (room_test (length own) l)

-- ---- callers and names

abbrev first_rows : Settings → List ℕ → List ProjectRow → Request → Bool → Bool → Outcome
first_rows settings caller own request unknown bad =
    settled own (edits_at own (project_of request)) request (first_cause ((unknown, Unauthorised) ∷ (bad, BadName) ∷ own_causes own request))

pub unknown_outcome : (settings : Settings) (caller : List ℕ) (own : List ProjectRow) (request : Request) → is_unknown settings caller ≡ true
    → outcome settings caller own request ≡ refused (edits_at own (project_of request)) Unauthorised
unknown_outcome settings caller own request h = ap (λ (b : Bool). first_rows settings caller own request b (has_bad_name request)) h

pub bad_name_outcome : (settings : Settings) (caller : List ℕ) (own : List ProjectRow) (request : Request) → is_unknown settings caller ≡ false → has_bad_name request ≡ true
    → outcome settings caller own request ≡ refused (edits_at own (project_of request)) BadName
bad_name_outcome settings caller own request h k =
    ap (λ (b : Bool). first_rows settings caller own request b (has_bad_name request)) h ∙ ap (λ (b : Bool). first_rows settings caller own request false b) k

pub lawful_outcome : (settings : Settings) (caller : List ℕ) (own : List ProjectRow) (request : Request) → is_unknown settings caller ≡ false → has_bad_name request ≡ false
    → outcome settings caller own request ≡ own_outcome own request
lawful_outcome settings caller own request h k =
    ap (λ (b : Bool). first_rows settings caller own request b (has_bad_name request)) h ∙ ap (λ (b : Bool). first_rows settings caller own request false b) k
