-- Replies that give answers, and what is known of requests before a keeper is asked.
use Rattle.std.proofs.Common.{◌≡◌, ◌≤◌, ℕ, Bool, true, false, ◌||◌, cond, List, [], ◌∷◌, length, arith, refl, sym, subst, Option, Some, None}
use Rattle.std.specs.Prelude.{not, nat_le, bytes_eq}
use Rattle.std.specs.List.{list_all, list_any}
use Rattle.std.proofs.lemmas.Slice.Eq.{bytes_eq-Decides}
use Rattle.station_ports.specs.declared.lists.FileEntry.{FileEntry}
use Rattle.station_ports.specs.declared.lists.Waiver.{Waiver}
use Rattle.st_tree.specs.declared.settings.Settings.{Settings}
use Rattle.st_tree.specs.declared.settings.CallerKey.{CallerKey}
use Rattle.finding_spans.specs.declared.report.Report.{Report}
use Rattle.project_keeper.specs.declared.edit.Edit.{Edit}
use Rattle.project_keeper.specs.declared.request.Request.{Request}
use Rattle.project_keeper.specs.declared.request.Reply.{Reply}
use Rattle.project_keeper.specs.declared.request.StationCode.{StationCode}
use Rattle.project_keeper.specs.declared.request.StationCode.TheVariants.{KeeperFailed, NoMemory}
use Rattle.project_keeper.specs.Names.{is_name}
use Rattle.project_keeper.specs.Projects.{is_lawful}
use Rattle.project_keeper.specs.Keeping.{are_lawful_edits, max_edits}
use Rattle.project_keeper.proofs.Tables.{both_true}
use Rattle.station_core.specs.Answer.{Answer, Says, Reports, first_cause, edits_causes, given_with}
use Rattle.station_core.specs.Commands.{IsReply, IsSaid, IsOwn}

-- a reply that says an answer is that answer's
pub said_reply : (reports : List FileEntry → List Waiver → Settings → Report → Type 0) (settings : Settings) (answer : Answer) (reply : Reply) → IsSaid answer reply → IsReply reports settings answer reply
said_reply reports settings (Says said) reply h = h
said_reply reports settings (Reports files waivers) reply h = absurd h

-- the refusal of edits, with their number as the current revision
pub refused_reply : (code : StationCode) (reply : Reply) (count : ℕ) (edits : List Edit) → reply ≡ Reply.Refused (record { code = code; current = given_with code count })
    → count ≡ length edits → reply ≡ Reply.Refused (record { code = code; current = given_with code (length edits) })
refused_reply code reply count edits is n = subst (λ (k : ℕ). reply ≡ Reply.Refused (record { code = code; current = given_with code k })) n is

-- ---- the table has no row for a keeper that failed, nor for want of memory

abbrev is_own : StationCode → Bool
is_own KeeperFailed = false
is_own NoMemory = false
is_own _ = true

abbrev is_own_reply : Reply → Bool
is_own_reply (Reply.Refused refused) = is_own refused.code
is_own_reply _ = true

abbrev own_at : Option StationCode → Bool
own_at None = true
own_at (Some code) = is_own code

first_own : (rows : List (Bool × StationCode)) (code : StationCode) → list_all (λ row. is_own row.1) rows ≡ true → first_cause rows ≡ Some code → is_own code ≡ true
first_own [] code l h = cc
first_own (row ∷ rows) code l h = step row.0 (first_own rows code (both_true (is_own row.1) (list_all (λ row. is_own row.1) rows) l).1) h
  where
    b : (is_own row.1 ≡ true) × (list_all (λ row. is_own row.1) rows ≡ true)
    b = both_true (is_own row.1) (list_all (λ row. is_own row.1) rows) l

    step : (t : Bool) → (first_cause rows ≡ Some code → is_own code ≡ true) → cond t (Some row.1) (first_cause rows) ≡ Some code → is_own code ≡ true
    step true ih h = subst (λ (o : Option StationCode). own_at o ≡ true) h b.0
    step false ih h = ih h

own_reply : (reply : Reply) → is_own_reply reply ≡ true → IsOwn reply
own_reply reply h = record { kept = λ e. differs (subst (λ (r : Reply). is_own_reply r ≡ true) e h); found = λ e. differs (subst (λ (r : Reply). is_own_reply r ≡ true) e h) }
  where
    differs : false ≡ true → ⊥
    differs e = cc

pub own_refusal : (edits : List Edit) (request : Request) (code : StationCode) (reply : Reply) → first_cause (edits_causes edits request) ≡ Some code
    → reply ≡ Reply.Refused (record { code = code; current = given_with code (length edits) }) → IsOwn reply
own_refusal edits request code reply h is =
    own_reply reply (subst (λ (r : Reply). is_own_reply r ≡ true) (sym is) (first_own (edits_causes edits request) code refl h))

-- ---- edits of a keeper

lawful_parts : (edits : List Edit) → are_lawful_edits edits ≡ true → (list_all is_lawful edits ≡ true) × (nat_le (length edits) max_edits ≡ true)
lawful_parts edits h = both_true (list_all is_lawful edits) (nat_le (length edits) max_edits) h

pub each_lawful : (edits : List Edit) → are_lawful_edits edits ≡ true → list_all is_lawful edits ≡ true
each_lawful edits h = (lawful_parts edits h).0

within : (m n : ℕ) → nat_le m n ≡ true → m ≤ n
within m n h = grind (arith, h)

pub few_edits : (edits : List Edit) → are_lawful_edits edits ≡ true → length edits ≤ max_edits
few_edits edits h = within (length edits) max_edits (lawful_parts edits h).1

-- ---- callers of the settings

pub known_name : (callers : List CallerKey) (caller : List ℕ) → list_all (λ known. is_name known.name) callers ≡ true → list_any (λ known. bytes_eq known.name caller) callers ≡ true → is_name caller ≡ true
known_name [] caller l h = cc
known_name (known ∷ more) caller l h = step (bytes_eq known.name caller) refl (known_name more caller (both_true (is_name known.name) (list_all (λ known. is_name known.name) more) l).1) h
  where
    b : (is_name known.name ≡ true) × (list_all (λ known. is_name known.name) more ≡ true)
    b = both_true (is_name known.name) (list_all (λ known. is_name known.name) more) l

    step : (t : Bool) → bytes_eq known.name caller ≡ t → (list_any (λ known. bytes_eq known.name caller) more ≡ true → is_name caller ≡ true) → (t || list_any (λ known. bytes_eq known.name caller) more) ≡ true → is_name caller ≡ true
    step true is ih h = subst (λ (name : List ℕ). is_name name ≡ true) ((bytes_eq-Decides known.name caller).0 is) b.0
    step false is ih h = ih h

pub known_is : (known result : Bool) → result ≡ true → result ≡ not (not known) → known ≡ true
known_is true result h is = refl
known_is false result h is = cc
