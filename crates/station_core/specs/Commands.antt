-- What a command is, and lists of commands. Source: this profile.
use Rattle.std.specs.Prelude.{◌≡◌, ◌≢◌, ◌⊎◌, ℕ, List, [], ◌∷◌, None, bytes_eq, if◌then◌else◌, ⊤}
use Rattle.station_ports.specs.declared.lists.FileEntry.{FileEntry}
use Rattle.station_ports.specs.declared.lists.Waiver.{Waiver}
use Rattle.st_tree.specs.declared.settings.Settings.{Settings}
use Rattle.finding_spans.specs.declared.report.Report.{Report}
use Rattle.project_keeper.specs.declared.rows.ProjectRow.{ProjectRow}
use Rattle.project_keeper.specs.declared.request.Request.{Request}
use Rattle.project_keeper.specs.declared.request.Reply.{Reply}
use Rattle.project_keeper.specs.declared.request.StationCode.{StationCode}
use Rattle.project_keeper.specs.declared.request.StationCode.TheVariants.{KeeperFailed, NoMemory}
use Rattle.project_keeper.specs.Projects.{Rows}
use Rattle.station_core.specs.Answer.{Answer, Says, Reports, Outcome, outcome, own_after, rows_after}

-- the reply is the answer: where that is a report, the reply has the one on these files and waivers under the settings
abbrev pub IsReply : (List FileEntry → List Waiver → Settings → Report → Type 0) → Settings → Answer → Reply → Type 0
IsReply reports settings (Says said) reply = reply ≡ said
IsReply reports settings (Reports files waivers) (Reply.Report report) = reports files waivers settings report
IsReply reports settings (Reports files waivers) reply = ⊥

abbrev pub refusal : StationCode → Reply
refusal code = Reply.Refused (record { code = code; current = None })

-- the reply is the answer, which is no report
abbrev pub IsSaid : Answer → Reply → Type 0
IsSaid (Says said) reply = reply ≡ said
IsSaid (Reports files waivers) reply = ⊥

-- the reply isn't that of a keeper that failed, nor of want of memory
pub record IsOwn (reply : Reply) : Type 0 where
  pub kept : reply ≢ refusal KeeperFailed
  pub found : reply ≢ refusal NoMemory

abbrev pub IsRefusal : Reply → Type 0
IsRefusal (Reply.Refused refused) = ⊤
IsRefusal reply = ⊥

-- the keeper failed, or there was no memory
abbrev pub IsGivenUp : Reply → Type 0
IsGivenUp reply = (reply ≡ refusal KeeperFailed) ⊎ (reply ≡ refusal NoMemory)

-- the reply is the answer of this outcome, and the rows after its change are held
abbrev pub IsAnswered : (List FileEntry → List Waiver → Settings → Report → Type 0) → Settings → List ℕ → (Rows → Type 0) → Outcome → Rows → Reply → Type 0
IsAnswered reports settings caller holds it rows reply = IsReply reports settings it.answer reply × holds (rows_after caller it.change rows)

-- the same of an outcome without a report
abbrev pub IsSaidAndHeld : List ℕ → (Rows → Type 0) → Outcome → Rows → Reply → Type 0
IsSaidAndHeld caller holds it rows reply = IsSaid it.answer reply × holds (rows_after caller it.change rows)

-- ---- lists of commands

-- a command of a caller
pub record Sent : Type 0 where
  pub caller : List ℕ
  pub request : Request

-- an answer to a caller
pub record Answered : Type 0 where
  pub caller : List ℕ
  pub answer : Answer

-- The answers to commands one after the other, and the rows after them.
abbrev pub answers : Settings → Rows → List Sent → List Answered
answers settings rows [] = []
answers settings rows (sent ∷ more) =
    let it = outcome settings sent.caller (rows sent.caller) sent.request in
    (record { caller = sent.caller; answer = it.answer }) ∷ answers settings (rows_after sent.caller it.change rows) more

abbrev pub rows_after_all : Settings → Rows → List Sent → Rows
rows_after_all settings rows [] = rows
rows_after_all settings rows (sent ∷ more) =
    let it = outcome settings sent.caller (rows sent.caller) sent.request in
    rows_after_all settings (rows_after sent.caller it.change rows) more

-- the requests that a caller sent, and the answers that it got
abbrev pub requests_of : List ℕ → List Sent → List Request
requests_of caller [] = []
requests_of caller (sent ∷ more) = if bytes_eq sent.caller caller then sent.request ∷ requests_of caller more else requests_of caller more

abbrev pub answers_to : List ℕ → List Answered → List Answer
answers_to caller [] = []
answers_to caller (answered ∷ more) = if bytes_eq answered.caller caller then answered.answer ∷ answers_to caller more else answers_to caller more

-- the answers that a caller would get if nobody else used the station, and its own rows after them
abbrev pub own_answers : Settings → List ℕ → List ProjectRow → List Request → List Answer
own_answers settings caller own [] = []
own_answers settings caller own (request ∷ more) =
    let it = outcome settings caller own request in
    it.answer ∷ own_answers settings caller (own_after it.change own) more

abbrev pub own_after_all : Settings → List ℕ → List ProjectRow → List Request → List ProjectRow
own_after_all settings caller own [] = own
own_after_all settings caller own (request ∷ more) = own_after_all settings caller (own_after (outcome settings caller own request).change own) more

-- ---- replies

-- the replies are these answers, one after the other
abbrev pub AreReplies : (List FileEntry → List Waiver → Settings → Report → Type 0) → Settings → List Answer → List Reply → Type 0
AreReplies reports settings [] [] = ⊤
AreReplies reports settings (answer ∷ answers) (reply ∷ replies) = IsReply reports settings answer reply × AreReplies reports settings answers replies
AreReplies reports settings _ _ = ⊥
