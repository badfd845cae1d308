-- Each caller's answers and rows are its own.
use Rattle.std.proofs.Common.{◌≡◌, ℕ, Bool, true, false, cond, List, [], ◌∷◌, refl, sym, subst, ap, ◌∙◌}
use Rattle.std.specs.Prelude.{bytes_eq}
use Rattle.std.proofs.lemmas.Slice.Eq.{bytes_eq-Decides}
use Rattle.st_tree.specs.declared.settings.Settings.{Settings}
use Rattle.project_keeper.specs.declared.rows.ProjectRow.{ProjectRow}
use Rattle.project_keeper.specs.Projects.{Rows, with_project, with_edit}
use Rattle.station_ports.specs.declared.lists.FileEntry.{FileEntry}
use Rattle.station_ports.specs.declared.lists.Waiver.{Waiver}
use Rattle.finding_spans.specs.declared.report.Report.{Report}
use Rattle.project_keeper.specs.declared.request.Reply.{Reply}
use Rattle.station_core.specs.Answer.{Answer, Says, Reports, Outcome, Change, Nothing, Adds, Appends, outcome, own_after, rows_after}
use Rattle.station_core.specs.Commands.{Sent, answers, answers_to, requests_of, own_answers, own_after_all, rows_after_all, IsReply, AreReplies}

bytes_same : (xs ys : List ℕ) → bytes_eq xs ys ≡ true → xs ≡ ys
bytes_same xs ys h = (bytes_eq-Decides xs ys).0 h

bytes_self : (xs : List ℕ) → bytes_eq xs xs ≡ true
bytes_self xs = (bytes_eq-Decides xs xs).1 refl

-- ---- the rows after one command

own_changed : (caller : List ℕ) (change : Change) (rows : Rows) → rows_after caller change rows caller ≡ own_after change (rows caller)
own_changed caller Nothing rows = refl
own_changed caller (Adds project) rows = ap (λ b. cond b (with_project project (rows caller)) (rows caller)) (bytes_self caller)
own_changed caller (Appends project edit) rows = ap (λ b. cond b (with_edit project edit (rows caller)) (rows caller)) (bytes_self caller)

pub others_kept : (caller : List ℕ) (change : Change) (rows : Rows) (other : List ℕ) → bytes_eq caller other ≡ false → rows_after caller change rows other ≡ rows other
others_kept caller Nothing rows other h = refl
others_kept caller (Adds project) rows other h = ap (λ b. cond b (with_project project (rows other)) (rows other)) h
others_kept caller (Appends project edit) rows other h = ap (λ b. cond b (with_edit project edit (rows other)) (rows other)) h

-- ---- lists of commands

-- of a test that passes, or that doesn't, what stands in its first branches, or in its second
at_true : {A B C : Type 0} (F : B → C) (G : A → C) (b : Bool) (x y : A) (u v : B) → b ≡ true → G x ≡ F u → G (cond b x y) ≡ F (cond b u v)
at_true F G true x y u v is h = h
at_true F G false x y u v is h = cc

at_false : {A B C : Type 0} (F : B → C) (G : A → C) (b : Bool) (x y : A) (u v : B) → b ≡ false → G y ≡ F v → G (cond b x y) ≡ F (cond b u v)
at_false F G true x y u v is h = cc
at_false F G false x y u v is h = h

by_test : {C : Type 0} (b x : Bool) → x ≡ b → (x ≡ true → C) → (x ≡ false → C) → C
by_test true x is f g = f is
by_test false x is f g = g is

pub answers_apart : (settings : Settings) (rows : Rows) (commands : List Sent) (caller : List ℕ)
    → answers_to caller (answers settings rows commands) ≡ own_answers settings caller (rows caller) (requests_of caller commands)
answers_apart settings rows [] caller = refl
answers_apart settings rows (sent ∷ more) caller =
    let it : Outcome = outcome settings sent.caller (rows sent.caller) sent.request in
    let later : Rows = rows_after sent.caller it.change rows in
    by_test (bytes_eq sent.caller caller) (bytes_eq sent.caller caller) refl
    (λ is. at_true (own_answers settings caller (rows caller)) (λ (xs : List Answer). xs) (bytes_eq sent.caller caller)
    (it.answer ∷ answers_to caller (answers settings later more)) (answers_to caller (answers settings later more)) (sent.request ∷ requests_of caller more) (requests_of caller more) is
    (subst (λ (who : List ℕ). it.answer ∷ answers_to who (answers settings later more) ≡ own_answers settings who (rows who) (sent.request ∷ requests_of who more)) (bytes_same sent.caller caller is)
    (ap (λ (xs : List Answer). it.answer ∷ xs) (answers_apart settings later more sent.caller ∙ ap (λ (own : List ProjectRow). own_answers settings sent.caller own (requests_of sent.caller more)) (own_changed sent.caller it.change rows)))))
    (λ is. at_false (own_answers settings caller (rows caller)) (λ (xs : List Answer). xs) (bytes_eq sent.caller caller)
    (it.answer ∷ answers_to caller (answers settings later more)) (answers_to caller (answers settings later more)) (sent.request ∷ requests_of caller more) (requests_of caller more) is
    (answers_apart settings later more caller ∙ ap (λ (own : List ProjectRow). own_answers settings caller own (requests_of caller more)) (others_kept sent.caller it.change rows caller is)))

pub rows_apart : (settings : Settings) (rows : Rows) (commands : List Sent) (caller : List ℕ)
    → rows_after_all settings rows commands caller ≡ own_after_all settings caller (rows caller) (requests_of caller commands)
rows_apart settings rows [] caller = refl
rows_apart settings rows (sent ∷ more) caller =
    let it : Outcome = outcome settings sent.caller (rows sent.caller) sent.request in
    let later : Rows = rows_after sent.caller it.change rows in
    by_test (bytes_eq sent.caller caller) (bytes_eq sent.caller caller) refl
    (λ is. at_true (own_after_all settings caller (rows caller)) (λ (b : Bool). rows_after_all settings later more caller) (bytes_eq sent.caller caller)
    true true (sent.request ∷ requests_of caller more) (requests_of caller more) is
    (subst (λ (who : List ℕ). rows_after_all settings later more who ≡ own_after_all settings who (rows who) (sent.request ∷ requests_of who more)) (bytes_same sent.caller caller is)
    (rows_apart settings later more sent.caller ∙ ap (λ (own : List ProjectRow). own_after_all settings sent.caller own (requests_of sent.caller more)) (own_changed sent.caller it.change rows))))
    (λ is. at_false (own_after_all settings caller (rows caller)) (λ (b : Bool). rows_after_all settings later more caller) (bytes_eq sent.caller caller)
    true true (sent.request ∷ requests_of caller more) (requests_of caller more) is
    (rows_apart settings later more caller ∙ ap (λ (own : List ProjectRow). own_after_all settings caller own (requests_of caller more)) (others_kept sent.caller it.change rows caller is)))

-- ---- callers whose rows and requests agree

pub answers_agree : (settings : Settings) (rows other : Rows) (commands others : List Sent) (caller : List ℕ)
    → rows caller ≡ other caller → requests_of caller commands ≡ requests_of caller others
    → answers_to caller (answers settings rows commands) ≡ answers_to caller (answers settings other others)
answers_agree settings rows other commands others caller same asked =
    answers_apart settings rows commands caller
    ∙ ap (λ (own : List ProjectRow). own_answers settings caller own (requests_of caller commands)) same
    ∙ ap (own_answers settings caller (other caller)) asked
    ∙ sym (answers_apart settings other others caller)

pub rows_kept : (settings : Settings) (rows : Rows) (commands : List Sent) (caller : List ℕ)
    → requests_of caller commands ≡ [] → rows_after_all settings rows commands caller ≡ rows caller
rows_kept settings rows commands caller none =
    rows_apart settings rows commands caller ∙ ap (own_after_all settings caller (rows caller)) none

abbrev Reporting : Type 1
Reporting = List FileEntry → List Waiver → Settings → Report → Type 0

-- there is one report at most
abbrev IsOne : Reporting → Type 0
IsOne reports = (files : List FileEntry) (waivers : List Waiver) (settings : Settings) (report other : Report)
    → reports files waivers settings report → reports files waivers settings other → report ≡ other

by_report : {C : Type 0} (reports : Reporting) (settings : Settings) (files : List FileEntry) (waivers : List Waiver) (reply : Reply)
    → IsReply reports settings (Reports files waivers) reply → ((report : Report) → reply ≡ Reply.Report report → reports files waivers settings report → C) → C
by_report reports settings files waivers (Reply.Projects names) h f = absurd h
by_report reports settings files waivers Reply.Created h f = absurd h
by_report reports settings files waivers (Reply.Shown names revision) h f = absurd h
by_report reports settings files waivers (Reply.Text text) h f = absurd h
by_report reports settings files waivers (Reply.Accepted revision) h f = absurd h
by_report reports settings files waivers (Reply.Report report) h f = f report refl h
by_report reports settings files waivers (Reply.Refused refused) h f = absurd h

same_reply : (reports : Reporting) → IsOne reports → (settings : Settings) (answer : Answer) (x y : Reply)
    → IsReply reports settings answer x → IsReply reports settings answer y → x ≡ y
same_reply reports one settings (Says said) x y h k = h ∙ sym k
same_reply reports one settings (Reports files waivers) x y h k =
    by_report reports settings files waivers x h (λ report is r. by_report reports settings files waivers y k (λ other also s.
    is ∙ ap Reply.Report (one files waivers settings report other r s) ∙ sym also))

same_replies : (reports : Reporting) → IsOne reports → (settings : Settings) (answers : List Answer) (xs ys : List Reply)
    → AreReplies reports settings answers xs → AreReplies reports settings answers ys → xs ≡ ys
same_replies reports one settings [] [] [] h k = refl
same_replies reports one settings [] [] (y ∷ ys) h k = absurd k
same_replies reports one settings [] (x ∷ xs) ys h k = absurd h
same_replies reports one settings (a ∷ more) [] ys h k = absurd h
same_replies reports one settings (a ∷ more) (x ∷ xs) [] h k = absurd k
same_replies reports one settings (a ∷ more) (x ∷ xs) (y ∷ ys) h k =
    ap (λ (r : Reply). r ∷ xs) (same_reply reports one settings a x y h.0 k.0) ∙ ap (λ (rs : List Reply). y ∷ rs) (same_replies reports one settings more xs ys h.1 k.1)

pub replies_agree : (reports : Reporting) → IsOne reports → (settings : Settings) (rows other : Rows) (commands others : List Sent) (caller : List ℕ)
    (got given : List Reply) → rows caller ≡ other caller → requests_of caller commands ≡ requests_of caller others
    → AreReplies reports settings (answers_to caller (answers settings rows commands)) got
    → AreReplies reports settings (answers_to caller (answers settings other others)) given → got ≡ given
replies_agree reports one settings rows other commands others caller got given same asked h k =
    same_replies reports one settings (answers_to caller (answers settings other others)) got given
    (subst (λ (xs : List Answer). AreReplies reports settings xs got) (answers_agree settings rows other commands others caller same asked) h) k
