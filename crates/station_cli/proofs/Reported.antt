-- A text that is told determines how the call ends.
use Rattle.std.proofs.Common.{◌≡◌, ℕ, ◌<◌, Bool, true, false, List, length, Some, None, Ok, Err, refl, sym, ap, subst, ◌∙◌, arith, inl, inr}
use Rattle.std.specs.Prelude.{Option, Result}
use Rattle.station_ports.specs.declared.outside.PutRefusal.{PutRefusal}
use Rattle.station_ports.specs.declared.outside.PutRefusal.TheVariants as refusal
use Rattle.station_ports.specs.Views.{PortView}
use Rattle.station_ports.specs.Calls.{IsContent, IsTooLong}
use Rattle.finding_spans.specs.declared.report.Verdict.{Verdict}
use Rattle.finding_spans.specs.declared.report.Verdict.TheVariants as verdict
use Rattle.finding_spans.specs.declared.report.Report.{Report}
use Rattle.station_cli.specs.Words.{Command, check, command_of}
use Rattle.station_cli.specs.Report.{IsReport}
use Rattle.station_cli.specs.OneReport.{OneReport, OneCourse}
use Rattle.station_cli.specs.Run.{World, Course, misused, checked, too_long, unread, out_of_memory, Happens, verdict_status, status_of, max_file, after_fault, status_after, IsWork, IsWritten}
use Rattle.station_cli.specs.Causes.{Ends, IsReportedAs, IsToldReported, IsAboveLimit, EndsRead}
use Rattle.station_cli.specs.declared.status.Status.{Status}
use Rattle.station_cli.specs.declared.status.Status.TheVariants.{Clean, Open, NotAnalysed, Refused, Usage, ReadFault, WriteFault, NoMemory, TooLong}
use Rattle.station_cli.proofs.Complete.{ends, ended_so, risen}

same_name : (name other : List ℕ) → Some (check name) ≡ Some (check other) → name ≡ other
same_name name other e = cc

some_text : (content text : List ℕ) → Some content ≡ Some text → content ≡ text
some_text content text e = cc

-- two contents of one name are equal where the files tell
same_text : (old : World) (contents : List ℕ → Option (List ℕ)) (name other content text : List ℕ) → old.files.contents ≡ Some contents → name ≡ other → IsContent old.files name max_file content → IsContent old.files other max_file text → content ≡ text
same_text old contents name other content text told same a b = some_text content text (sym (rw told at a.holds) ∙ ap contents same ∙ rw told at b.holds)

-- a content within the limit is none above it
within_limit : (old : World) (contents : List ℕ → Option (List ℕ)) (name other content : List ℕ) → old.files.contents ≡ Some contents → name ≡ other → IsContent old.files name max_file content → IsTooLong old.files other max_file → ⊥
within_limit old contents name other content told same a b =
    let there : contents other ≡ Some content = sym (ap contents same) ∙ rw told at a.holds in
    let found = rw told at b in
    let above : max_file < length content = rw there at found in
    omega (arith, above, a.within)

-- ---- how a call ends

module _ (one : OneReport) (asked : Option Command) (old new : World) (old_out new_out : PortView) (contents : List ℕ → Option (List ℕ)) (told : old.files.contents ≡ Some contents)
    (name text : List ℕ) (made : Report) (a : asked ≡ Some (check name)) (content : IsContent old.files name max_file text) (report : IsReport name text made) where
  same_report : (other found : List ℕ) (given : Report) → Some (check name) ≡ Some (check other) → IsContent old.files other max_file found → IsReport other found given → given ≡ made
  same_report other found given e read h =
      let names : other ≡ name = sym (same_name name other e) in
      let texts : found ≡ text = same_text old contents other name found text told names read content in
      one name text given made (subst (λ (n : List ℕ). IsReport n text given) names (subst (λ (t : List ℕ). IsReport other t given) texts h)) report

  ends_reported : (course : Course) (status ended : Status) (line : List ℕ) → Happens asked old new course → status ≡ status_of course → IsWritten old_out new_out status line ended → EndsRead old new old_out new_out (verdict_status made.verdict) ended
  ends_reported misused status ended line h e put = let clash : Some (check name) ≡ None = sym a ∙ h.0 in cc
  ends_reported (checked other found given) status ended line h e put =
      let same = same_report other found given (sym a ∙ h.0) h.1 h.2 in
      inl (subst (λ (s : Status). Ends s old_out new_out ended) (e ∙ ap (λ (r : Report). verdict_status r.verdict) same) (ends put))
  ends_reported (too_long other) status ended line h e put = absurd (within_limit old contents name other text told (same_name name other (sym a ∙ h.0)) content h.1)
  ends_reported (unread other) status ended line h e put = inr (risen old.files.faults new.files.faults h.1.counted, rw e at (ends put))
  ends_reported out_of_memory status ended line h e put = inl (inr (inr (ended_so ended put.answer (rw e at put.status_is))))

pub reported_ends : OneReport → (words : List (List ℕ)) {old new : World} {status ended : Status} {text : List ℕ} {old_out new_out : PortView} → IsWork (command_of words) old new status text → IsWritten old_out new_out status text ended
    → (wanted : Status) → IsToldReported words old wanted → EndsRead old new old_out new_out wanted ended
reported_ends one words {old} {new} {status} {ended} {text} {old_out} {new_out} work put wanted t =
    subst (λ (s : Status). EndsRead old new old_out new_out s ended) t.reported.status_is
    (ends_reported one (command_of words) old new old_out new_out t.contents t.told t.reported.name t.reported.text t.reported.made t.reported.asked t.reported.content t.reported.report work.course status ended text work.cause work.status_is put)

-- ---- what a status of a verdict says

unsettled : {A : Type 0} → false ≡ true → A
unsettled e = absurd cc

abbrev is_of_verdict : Status → Bool
is_of_verdict Clean = true
is_of_verdict Open = true
is_of_verdict NotAnalysed = true
is_of_verdict Refused = true
is_of_verdict other = false

abbrev Is : Status → Status → Type 0
Is a b = a ≡ b

none_of_verdict : (wanted other : Status) → Is other wanted → is_of_verdict wanted ≡ true → is_of_verdict other ≡ true
none_of_verdict wanted other e v = subst (λ (s : Status). is_of_verdict s ≡ true) (sym e) v

after_none : (status : Status) → is_of_verdict (after_fault status) ≡ false
after_none NoMemory = refl
after_none Clean = refl
after_none Open = refl
after_none NotAnalysed = refl
after_none Refused = refl
after_none Usage = refl
after_none ReadFault = refl
after_none WriteFault = refl
after_none TooLong = refl

status_kept : (status wanted : Status) (answer : Result (Unit {0}) PutRefusal) → wanted ≡ status_after status answer → is_of_verdict wanted ≡ true → status ≡ wanted
status_kept status wanted (Ok done) e v = sym e
status_kept status wanted (Err refusal.NoMemory) e v = unsettled (none_of_verdict wanted NoMemory (sym e) v)
status_kept status wanted (Err refusal.Failed) e v = unsettled (sym (after_none status) ∙ none_of_verdict wanted (after_fault status) (sym e) v)

course_reported : (words : List (List ℕ)) (old new : World) (course : Course) (wanted : Status) → Happens (command_of words) old new course → status_of course ≡ wanted → is_of_verdict wanted ≡ true → IsReportedAs words old wanted
course_reported words old new misused wanted h e v = unsettled (none_of_verdict wanted Usage e v)
course_reported words old new (checked name text made) wanted h e v = record { name = name; text = text; made = made; asked = h.0; content = h.1; report = h.2; status_is = e }
course_reported words old new (too_long name) wanted h e v = unsettled (none_of_verdict wanted TooLong e v)
course_reported words old new (unread name) wanted h e v = unsettled (none_of_verdict wanted ReadFault e v)
course_reported words old new out_of_memory wanted h e v = unsettled (none_of_verdict wanted NoMemory e v)

pub status_reported : (words : List (List ℕ)) {old new : World} {status ended : Status} {text : List ℕ} {old_out new_out : PortView} → IsWork (command_of words) old new status text → IsWritten old_out new_out status text ended
    → (wanted : Status) → ended ≡ wanted → is_of_verdict wanted ≡ true → IsReportedAs words old wanted
status_reported words {old} {new} {status} {ended} {text} {old_out} {new_out} work put wanted e v =
    course_reported words old new work.course wanted work.cause (sym work.status_is ∙ status_kept status wanted put.answer (sym e ∙ put.status_is) v) v

-- ---- a file above the limit

abbrev is_long : Status → Bool
is_long TooLong = true
is_long other = false

fault_is_short : (status : Status) → is_long (after_fault status) ≡ false
fault_is_short NoMemory = refl
fault_is_short Clean = refl
fault_is_short Open = refl
fault_is_short NotAnalysed = refl
fault_is_short Refused = refl
fault_is_short Usage = refl
fault_is_short ReadFault = refl
fault_is_short WriteFault = refl
fault_is_short TooLong = refl

verdict_is_short : (v : Verdict) → is_long (verdict_status v) ≡ false
verdict_is_short verdict.Free = refl
verdict_is_short (verdict.Alarms told) = refl
verdict_is_short (verdict.Refused told) = refl
verdict_is_short (verdict.NotAnalysed told) = refl

long_kept : (status ended : Status) (answer : Result (Unit {0}) PutRefusal) → ended ≡ status_after status answer → ended ≡ TooLong → status ≡ TooLong
long_kept status ended (Ok done) e v = sym e ∙ v
long_kept status ended (Err refusal.NoMemory) e v = unsettled (ap is_long (sym e ∙ v))
long_kept status ended (Err refusal.Failed) e v = unsettled (sym (fault_is_short status) ∙ ap is_long (sym e ∙ v))

course_above : (words : List (List ℕ)) (old new : World) (course : Course) → Happens (command_of words) old new course → status_of course ≡ TooLong → IsAboveLimit words old
course_above words old new misused h e = unsettled (ap is_long e)
course_above words old new (checked name text made) h e = unsettled (sym (verdict_is_short made.verdict) ∙ ap is_long e)
course_above words old new (too_long name) h e = record { name = name; asked = h.0; content = h.1 }
course_above words old new (unread name) h e = unsettled (ap is_long e)
course_above words old new out_of_memory h e = unsettled (ap is_long e)

pub status_above : (words : List (List ℕ)) {old new : World} {status ended : Status} {text : List ℕ} {old_out new_out : PortView} → IsWork (command_of words) old new status text → IsWritten old_out new_out status text ended
    → ended ≡ TooLong → IsAboveLimit words old
status_above words {old} {new} {status} {ended} {text} {old_out} {new_out} work put v =
    course_above words old new work.course work.cause (sym work.status_is ∙ long_kept status ended put.answer put.status_is v)

-- ---- one course

nothing_asked : {A : Type 0} (command : Command) → None ≡ Some command → A
nothing_asked command e = absurd cc

pub one_course : OneReport → OneCourse
one_course one asked old new other contents misused misused told h k s t = refl
one_course one asked old new other contents misused (checked n x r) told h k s t = nothing_asked (check n) (sym h.0 ∙ k.0)
one_course one asked old new other contents misused (too_long n) told h k s t = nothing_asked (check n) (sym h.0 ∙ k.0)
one_course one asked old new other contents misused (unread n) told h k s t = unsettled t
one_course one asked old new other contents misused out_of_memory told h k s t = unsettled t
one_course one asked old new other contents (checked n x r) misused told h k s t = nothing_asked (check n) (sym k.0 ∙ h.0)
one_course one asked old new other contents (checked n x r) (checked m y q) told h k s t =
    let names : n ≡ m = same_name n m (sym h.0 ∙ k.0) in
    let texts : x ≡ y = same_text old contents n m x y told names h.1 k.1 in
    let reports : r ≡ q = one m y r q (subst (λ (z : List ℕ). IsReport z y r) names (subst (λ (z : List ℕ). IsReport n z r) texts h.2)) k.2 in
    ap (λ (z : List ℕ). checked z x r) names ∙ ap (λ (z : List ℕ). checked m z r) texts ∙ ap (checked m y) reports
one_course one asked old new other contents (checked n x r) (too_long m) told h k s t = absurd (within_limit old contents n m x told (same_name n m (sym h.0 ∙ k.0)) h.1 k.1)
one_course one asked old new other contents (checked n x r) (unread m) told h k s t = unsettled t
one_course one asked old new other contents (checked n x r) out_of_memory told h k s t = unsettled t
one_course one asked old new other contents (too_long n) misused told h k s t = nothing_asked (check n) (sym k.0 ∙ h.0)
one_course one asked old new other contents (too_long n) (checked m y q) told h k s t = absurd (within_limit old contents m n y told (same_name m n (sym k.0 ∙ h.0)) k.1 h.1)
one_course one asked old new other contents (too_long n) (too_long m) told h k s t = ap too_long (same_name n m (sym h.0 ∙ k.0))
one_course one asked old new other contents (too_long n) (unread m) told h k s t = unsettled t
one_course one asked old new other contents (too_long n) out_of_memory told h k s t = unsettled t
one_course one asked old new other contents (unread n) twin told h k s t = unsettled s
one_course one asked old new other contents out_of_memory twin told h k s t = unsettled s
