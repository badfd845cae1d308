-- What follows from the course that a call took and from the put of its line.
use Rattle.std.proofs.Common.{◌≡◌, ◌⊎◌, ℕ, ◌<◌, ◌≤◌, List, length, Some, None, Ok, Err, refl, ap, sym, subst, ◌∙◌, arith, inl, inr, true}
use Rattle.std.specs.Prelude.{Option, Result, ◌+◌, ◌-◌, ◌^◌, min}
use Rattle.std.proofs.Math.Nat.{le_refl}
use Rattle.std.specs.Io.KnownBytes.{Appends}
use Rattle.station_ports.specs.Views.{PortView}
use Rattle.station_ports.specs.Calls.{Rose, IsNextCount, IsPut}
use Rattle.station_ports.specs.declared.outside.PutRefusal.{PutRefusal}
use Rattle.station_ports.specs.declared.outside.PutRefusal.TheVariants as refusal
use Rattle.station_cli.specs.Words.{Command, check, command_of}
use Rattle.station_cli.specs.Run.{World, Course, misused, checked, too_long, unread, out_of_memory, Happens, status_of, is_settled, max_file, after_fault, status_after, IsWork, IsWritten}
use Rattle.station_cli.specs.Causes.{IsCalm, Completes, Ends, EndsRead, IsToldAbove}
use Rattle.station_cli.specs.declared.status.Status.{Status}
use Rattle.station_cli.specs.declared.status.Status.TheVariants.{Clean, Open, NotAnalysed, Refused, Usage, ReadFault, WriteFault, NoMemory, TooLong}

-- a count that is the next one rose
pub risen : (before now : ℕ) → IsNextCount before now → Rose before now
risen before now e = subst (λ (n : ℕ). min (before + 1) (2 ^ 64 - 1) ≤ n) (sym e) (le_refl (min (before + 1) (2 ^ 64 - 1)))

-- a course that its cause led to, and that wasn't cut short
settled : (asked : Option Command) (old new : World) (old_out new_out : PortView) (course : Course) → IsCalm old new old_out new_out → Happens asked old new course → (course ≡ out_of_memory) ⊎ (is_settled course ≡ true)
settled asked old new old_out new_out misused calm h = inr refl
settled asked old new old_out new_out (checked name text made) calm h = inr refl
settled asked old new old_out new_out (too_long name) calm h = inr refl
settled asked old new old_out new_out (unread name) calm h = absurd (calm.files (risen old.files.faults new.files.faults h.1.counted))
settled asked old new old_out new_out out_of_memory calm h = inl refl

-- the line was put, or there was no memory
put_whole : (old_out new_out : PortView) (status ended : Status) (text : List ℕ) (answer : Result (Unit {0}) PutRefusal) → IsPut old_out new_out text answer → ended ≡ status_after status answer → (Rose old_out.faults new_out.faults → ⊥) → (ended ≡ NoMemory) ⊎ ((ended ≡ status) × Appends old_out.sent new_out.sent text)
put_whole old_out new_out status ended text (Ok done) put e calm = inr (e, put.bytes_put)
put_whole old_out new_out status ended text (Err refusal.NoMemory) put e calm = inl e
put_whole old_out new_out status ended text (Err refusal.Failed) put e calm = absurd (calm (risen old_out.faults new_out.faults (put.cause.failed refl)))

pub completes : (words : List (List ℕ)) {old new : World} {status ended : Status} {text : List ℕ} {old_out new_out : PortView} → IsWork (command_of words) old new status text → IsWritten old_out new_out status text ended → Completes words old new old_out new_out ended
completes words {old} {new} {status} {ended} {text} {old_out} {new_out} work put calm =
    elim (put_whole old_out new_out status ended text put.answer put.written put.status_is calm.out) [
      | inl m ↦ inl m
      | inr p ↦ elim (settled (command_of words) old new old_out new_out work.course calm work.cause) [
        | inl m ↦ inl (p.0 ∙ work.status_is ∙ ap status_of m)
        | inr q ↦ inr (record {
          course = work.course;
          cause = work.cause;
          settled = q;
          status_is = p.0 ∙ work.status_is;
          all_put = rw (← work.text_is) p.1;
        })
      ]
    ]

-- the status, or the fault of its put
after_put : (old_out new_out : PortView) (status ended : Status) → Rose old_out.faults new_out.faults → ended ≡ after_fault status → Ends status old_out new_out ended
after_put old_out new_out NoMemory ended rose e = inr (inr e)
after_put old_out new_out Clean ended rose e = inr (inl (e, rose))
after_put old_out new_out Open ended rose e = inr (inl (e, rose))
after_put old_out new_out NotAnalysed ended rose e = inr (inl (e, rose))
after_put old_out new_out Refused ended rose e = inr (inl (e, rose))
after_put old_out new_out Usage ended rose e = inr (inl (e, rose))
after_put old_out new_out ReadFault ended rose e = inr (inl (e, rose))
after_put old_out new_out WriteFault ended rose e = inr (inl (e, rose))
after_put old_out new_out TooLong ended rose e = inr (inl (e, rose))

ends_by : (old_out new_out : PortView) (status ended : Status) (text : List ℕ) (answer : Result (Unit {0}) PutRefusal) → IsPut old_out new_out text answer → ended ≡ status_after status answer → Ends status old_out new_out ended
ends_by old_out new_out status ended text (Ok done) put e = inl e
ends_by old_out new_out status ended text (Err refusal.NoMemory) put e = inr (inr e)
ends_by old_out new_out status ended text (Err refusal.Failed) put e = after_put old_out new_out status ended (risen old_out.faults new_out.faults (put.cause.failed refl)) e

pub ends : {status ended : Status} {text : List ℕ} {old_out new_out : PortView} → IsWritten old_out new_out status text ended → Ends status old_out new_out ended
ends {status} {ended} {text} {old_out} {new_out} put = ends_by old_out new_out status ended text put.answer put.written put.status_is

-- want of memory stays want of memory
pub ended_so : (ended : Status) (answer : Result (Unit {0}) PutRefusal) → ended ≡ status_after NoMemory answer → ended ≡ NoMemory
ended_so ended (Ok done) e = e
ended_so ended (Err refusal.NoMemory) e = e
ended_so ended (Err refusal.Failed) e = e

-- words that ask for nothing
usage_of : (old new : World) (old_out new_out : PortView) (course : Course) (status ended : Status) (text : List ℕ) → Happens None old new course → status ≡ status_of course → IsWritten old_out new_out status text ended → Ends Usage old_out new_out ended
usage_of old new old_out new_out misused status ended text h e put = rw e at (ends put)
usage_of old new old_out new_out (checked name content made) status ended text h e put = cc
usage_of old new old_out new_out (too_long name) status ended text h e put = cc
usage_of old new old_out new_out (unread name) status ended text h e put = cc
usage_of old new old_out new_out out_of_memory status ended text h e put = inr (inr (ended_so ended put.answer (rw e at put.status_is)))

pub misused_ends : (words : List (List ℕ)) {old new : World} {status ended : Status} {text : List ℕ} {old_out new_out : PortView} → IsWork (command_of words) old new status text → IsWritten old_out new_out status text ended → command_of words ≡ None → Ends Usage old_out new_out ended
misused_ends words {old} {new} {status} {ended} {text} {old_out} {new_out} work put e =
    usage_of old new old_out new_out work.course status ended text (rw e at work.cause) work.status_is put

-- a content above the limit is none within it
not_within : (contents : List ℕ → Option (List ℕ)) (name other content text : List ℕ) → Some (check name) ≡ Some (check other) → contents name ≡ Some content → contents other ≡ Some text → max_file < length content → length text ≤ max_file → ⊥
not_within contents name other content text asked there holds above within =
    let same : name ≡ other = cc in
    let equal : Some content ≡ Some text = sym there ∙ ap contents same ∙ holds in
    let long : content ≡ text = cc in
    omega (arith, ap length long)

above_of : (asked : Option Command) (old new : World) (old_out new_out : PortView) (contents : List ℕ → Option (List ℕ)) (name content : List ℕ) (course : Course) (status ended : Status) (text : List ℕ) → asked ≡ Some (check name) → old.files.contents ≡ Some contents → contents name ≡ Some content → max_file < length content → Happens asked old new course → status ≡ status_of course → IsWritten old_out new_out status text ended → EndsRead old new old_out new_out TooLong ended
above_of asked old new old_out new_out contents name content misused status ended text a told there above h e put = let clash : Some (check name) ≡ None = sym a ∙ h.0 in cc
above_of asked old new old_out new_out contents name content (checked other found made) status ended text a told there above h e put =
    absurd (not_within contents name other content found (sym a ∙ h.0) there (rw told at h.1.holds) above h.1.within)
above_of asked old new old_out new_out contents name content (too_long other) status ended text a told there above h e put = inl (rw e at (ends put))
above_of asked old new old_out new_out contents name content (unread other) status ended text a told there above h e put = inr (risen old.files.faults new.files.faults h.1.counted, rw e at (ends put))
above_of asked old new old_out new_out contents name content out_of_memory status ended text a told there above h e put = inl (inr (inr (ended_so ended put.answer (rw e at put.status_is))))

pub above_ends : (words : List (List ℕ)) {old new : World} {status ended : Status} {text : List ℕ} {old_out new_out : PortView} → IsWork (command_of words) old new status text → IsWritten old_out new_out status text ended → IsToldAbove words old → EndsRead old new old_out new_out TooLong ended
above_ends words {old} {new} {status} {ended} {text} {old_out} {new_out} work put t =
    above_of (command_of words) old new old_out new_out t.contents t.name t.content work.course status ended text t.asked t.told t.there t.above work.cause work.status_is put
