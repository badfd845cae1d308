-- One more entry of a list of alarms.
use Rattle.std.proofs.Common.{◌≡◌, ℕ, ◌+◌, ◌<◌, List, [], ◌∷◌, ◌++◌, length, get_or, take, sym, subst}
use Rattle.std.specs.List.{AllByRecursion, AllZip}
use Rattle.std.proofs.lemmas.List.{take_more}
use Rattle.std.proofs.lemmas.Slice.Zip.{all_zipped_more}
use Rattle.st_tree.specs.declared.hit.Hit.{Hit}
use Rattle.first_form.specs.declared.tree.Unit.{Unit as SourceUnit}
use Rattle.first_form.specs.declared.tree.SourceTree.{SourceTree}
use Rattle.finding_spans.specs.declared.report.Alarm.{Alarm}
use Rattle.finding_spans.specs.declared.report.Entry.{Entry}
use Rattle.station_cli.specs.steps.Lines.{AreEntriesOf, IsEntryOf, IsInBody}
use Rattle.station_cli.proofs.Lists.{all_at}

pub one_more_entry : (name text : List ℕ) (tree : SourceTree) (unit : SourceUnit) (hits : List Hit) (k : ℕ) (d : Hit) (entries more : List (Entry Alarm)) (entry : Entry Alarm)
    → k < length hits → more ≡ entries ++ entry ∷ [] → AllByRecursion (λ (hit : Hit). IsInBody unit hit.site.node) hits
    → (IsInBody unit (get_or hits k d).site.node → IsEntryOf name text tree unit (get_or hits k d) entry)
    → AreEntriesOf name text tree unit (take k hits) entries → AreEntriesOf name text tree unit (take (k + 1) hits) more
one_more_entry name text tree unit hits k d entries more entry l e all made h =
    let R : Hit → Entry Alarm → Type 0 = IsEntryOf name text tree unit in
    let z = all_zipped_more R (take k hits) entries (get_or hits k d) entry h (made (all_at (λ (hit : Hit). IsInBody unit hit.site.node) hits k d all l)) in
    subst (λ (xs : List Hit). AllZip R xs more) (sym (take_more hits k d l)) (subst (λ (ys : List (Entry Alarm)). AllZip R (take k hits ++ get_or hits k d ∷ []) ys) (sym e) z)
