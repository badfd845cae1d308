-- The alarms of a report are those that the pass tells.
use Rattle.std.proofs.Common.{◌≡◌, ℕ, List, [], ◌∷◌, refl, sym, ap, ◌∙◌, subst, inl}
use Rattle.std.specs.Prelude.{ℤ}
use Rattle.std.specs.List.{AllByRecursion, Contains, IsDistinct}
use Rattle.std.specs.List.Sorted.{IsPermutation}
use Rattle.std.specs.Cmp.{both_ways}
use Rattle.std.proofs.lemmas.Bool.{eqb-true, eq-eqb}
use Rattle.std.proofs.lemmas.List.Sorted.{Contains-permutation, IsPermutation-sym}
use Rattle.std.proofs.lemmas.Map.Keys.{IsDistinct-IsPermutation}
use Rattle.iec_tables.specs.declared.kind.Kind.{Kind}
use Rattle.interval_domain.specs.Interval.{Interval, Span, IsWithin}
use Rattle.st_tree.specs.declared.node.Site.{Site}
use Rattle.st_tree.specs.declared.hit.Hit.{Hit}
use Rattle.first_form.specs.declared.tree.Unit.{Unit as SourceUnit}
use Rattle.first_form.specs.declared.tree.SourceTree.{SourceTree}
use Rattle.finding_spans.specs.declared.report.Alarm.{Alarm}
use Rattle.finding_spans.specs.declared.report.Entry.{Entry}
use Rattle.finding_spans.specs.Places.{IsReportedAt}
use Rattle.cycle_analysis.specs.Pass.{Entry as Told, Alarm as Alarmed}
use Rattle.cycle_analysis.specs.Table.{Each}
use Rattle.cycle_analysis.specs.Solved.{AreInOrder, alarms_of}
use Rattle.interval_domain.proofs.Within.{within_refl}
use Rattle.cycle_analysis.proofs.Told.{HasRange, listed, from_list, one_of}
use Rattle.cycle_analysis.proofs.Rising.{Rises, rising, same_node}
use Rattle.station_cli.specs.Report.{IsTold, IsHull, IsAlarm, AreOrdered, AreAlarms}
use Rattle.station_cli.specs.steps.Lines.{IsEntryOf, AreEntriesOf}
use Rattle.station_cli.proofs.Lists.{zip_back, zip_forth}

-- ---- the order

ordered : (name text : List ℕ) (tree : SourceTree) (unit : SourceUnit) (hits : List Hit) (entries : List (Entry Alarm)) → AreEntriesOf name text tree unit hits entries → Rises hits → AreOrdered entries
ordered name text tree unit [] [] h r = tt
ordered name text tree unit [] (e ∷ entries) h r = absurd h
ordered name text tree unit (a ∷ hits) [] h r = absurd h
ordered name text tree unit (a ∷ []) (d ∷ []) h r = tt
ordered name text tree unit (a ∷ []) (d ∷ e ∷ entries) h r = absurd h.1
ordered name text tree unit (a ∷ b ∷ hits) (d ∷ []) h r = absurd h.1
ordered name text tree unit (a ∷ b ∷ hits) (d ∷ e ∷ entries) h r =
    (inl (rw (h.0.alarm.site_is, h.1.0.alarm.site_is) r.0), ordered name text tree unit (b ∷ hits) (e ∷ entries) h.1 r.1)

-- ---- what is told

same_hull : (log : List Told) (kind k : Kind) (site s : Site) (low l high h : ℤ) → kind ≡ k → site ≡ s → low ≡ l → high ≡ h → IsHull log k s (Span l h) → IsHull log kind site (Span low high)
same_hull log kind k site s low l high h ek es el eh is = rw (ek, es, el, eh) is

told_as : (log : List Told) (kind k : Kind) (site s : Site) (i : Interval) → kind ≡ k → site ≡ s → Contains log (Alarmed k s i) → Contains log (Alarmed kind site i)
told_as log kind k site s i ek es c = subst (λ (x : Kind). Contains log (Alarmed x site i)) (sym ek) (subst (λ (x : Site). Contains log (Alarmed k x i)) (sym es) c)

flips : (a b : Hit) → same_node a b ≡ same_node b a
flips a b =
    both_ways (same_node a b) (same_node b a) (λ e. eq-eqb b.site.node.0 a.site.node.0 (sym (eqb-true a.site.node.0 b.site.node.0 e)))
    (λ e. eq-eqb a.site.node.0 b.site.node.0 (sym (eqb-true b.site.node.0 a.site.node.0 e)))

module _ (log : List Told) (ranges : Each HasRange log) (apart : IsDistinct same_node (alarms_of log)) where
  -- at a node there is one alarm, so that its range is the hull
  hull_of : (hit : Hit) → Contains (alarms_of log) hit → IsHull log hit.kind hit.site (Span hit.low hit.high)
  hull_of hit c = record {
    holds = λ i d.
        let l = listed log hit.kind hit.site i ranges d in
        let same = one_of same_node (alarms_of log) hit (record { site = hit.site; kind = hit.kind; low = l.low; high = l.high }) apart c l.there (eq-eqb _ _ refl) (eq-eqb _ _ refl) in
        let e : i ≡ Span hit.low hit.high = l.span ∙ sym (ap (λ (x : Hit). Span x.low x.high) same) in
        subst (IsWithin i) e (within_refl i);
    least = λ j f. f (Span hit.low hit.high) (from_list log hit c);
  }

  module _ (name text : List ℕ) (tree : SourceTree) (unit : SourceUnit) (hits : List Hit) (entries : List (Entry Alarm)) (sorted : IsPermutation (alarms_of log) hits) (made : AreEntriesOf name text tree unit hits entries) where
    each : (e : Entry Alarm) → Contains entries e → IsAlarm name text tree unit log e
    each e c =
        let z = zip_back (IsEntryOf name text tree unit) hits entries e made c in
        let hit = z.0 in
        let is = z.2 in
        let there = Contains-permutation hits (alarms_of log) hit (IsPermutation-sym (alarms_of log) hits sorted) z.1 in
        record {
          told = (Span hit.low hit.high, told_as log e.item.kind hit.kind e.item.site hit.site (Span hit.low hit.high) is.alarm.kind_is is.alarm.site_is (from_list log hit there));
          range = same_hull log e.item.kind hit.kind e.item.site hit.site e.item.low hit.low e.item.high hit.high is.alarm.kind_is is.alarm.site_is is.alarm.low_is is.alarm.high_is (hull_of hit there);
          under = is.under;
          at = is.at;
          reported = subst (λ (site : Site). IsReportedAt tree site.node is.at) (sym is.alarm.site_is) is.reported;
          position = is.position;
          file = is.file;
        }

    all : (kind : Kind) (site : Site) → IsTold log kind site → (e : Entry Alarm) × Contains entries e × (e.item.kind ≡ kind) × (e.item.site ≡ site)
    all kind site (i, c) =
        let l = listed log kind site i ranges c in
        let z = zip_forth (IsEntryOf name text tree unit) hits entries (record { site = site; kind = kind; low = l.low; high = l.high }) made (Contains-permutation (alarms_of log) hits _ sorted l.there) in
        (z.0, z.1, z.2.alarm.kind_is, z.2.alarm.site_is)

    pub are_alarms : AreInOrder hits → AllByRecursion (λ (hit : Hit). hit.site.file ≡ 0) hits → AreAlarms name text tree unit log entries
    are_alarms order files = record {
      ordered = ordered name text tree unit hits entries made (rising 0 hits order files (IsDistinct-IsPermutation same_node flips (alarms_of log) hits sorted apart));
      each = each;
      all = all;
    }
