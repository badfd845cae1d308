-- What a pass tells determines the alarms of a report.
use Rattle.std.proofs.Common.{◌≡◌, ℕ, ◌<◌, List, [], ◌∷◌, sym, ap, subst, ◌∙◌, inl, inr, ⊎_elim, arith}
use Rattle.std.specs.Prelude.{map}
use Rattle.std.specs.List.{Contains}
use Rattle.std.proofs.lemmas.Option.{same_Some}
use Rattle.iec_tables.specs.declared.kind.Kind.{Kind}
use Rattle.interval_domain.specs.Interval.{Interval, Span}
use Rattle.interval_domain.proofs.OneGrid.{Rises, one_rising}
use Rattle.st_tree.specs.declared.node.Node.{Node}
use Rattle.st_tree.specs.declared.node.NodeNo.{NodeNo}
use Rattle.st_tree.specs.declared.node.Site.{Site}
use Rattle.first_form.specs.declared.tree.Unit.{Unit as SourceUnit}
use Rattle.first_form.specs.declared.tree.SourceTree.{SourceTree}
use Rattle.first_form.specs.Nodes.{IsNumbered, stmt_nodes}
use Rattle.finding_spans.specs.Places.{IsReportedAt}
use Rattle.finding_spans.specs.declared.report.Alarm.{Alarm}
use Rattle.finding_spans.specs.declared.report.Entry.{Entry}
use Rattle.finding_spans.proofs.OnePosition.{one_position}
use Rattle.finding_spans.proofs.OneStatement.{one_statement}
use Rattle.cycle_analysis.specs.Pass.{Entry as Told}
use Rattle.cycle_analysis.proofs.Lists.{first_in, in_cases}
use Rattle.cycle_analysis.proofs.OneTable.{within_both}
use Rattle.station_cli.specs.Report.{IsHull, IsUnder, IsAlarm, Precedes, AreOrdered, AreAlarms, subject}

-- ---- the order

abbrev Before : Entry Alarm → Entry Alarm → Type 0
Before d e = Precedes d.item e.item

not_itself : (e : Entry Alarm) → Before e e → ⊥
not_itself e (inl l) = omega arith
not_itself e (inr (same, l)) = omega arith

along : (d e f : Entry Alarm) → Before d e → Before e f → Before d f
along d e f (inl l) (inl m) = inl (omega arith)
along d e f (inl l) (inr (same, m)) = inl (subst (λ (number : NodeNo). d.item.site.node.0 < number.0) same l)
along d e f (inr (same, l)) (inl m) = inl (subst (λ (number : NodeNo). number.0 < f.item.site.node.0) (sym same) m)
along d e f (inr (same, l)) (inr (again, m)) = inr (same ∙ again, omega arith)

-- each entry precedes all that follow it
rises : (es : List (Entry Alarm)) → AreOrdered es → Rises Before es
rises [] h = tt
rises (e ∷ []) h = (λ f c. absurd (omega (arith, c.1)), tt)
rises (d ∷ e ∷ es) h =
    let more : Rises Before (e ∷ es) = rises (e ∷ es) h.1 in
    (λ f c. ⊎_elim (λ same. subst (Before d) same h.0) (λ later. along d e f h.0 (more.0 f later)) (in_cases e f es c), more)

-- ---- an entry

one_range : (log : List Told) (kind k : Kind) (site s : Site) (i j : Interval) → kind ≡ k → site ≡ s → IsHull log kind site i → IsHull log k s j → i ≡ j
one_range log kind k site s i j ek es a b =
    let too : IsHull log kind site j = subst (λ (x : Kind). IsHull log x site j) (sym ek) (subst (λ (x : Site). IsHull log k x j) (sym es) b) in
    within_both i j (a.least j too.holds) (too.least i a.holds)

one_place : (tree : SourceTree) (number other : NodeNo) (at place : ℕ) → number ≡ other → IsReportedAt tree number at → IsReportedAt tree other place → at ≡ place
one_place tree number other at place e a b =
    let (node, found, is) = a in
    let (node', found', is') = subst (λ (n : NodeNo). IsReportedAt tree n place) (sym e) b in
    is ∙ ap (λ (n : Node). n.start) (same_Some node node' (sym found ∙ found')) ∙ sym is'

module _ (name text : List ℕ) (tree : SourceTree) (unit : SourceUnit) (log : List Told) (units : tree.units ≡ unit ∷ []) (numbered : IsNumbered tree) where
  one_stmt : (a b : Alarm) (u : IsUnder unit a) (v : IsUnder unit b) → a.site ≡ b.site → u.stmt ≡ v.stmt
  one_stmt a b u v e =
      let there : Contains tree.units unit = subst (λ (us : List SourceUnit). Contains us unit) (sym units) (first_in unit []) in
      let holds : Contains (map (λ (node : Node). node.number) (stmt_nodes v.stmt)) a.site.node =
      subst (λ (site : Site). Contains (map (λ (node : Node). node.number) (stmt_nodes v.stmt)) site.node) (sym e) v.holds in
      one_statement tree a.site.node unit u.stmt v.stmt numbered there u.there v.there u.holds holds

  -- At one node there is one alarm of a kind.
  one_entry : (d e : Entry Alarm) → IsAlarm name text tree unit log d → IsAlarm name text tree unit log e → d.item.kind ≡ e.item.kind → d.item.site ≡ e.item.site → d ≡ e
  one_entry d e a b kind site =
      let range = one_range log d.item.kind e.item.kind d.item.site e.item.site (Span d.item.low d.item.high) (Span e.item.low e.item.high) kind site a.range b.range in
      let low : d.item.low ≡ e.item.low = cc range in
      let high : d.item.high ≡ e.item.high = cc range in
      let stmt : a.under.stmt ≡ b.under.stmt = one_stmt d.item e.item a.under b.under site in
      let unit_is : d.item.unit ≡ e.item.unit = a.under.unit_is ∙ sym b.under.unit_is in
      let subject_is : d.item.subject ≡ e.item.subject = a.under.subject_is ∙ ap subject stmt ∙ sym b.under.subject_is in
      let at : a.at ≡ b.at = one_place tree d.item.site.node e.item.site.node a.at b.at (ap (λ (s : Site). s.node) site) a.reported b.reported in
      let position = one_position text a.at b.at d.line d.column e.line e.column at a.position b.position in
      let file : d.file ≡ e.file = a.file ∙ sym b.file in
      λ i. record {
        item = record { kind = kind i; unit = unit_is i; subject = subject_is i; site = site i; low = low i; high = high i };
        file = file i;
        line = position.0 i;
        column = position.1 i;
      }

  there : (es fs : List (Entry Alarm)) → AreAlarms name text tree unit log es → AreAlarms name text tree unit log fs → (e : Entry Alarm) → Contains es e → Contains fs e
  there es fs a b e c =
      let is = a.each e c in
      let (f, d, kind, site) = b.all e.item.kind e.item.site is.told in
      subst (Contains fs) (sym (one_entry e f is (b.each f d) (sym kind) (sym site))) d

  pub one_alarms : (es fs : List (Entry Alarm)) → AreAlarms name text tree unit log es → AreAlarms name text tree unit log fs → es ≡ fs
  one_alarms es fs a b = one_rising Before not_itself along es fs (rises es a.ordered) (rises fs b.ordered) (there es fs a b) (there fs es b a)
