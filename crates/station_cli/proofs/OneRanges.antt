-- The cells and the table determine the ranges of a report.
use Rattle.std.proofs.Common.{◌≡◌, ℕ, suc, List, [], ◌∷◌, Some, refl, sym, ap, ◌∙◌}
use Rattle.std.specs.Prelude.{map, slice_get}
use Rattle.interval_domain.specs.Interval.{Interval, Span, hull}
use Rattle.st_tree.specs.declared.code.CellInfo.{CellInfo}
use Rattle.st_tree.specs.declared.code.TaskCode.{TaskCode}
use Rattle.finding_spans.specs.declared.report.RangeLine.{RangeLine}
use Rattle.cycle_analysis.specs.Pass.{at}
use Rattle.cycle_analysis.specs.Table.{Part, part_at, points, own_range}
use Rattle.station_cli.specs.Report.{AreRanges}

abbrev names : List RangeLine → List (List ℕ)
names lines = map (λ (line : RangeLine). line.name) lines

-- the bounds of the lines are these ranges
abbrev HaveBounds : (ℕ → Interval) → List RangeLine → Type 0
HaveBounds range lines = (k : ℕ) (line : RangeLine) → slice_get lines k ≡ Some line → range k ≡ Span line.low line.high

same_line : (l m : RangeLine) → l.name ≡ m.name → Span l.low l.high ≡ Span m.low m.high → l ≡ m
same_line l m name e =
    let low : l.low ≡ m.low = cc in
    let high : l.high ≡ m.high = cc in
    λ i. record { name = name i; low = low i; high = high i }

one_lines : (range : ℕ → Interval) (ls ms : List RangeLine) → names ls ≡ names ms → HaveBounds range ls → HaveBounds range ms → ls ≡ ms
one_lines range [] [] e a b = refl
one_lines range [] (m ∷ ms) e a b = absurd cc
one_lines range (l ∷ ls) [] e a b = absurd cc
one_lines range (l ∷ ls) (m ∷ ms) e a b =
    let name : l.name ≡ m.name = cc in
    let more : names ls ≡ names ms = cc in
    let first : l ≡ m = same_line l m name (sym (a 0 l refl) ∙ b 0 m refl) in
    let rest : ls ≡ ms = one_lines (λ k. range (suc k)) ls ms more (λ k. a (suc k)) (λ k. b (suc k)) in
    cc

pub one_ranges : (t u : TaskCode) (table : List Part) (ls ms : List RangeLine) → t.cells ≡ u.cells → AreRanges t table ls → AreRanges u table ms → ls ≡ ms
one_ranges t u table ls ms e a b =
    one_lines (own_range t (part_at table 0)) ls ms (a.names ∙ ap (map (λ (cell : CellInfo). cell.path)) e ∙ sym b.names) a.ranges
    (λ k line g. ap (λ (cells : List CellInfo). hull (at (points cells) k) (at (part_at table 0).own k)) e ∙ b.ranges k line g)
