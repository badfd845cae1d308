-- The lines of cells, one by one, and what they say where the ranges are those of the analysis.
use Rattle.std.proofs.Common.{◌≡◌, ℕ, zero, suc, ◌+◌, ◌<◌, List, [], ◌∷◌, ◌++◌, length, get_or, take, min, append_assoc, append-nil, refl, sym, ap, ◌∙◌, arith, add-one}
use Rattle.std.specs.Prelude.{ℤ, map, flat_map, Some, slice_get}
use Rattle.std.specs.Int.{int_max, int_min}
use Rattle.std.proofs.lemmas.Option.{same_Some, none-some}
use Rattle.interval_domain.specs.Interval.{Interval, Empty, Span, hull}
use Rattle.st_tree.specs.declared.code.TaskCode.{TaskCode}
use Rattle.st_tree.specs.declared.code.Component.{Component}
use Rattle.cycle_analysis.specs.declared.solution.Solution.{Solution}
use Rattle.cycle_analysis.specs.Pass.{at}
use Rattle.cycle_analysis.specs.Table.{points}
use Rattle.cycle_analysis.specs.Solved.{HasRanges, table_of}
use Rattle.station_cli.specs.Report.{AreRanges}
use Rattle.st_tree.specs.declared.code.CellInfo.{CellInfo}
use Rattle.finding_spans.specs.declared.report.RangeLine.{RangeLine}
use Rattle.station_cli.specs.steps.Lines.{range_line, lines_of}

lines_suc : (cells : List CellInfo) (ranges : List Interval) (n : ℕ) (c : CellInfo) (i : Interval) → n < length cells → n < length ranges
    → lines_of (take (suc n) cells) (take (suc n) ranges) ≡ lines_of (take n cells) (take n ranges) ++ range_line (get_or cells n c) (get_or ranges n i) ∷ []
lines_suc [] ranges n c i l m = absurd (omega arith)
lines_suc (x ∷ cells) [] n c i l m = absurd (omega arith)
lines_suc (x ∷ cells) (y ∷ ranges) zero c i l m = refl
lines_suc (x ∷ cells) (y ∷ ranges) (suc n) c i l m = ap (λ (lines : List RangeLine). range_line x y ∷ lines) (lines_suc cells ranges n c i (omega arith) (omega arith))

-- one more line
pub line_pushed : (before lines more : List RangeLine) (line : RangeLine) (cells : List CellInfo) (ranges : List Interval) (n : ℕ) (cell : CellInfo) (range : Interval)
    → (n < length cells) × (n < length ranges) × ((d : CellInfo) → cell ≡ get_or cells n d) × ((d : Interval) → range ≡ get_or ranges n d)
    → lines ≡ before ++ lines_of (take n cells) (take n ranges) → line ≡ range_line cell range → more ≡ lines ++ line ∷ []
    → more ≡ before ++ lines_of (take (n + 1) cells) (take (n + 1) ranges)
line_pushed before lines more line cells ranges n cell range (l, m, ec, er) h e p =
    let s = lines_suc cells ranges n cell range l m in
    let a = append_assoc before (lines_of (take n cells) (take n ranges)) (line ∷ []) in
    let c = ec cell in
    let r = er range in
    rw add-one cc

-- the end of the cells or of the ranges is the end of the lines
pub lines_whole : (cells : List CellInfo) (ranges : List Interval) (n : ℕ) → n ≡ min (length cells) (length ranges) → lines_of (take n cells) (take n ranges) ≡ lines_of cells ranges
lines_whole [] ranges zero e = refl
lines_whole [] ranges (suc n) e = refl
lines_whole (x ∷ cells) [] zero e = refl
lines_whole (x ∷ cells) [] (suc n) e = refl
lines_whole (x ∷ cells) (y ∷ ranges) zero e = absurd (omega arith)
lines_whole (x ∷ cells) (y ∷ ranges) (suc n) e = ap (λ (lines : List RangeLine). range_line x y ∷ lines) (lines_whole cells ranges n (omega arith))

-- ---- the lines and the ranges

hull_is : (a b : ℤ) (j : Interval) → (low : ℤ) × (high : ℤ) × (hull (Span a b) j ≡ Span low high)
hull_is a b Empty = (a, b, refl)
hull_is a b (Span c d) = (int_min a c, int_max b d, refl)

no_hull : (a b : ℤ) (j : Interval) → Empty ≡ hull (Span a b) j → ⊥
no_hull a b j e = let h = hull_is a b j in let g = e ∙ h.2 in cc

-- Each range is the hull of the start value and what is written.
abbrev pub AreHulls : List CellInfo → (ℕ → Interval) → List Interval → Type 0
AreHulls cells written ranges = (k : ℕ) → at ranges k ≡ hull (at (points cells) k) (written k)

pub lines_names : (cells : List CellInfo) (written : ℕ → Interval) (ranges : List Interval) → AreHulls cells written ranges
    → map (λ (line : RangeLine). line.name) (lines_of cells ranges) ≡ map (λ (cell : CellInfo). cell.path) cells
lines_names [] written ranges h = refl
lines_names (cell ∷ cells) written [] h = absurd (no_hull cell.start cell.start (written 0) (h 0))
lines_names (cell ∷ cells) written (Empty ∷ ranges) h = absurd (no_hull cell.start cell.start (written 0) (h 0))
lines_names (cell ∷ cells) written (Span low high ∷ ranges) h =
    ap (λ (names : List (List ℕ)). cell.path ∷ names) (lines_names cells (λ k. written (suc k)) ranges (λ k. h (suc k)))

pub lines_ranges : (cells : List CellInfo) (written : ℕ → Interval) (ranges : List Interval) → AreHulls cells written ranges → (k : ℕ) (line : RangeLine)
    → slice_get (lines_of cells ranges) k ≡ Some line → hull (at (points cells) k) (written k) ≡ Span line.low line.high
lines_ranges [] written ranges h k line e = absurd (none-some line e)
lines_ranges (cell ∷ cells) written [] h k line e = absurd (none-some line e)
lines_ranges (cell ∷ cells) written (Empty ∷ ranges) h k line e = absurd (no_hull cell.start cell.start (written 0) (h 0))
lines_ranges (cell ∷ cells) written (Span low high ∷ ranges) h zero line e =
    sym (h 0) ∙ ap (λ (l : RangeLine). Span l.low l.high) (same_Some (range_line cell (Span low high)) line e)
lines_ranges (cell ∷ cells) written (Span low high ∷ ranges) h (suc k) line e = lines_ranges cells (λ j. written (suc j)) ranges (λ j. h (suc j)) k line e

-- The lines of the one task of a component with no shared cells.
pub are_ranges : (component : Component) (task : TaskCode) (s : Solution) (lines : List RangeLine) → component.tasks ≡ task ∷ [] → component.shared ≡ [] → HasRanges component task s
    → lines ≡ lines_of component.shared s.ranges.shared.items ++ flat_map (λ (t : TaskCode). lines_of t.cells s.ranges.own.items) component.tasks
    → AreRanges task (table_of s ∷ []) lines
are_ranges component task s lines et es h e =
    let own = s.ranges.own.items in
    let written : ℕ → Interval = λ k. at (table_of s).own k in
    let is : lines ≡ lines_of task.cells own =
    e ∙ ap (λ (cells : List CellInfo). lines_of cells s.ranges.shared.items ++ flat_map (λ (t : TaskCode). lines_of t.cells own) component.tasks) es
    ∙ ap (λ (tasks : List TaskCode). flat_map (λ (t : TaskCode). lines_of t.cells own) tasks) et ∙ append-nil (lines_of task.cells own) in
    record {
      names = ap (map (λ (line : RangeLine). line.name)) is ∙ lines_names task.cells written own h.own;
      ranges = λ k line g. lines_ranges task.cells written own h.own k line (ap (λ (l : List RangeLine). slice_get l k) (sym is) ∙ g);
    }
