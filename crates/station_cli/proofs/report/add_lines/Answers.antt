use Rattle.std.proofs.Common.{◌≡◌, ◌∙◌, ◌++◌, length, ap, subst, sym, List, take}
use Rattle.std.proofs.lemmas.List.{length_push}
use Rattle.std.proofs.lemmas.Slice.Zip.{zip_turn, zip_end}
use Rattle.finding_spans.specs.declared.report.RangeLine.{RangeLine}
use Rattle.station_cli.specs.steps.Lines.{lines_of}
use Rattle.station_cli.proofs.RangeLines.{line_pushed, lines_whole}
use Rattle.station_cli.proofs.report.add_lines.Goals as goal

pub loop-cell-preserved : goal.loop-cell-preserved
loop-cell-preserved c =
    let n = length_push c.loop-cell.yielded (c.in-Some.cell, c.in-Some.range) in
    let t = zip_turn c.args.cells.now c.args.ranges.now c.loop-cell.yielded c.into_iter-cell-iterator.result c.loop-cell.cell-iterator c.next.new.self _ (cc) (cc) c.loop-cell.yielded_by (c.in-Some.cell, c.in-Some.range) c.in-Some.is c.next.ensures.steps in
    let h = line_pushed c.args.lines.now c.loop-cell.lines c.push.new.self c.in_ok-range_line.field-0 c.args.cells.now c.args.ranges.now (length c.loop-cell.yielded) c.in-Some.cell.now c.in-Some.range.now t c.loop-cell.invariant c.in_ok-range_line.ensures c.in_ok-push.ensures.ok in
    subst (λ k. c.push.new.self ≡ c.args.lines.now ++ lines_of (take k c.args.cells.now) (take k c.args.ranges.now)) (sym n) h

pub returns : goal.returns
returns c =
    let e = zip_end c.args.cells.now c.args.ranges.now c.loop-cell.yielded c.into_iter-cell-iterator.result c.loop-cell.cell-iterator c.next.new.self _ (cc) (cc) c.loop-cell.yielded_by c.in-None.is c.next.ensures.steps in
    c.loop-cell.invariant ∙ ap (λ (lines : List RangeLine). c.args.lines.now ++ lines) (lines_whole c.args.cells.now c.args.ranges.now (length c.loop-cell.yielded) e)
