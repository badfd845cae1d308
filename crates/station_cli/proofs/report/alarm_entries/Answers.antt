use Rattle.station_cli.proofs.Entries.{one_more_entry}
use Rattle.station_cli.proofs.report.alarm_entries.Goals as goal

pub loop-hit-preserved : goal.loop-hit-preserved
loop-hit-preserved c = λ text is all.
    one_more_entry c.args.name.now text c.args.tree.now is.unit c.args.hits.now c.loop-hit.hit-index _ c.loop-hit.entries c.push.new.self c.in_ok-entry_of.field-0
    c.loop-hit-test.true c.in_ok-push.ensures.ok all (c.in_ok-entry_of.ensures text is) (c.loop-hit.invariant text is all)
