use Rattle.std.proofs.Common.{◌<◌, get_or, ◌∙◌, arith}
use Rattle.std.proofs.lemmas.List.Elements.{Contains-get_or}
use Rattle.least_table.proofs.Queues.{queued_next}
use Rattle.least_table.proofs.pending.Pending.put_all.Goals as goal

pub put-requires : goal.put-requires
put-requires c =
    let inside : get_or c.args.units.now c.loop-unit.unit-index 0 < c.args.self.now.units =
    c.requires (get_or c.args.units.now c.loop-unit.unit-index 0)
    (Contains-get_or c.args.units.now c.loop-unit.unit-index 0 c.loop-unit-test.true) in
    omega (arith, c.loop-unit.invariant.units)

pub loop-unit-preserved : goal.loop-unit-preserved
loop-unit-preserved c = record {
  units = c.put.ensures.units ∙ c.loop-unit.invariant.units;
  queued =
      queued_next c.args.units.now c.loop-unit.unit-index c.args.self.now.queue c.loop-unit.self.queue
      c.put.new.self.queue
      c.loop-unit-test.true c.loop-unit.invariant.queued c.in_ok-put.ensures.queued;
}
