use Rattle.std.proofs.Common.{rules, ◌+◌, take, arith}
use Rattle.std.proofs.lemmas.Grind.{common_steps}
use Rattle.project_declarations.proofs.Adding.{adds_next_unit}
use Rattle.project_declarations.proofs.collected.Collected.all_units.Goals as goal

pub loop-unit-preserved : goal.loop-unit-preserved
loop-unit-preserved c =
    let list = c.args.list.now in
    let k = c.loop-unit.unit-index in
    adds_next_unit c.args.file (take k list) (take (k + 1) list) c.unit-item.result
    c.in_ok-number.number (grind (arith, common_steps)) (search rules) c.loop-unit.invariant c.in_ok-unit.ensures
