use Rattle.std.proofs.Common.{arith}
use Rattle.std.proofs.lemmas.Grind.{common_steps}
use Rattle.type_parts.specs.Tables.{entries_in}
use Rattle.type_parts.proofs.Adding.{next_fields}
use Rattle.type_parts.proofs.fields.add_fields.Goals as goal

pub loop-group-preserved : goal.loop-group-preserved
loop-group-preserved c =
    next_fields c.args.number c.loop-group.place c.in_ok-place.place c.args.groups.now
    c.loop-group.group-index c.group-item.result (entries_in c.loop-group.names.items)
    (entries_in c.add_names.new.rows.items) _ (grind (arith, common_steps))
    (grind (arith, common_steps)) (grind (arith, common_steps)) (grind (arith, common_steps))
    c.loop-group.invariant
