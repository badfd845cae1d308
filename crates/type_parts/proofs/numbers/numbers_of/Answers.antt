use Rattle.std.proofs.Common.{◌-◌, ◌<◌, length, arith}
use Rattle.std.proofs.lemmas.Grind.{common_steps}
use Rattle.type_parts.specs.Tables.{bare_listed, enumerations_in}
use Rattle.type_parts.proofs.Numbering.{numbers_more}
use Rattle.type_parts.proofs.numbers.numbers_of.Goals as goal

pub loop-at-preserved : goal.loop-at-preserved
loop-at-preserved c =
    let rows = c.args.rows.now in
    let k = c.loop-at.at - 1 in
    let row = c.index-rows-at.result in
    let within : k < length rows = omega arith in (
      numbers_more (enumerations_in rows) k (bare_listed row) c.loop-at.numbers c.insert.new.self
          (grind (arith, common_steps)) (grind (arith, common_steps)) (grind (arith, common_steps))
          (grind (arith, common_steps)),
      omega arith,
    )
