use Rattle.std.proofs.Common.{map, ◌-◌, ◌<◌, length, arith}
use Rattle.std.proofs.lemmas.Grind.{common_steps}
use Rattle.project_declarations.specs.Rows.{bare_decl}
use Rattle.declaration_order.proofs.Numbering.{numbers_more}
use Rattle.declaration_order.proofs.declared.DeclTable.of.Goals as goal

pub loop-at-preserved : goal.loop-at-preserved
loop-at-preserved c =
    let rows = c.args.rows.items in
    let k = c.loop-at.at - 1 in
    let row = c.index-row.result.now in
    let within : k < length rows = omega arith in (
      numbers_more (map bare_decl rows) k (bare_decl row) c.loop-at.numbers c.insert.new.self
          (grind (arith, common_steps)) (grind (arith, common_steps)) (grind (arith, common_steps)) (grind (arith, common_steps)),
      omega arith,
    )
