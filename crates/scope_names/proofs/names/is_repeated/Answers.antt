use Rattle.std.proofs.Common.{◌<◌, length, sym, subst₂, arith}
use Rattle.scope_names.specs.declared.names.NameRow.{NameRow}
use Rattle.scope_names.specs.Scopes.{Declares}
use Rattle.scope_names.proofs.Tables.{repeats, repeated}
use Rattle.scope_names.proofs.names.is_repeated.Goals as goal

pub returns : goal.returns
returns g c =
    let rows = c.args.rows.now in
    let at = c.args.at in
    let positive : 0 < at = omega arith in
    let within : at < length rows = omega arith in
    let Same : NameRow g.row.W.Denot → NameRow g.row.W.Denot → Type 0 = λ row other. Declares row.scope row.name.now other in (
      λ h. repeats rows c.requires at c.index-rows-at.result c.index-rows-at-2.result positive within
          (subst₂ Same c.index-rows-at.is c.index-rows-at-2.is (c.declares.ensures.0 h)),
      λ r. c.declares.ensures.1
          (subst₂ Same (sym c.index-rows-at.is) (sym c.index-rows-at-2.is) (repeated rows c.requires at c.index-rows-at.result c.index-rows-at-2.result positive within r)),
    )
