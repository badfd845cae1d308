use Rattle.std.proofs.Common.{◌≡◌, List, MatchOption, subst}
use Rattle.iec_tables.specs.declared.words.Word.{Word}
use Rattle.iec_tables.specs.Words.{HasRow, HasNoRow, raised_all}
use Rattle.iec_tables.proofs.words.Sorted.find.Goals as goal

pub returns : goal.returns
returns g c =
    let view : c.self.inside.rows.now ≡ c.args.self.now = c.self.view_is in
    subst (λ (rows : List Word). MatchOption c.find_row.result (HasNoRow rows (raised_all c.args.key.now)) (HasRow rows (raised_all c.args.key.now))) view c.find_row.ensures
