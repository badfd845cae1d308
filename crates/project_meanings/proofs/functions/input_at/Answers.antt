use Rattle.declared_names.specs.Tables.{known_at}
use Rattle.project_meanings.proofs.Inputs.{taken_there}
use Rattle.project_meanings.proofs.functions.input_at.Goals as goal

pub returns-then-place-rows : goal.returns-then-place-rows
returns-then-place-rows c =
    taken_there (known_at c.args.at.now) c.args.rows.now c.args.place _ _ _ c.if-place-rows.true
    c.given_there.ensures c.taken_of.ensures
