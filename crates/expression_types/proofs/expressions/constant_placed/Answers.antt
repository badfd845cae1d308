use Rattle.expression_types.specs.Meanings.{meant}
use Rattle.expression_types.specs.Judge.{read, number_of}
use Rattle.expression_types.proofs.Told.{bind_some}
use Rattle.expression_types.proofs.expressions.constant_placed.Goals as goal

pub returns-in-Some : goal.returns-in-Some
returns-in-Some g c =
    let m = meant (g.M.Names.names c.args.meaning.now) (g.M.Meaning.parts c.args.meaning.now) in
    bind_some _ (number_of c.args.standing (read m c.args.standing c.args.e.now)) _ _ _ _ _
    c.in-Some.ensures c.number_of.ensures
