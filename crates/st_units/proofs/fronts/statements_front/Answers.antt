use Rattle.std.proofs.Common.{refl, arith}
use Rattle.st_statements.proofs.StatementExactness.{exact_statements}
use Rattle.st_units.proofs.FrontAnswers.{finds}
use Rattle.st_units.proofs.fronts.statements_front.Goals as goal

pub returns : goal.returns
returns c =
    finds exact_statements refl 0 (omega arith) c.args.tokens.now.text.now
    c.args.tokens.now.list.items c.args.from
    c.front.result c.front.ensures
