use Rattle.std.proofs.Common.{refl}
use Rattle.st_expr.proofs.Exactness.{exact_expression}
use Rattle.st_units.proofs.FrontAnswers.{finds}
use Rattle.st_units.proofs.fronts.expression_front.Goals as goal

pub returns : goal.returns
returns c =
    finds exact_expression refl c.args.outer c.requires.outer c.args.tokens.now.text.now
    c.args.tokens.now.list.items c.args.from
    c.front.result c.front.ensures
