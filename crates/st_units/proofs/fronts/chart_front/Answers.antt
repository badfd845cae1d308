use Rattle.std.proofs.Common.{refl, arith}
use Rattle.sfc_text.proofs.Forms.{form_sfc}
use Rattle.st_units.proofs.FrontAnswers.{finds}
use Rattle.st_units.proofs.fronts.chart_front.Goals as goal

pub returns : goal.returns
returns c =
    finds form_sfc.exact refl 0 (omega arith) c.args.tokens.now.text.now
    c.args.tokens.now.list.items c.args.from
    c.front.result c.front.ensures
