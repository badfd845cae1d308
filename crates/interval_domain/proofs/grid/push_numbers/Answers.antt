use Rattle.std.proofs.Common.{rules, ◌∙◌, FitsSigned, arith}
use Rattle.std.proofs.lemmas.Int.{to_z-of_z}
use mir.Syntax.{w128}
use Rattle.interval_domain.specs.Grid.{number_of}
use Rattle.interval_domain.proofs.Sets.{mapped-more}
use Rattle.interval_domain.proofs.grid.push_numbers.Goals as goal

pub loop-rank-preserved : goal.loop-rank-preserved
loop-rank-preserved c =
    let fits : FitsSigned w128 c.number_of.result = search rules in
    let number = to_z-of_z w128 c.number_of.result fits ∙ c.number_of.ensures in
    mapped-more number_of _ _ _ c.args.ranks.now c.loop-rank.rank-index 0 _ (omega arith) c.loop-rank.invariant
    c.in_ok-push.ensures.items number
