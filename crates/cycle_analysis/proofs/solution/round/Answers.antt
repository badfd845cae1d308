use Rattle.std.proofs.Common.{◌≡◌, Bool, subst}
use Rattle.st_tree.specs.Code.{reading}
use Rattle.cycle_analysis.specs.Fill.{end_of}
use Rattle.cycle_analysis.specs.Solved.{pass_from, head_of}
use Rattle.cycle_analysis.proofs.Rounds.{round_by}
use Rattle.cycle_analysis.proofs.solution.round.Goals as goal

pub returns-then-reached-clause-round : goal.returns-then-reached-clause-round
returns-then-reached-clause-round g c =
    round_by c.args.grid.now (reading c.args.task.now.code) c.args.head.now c.raise.new.self c.pass_head.new.point.state c.raise.result
    (subst (λ (b : Bool). end_of b c.pass_head.new.point.state ≡ (pass_from (reading c.args.task.now.code) (head_of c.args.head.now)).state) c.if-reached.true c.in_ok-reached.ensures.state)
    c.raise.ensures.own_places c.raise.ensures.shared_places c.raise.ensures.own c.raise.ensures.shared c.raise.ensures.stays_own c.raise.ensures.stays_shared c.raise.ensures.smaller
