use Rattle.std.proofs.lemmas.Result.{IfOk-weaker}
use Rattle.project_keeper.specs.declared.request.Reply.{Reply}
use Rattle.project_keeper.specs.declared.request.Request.TheVariants.{Create}
use Rattle.station_core.specs.Answer.{own_outcome}
use Rattle.station_core.specs.Commands.{IsAnswered, IsSaidAndHeld}
use Rattle.station_core.proofs.Replies.{said_reply}
use Rattle.station_core.proofs.station.Station.answered.Goals as goal

pub returns-in-Create-clause-answer : goal.returns-in-Create-clause-answer
returns-in-Create-clause-answer g c m h t =
    let it = own_outcome (m c.args.caller.now) (Create c.in-Create.project) in
    rw c.in-Create.is
    (IfOk-weaker c.create.result
    (IsSaidAndHeld c.args.caller.now (g.K.Keeper.holds c.create.new.keeper) it m)
    (IsAnswered g.R.Reviewer.reports c.args.self.now.settings c.args.caller.now (g.K.Keeper.holds c.create.new.keeper) it m)
    (λ (reply : Reply) p. (said_reply g.R.Reviewer.reports c.args.self.now.settings it.answer reply p.0, p.1))
    (c.create.ensures.answer m h t))
