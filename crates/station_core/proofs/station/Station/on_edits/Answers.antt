use Rattle.std.proofs.Common.{◌<◌, ◌∙◌, ℕ, IfOk, sym, subst}
use Rattle.std.proofs.lemmas.Result.{IfOk-weaker}
use Rattle.project_keeper.specs.declared.request.Reply.{Reply}
use Rattle.station_core.specs.Answer.{Outcome, max_revision}
use Rattle.station_core.specs.steps.Deciding.{IsDecision, added}
use Rattle.station_core.specs.Commands.{IsAnswered, IsSaidAndHeld}
use Rattle.station_core.proofs.Outcomes.{refused_outcome, passed_outcome}
use Rattle.station_core.proofs.Lawful.{edit_lawful, has_room, added_outcome}
use Rattle.station_core.proofs.Replies.{said_reply, refused_reply, own_refusal, each_lawful, few_edits}
use Rattle.station_core.proofs.station.Station.on_edits.Goals as goal

pub decided-requires : goal.decided-requires
decided-requires g c = few_edits c.args.edits.now c.requires.edits

pub count_of-requires : goal.count_of-requires
count_of-requires g c = few_edits c.args.edits.now c.requires.edits

pub add-requires-clause-lawful : goal.add-requires-clause-lawful
add-requires-clause-lawful g c =
    let said = subst (IsDecision c.args.edits.now c.args.request.now) c.in-Ok-Appends.field-0-is c.in-Ok-Appends.ensures in
    edit_lawful c.args.edits.now c.args.request.now c.in-Ok-Appends.edit (each_lawful c.args.edits.now c.requires.edits) c.requires.names said.1 said.0

pub add-requires-clause-room : goal.add-requires-clause-room
add-requires-clause-room g c =
    let said = subst (IsDecision c.args.edits.now c.args.request.now) c.in-Ok-Appends.field-0-is c.in-Ok-Appends.ensures in
    subst (λ (n : ℕ). n < max_revision) (sym c.count_of-in-Ok-Appends.ensures)
    (has_room c.args.edits.now c.args.request.now c.in-Ok-Appends.edit said.1 said.0)

pub returns-in-Ok-Refused-clause-answer : goal.returns-in-Ok-Refused-clause-answer
returns-in-Ok-Refused-clause-answer g c m h t found =
    let own = m c.args.caller.now in
    let cause = subst (IsDecision c.args.edits.now c.args.request.now) c.in-Ok-Refused.field-0-is c.in-Ok-Refused.ensures in
    let reply = refused_reply c.in-Ok-Refused.code c.refused.result c.count_of.result c.args.edits.now c.refused.ensures c.count_of.ensures in
    subst (λ (o : Outcome). IsAnswered g.R.Reviewer.reports c.args.self.now.settings c.args.caller.now (g.K.Keeper.holds c.args.keeper.now) o m c.refused.result)
    (sym (refused_outcome own c.args.request.now c.args.project.now c.args.edits.now c.in-Ok-Refused.code c.requires.named found cause))
    (reply, h)

pub returns-in-Ok-Refused-clause-own : goal.returns-in-Ok-Refused-clause-own
returns-in-Ok-Refused-clause-own g c =
    let cause = subst (IsDecision c.args.edits.now c.args.request.now) c.in-Ok-Refused.field-0-is c.in-Ok-Refused.ensures in
    let reply = refused_reply c.in-Ok-Refused.code c.refused.result c.count_of.result c.args.edits.now c.refused.ensures c.count_of.ensures in
    own_refusal c.args.edits.now c.args.request.now c.in-Ok-Refused.code c.refused.result cause reply

pub returns-in-Ok-Appends-clause-answer : goal.returns-in-Ok-Appends-clause-answer
returns-in-Ok-Appends-clause-answer g c m h t found =
    let own = m c.args.caller.now in
    let it = added own c.args.edits.now c.args.project.now c.in-Ok-Appends.edit in
    let said = subst (IsDecision c.args.edits.now c.args.request.now) c.in-Ok-Appends.field-0-is c.in-Ok-Appends.ensures in
    subst (λ (o : Outcome). IfOk c.add.result (IsAnswered g.R.Reviewer.reports c.args.self.now.settings c.args.caller.now (g.K.Keeper.holds c.add.new.keeper) o m))
    (sym (passed_outcome own c.args.request.now c.args.project.now c.args.edits.now c.requires.named found said.0
    ∙ added_outcome own c.args.edits.now c.args.request.now c.args.project.now c.in-Ok-Appends.edit c.requires.named said.1))
    (IfOk-weaker c.add.result
    (IsSaidAndHeld c.args.caller.now (g.K.Keeper.holds c.add.new.keeper) it m)
    (IsAnswered g.R.Reviewer.reports c.args.self.now.settings c.args.caller.now (g.K.Keeper.holds c.add.new.keeper) it m)
    (λ (reply : Reply) p. (said_reply g.R.Reviewer.reports c.args.self.now.settings it.answer reply p.0, p.1))
    (c.add.ensures.answer m c.args.edits.now h t found c.count_of-in-Ok-Appends.ensures))
