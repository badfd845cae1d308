use Rattle.std.proofs.Common.{◌∙◌, Bool, true, subst, sym}
use Rattle.st_tree.specs.Code.{reading}
use Rattle.cycle_analysis.specs.Solved.{IsRound, pass_from, head_of}
use Rattle.cycle_analysis.proofs.Rounds.{kept_places, raised_trans, round_raises, round_least}
use Rattle.cycle_analysis.proofs.solution.close_head.Goals as goal

pub rounds-preserved : goal.rounds-preserved
rounds-preserved g c =
    let r : IsRound c.args.grid.now (pass_from (reading c.args.task.now.code) (head_of c.rounds.head)).state c.rounds.head c.round.new.head c.round.new.point.state true =
    subst (λ (b : Bool). IsRound c.args.grid.now (pass_from (reading c.args.task.now.code) (head_of c.rounds.head)).state c.rounds.head c.round.new.head c.round.new.point.state b) c.if-branch.true c.in_ok-round.ensures.round in
    let k = kept_places c.rounds.told c.round.new.told (pass_from (reading c.args.task.now.code) (head_of c.rounds.head)).log c.in_ok-round.ensures.told in
    record {
      parsed = c.round.ensures.parsed ∙ c.rounds.invariant.parsed;
      own = r.3 ∙ sym r.1;
      shared = r.4 ∙ sym r.2;
      told_own = k.0 ∙ c.rounds.invariant.told_own;
      told_shared = k.1 ∙ c.rounds.invariant.told_shared;
      raised = raised_trans (head_of c.args.head.now) (head_of c.rounds.head) (head_of c.round.new.head) c.rounds.invariant.raised
          (round_raises c.args.grid.now (pass_from (reading c.args.task.now.code) (head_of c.rounds.head)).state c.rounds.head c.round.new.head c.round.new.point.state r);
      least = λ cells shared l. round_least c.args.grid.now (reading c.args.task.now.code) cells shared c.rounds.head c.round.new.head c.round.new.point.state r (c.rounds.invariant.least cells shared l);
    }
