use Rattle.std.proofs.Common.{subst, sym}
use Rattle.least_table.specs.System.{Intervals, IsJoined}
use Rattle.least_table.proofs.Settling.{below_joined, settled_joined}
use Rattle.least_table.proofs.solver.evaluate.Goals as goal

pub settle_unit-requires-clause-next : goal.settle_unit-requires-clause-next
settle_unit-requires-clause-next g c =
    let m = g.S.System.meaning c.args.sys.now in
    below_joined m c.args.unit c.args.table.now c.raise.new.into
    (g.met.S.System.law c.args.sys.now) c.requires.unit c.requires.table
    (subst (λ (t : Intervals). IsJoined
    (m.gives c.args.unit c.args.table.now) t c.raise.new.into) c.requires.next c.in_ok-raise.ensures.joined)

pub settle_unit-requires-clause-settled : goal.settle_unit-requires-clause-settled
settle_unit-requires-clause-settled g c =
    let m = g.S.System.meaning c.args.sys.now in
    settled_joined m c.args.unit c.args.table.now c.raise.new.into c.args.pending.now.queue c.requires.table.is_table
    (subst (λ (t : Intervals). IsJoined
    (m.gives c.args.unit c.args.table.now) t c.raise.new.into) c.requires.next c.in_ok-raise.ensures.joined)
    c.requires.settled

pub returns-clause-joined : goal.returns-clause-joined
returns-clause-joined g c =
    let given = (g.S.System.meaning c.args.sys.now).gives c.args.unit c.args.table.now in
    subst (λ (t : Intervals). IsJoined given t c.settle_unit.new.table) c.requires.next
    (subst (λ (t : Intervals). IsJoined given c.args.next.now t) (sym c.in_ok-settle_unit.ensures.next) c.in_ok-raise.ensures.joined)
