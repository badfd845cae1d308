use Rattle.std.proofs.Common.{◌≡◌, length, replicate}
use Rattle.interval_domain.specs.Interval.{Empty}
use Rattle.cycle_analysis.specs.Table.{points}
use Rattle.std.proofs.Common.{rules}
use Rattle.std.proofs.lemmas.List.Sorted.{answers_always}
use Rattle.cycle_analysis.specs.Solved.{key_of}
use Rattle.cycle_analysis.proofs.Rounds.{solved_by}
use Rattle.cycle_analysis.proofs.solution.solve_task.Goals as goal

pub returns-clause-solved : goal.returns-clause-solved
returns-clause-solved g c =
    let cells : c.as_slice-own.result.now ≡ c.args.task.now.cells = c.as_slice-own.ensures in
    let so : c.in_ok-start_intervals.field-0.items ≡ points c.args.task.now.cells = cc (c.in_ok-start_intervals.ensures) in
    let ho : c.in_ok-head.head.own.items ≡ replicate (length c.args.task.now.cells) Empty = cc (c.in_ok-head.ensures.own) in
    let to : c.in_ok-new.field-0.own.items ≡ replicate (length c.args.task.now.cells) Empty = cc (c.in_ok-new.ensures.own) in
    let wo : c.in_ok-writes.writes.own.items ≡ replicate (length c.args.task.now.cells) Empty = cc (c.in_ok-writes.ensures.own) in
    solved_by c.args.grid.now c.args.task.now c.args.shared.now
    (record { head = c.close_head.new.head; writes = c.raise-2.new.self; ranges = c.join_all.new.self; alarms = c.sort_unstable_by_key.new.self })
    (record { own = c.in_ok-start_intervals.field-0; shared = c.in_ok-start_intervals-2.field-0 }) c.in_ok-head.head c.raise.new.self c.in_ok-writes.writes
    (record { writes = c.in_ok-new.field-0; alarms = c.new-3.result }) c.close_head.new.told
    so c.in_ok-start_intervals-2.ensures
    ho c.in_ok-head.ensures.shared
    c.raise.ensures.own_places c.raise.ensures.shared_places c.raise.ensures.own c.raise.ensures.shared
    to c.in_ok-new.ensures.shared
    c.in_ok-close_head.ensures.told c.in_ok-close_head.ensures.turns c.in_ok-close_head.ensures.raised c.in_ok-close_head.ensures.least
    wo c.in_ok-writes.ensures.shared
    c.raise-2.ensures.own_places c.raise-2.ensures.shared_places c.raise-2.ensures.own c.raise-2.ensures.shared
    c.join_all.ensures.own_places c.join_all.ensures.shared_places c.join_all.ensures.own c.join_all.ensures.shared
    c.sort_unstable_by_key.ensures.permutation

pub returns-clause-ordered : goal.returns-clause-ordered
returns-clause-ordered g c = c.sort_unstable_by_key.ensures.sorted key_of (answers_always _ _ _ (λ f a r g' k. search rules))
