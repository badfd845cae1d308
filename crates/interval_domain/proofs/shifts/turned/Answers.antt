use Rattle.std.proofs.Common.{◌+◌, ◌/◌, ◌^◌, ◌<◌, ◌≤◌, arith}
use Rattle.interval_domain.proofs.Turning.{turned-at, word-above}
use Rattle.interval_domain.proofs.shifts.turned.Goals as goal

pub returns-clause-pattern : goal.returns-clause-pattern
returns-clause-pattern c =
    turned-at _ _ _ _ _ c.requires.place c.requires.pattern c.power.ensures.value c.moved_up.ensures

pub returns-clause-word : goal.returns-clause-word
returns-clause-word c =
    let below : c.moved_up.result + c.args.x / 2 ^ c.args.place < 2 ^ c.args.width =
    turned-at _ _ _ _ _ c.requires.place c.requires.pattern c.power.ensures.value c.moved_up.ensures in
    let above : 2 ^ c.args.width ≤ 2 ^ 64 = word-above c.args.width c.requires.few in
    omega arith
