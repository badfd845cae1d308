use Rattle.std.proofs.Common.{◌∙◌, ap, ℕ}
use Rattle.iec_tables.specs.Types.{width_of}
use Rattle.interval_domain.specs.Interval.{Interval}
use Rattle.interval_domain.specs.Shifts.{shl_of, shl_row}
use Rattle.interval_domain.proofs.Cuts.{moved-sound, moved-monotone}
use Rattle.interval_domain.proofs.Turning.{shl-operator}
use Rattle.interval_domain.proofs.shifts.shl.Goals as goal

pub returns-clause-raw : goal.returns-clause-raw
returns-clause-raw c =
    c.plain.ensures.raw ∙ c.shl_bounds.ensures.value
    ∙ ap (λ (w : ℕ). shl_row w c.patterns_in.result c.args.n) c.width.ensures.value
    ∙ ap (λ (i : Interval). shl_row (width_of c.args.t) i c.args.n) c.patterns_in.ensures.value

pub returns-clause-result : goal.returns-clause-result
returns-clause-result c =
    c.plain.ensures.result ∙ c.shl_bounds.ensures.value
    ∙ ap (λ (w : ℕ). shl_row w c.patterns_in.result c.args.n) c.width.ensures.value
    ∙ ap (λ (i : Interval). shl_row (width_of c.args.t) i c.args.n) c.patterns_in.ensures.value

pub returns-clause-sound : goal.returns-clause-sound
returns-clause-sound c =
    moved-sound shl_of (width_of c.args.t) (shl-operator (width_of c.args.t)) c.args.a c.args.n _ _
    (returns-clause-raw c) (returns-clause-result c)

pub returns-clause-monotone : goal.returns-clause-monotone
returns-clause-monotone c =
    moved-monotone shl_of (width_of c.args.t) (shl-operator (width_of c.args.t)) c.args.a c.args.n _ _
    (returns-clause-raw c) (returns-clause-result c)
    c.shl_bounds.ensures.ordered
