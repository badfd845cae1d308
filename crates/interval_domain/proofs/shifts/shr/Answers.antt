use Rattle.std.proofs.Common.{◌∙◌, ap, ℕ}
use Rattle.iec_tables.specs.Types.{width_of}
use Rattle.interval_domain.specs.Interval.{Interval}
use Rattle.interval_domain.specs.Bits.{patterns_in}
use Rattle.interval_domain.specs.Laws.{of_two}
use Rattle.interval_domain.specs.Shifts.{shr_of, shr_row, cut_row}
use Rattle.interval_domain.proofs.Shapes.{sound-plain, whole-grows, grows-two}
use Rattle.interval_domain.proofs.Turning.{cut-held-shr, cut-larger-shr}
use Rattle.interval_domain.proofs.shifts.shr.Goals as goal

pub returns-clause-raw : goal.returns-clause-raw
returns-clause-raw c =
    c.plain.ensures.raw ∙ c.shr_bounds.ensures
    ∙ ap (λ (w : ℕ). shr_row w c.patterns_in.result c.args.n) c.width.ensures.value
    ∙ ap (λ (i : Interval). shr_row (width_of c.args.t) i c.args.n) c.patterns_in.ensures.value

pub returns-clause-result : goal.returns-clause-result
returns-clause-result c =
    c.plain.ensures.result ∙ c.shr_bounds.ensures
    ∙ ap (λ (w : ℕ). shr_row w c.patterns_in.result c.args.n) c.width.ensures.value
    ∙ ap (λ (i : Interval). shr_row (width_of c.args.t) i c.args.n) c.patterns_in.ensures.value

pub returns-clause-sound : goal.returns-clause-sound
returns-clause-sound c =
    sound-plain (of_two (shr_of (width_of c.args.t)) (patterns_in (width_of c.args.t) c.args.a) c.args.n)
    (cut_row shr_row (width_of c.args.t) c.args.a c.args.n) _ _
    (returns-clause-raw c) (returns-clause-result c) (cut-held-shr (width_of c.args.t) c.args.a c.args.n)

pub returns-clause-monotone : goal.returns-clause-monotone
returns-clause-monotone c =
    grows-two (cut_row shr_row (width_of c.args.t)) (λ i. i) whole-grows c.args.a c.args.n _ _
    (returns-clause-raw c) (returns-clause-result c) (cut-larger-shr (width_of c.args.t) c.args.a c.args.n)
