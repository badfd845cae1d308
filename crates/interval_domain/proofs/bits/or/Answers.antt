use Rattle.std.proofs.Common.{◌∙◌, ap}
use Rattle.iec_tables.specs.Types.{width_of}
use Rattle.interval_domain.specs.Interval.{Interval}
use Rattle.interval_domain.specs.Bits.{patterns_in, or_of, or_other, or_row}
use Rattle.interval_domain.proofs.Cuts.{bits-sound, bits-best, bits-monotone}
use Rattle.interval_domain.proofs.Patterns.{or-operator}
use Rattle.interval_domain.proofs.Truths.{or-table}
use Rattle.interval_domain.proofs.bits.or.Goals as goal

pub returns-clause-raw : goal.returns-clause-raw
returns-clause-raw c =
    c.plain.ensures.raw ∙ c.or_bounds.ensures
    ∙ ap (λ (i : Interval). or_row i c.patterns_in-2.result) c.patterns_in.ensures.value
    ∙ ap (λ (j : Interval). or_row (patterns_in (width_of c.args.t) c.args.a) j) c.patterns_in-2.ensures.value

pub returns-clause-result : goal.returns-clause-result
returns-clause-result c =
    c.plain.ensures.result ∙ c.or_bounds.ensures
    ∙ ap (λ (i : Interval). or_row i c.patterns_in-2.result) c.patterns_in.ensures.value
    ∙ ap (λ (j : Interval). or_row (patterns_in (width_of c.args.t) c.args.a) j) c.patterns_in-2.ensures.value

pub returns-clause-sound : goal.returns-clause-sound
returns-clause-sound c =
    bits-sound or_of or_other c.args.t c.args.a c.args.b _ _ (returns-clause-raw c)
    (returns-clause-result c) or-operator

pub returns-clause-best : goal.returns-clause-best
returns-clause-best c =
    bits-best or_of or_other c.args.t c.args.a c.args.b _ _ (returns-clause-raw c) (returns-clause-result c) or-table

pub returns-clause-monotone : goal.returns-clause-monotone
returns-clause-monotone c =
    bits-monotone or_of or_other c.args.t c.args.a c.args.b _ _ (returns-clause-raw c)
    (returns-clause-result c) or-operator
