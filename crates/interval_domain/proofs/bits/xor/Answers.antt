use Rattle.std.proofs.Common.{◌∙◌, ap}
use Rattle.iec_tables.specs.Types.{width_of}
use Rattle.interval_domain.specs.Interval.{Interval}
use Rattle.interval_domain.specs.Bits.{patterns_in, xor_of, xor_other, xor_row}
use Rattle.interval_domain.proofs.Cuts.{bits-sound, bits-best, bits-monotone}
use Rattle.interval_domain.proofs.Patterns.{xor-operator}
use Rattle.interval_domain.proofs.Truths.{xor-table}
use Rattle.interval_domain.proofs.bits.xor.Goals as goal

pub returns-clause-raw : goal.returns-clause-raw
returns-clause-raw c =
    c.plain.ensures.raw ∙ c.xor_bounds.ensures
    ∙ ap (λ (i : Interval). xor_row i c.patterns_in-2.result) c.patterns_in.ensures.value
    ∙ ap (λ (j : Interval). xor_row (patterns_in (width_of c.args.t) c.args.a) j) c.patterns_in-2.ensures.value

pub returns-clause-result : goal.returns-clause-result
returns-clause-result c =
    c.plain.ensures.result ∙ c.xor_bounds.ensures
    ∙ ap (λ (i : Interval). xor_row i c.patterns_in-2.result) c.patterns_in.ensures.value
    ∙ ap (λ (j : Interval). xor_row (patterns_in (width_of c.args.t) c.args.a) j) c.patterns_in-2.ensures.value

pub returns-clause-sound : goal.returns-clause-sound
returns-clause-sound c =
    bits-sound xor_of xor_other c.args.t c.args.a c.args.b _ _ (returns-clause-raw c)
    (returns-clause-result c) xor-operator

pub returns-clause-best : goal.returns-clause-best
returns-clause-best c =
    bits-best xor_of xor_other c.args.t c.args.a c.args.b _ _ (returns-clause-raw c)
    (returns-clause-result c) xor-table

pub returns-clause-monotone : goal.returns-clause-monotone
returns-clause-monotone c =
    bits-monotone xor_of xor_other c.args.t c.args.a c.args.b _ _ (returns-clause-raw c)
    (returns-clause-result c) xor-operator
