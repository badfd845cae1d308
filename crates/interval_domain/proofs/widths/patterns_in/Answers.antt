use Rattle.std.proofs.Common.{◌∙◌, ℕ, ap, subst, sym}
use Rattle.interval_domain.specs.Interval.{Interval, IsWithin, meet}
use Rattle.interval_domain.specs.Bits.{bits_range, patterns, words}
use Rattle.interval_domain.proofs.Between.{meet-right}
use Rattle.interval_domain.proofs.Patterns.{bits-words}
use Rattle.interval_domain.proofs.widths.patterns_in.Goals as goal

pub returns-clause-within : goal.returns-clause-within
returns-clause-within c =
    subst (λ (i : Interval). IsWithin i (bits_range c.args.t))
    (sym (c.meet.ensures ∙ ap (meet c.args.i)
    (c.patterns.ensures ∙ ap (λ (w : ℕ). patterns w) c.width.ensures.value)))
    (meet-right c.args.i (bits_range c.args.t))

pub returns-clause-words : goal.returns-clause-words
returns-clause-words c =
    subst (λ (i : Interval). IsWithin i words)
    (sym (c.meet.ensures ∙ ap (meet c.args.i)
    (c.patterns.ensures ∙ ap (λ (w : ℕ). patterns w) c.width.ensures.value)))
    (bits-words c.args.t (meet c.args.i (bits_range c.args.t)) (meet-right c.args.i (bits_range c.args.t)))
