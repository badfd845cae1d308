use Rattle.std.proofs.Common.{◌∙◌}
use Rattle.interval_domain.specs.Arithmetic.{remainder_of, modulo_row}
use Rattle.interval_domain.specs.Laws.{of_division}
use Rattle.interval_domain.proofs.Remainders.{held-modulo, larger-modulo}
use Rattle.interval_domain.proofs.Shapes.{sound-plain, whole-grows, grows-two}
use Rattle.interval_domain.proofs.arithmetic.modulo.Goals as goal

pub returns-clause-raw : goal.returns-clause-raw
returns-clause-raw c = c.plain.ensures.raw ∙ c.modulo_bounds.ensures.value

pub returns-clause-result : goal.returns-clause-result
returns-clause-result c = c.plain.ensures.result ∙ c.modulo_bounds.ensures.value

pub returns-clause-sound : goal.returns-clause-sound
returns-clause-sound c =
    sound-plain (of_division remainder_of c.args.a c.args.b) (modulo_row c.args.a c.args.b) _ _
    (returns-clause-raw c) (returns-clause-result c) (held-modulo c.args.a c.args.b)

pub returns-clause-monotone : goal.returns-clause-monotone
returns-clause-monotone c =
    grows-two modulo_row (λ i. i) whole-grows c.args.a c.args.b _ _ (returns-clause-raw c) (returns-clause-result c)
    (larger-modulo c.args.a c.args.b c.modulo_bounds.ensures.ordered)
