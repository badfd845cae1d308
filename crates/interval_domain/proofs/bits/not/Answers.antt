use Rattle.std.proofs.Common.{rules, ◌∙◌, FitsSigned}
use Rattle.std.proofs.lemmas.Int.{to_z-of_z}
use mir.Syntax.{w128}
use Rattle.iec_tables.specs.Types.{width_of}
use Rattle.interval_domain.specs.Bits.{patterns_in, mirrored, not_of, cut_not_row}
use Rattle.interval_domain.specs.Laws.{of_one}
use Rattle.interval_domain.proofs.Patterns.{cut-held-not, cut-larger-not}
use Rattle.interval_domain.proofs.Shapes.{sound-plain, whole-grows, grows-one}
use Rattle.interval_domain.proofs.bits.not.Goals as goal

pub returns-clause-raw : goal.returns-clause-raw
returns-clause-raw c =
    let fits : FitsSigned w128 c.all_ones.result = search rules in
    let ones = to_z-of_z w128 c.all_ones.result fits ∙ c.all_ones.ensures in
    c.plain.ensures.raw ∙ c.not_bounds.ensures ∙ (λ n. mirrored (ones n) (c.patterns_in.ensures.value n))

pub returns-clause-result : goal.returns-clause-result
returns-clause-result c =
    let fits : FitsSigned w128 c.all_ones.result = search rules in
    let ones = to_z-of_z w128 c.all_ones.result fits ∙ c.all_ones.ensures in
    c.plain.ensures.result ∙ c.not_bounds.ensures ∙ (λ n. mirrored (ones n) (c.patterns_in.ensures.value n))

pub returns-clause-sound : goal.returns-clause-sound
returns-clause-sound c =
    sound-plain (of_one (not_of c.args.t) (patterns_in (width_of c.args.t) c.args.a))
    (cut_not_row c.args.t c.args.a) _ _
    (returns-clause-raw c) (returns-clause-result c) (cut-held-not c.args.t c.args.a)

pub returns-clause-monotone : goal.returns-clause-monotone
returns-clause-monotone c =
    grows-one (cut_not_row c.args.t) (λ i. i) whole-grows c.args.a _ _ (returns-clause-raw c)
    (returns-clause-result c)
    (cut-larger-not c.args.t c.args.a)
