use Rattle.expression_types.specs.Meanings.{meant}
use Rattle.expression_types.specs.Judge.{read, read_argument}
use Rattle.expression_types.proofs.Operands.{binary_told}
use Rattle.expression_types.proofs.Loops.{told_step, part_step}
use Rattle.expression_types.proofs.Indices.{index_told}
use Rattle.expression_types.proofs.Calls.{given_step, function_told}
use Rattle.expression_types.proofs.Sharing.{shared_two_told, shared_three_told}
use Rattle.expression_types.proofs.Standard.{its_type_told, this_type_told, with_one, beside_told, beside_step, read_at, told_at, unfit_told, fit_told}
use Rattle.expression_types.specs.Reads.{placed_read}
use Rattle.expression_types.specs.Shared.{shared}
use Rattle.expression_types.specs.StandardCalls.{of_its_type, of_type}
use Rattle.expression_types.specs.Lists.{with_all}
use Rattle.expression_types.specs.steps.Three.{value_or}
use Rattle.expression_types.specs.declared.judged.Place.TheVariants as place
use Rattle.iec_tables.specs.declared.elem.Elem.TheVariants as elem
use Rattle.std.proofs.Common.{[], ◌∷◌, map, sym, ◌∙◌}
use Rattle.expression_types.proofs.expressions.+expression.Goals as goal

pub judge-returns-in-Binary : goal.judge-returns-in-Binary
judge-returns-in-Binary g t c =
    binary_told _ _ _ _ _ _ _ _ _ _ _ _ _ _ _ _ c.in-Binary.is c.get-l.ensures c.get-r.ensures
    c.operand-a.ensures c.operand-b.ensures c.operated_pair.ensures

pub are_integers-loop-i-preserved : goal.are_integers-loop-i-preserved
are_integers-loop-i-preserved g t c =
    told_step _ _ _ _ _ _ _ _ _ _ _ c.loop-i-test.true c.index-indices-i.is c.loop-i.invariant
    c.placed.ensures c.still_good-all.ensures

pub are_values-loop-i-preserved : goal.are_values-loop-i-preserved
are_values-loop-i-preserved g t c =
    told_step _ _ _ _ _ _ _ _ _ _ _ c.loop-i-test.true c.index-arguments-i.is c.loop-i.invariant
    c.argument_value.ensures c.still_good-all.ensures

pub walk-loop-i-preserved : goal.walk-loop-i-preserved
walk-loop-i-preserved g t c =
    part_step _ _ _ _ _ _ _ _ _ _ _ c.loop-i-test.true c.index-parts-i.is c.loop-i.invariant
    c.part_type-ty.ensures

pub element-returns : goal.element-returns
element-returns g t c =
    let m = meant (g.M.Names.names c.args.meaning.now) (g.M.Meaning.parts c.args.meaning.now) in
    index_told m c.args.standing c.args.node (read m c.args.standing) c.args.indices.now c.args.before
    _ _ _ _ _ _ c.element_of-element.ensures c.are_integers-all.ensures c.where_all.ensures

pub are_all_given-loop-i-preserved : goal.are_all_given-loop-i-preserved
are_all_given-loop-i-preserved g t c =
    let m = meant (g.M.Names.names c.args.meaning.now) (g.M.Meaning.parts c.args.meaning.now) in
    let f = (g.M.Meaning.parts c.args.meaning.now).function c.args.function in
    given_step m c.args.standing f (read_argument m c.args.standing) c.args.arguments.now c.loop-i.i
    c.index-arguments-i.result _ _ _ _ _ _ c.loop-i-test.true c.index-arguments-i.is
    c.loop-i.invariant c.given.ensures c.still_good-all.ensures

pub function_call-returns : goal.function_call-returns
function_call-returns g t c =
    let m = meant (g.M.Names.names c.args.meaning.now) (g.M.Meaning.parts c.args.meaning.now) in
    let f = (g.M.Meaning.parts c.args.meaning.now).function c.args.function in
    function_told m c.args.standing c.args.node f c.args.arguments.now _ _ _ _ _ _ _
    c.fits_function-fits.ensures c.function_result-called.ensures c.are_all_given-all.ensures
    c.where_all.ensures

pub of_its_type-returns : goal.of_its_type-returns
of_its_type-returns g t c =
    let m = meant (g.M.Names.names c.args.meaning.now) (g.M.Meaning.parts c.args.meaning.now) in
    told_at (λ x. of_its_type c.args.standing (placed_read m c.args.standing c.args.place x)) _ _ _ _ _
    (read_at m c.args.standing c.args.arguments.now c.args.p c.index-arguments-p.result _ c.requires c.get-x.ensures)
    (its_type_told c.args.standing _ _ _ _ _ c.placed-value.ensures c.its_type.ensures)

pub converted-returns : goal.converted-returns
converted-returns g t c =
    let m = meant (g.M.Names.names c.args.meaning.now) (g.M.Meaning.parts c.args.meaning.now) in
    told_at (λ x. of_type c.args.standing c.args.to (placed_read m c.args.standing (place.Elem c.args.from) x)) _ _ _ _ _
    (read_at m c.args.standing c.args.arguments.now c.args.p c.index-arguments-p.result _ c.requires c.get-x.ensures)
    (this_type_told c.args.standing c.args.to _ _ _ _ _ c.placed-value.ensures c.this_type.ensures)

pub shared_by_two-returns : goal.shared_by_two-returns
shared_by_two-returns g t c =
    let m = meant (g.M.Names.names c.args.meaning.now) (g.M.Meaning.parts c.args.meaning.now) in
    let X = value_or (map (read_argument m c.args.standing) c.args.arguments.now) c.args.p in
    told_at (λ y. shared m c.args.standing c.args.node (X ∷ y ∷ [])) _ _ _ _ _
    (read_at m c.args.standing c.args.arguments.now c.args.q c.index-arguments-q.result _ c.requires.second c.get-y.ensures)
    (told_at (λ x. shared m c.args.standing c.args.node (x ∷ read m c.args.standing c.get-y.result.now ∷ [])) _ _ _ _ _
    (read_at m c.args.standing c.args.arguments.now c.args.p c.index-arguments-p.result _ c.requires.first c.get-x.ensures)
    (shared_two_told m c.args.standing c.args.node _ _ _ _ _ _ _ _ _ c.sharing-i.ensures
    c.sharing-j.ensures c.of_two.ensures))

pub shared_by_three-returns : goal.shared_by_three-returns
shared_by_three-returns g t c =
    let m = meant (g.M.Names.names c.args.meaning.now) (g.M.Meaning.parts c.args.meaning.now) in
    let y = read m c.args.standing c.get-y.result.now in
    let z = read m c.args.standing c.get-z.result.now in
    let X = value_or (map (read_argument m c.args.standing) c.args.arguments.now) c.args.p in
    let Y = value_or (map (read_argument m c.args.standing) c.args.arguments.now) c.args.q in
    told_at (λ z. shared m c.args.standing c.args.node (X ∷ Y ∷ z ∷ [])) _ _ _ _ _
    (read_at m c.args.standing c.args.arguments.now c.args.r c.index-arguments-r.result _ c.requires.third c.get-z.ensures)
    (told_at (λ y. shared m c.args.standing c.args.node (X ∷ y ∷ z ∷ [])) _ _ _ _ _
    (read_at m c.args.standing c.args.arguments.now c.args.q c.index-arguments-q.result _ c.requires.second c.get-y.ensures)
    (told_at (λ x. shared m c.args.standing c.args.node (x ∷ y ∷ z ∷ [])) _ _ _ _ _
    (read_at m c.args.standing c.args.arguments.now c.args.p c.index-arguments-p.result _ c.requires.first c.get-x.ensures)
    (shared_three_told m c.args.standing c.args.node _ _ _ _ _ _ _ _ _ _ _ _ c.sharing-i.ensures
    c.sharing-j.ensures c.sharing-k.ensures c.of_three.ensures)))

pub selected-returns : goal.selected-returns
selected-returns g t c =
    let m = meant (g.M.Names.names c.args.meaning.now) (g.M.Meaning.parts c.args.meaning.now) in
    let args = map (read_argument m c.args.standing) c.args.arguments.now in
    let both = shared m c.args.standing c.args.node (value_or args c.args.q ∷ value_or args c.args.r ∷ []) in
    told_at (λ x. with_all both (placed_read m c.args.standing (place.Elem elem.Bool) x ∷ [])) _ _ _ _ _
    (read_at m c.args.standing c.args.arguments.now c.args.p c.index-arguments-p.result _ c.requires.first c.get-g.ensures)
    (with_one _ _ _ _ _ _ _ _ _ c.shared_by_two-called.ensures c.placed-beside.ensures
    c.still_good.ensures c.where_all.ensures)

pub shifted-returns : goal.shifted-returns
shifted-returns g t c =
    let m = meant (g.M.Names.names c.args.meaning.now) (g.M.Meaning.parts c.args.meaning.now) in
    let args = map (read_argument m c.args.standing) c.args.arguments.now in
    let value = of_its_type c.args.standing (placed_read m c.args.standing place.Bits (value_or args c.args.p)) in
    told_at (λ x. with_all value (placed_read m c.args.standing place.Integer x ∷ [])) _ _ _ _ _
    (read_at m c.args.standing c.args.arguments.now c.args.q c.index-arguments-q.result _ c.requires.second c.get-n.ensures)
    (with_one _ _ _ _ _ _ _ _ _ c.of_its_type-called.ensures c.placed-beside.ensures
    c.still_good.ensures c.where_all.ensures)

pub is_good_beside-returns-else-fits : goal.is_good_beside-returns-else-fits
is_good_beside-returns-else-fits g t c =
    let m = meant (g.M.Names.names c.args.meaning.now) (g.M.Meaning.parts c.args.meaning.now) in
    beside_told m c.args.standing c.args.fits c.args.argument.now _ _ _ _
    (sym c.is_left_out.ensures ∙ c.if-is_left_out.false) c.if-fits.false
    c.argument_value-value.ensures c.still_good-else-fits.ensures

pub are_good_beside-loop-i-preserved : goal.are_good_beside-loop-i-preserved
are_good_beside-loop-i-preserved g t c =
    let m = meant (g.M.Names.names c.args.meaning.now) (g.M.Meaning.parts c.args.meaning.now) in
    beside_step m c.args.standing c.args.fits (read_argument m c.args.standing) c.args.arguments.now
    c.loop-i.i c.index-arguments-i.result _ _ _ _ _ _ c.loop-i-test.true c.index-arguments-i.is
    c.loop-i.invariant c.is_good_beside.ensures c.all_good-all.ensures

pub standard_call-returns-in-None : goal.standard_call-returns-in-None
standard_call-returns-in-None g t c =
    let m = meant (g.M.Names.names c.args.meaning.now) (g.M.Meaning.parts c.args.meaning.now) in
    unfit_told m c.args.standing c.args.node c.args.called c.args.arguments.now _ _ _ _ _ _ _
    c.in-None.is c.places_given.ensures.place c.wrong-result.ensures c.are_good_beside-all.ensures
    c.where_all.ensures

pub standard_call-returns-in-Some : goal.standard_call-returns-in-Some
standard_call-returns-in-Some g t c =
    let m = meant (g.M.Names.names c.args.meaning.now) (g.M.Meaning.parts c.args.meaning.now) in
    fit_told m c.args.standing c.args.node c.args.called c.args.arguments.now _ _ _ _ _ _ _ _
    c.in-Some.is c.places_given.ensures.place c.places_given.ensures.in_range
    c.standard_result-result.ensures c.are_good_beside-all-in-Some.ensures
    c.where_all-in-Some.ensures
