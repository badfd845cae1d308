use Rattle.std.proofs.Common.{refl, length}
use Rattle.declared_types.proofs.Told.{array_spec_ok}
use Rattle.declared_types.proofs.specifications.+specification.Goals as goal

pub returns-in_ok-inner-in-Array : goal.returns-in_ok-inner-in-Array
returns-in_ok-inner-in-Array g t c =
    array_spec_ok (g.O.Outside.around c.args.outside.now) c.args.spec.now c.args.may_be c.in-Array.node
    c.in-Array.ranges _ _ c.in-Array.element _ (length c.args.forms.now.items) c.args.forms.now.items _ _
    c.add_array.result _ _ _ _ _ _ _ c.in-Array.is refl c.as_slice.ensures c.len.ensures c.get.ensures
    c.in_ok-dims-in-Array.ensures c.in_ok-inner-in-Array.ensures
    c.array_from-array.ensures c.add_array.ensures.rows c.add_array.ensures.given
