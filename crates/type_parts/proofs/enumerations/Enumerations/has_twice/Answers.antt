use Rattle.std.proofs.Common.{◌∙◌, ap}
use Rattle.type_parts.specs.Places.{has_value_twice}
use Rattle.type_parts.specs.Tables.{enumerations_in}
use Rattle.type_parts.proofs.Reading.{values_marked}
use Rattle.type_parts.proofs.enumerations.Enumerations.has_twice.Goals as goal

pub returns : goal.returns
returns c =
    let xs = enumerations_in c.self.inside.rows.items in
    c.is_marked.ensures
    ∙ values_marked xs c.args.number _ (c.deref.ensures.value ∙ c.self.invariant.named.twice_are)
    ∙ ap (λ es. has_value_twice es c.args.number) c.self.view_is
