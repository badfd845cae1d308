use Rattle.std.proofs.Common.{◌∙◌, ap}
use Rattle.type_parts.specs.Places.{place_in, place_of_value}
use Rattle.type_parts.specs.Tables.{values_lists, enumerations_in}
use Rattle.type_parts.proofs.Reading.{values_at}
use Rattle.type_parts.proofs.enumerations.Enumerations.place.Goals as goal

pub returns : goal.returns
returns c =
    let xs = enumerations_in c.self.inside.rows.items in
    c.place_of.ensures (values_lists xs) c.self.invariant.named.table
    ∙ ap (λ names. place_in names c.args.name.now) (values_at xs c.args.number)
    ∙ ap (λ es. place_of_value es c.args.number c.args.name.now) c.self.view_is
