use Rattle.std.proofs.Common.{◌∙◌, ap, map}
use Rattle.project_declarations.specs.Rows.{bare_decl}
use Rattle.type_parts.specs.Places.{place_in, place_of_field}
use Rattle.type_parts.specs.Tables.{fields_lists}
use Rattle.type_parts.proofs.Reading.{fields_at}
use Rattle.type_parts.proofs.fields.StructureFields.place.Goals as goal

pub returns : goal.returns
returns c =
    let xs = map bare_decl c.self.inside.rows.items in
    c.place_of.ensures (fields_lists xs) c.self.invariant.table
    ∙ ap (λ names. place_in names c.args.name.now) (fields_at xs c.args.number)
    ∙ ap (λ decls. place_of_field decls c.args.number c.args.name.now) c.self.view_is
