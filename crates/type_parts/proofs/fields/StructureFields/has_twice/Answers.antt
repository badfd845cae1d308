use Rattle.std.proofs.Common.{◌∙◌, ap, map}
use Rattle.project_declarations.specs.Rows.{bare_decl}
use Rattle.type_parts.specs.Places.{has_field_twice_at}
use Rattle.type_parts.proofs.Reading.{fields_marked}
use Rattle.type_parts.proofs.fields.StructureFields.has_twice.Goals as goal

pub returns : goal.returns
returns c =
    let xs = map bare_decl c.self.inside.rows.items in
    c.is_marked.ensures
    ∙ fields_marked xs c.args.number _ (c.deref.ensures.value ∙ c.self.invariant.twice_are)
    ∙ ap (λ decls. has_field_twice_at decls c.args.number) c.self.view_is
