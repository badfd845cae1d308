use Rattle.std.proofs.Common.{◌≡◌, sym, ◌∙◌}
use Rattle.iec_tables.specs.Types.{name_of}
use Rattle.iec_tables.specs.Words.{raised_all}
use Rattle.standard_names.proofs.Rows.{there, not-there, first_holds, second_decides}
use Rattle.standard_names.proofs.types.is_type_name.Goals as goal

pub returns-then-is_some : goal.returns-then-is_some
returns-then-is_some c =
    first_holds c.is_some.result c.if-is_some.true
    (there (λ t. name_of t ≡ raised_all c.args.name.now) c.elem_named.result c.elem_named.ensures (sym c.is_some.ensures ∙ c.if-is_some.true))

pub returns-else-is_some : goal.returns-else-is_some
returns-else-is_some c =
    second_decides c.is_left_out_type_name.result
    (λ e. not-there (λ t. name_of t ≡ raised_all c.args.name.now) c.elem_named.result c.elem_named.ensures (sym c.is_some.ensures ∙ c.if-is_some.false) e.0 e.1)
    c.is_left_out_type_name.ensures
