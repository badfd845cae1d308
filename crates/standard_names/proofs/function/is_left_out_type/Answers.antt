use Rattle.standard_names.proofs.Rows.{second_decides, first_holds, not_so}
use Rattle.standard_names.proofs.function.is_left_out_type.Goals as goal

pub returns-then-is_named : goal.returns-then-is_named
returns-then-is_named c =
    second_decides c.is_named.result (not_so c.is_left_out_type_name.result c.is_left_out_type_name.ensures c.if-is_left_out_type_name.false)
    (first_holds c.is_named.result c.if-is_named.true (c.is_named.ensures.0 c.if-is_named.true))

pub returns-else-is_named : goal.returns-else-is_named
returns-else-is_named c =
    second_decides c.is_left_out_function.result (not_so c.is_left_out_type_name.result c.is_left_out_type_name.ensures c.if-is_left_out_type_name.false)
    (second_decides c.is_left_out_function.result (not_so c.is_named.result c.is_named.ensures c.if-is_named.false) c.is_left_out_function.ensures)
