use Rattle.iec_tables.specs.Words.{raised_all}
use Rattle.standard_names.specs.Functions.{left_out_functions}
use Rattle.standard_names.proofs.Rows.{member_named, first_holds, second_decides, not_so}
use Rattle.standard_names.proofs.function.is_left_out_function.Goals as goal

pub returns-then-is_some : goal.returns-then-is_some
returns-then-is_some c =
    let listed = member_named c.left_out_names.result left_out_functions c.left_out_names.ensures c.find.result (raised_all c.args.name.now) c.find.ensures c.is_some.result c.is_some.ensures in
    first_holds c.is_some.result c.if-is_some.true (listed.0 c.if-is_some.true)

pub returns-else-is_some : goal.returns-else-is_some
returns-else-is_some c =
    let listed = member_named c.left_out_names.result left_out_functions c.left_out_names.ensures c.find.result (raised_all c.args.name.now) c.find.ensures c.is_some.result c.is_some.ensures in
    second_decides c.is_left_out_conversion.result (not_so c.is_some.result listed c.if-is_some.false) c.is_left_out_conversion.ensures
