use Rattle.iec_tables.specs.Words.{raised_all}
use Rattle.standard_names.specs.Types.{left_out_types}
use Rattle.standard_names.proofs.Rows.{member_named}
use Rattle.standard_names.proofs.types.is_left_out_type_name.Goals as goal

pub returns : goal.returns
returns c = member_named c.left_out_type_names.result left_out_types c.left_out_type_names.ensures c.find.result (raised_all c.args.name.now) c.find.ensures c.is_some.result c.is_some.ensures
