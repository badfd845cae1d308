use Rattle.standard_types.proofs.LeftOut.{left_out_type_is}
use Rattle.standard_types.proofs.names.is_left_out_type.Goals as goal

pub returns : goal.returns
returns c = left_out_type_is c.args.name.now c.is_left_out_type.result c.is_left_out_type.ensures
