use Rattle.standard_types.proofs.Tables.{standard_name_is}
use Rattle.standard_types.proofs.names.is_standard_name.Goals as goal

pub returns : goal.returns
returns c = standard_name_is c.args.name.now c.is_standard.result c.is_standard.ensures
