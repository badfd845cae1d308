use Rattle.standard_types.proofs.Tables.{function_is}
use Rattle.standard_types.proofs.names.function_named.Goals as goal

pub returns : goal.returns
returns c = function_is c.args.name.now c.standard_function.result c.standard_function.ensures
