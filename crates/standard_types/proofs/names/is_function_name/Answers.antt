use Rattle.standard_types.proofs.Tables.{function_name_is}
use Rattle.standard_types.proofs.names.is_function_name.Goals as goal

pub returns : goal.returns
returns c =
    function_name_is c.args.name.now c.function_named.result c.is_some.result c.function_named.ensures
    c.is_some.ensures
