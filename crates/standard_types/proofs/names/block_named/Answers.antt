use Rattle.standard_types.proofs.Tables.{block_is}
use Rattle.standard_types.proofs.names.block_named.Goals as goal

pub returns : goal.returns
returns c = block_is c.args.name.now c.standard_block.result c.standard_block.ensures
