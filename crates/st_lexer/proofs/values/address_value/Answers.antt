use Rattle.st_lexer.proofs.AddressValues.{if_address, is_address}
use Rattle.st_lexer.proofs.values.address_value.Goals as goal

pub returns-clause-value : goal.returns-clause-value
returns-clause-value c = if_address c.args.text.now c.read_address.result c.read_address.ensures

pub returns-clause-some : goal.returns-clause-some
returns-clause-some c = is_address c.args.text.now c.read_address.result c.read_address.ensures
