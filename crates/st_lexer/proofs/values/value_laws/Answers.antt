use Rattle.st_lexer.proofs.NumberValues.{by_places, number_small}
use Rattle.st_lexer.proofs.TokenTexts.{tokens_have_texts}
use Rattle.st_lexer.proofs.ValuesOfTokens as law
use Rattle.st_lexer.proofs.values.value_laws.Goals as goal

pub returns-clause-texts : goal.returns-clause-texts
returns-clause-texts c = tokens_have_texts

pub returns-clause-digits : goal.returns-clause-digits
returns-clause-digits c = by_places

pub returns-clause-numbers : goal.returns-clause-numbers
returns-clause-numbers c = law.numbers

pub returns-clause-number_tokens : goal.returns-clause-number_tokens
returns-clause-number_tokens c = law.number_tokens

pub returns-clause-numbers_small : goal.returns-clause-numbers_small
returns-clause-numbers_small c = number_small

pub returns-clause-typed : goal.returns-clause-typed
returns-clause-typed c = law.typed_numbers

pub returns-clause-typed_tokens : goal.returns-clause-typed_tokens
returns-clause-typed_tokens c = law.typed_tokens

pub returns-clause-times : goal.returns-clause-times
returns-clause-times c = law.times

pub returns-clause-time_tokens : goal.returns-clause-time_tokens
returns-clause-time_tokens c = law.time_tokens

pub returns-clause-times_in_range : goal.returns-clause-times_in_range
returns-clause-times_in_range c = law.times_in_range

pub returns-clause-addresses : goal.returns-clause-addresses
returns-clause-addresses c = law.addresses

pub returns-clause-address_tokens : goal.returns-clause-address_tokens
returns-clause-address_tokens c = law.address_tokens
