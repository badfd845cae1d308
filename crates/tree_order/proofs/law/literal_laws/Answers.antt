use Rattle.token_grammar.specs.declared.token.TokenKind.TheVariants as kind
use Rattle.st_lexer.specs.Values as values
use Rattle.st_lexer.specs.ValueLaws.{IsAddressWith}
use Rattle.tree_order.proofs.TextsOfTokens.{texts_of_tokens, texts_have_values}
use Rattle.tree_order.proofs.law.literal_laws.Goals as goal

pub returns-clause-texts : goal.returns-clause-texts
returns-clause-texts c = texts_of_tokens c.numbering_laws.ensures.same

pub returns-clause-numbers : goal.returns-clause-numbers
returns-clause-numbers c =
    texts_have_values kind.Number values.IsNumberValue c.numbering_laws.ensures.same
    c.value_laws.ensures.number_tokens

pub returns-clause-typed : goal.returns-clause-typed
returns-clause-typed c =
    texts_have_values kind.TypedNumber values.IsTypedValue c.numbering_laws.ensures.same
    c.value_laws.ensures.typed_tokens

pub returns-clause-times : goal.returns-clause-times
returns-clause-times c =
    texts_have_values kind.Duration values.IsTimeValue c.numbering_laws.ensures.same
    c.value_laws.ensures.time_tokens

pub returns-clause-addresses : goal.returns-clause-addresses
returns-clause-addresses c =
    texts_have_values kind.Address IsAddressWith c.numbering_laws.ensures.same
    c.value_laws.ensures.address_tokens
