-- Each number, typed number, time and address has exactly one value, and so has each such token.
use Rattle.std.proofs.Common.{ℕ, ◌≤◌, Bool, true, false, sym, subst, arith}
use Rattle.std.proofs.lemmas.Int.{ints}
use Rattle.iec_tables.specs.Types.{IsInRange}
use Rattle.iec_tables.specs.declared.elem.Elem.TheVariants as elem
use Rattle.token_grammar.specs.declared.token.TokenKind.TheVariants as kind
use Rattle.st_lexer.specs.Texts.{IsNumber, IsTyped, IsAddress}
use Rattle.st_lexer.specs.Times.{IsTime, greatest, sum_of}
use Rattle.st_lexer.specs.Values.{with_sign, IsNumberValue, IsTypedValue, IsTimeValue}
use Rattle.st_lexer.specs.ValueLaws.{HaveOneValue, IsAddressWith, TokensHaveValues, TimesInRange}
use Rattle.st_lexer.proofs.NumberValues.{some_number, only_number, one_number}
use Rattle.st_lexer.proofs.TypedValues.{some_typed, only_typed, one_typed}
use Rattle.st_lexer.proofs.TimeValues.{some_time, one_time}
use Rattle.st_lexer.proofs.AddressValues.{some_address, one_address}
use Rattle.st_lexer.proofs.TokenTexts.{number_text, typed_text, time_text, address_text, tokens_have_values}

pub numbers : HaveOneValue IsNumber IsNumberValue
numbers = record { some = some_number; only = only_number; one = one_number }

pub typed_numbers : HaveOneValue IsTyped IsTypedValue
typed_numbers = record { some = some_typed; only = only_typed; one = one_typed }

pub times : HaveOneValue IsTime IsTimeValue
times = record { some = some_time; only = λ text z v. v.time; one = one_time }

pub addresses : HaveOneValue IsAddress IsAddressWith
addresses = record { some = some_address; only = λ text p v. v.address; one = one_address }

pub number_tokens : TokensHaveValues kind.Number IsNumber IsNumberValue
number_tokens = tokens_have_values kind.Number IsNumber IsNumberValue number_text numbers

pub typed_tokens : TokensHaveValues kind.TypedNumber IsTyped IsTypedValue
typed_tokens = tokens_have_values kind.TypedNumber IsTyped IsTypedValue typed_text typed_numbers

pub time_tokens : TokensHaveValues kind.Duration IsTime IsTimeValue
time_tokens = tokens_have_values kind.Duration IsTime IsTimeValue time_text times

pub address_tokens : TokensHaveValues kind.Address IsAddress IsAddressWith
address_tokens = tokens_have_values kind.Address IsAddress IsAddressWith address_text addresses

in_range : (minus : Bool) (size : ℕ) → size ≤ greatest minus
    → IsInRange elem.Time (with_sign minus size)
in_range true size h = (omega (arith, ints, h), omega (arith, ints, h))
in_range false size h = (omega (arith, ints, h), omega (arith, ints, h))

pub times_in_range : TimesInRange
times_in_range text z v =
    subst (IsInRange elem.Time) (sym v.value_is)
    (in_range v.time.negative (sum_of v.time.parts) v.time.in_range)
