use Rattle.st_lexer.specs.Values.{IsTypedValue}
use Rattle.st_lexer.specs.steps.Readings.{read_typed}
use Rattle.st_lexer.proofs.ByReading.{if_some, is_some}
use Rattle.st_lexer.proofs.TypedValues.{typed_some, typed_found, some_typed}
use Rattle.st_lexer.proofs.values.typed_value.Goals as goal

pub returns-clause-value : goal.returns-clause-value
returns-clause-value c =
    let text = c.args.text.now in
    if_some (IsTypedValue text) c.read_typed.result (read_typed text) c.read_typed.ensures
    (typed_some text)

pub returns-clause-some : goal.returns-clause-some
returns-clause-some c is =
    let text = c.args.text.now in
    let v = some_typed text is in
    is_some c.read_typed.result (read_typed text) v.0 c.read_typed.ensures
    (typed_found text v.0 v.1)
