use Rattle.st_lexer.specs.Values.{IsNumberValue}
use Rattle.st_lexer.specs.steps.Readings.{read_number}
use Rattle.st_lexer.proofs.ByReading.{if_some, is_some}
use Rattle.st_lexer.proofs.NumberValues.{number_some, number_found, some_number}
use Rattle.st_lexer.proofs.values.number_value.Goals as goal

pub returns-clause-value : goal.returns-clause-value
returns-clause-value c =
    let text = c.args.text.now in
    if_some (IsNumberValue text) c.read_number.result (read_number text) c.read_number.ensures
    (number_some text)

pub returns-clause-some : goal.returns-clause-some
returns-clause-some c is =
    let text = c.args.text.now in
    let v = some_number text is in
    is_some c.read_number.result (read_number text) v.0 c.read_number.ensures
    (number_found text v.0 v.1)
