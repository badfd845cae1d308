use Rattle.st_lexer.specs.Values.{IsTimeValue}
use Rattle.st_lexer.specs.steps.Readings.{read_time}
use Rattle.st_lexer.proofs.ByReading.{if_some, is_some}
use Rattle.st_lexer.proofs.TimeValues.{time_some, time_found, some_time}
use Rattle.st_lexer.proofs.values.time_value.Goals as goal

pub returns-clause-value : goal.returns-clause-value
returns-clause-value c =
    let text = c.args.text.now in
    if_some (IsTimeValue text) c.read_time.result (read_time text) c.read_time.ensures
    (time_some text)

pub returns-clause-some : goal.returns-clause-some
returns-clause-some c is =
    let text = c.args.text.now in
    let v = some_time text is in
    is_some c.read_time.result (read_time text) v.0 c.read_time.ensures (time_found text v.0 v.1)
