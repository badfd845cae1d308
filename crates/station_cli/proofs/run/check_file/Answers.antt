-- The course that each return takes.
use Rattle.std.proofs.Common.{rules}
use Rattle.station_cli.specs.Run.{checked, too_long, unread}
use Rattle.station_cli.proofs.run.check_file.Goals as goal

pub returns-in_ok-text-in-Ok-clause-work : goal.returns-in_ok-text-in-Ok-clause-work
returns-in_ok-text-in-Ok-clause-work g c = record {
  course = checked c.args.name.now c.in-Ok.bytes.items c.in_ok-report-in-Ok.report;
  cause = search rules;
  status_is = search rules;
  text_is = search rules;
}

pub returns-in_ok-line-in-Err-TooLong-clause-work : goal.returns-in_ok-line-in-Err-TooLong-clause-work
returns-in_ok-line-in-Err-TooLong-clause-work g c = record {
  course = too_long c.args.name.now;
  cause = search rules;
  status_is = search rules;
  text_is = search rules;
}

pub returns-in_ok-line-in-Err-Failed-clause-work : goal.returns-in_ok-line-in-Err-Failed-clause-work
returns-in_ok-line-in-Err-Failed-clause-work g c = record {
  course = unread c.args.name.now;
  cause = search rules;
  status_is = search rules;
  text_is = search rules;
}
