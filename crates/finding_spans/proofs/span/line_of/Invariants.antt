use Rattle.std.proofs.Common.{◌≤◌, ◌+◌, take}
use Rattle.finding_spans.specs.Places.{IsBehind}
use Rattle.finding_spans.proofs.span.line_of.Given as goal

abbrev pub invariant-loop-byte : goal.invariant-loop-byte
invariant-loop-byte l = record {
  line : l.position.line ≤ l.byte-index + 1;
  column : l.position.column ≤ l.byte-index + 1;
  behind : IsBehind (take l.byte-index l.before) l.position.line l.position.column;
}
