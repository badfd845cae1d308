use Rattle.std.proofs.Common.{◌≡◌, take}
use Rattle.std.specs.Prelude.{flat_map}
use Rattle.link_faults.specs.First.{after}
use Rattle.unit_rules.specs.Running.{outer, line_faults}
use Rattle.unit_rules.proofs.lines.note_lines.Given as goal

abbrev pub invariant-loop-line : goal.invariant-loop-line
invariant-loop-line l =
    l.faults ≡ after l.fn.faults
    (flat_map (line_faults (outer l.names l.units) l.file) (take l.line-index l.lines))
