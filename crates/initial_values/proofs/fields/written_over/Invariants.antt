use Rattle.std.proofs.Common.{◌≡◌, drop}
use Rattle.initial_values.specs.Initials as written_by
use Rattle.initial_values.proofs.fields.written_over.Given as goal

abbrev pub invariant-loop-part : goal.invariant-loop-part
invariant-loop-part l =
    written_by.written_over l.fn.values.items l.parts
    ≡ written_by.written_over l.values.items (drop l.part-index l.parts)
