use Rattle.std.proofs.Common.{◌≡◌, map, drop}
use Rattle.std.specs.List.{find}
use Rattle.standard_names.specs.Blocks.{part_of}
use Rattle.project_meanings.specs.Parts as spec
use Rattle.project_meanings.proofs.parts.part_field.Given as goal

abbrev pub invariant-loop-part : goal.invariant-loop-part
invariant-loop-part l =
    find (spec.is_part l.name) (map part_of l.parts)
    ≡ find (spec.is_part l.name) (map part_of (drop l.part-index l.parts))
