use Rattle.std.proofs.Common.{◌≡◌, ◌++◌, drop}
use Rattle.type_parts.specs.Parts.{names_of}
use Rattle.type_parts.specs.Tables as spec
use Rattle.type_parts.proofs.places.add_names.Given as goal

abbrev pub invariant-loop-x : goal.invariant-loop-x
invariant-loop-x l =
    spec.entries_in l.rows.items ++ spec.list_entries l.list l.place (names_of (drop l.x-index l.names))
    ≡ spec.entries_in l.fn.rows.items ++ spec.list_entries l.list l.first (names_of l.names)
