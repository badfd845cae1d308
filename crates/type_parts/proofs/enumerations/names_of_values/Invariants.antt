use Rattle.std.proofs.Common.{◌≡◌, ◌++◌, drop}
use Rattle.type_parts.specs.Tables.{entries_in, entries_from, values_lists, enumerations_in}
use Rattle.type_parts.proofs.enumerations.names_of_values.Given as goal

abbrev pub invariant-loop-number : goal.invariant-loop-number
invariant-loop-number l =
    entries_in l.names.items
    ++ entries_from l.number (values_lists (enumerations_in (drop l.number l.rows)))
    ≡ entries_from 0 (values_lists (enumerations_in l.rows))
