use Rattle.std.proofs.Common.{◌≡◌, ◌++◌, drop, flat_map}
use Rattle.type_parts.specs.Parts.{fields_names}
use Rattle.type_parts.specs.Tables.{entries_in, list_entries, whole_list}
use Rattle.type_parts.proofs.fields.add_fields.Given as goal

abbrev pub invariant-loop-group : goal.invariant-loop-group
invariant-loop-group l =
    entries_in l.names.items
    ++ list_entries l.number l.place (flat_map fields_names (drop l.group-index l.groups))
    ≡ entries_in l.fn.names.items ++ whole_list l.number (flat_map fields_names l.groups)
