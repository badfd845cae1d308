use Rattle.std.proofs.Common.{◌≡◌, ◌++◌, drop, map}
use Rattle.project_declarations.specs.Rows.{bare_decl}
use Rattle.type_parts.specs.Tables.{entries_in, entries_from, fields_lists}
use Rattle.type_parts.proofs.fields.names_of_fields.Given as goal

abbrev pub invariant-loop-number : goal.invariant-loop-number
invariant-loop-number l =
    entries_in l.names.items
    ++ entries_from l.number (fields_lists (map bare_decl (drop l.number l.decls)))
    ≡ entries_from 0 (fields_lists (map bare_decl l.decls))
