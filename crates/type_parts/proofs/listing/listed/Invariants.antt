use Rattle.std.proofs.Common.{◌≡◌, take, map}
use Rattle.project_declarations.specs.Rows.{bare_decl}
use Rattle.type_parts.specs.Parts as parts
use Rattle.type_parts.specs.Tables.{enumerations_in}
use Rattle.type_parts.proofs.listing.listed.Given as goal

abbrev pub invariant-loop-decl : goal.invariant-loop-decl
invariant-loop-decl l =
    enumerations_in l.rows.items ≡ parts.enumerations_of (map bare_decl (take l.decl-index l.decls))
