use Rattle.std.proofs.Common.{take, flat_map}
use Rattle.type_parts.specs.Parts as parts
use Rattle.type_parts.specs.Tables.{AddsListed}
use Rattle.type_parts.proofs.listing.add_fields.Given as goal

abbrev pub invariant-loop-group : goal.invariant-loop-group
invariant-loop-group l =
    AddsListed l.fn.rows.items l.rows.items
    (flat_map (parts.in_fields l.file) (take l.group-index l.fields))
