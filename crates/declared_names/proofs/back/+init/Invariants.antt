use Rattle.std.proofs.Common.{◌≡◌, map, drop}
use Rattle.declared_names.specs.Meaning as spec
use Rattle.declared_names.specs.Tables.{known_at, here_of}
use Rattle.declared_names.proofs.back.+init.Given as goal

abbrev pub invariant-some_item-loop-item : goal.invariant-some_item-loop-item
invariant-some_item-loop-item l =
    let leads = spec.item_leads_back (known_at l.at).project (here_of l.at) in
    spec.some_lead (map leads l.items) ≡ spec.some_lead (map leads (drop l.item-index l.items))

abbrev pub invariant-some_field-loop-field : goal.invariant-some_field-loop-field
invariant-some_field-loop-field l =
    let leads = spec.field_leads_back (known_at l.at).project (here_of l.at) in
    spec.some_lead (map leads l.fields) ≡ spec.some_lead (map leads (drop l.field-index l.fields))
