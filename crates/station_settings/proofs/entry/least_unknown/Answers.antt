use Rattle.std.proofs.Common.{◌≡◌, ◌∷◌, true, false, Some, string_bytes, sym, ap, ◌∙◌, arith}
use Rattle.std.proofs.lemmas.Grind.{common_steps}
use Rattle.toml.specs.View.{members_view}
use Rattle.toml.proofs.Views.{Entry}
use Rattle.station_settings.specs.Fields.{is_field}
use Rattle.station_settings.specs.Schema.{least_unknown}
use Rattle.station_settings.proofs.Tables.{first-unknown, others-ascend, known-passed}
use Rattle.station_settings.proofs.entry.least_unknown.Goals as goal

pub returns-then-not-is_field : goal.returns-then-not-is_field
returns-then-not-is_field c =
    let (can, finite, same, ascend) = c.loop-key.invariant in
    let e : Entry = (c.in-Some.key.now, c.in-Some._value.now) in
    let rest = c.next.new.self in
    let iter : c.loop-key.key-iterator ≡ e ∷ rest = grind (arith, common_steps) in
    let unknown : is_field (string_bytes e.0) ≡ false = grind (arith, common_steps) in
    let name : c.in_ok-of.field-0 ≡ string_bytes e.0 = grind (arith, common_steps) in
    ap Some name ∙ sym (first-unknown e rest (rw iter at ascend) unknown) ∙ sym (ap (λ es. least_unknown (members_view es)) iter) ∙ same

pub loop-key-preserved : goal.loop-key-preserved
loop-key-preserved c =
    let (can, finite, same, ascend) = c.loop-key.invariant in
    let e : Entry = (c.in-Some.key.now, c.in-Some._value.now) in
    let rest = c.next.new.self in
    let iter : c.loop-key.key-iterator ≡ e ∷ rest = grind (arith, common_steps) in
    let known : is_field (string_bytes e.0) ≡ true = grind (arith, common_steps) in
    (tt, tt, sym (known-passed e rest known) ∙ sym (ap (λ es. least_unknown (members_view es)) iter) ∙ same, others-ascend e rest (rw iter at ascend))
