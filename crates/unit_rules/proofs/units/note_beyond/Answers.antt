use Rattle.std.proofs.Common.{◌≡◌, ◌∙◌, List, [], ap, sym, refl, arith, drop, map, length}
use Rattle.link_faults.specs.First.{after}
use Rattle.project_declarations.specs.Rows.{bare_unit}
use Rattle.unit_rules.specs.Forms.{unit_beyond, max_units}
use Rattle.unit_rules.proofs.Noting.{dropped, none_left}
use Rattle.unit_rules.proofs.units.note_beyond.Goals as goal

pub returns-then-units-gt-MAX_UNITS : goal.returns-then-units-gt-MAX_UNITS
returns-then-units-gt-MAX_UNITS c =
    c.note_spare.ensures
    ∙ ap (λ r. after c.args.faults.now (map unit_beyond r))
    (dropped bare_unit max_units c.args.units.now)

pub returns-else-units-gt-MAX_UNITS : goal.returns-else-units-gt-MAX_UNITS
returns-else-units-gt-MAX_UNITS c =
    ap (λ r. after c.args.faults.now (map unit_beyond r))
    (sym (none_left bare_unit max_units c.args.units.now
    (omega (arith, c.if-units-gt-MAX_UNITS.false))))
