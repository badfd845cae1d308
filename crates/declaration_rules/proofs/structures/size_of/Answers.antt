use Rattle.std.proofs.Common.{map, arith}
use Rattle.declared_types.specs.BareForms.{bare_field}
use Rattle.declaration_rules.proofs.Groups.{not_below, size_end}
use Rattle.declaration_rules.proofs.structures.size_of.Goals as goal

pub loop-field-init : goal.loop-field-init
loop-field-init c = record { 0 = not_below (map bare_field c.args.fields.now); 1 = omega arith }

pub returns : goal.returns
returns c =
    size_end c.args.fields.now _ _ c.loop-field-test.false c.loop-field.invariant.0 c.loop-field.invariant.1
