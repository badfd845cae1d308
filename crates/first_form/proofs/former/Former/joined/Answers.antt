use Rattle.std.proofs.Common.{refl}
use Rattle.first_form.specs.steps.Known.{known_in}
use Rattle.first_form.proofs.Counting.{counts_joined}
use Rattle.first_form.proofs.Chains.{joined_is, same_parts}
use Rattle.first_form.proofs.former.Former.joined.Goals as goal

pub returns-clause-form : goal.returns-clause-form
returns-clause-form c =
    joined_is (known_in c.args.declared.now) c.args.link c.args.left c.in_ok-operand.field-0
    c.binary.result c.in_ok-operand.ensures.form
    (same_parts c.binary.result c.args.left _ c.in_ok-operand.field-0 _ c.args.link.node
    c.args.link.operator c.in_ok-left.ensures c.in_ok-right.ensures c.binary.ensures)

pub returns-clause-numbers : goal.returns-clause-numbers
returns-clause-numbers c = λ h.
    counts_joined c.binary.result c.args.left c.in_ok-operand.field-0 c.args.link.node
    c.args.link.operator c.args.link.node.number.0 c.args.self.now.next c.operand.new.self.next
    (same_parts c.binary.result c.args.left _ c.in_ok-operand.field-0 _ c.args.link.node
    c.args.link.operator c.in_ok-left.ensures c.in_ok-right.ensures c.binary.ensures)
    refl h c.in_ok-operand.ensures.numbers
