use Rattle.std.proofs.Common.{rules}
use denote.Hole.Carrier
use Rattle.st_tree.specs.declared.declaration.Spec.{roll-Spec}
use Rattle.st_tree.specs.declared.declaration.Spec.TheOpen.{Spec-F}
use Rattle.tree_numbers.proofs.CountedEquations.{rolled_spec}
use Rattle.tree_numbers.proofs.declarations.+spec.Goals as goal

pub returns-in_ok-number-in-Enumeration-clause-tree :
    goal.returns-in_ok-number-in-Enumeration-clause-tree
unfolding roll-Spec Carrier.roll
returns-in_ok-number-in-Enumeration-clause-tree t c =
    let made =
    rolled_spec (Spec-F.Enumeration c.in-Enumeration.node c.in-Enumeration.values)
    c.args.counting.now in
    rw c.in-Enumeration.is (rw made (search rules))

pub returns-in_ok-number-in-Enumeration-clause-rest :
    goal.returns-in_ok-number-in-Enumeration-clause-rest
unfolding roll-Spec Carrier.roll
returns-in_ok-number-in-Enumeration-clause-rest t c =
    let made =
    rolled_spec (Spec-F.Enumeration c.in-Enumeration.node c.in-Enumeration.values)
    c.args.counting.now in
    rw c.in-Enumeration.is (rw made (search rules))

pub returns-in_ok-number_each-in-Array-clause-tree :
    goal.returns-in_ok-number_each-in-Array-clause-tree
unfolding roll-Spec Carrier.roll
returns-in_ok-number_each-in-Array-clause-tree t c =
    let made =
    rolled_spec (Spec-F.Array c.in-Array.node c.in-Array.ranges c.in-Array.element)
    c.args.counting.now in
    rw c.in-Array.is (rw made (search rules))

pub returns-in_ok-number_each-in-Array-clause-rest :
    goal.returns-in_ok-number_each-in-Array-clause-rest
unfolding roll-Spec Carrier.roll
returns-in_ok-number_each-in-Array-clause-rest t c =
    let made =
    rolled_spec (Spec-F.Array c.in-Array.node c.in-Array.ranges c.in-Array.element)
    c.args.counting.now in
    rw c.in-Array.is (rw made (search rules))
