-- What is read of an operator between two operands, and what is told of it.
use Rattle.std.proofs.Common.{◌≡◌, Option, sym, ap, subst}
use Rattle.iec_tables.specs.declared.elem.Elem.{Elem}
use Rattle.st_tree.specs.declared.node.Node.{Node}
use Rattle.st_tree.specs.declared.expression.BinaryOperator.{BinaryOperator}
use Rattle.st_tree.specs.declared.expression.Expr.{Expr, fold-roll-Expr}
use Rattle.st_tree.specs.declared.expression.Expr as X
use Rattle.st_tree.specs.declared.expression.Expr.TheVariants as expr
use Rattle.st_tree.specs.declared.expression.Expr.TheOpen.{Expr-F}
use Rattle.link_faults.specs.Checked.{Checked, Tells}
use Rattle.link_faults.specs.declared.fault.Faults.{Faults}
use Rattle.expression_types.specs.steps.Pairs.{of_both}
use Rattle.expression_types.specs.Meanings.{Meanings}
use Rattle.expression_types.specs.Reads.{Read, ReadPart, ReadArgument, ReadPath, part_in, argument_in, path_in, operand, settled_operand, settled_pair, settled_binary, operated, binary}
use Rattle.expression_types.specs.Judge.{read, read_in}
use Rattle.expression_types.specs.declared.judged.Judged.{Judged}
use Rattle.expression_types.specs.declared.judged.Standing.{Standing}
use Rattle.expression_types.proofs.Told.{both_of}

read_of_binary : (m : Meanings) (c : Standing) (node : Node) (op : BinaryOperator) (l r : Expr)
    → read m c (expr.Binary node op l r)
    ≡ read_in m c (Expr-F.Binary node op (read m c l) (read m c r))
unfolding read X.roll-Expr denote.Hole.Carrier.roll
read_of_binary m c node op l r =
    fold-roll-Expr Read ReadPart ReadArgument ReadPath (read_in m c) (part_in m c) argument_in
    (path_in m c) (Expr-F.Binary node op l r)

settled_same : (m : Meanings) (c : Standing) (node : Node) (op : BinaryOperator) (l r : Expr) (t : Elem)
    → (read m c (expr.Binary node op l r)).settled t
    ≡ settled_binary c node op (read m c l) (read m c r) t
settled_same m c node op l r t = ap (λ (x : Read). x.settled t) (read_of_binary m c node op l r)

judged_same : (m : Meanings) (c : Standing) (node : Node) (op : BinaryOperator) (l r : Expr)
    → (read m c (expr.Binary node op l r)).judged ≡ binary m c node op (read m c l) (read m c r)
judged_same m c node op l r = ap (λ (x : Read). x.judged) (read_of_binary m c node op l r)

pub settled_told : (m : Meanings) (c : Standing) (node : Node) (op : BinaryOperator)
    (l r e l' r' : Expr) (t : Elem) (old mid mid' new : Faults) (a b s : Option Judged)
    → e ≡ expr.Binary node op l r → l' ≡ l → r' ≡ r
    → Tells (settled_operand c (read m c l') t) old mid a
    → Tells (settled_operand c (read m c r') t) mid mid' b
    → Tells (of_both a b (settled_pair c node op t)) mid' new s
    → Tells ((read m c e).settled t) old new s
settled_told m c node op l r e l' r' t old mid mid' new a b s is left right x y z =
    let L : Expr → Type 0 = λ i. Tells (settled_operand c (read m c i) t) old mid a in
    let R : Expr → Type 0 = λ i. Tells (settled_operand c (read m c i) t) mid mid' b in
    let P : Checked Judged → Type 0 = λ i. Tells i old new s in
    let E : Expr → Type 0 = λ i. Tells ((read m c i).settled t) old new s in
    let here : Tells (settled_binary c node op (read m c l) (read m c r) t) old new s =
    both_of (settled_operand c (read m c l) t) (settled_operand c (read m c r) t)
    (settled_pair c node op t) old mid mid' new a b s (subst L left x) (subst R right y) z in
    subst E (sym is) (subst P (sym (settled_same m c node op l r t)) here)

pub binary_told : (m : Meanings) (c : Standing) (node : Node) (op : BinaryOperator)
    (l r e l' r' : Expr) (old mid mid' new : Faults) (a b s : Option Judged)
    → e ≡ expr.Binary node op l r → l' ≡ l → r' ≡ r
    → Tells (operand c (read m c l').node (read m c l').judged) old mid a
    → Tells (operand c (read m c r').node (read m c r').judged) mid mid' b
    → Tells (of_both a b (operated m c node op (read m c l') (read m c r'))) mid' new s
    → Tells (read m c e).judged old new s
binary_told m c node op l r e l' r' old mid mid' new a b s is left right x y z =
    let P : Checked Judged → Type 0 = λ i. Tells i old new s in
    let E : Expr → Type 0 = λ i. Tells (read m c i).judged old new s in
    let B : Expr → Expr → Type 0 = λ i j. Tells (binary m c node op (read m c i) (read m c j)) old new s in
    let here : B l' r' =
    both_of (operand c (read m c l').node (read m c l').judged)
    (operand c (read m c r').node (read m c r').judged)
    (operated m c node op (read m c l') (read m c r')) old mid mid' new a b s x y z in
    let L : Expr → Type 0 = λ i. B i r' in
    let R : Expr → Type 0 = λ i. B l i in
    subst E (sym is) (subst P (sym (judged_same m c node op l r)) (subst R right (subst L left here)))
