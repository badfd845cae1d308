-- The rules of operators and of names, each asked of operands without faults. Source: IEC 61131-3,
-- operators of the ST language and constant expressions; where literals without a type take one, and
-- which faults stand, is this profile's.
use Rattle.std.specs.Prelude.{ℤ, pos, neg_ℤ, ◌+ℤ◌, ◌-ℤ◌, ◌*ℤ◌, Bool, true, false, if◌then◌else◌, Option, Some, None}
use Rattle.iec_tables.specs.declared.elem.Elem.{Elem}
use Rattle.iec_tables.specs.declared.elem.Elem.TheVariants as elem
use Rattle.st_tree.specs.declared.node.Node.{Node}
use Rattle.st_tree.specs.declared.node.Site.{Site}
use Rattle.st_tree.specs.declared.code.Number.{Number}
use Rattle.st_tree.specs.declared.expression.BinaryOperator.{BinaryOperator}
use Rattle.st_tree.specs.declared.expression.BinaryOperator.TheVariants as operators
use Rattle.link_faults.specs.declared.code.LinkCode.{LinkCode}
use Rattle.link_faults.specs.declared.code.LinkCode.TheVariants as code
use Rattle.link_faults.specs.Checked.{Checked, Good, wrong, provided, unusable}
use Rattle.expression_types.specs.Types.{in_range, is_integer, is_bits, is_counted}
use Rattle.expression_types.specs.declared.judged.ExprType.{ExprType}
use Rattle.expression_types.specs.declared.judged.ExprType.TheVariants as ty
use Rattle.expression_types.specs.declared.judged.Judged.{Judged}
use Rattle.expression_types.specs.declared.judged.Standing.{Standing}
use Rattle.expression_types.specs.declared.meaning.Seen.{Seen}
use Rattle.expression_types.specs.declared.meaning.Seen.TheVariants as seen
use Rattle.expression_types.specs.declared.meaning.TypeValue.{TypeValue}
use Rattle.expression_types.specs.declared.meaning.TypeValue.TheVariants as type_value
use Rattle.expression_types.specs.declared.meaning.TypedNumber.{TypedNumber}
use Rattle.expression_types.specs.declared.meaning.ValueType.{ValueType}
use Rattle.expression_types.specs.declared.meaning.ValueType.TheVariants as value

abbrev pub site_of : Standing → Node → Site
site_of c node = record { file = c.file; node = node.number }

abbrev pub wrong_at : {A : Type 0} → Standing → Node → LinkCode → Checked A
wrong_at c node fault = wrong (site_of c node) fault

-- ---- what an expression is

abbrev pub typed : ValueType → ExprType
typed (value.Elem t) = ty.Elem t
typed (value.Other shape) = ty.Other shape

-- of this type, and no number is known
abbrev pub plain : ExprType → Judged
plain t = record { ty = t; number = None; own = None }

abbrev pub known : ExprType → Number → Judged
known t z = record { ty = t; number = Some z; own = None }

-- a fault of its own, which stands only where it must be constant
abbrev pub own : Standing → ExprType → LinkCode → Judged
own c t fault = record { ty = t; number = None; own = if c.constant then Some fault else None }

-- it isn't constant
abbrev pub varying : Standing → ExprType → Judged
varying c t = own c t code.NotConstant

-- an operator's number, which where it must be constant lies in the operator's type
abbrev pub outcome : Standing → Elem → ℤ → Judged
outcome c t z =
    if in_range t z then known (ty.Elem t) (record { value = z }) else own c (ty.Elem t) code.BadBound

-- a literal of a type: it lies in the type's range
abbrev pub of_type : Standing → Node → Elem → Number → Checked Judged
of_type c node t z =
    provided (in_range t z.value) (known (ty.Elem t) z) (site_of c node) code.WrongType

abbrev pub fits_number : Option Number → Elem → Bool
fits_number None t = false
fits_number (Some z) t = in_range t z.value

abbrev pub typed_literal : Standing → Node → Option TypedNumber → Checked Judged
typed_literal c node None = wrong_at c node code.WrongType
typed_literal c node (Some v) = of_type c node v.elem v.number

abbrev pub number_literal : Standing → Node → Option Number → Elem → Checked Judged
number_literal c node None t = wrong_at c node code.WrongType
number_literal c node (Some z) t = of_type c node t z

abbrev pub truth_number : Bool → ℤ
truth_number true = pos 1
truth_number false = pos 0

-- ---- faults of its own

abbrev pub counted_own : Standing → Node → Judged → Option LinkCode → Checked Judged
counted_own c node j None = Good j
counted_own c node j (Some fault) = wrong_at c node fault

-- once its type is known to fit, a fault of its own counts
abbrev pub without_own : Standing → Node → Judged → Checked Judged
without_own c node j = counted_own c node j j.own

-- what has no number isn't constant
abbrev pub known_number : Standing → Node → Option Number → Checked Number
known_number c node None = wrong_at c node code.NotConstant
known_number c node (Some z) = Good z

-- ---- names

-- In a function a global that isn't constant is out of profile; where it must be constant, it isn't.
abbrev pub foreign : {A : Type 0} → Standing → Node → Checked A
foreign c node =
    if c.constant then wrong_at c node code.NotConstant else wrong_at c node code.OutOfProfile

-- a name alone, or an address
abbrev pub used : Standing → Node → Seen → Checked Judged
used c node seen.Unknown = wrong_at c node code.Unknown
used c node seen.Faulty = unusable
used c node seen.Foreign = foreign c node
used c node (seen.NoValue shape) = wrong_at c node code.WrongType
used c node (seen.Variable t) = Good (varying c (typed t))
used c node (seen.Constant k) = Good (known (typed k.ty) k.number)

-- `type#value`, with the nodes of both names
abbrev pub value_of_type : Standing → Node → Node → Node → TypeValue → Checked Judged
value_of_type c node type_node value_node type_value.UnknownType = wrong_at c type_node code.Unknown
value_of_type c node type_node value_node type_value.Faulty = unusable
value_of_type c node type_node value_node type_value.NoEnumeration = wrong_at c node code.WrongType
value_of_type c node type_node value_node type_value.UnknownValue = wrong_at c value_node code.Unknown
value_of_type c node type_node value_node (type_value.Is k) = Good (known (typed k.ty) k.number)

-- ---- operators

pub data Group : Type 0 where
  Logic : Group
  Equality : Group
  Order : Group
  Arithmetic : Group

abbrev pub group_of : BinaryOperator → Group
group_of operators.Or = Logic
group_of operators.Xor = Logic
group_of operators.And = Logic
group_of operators.Equal = Equality
group_of operators.NotEqual = Equality
group_of operators.Less = Order
group_of operators.Greater = Order
group_of operators.LessEqual = Order
group_of operators.GreaterEqual = Order
group_of operators.Add = Arithmetic
group_of operators.Subtract = Arithmetic
group_of operators.Multiply = Arithmetic
group_of operators.Divide = Arithmetic
group_of operators.Modulo = Arithmetic

-- arithmetic takes integers, + and - also TIME
abbrev pub takes : BinaryOperator → Elem → Bool
takes operators.Add t = is_counted t
takes operators.Subtract t = is_counted t
takes op t = is_integer t

abbrev pub calculated : Standing → Elem → (ℤ → ℤ → ℤ) → Option Number → Option Number → Judged
calculated c t calculate (Some a) (Some b) = outcome c t (calculate a.value b.value)
calculated c t calculate None b = plain (ty.Elem t)
calculated c t calculate (Some a) None = plain (ty.Elem t)

-- +, - and * of constants are constant; / and MOD aren't
abbrev pub result_of : Standing → BinaryOperator → Elem → Option Number → Option Number → Judged
result_of c operators.Add t a b = calculated c t (λ x y. x +ℤ y) a b
result_of c operators.Subtract t a b = calculated c t (λ x y. x -ℤ y) a b
result_of c operators.Multiply t a b = calculated c t (λ x y. x *ℤ y) a b
result_of c op t a b = varying c (ty.Elem t)

abbrev pub arithmetic : Standing → Node → BinaryOperator → Elem → Option Number → Option Number
    → Checked Judged
arithmetic c node op t a b =
    provided (takes op t) (result_of c op t a b) (site_of c node) code.WrongType

-- AND, OR, XOR and NOT take BOOL and bit strings
abbrev pub logic : Standing → Node → Elem → Checked Judged
logic c node t = provided (is_bits t) (varying c (ty.Elem t)) (site_of c node) code.WrongType

abbrev pub by_group : Standing → Node → Group → BinaryOperator → Elem → Option Number → Option Number
    → Checked Judged
by_group c node Logic op t a b = logic c node t
by_group c node Equality op t a b = Good (varying c (ty.Elem elem.Bool))
by_group c node Order op t a b = Good (varying c (ty.Elem elem.Bool))
by_group c node Arithmetic op t a b = arithmetic c node op t a b

-- an operator at the type of both its operands
abbrev pub operation : Standing → Node → BinaryOperator → Elem → Option Number → Option Number
    → Checked Judged
operation c node op t a b = by_group c node (group_of op) op t a b

abbrev pub at_common : Standing → Node → BinaryOperator → Option Elem → Option Number
    → Option Number → Checked Judged
at_common c node op None a b = wrong_at c node code.WrongType
at_common c node op (Some t) a b = operation c node op t a b

abbrev pub opposite : Standing → Elem → Option Number → Judged
opposite c t None = plain (ty.Elem t)
opposite c t (Some z) = outcome c t (neg_ℤ z.value)

-- a minus before what isn't a number token: it takes integers and TIME
abbrev pub negated_at : Standing → Node → Elem → Option Number → Checked Judged
negated_at c node t number =
    provided (is_counted t) (opposite c t number) (site_of c node) code.WrongType

abbrev pub negated : Standing → Node → Judged → ExprType → Checked Judged
negated c node j ty.Loose = Good j
negated c node j (ty.Elem t) = negated_at c node t j.number
negated c node j (ty.Other shape) = wrong_at c node code.WrongType

abbrev pub inverted : Standing → Node → ExprType → Checked Judged
inverted c node (ty.Elem t) = logic c node t
inverted c node ty.Loose = wrong_at c node code.WrongType
inverted c node (ty.Other shape) = wrong_at c node code.WrongType
