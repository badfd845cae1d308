-- An expression is read from within: `Read` is all that what stands around it asks of it. So each rule
-- is said once, of operands that are read. Source: IEC 61131-3, expressions of the ST language; this
-- profile on literals without a type and on which faults stand.
use Rattle.std.specs.Prelude.{ℕ, ◌&&◌, Bool, true, false, if◌then◌else◌, List, [], ◌∷◌, length, map, Option, Some, None}
use Rattle.iec_tables.specs.Conversions.{converts_to}
use Rattle.iec_tables.specs.declared.elem.Elem.{Elem}
use Rattle.iec_tables.specs.declared.elem.Elem.TheVariants as elem
use Rattle.st_tree.specs.declared.node.Node.{Node}
use Rattle.st_tree.specs.declared.code.Number.{Number}
use Rattle.st_tree.specs.declared.expression.Identifier.{Identifier}
use Rattle.st_tree.specs.declared.expression.Root.{Root}
use Rattle.st_tree.specs.declared.expression.Root.TheVariants as root
use Rattle.st_tree.specs.declared.expression.BinaryOperator.{BinaryOperator}
use Rattle.st_tree.specs.declared.expression.UnaryOperator.{UnaryOperator}
use Rattle.st_tree.specs.declared.expression.UnaryOperator.TheVariants as before
use Rattle.st_tree.specs.declared.expression.Expr.TheOpen.{Part-F, Argument-F, Path-F}
use Rattle.link_faults.specs.declared.code.LinkCode.TheVariants as code
use Rattle.link_faults.specs.declared.fault.LinkFault.{LinkFault}
use Rattle.link_faults.specs.Checked.{Checked, Good, Bad, answer, provided, bind, both, unusable}
use Rattle.expression_types.specs.Types.{is_integer, is_bit_string, common, own_type}
use Rattle.expression_types.specs.Lists.{faults_of, with_all}
use Rattle.expression_types.specs.Meanings.{Meanings}
use Rattle.expression_types.specs.Rules.{Group, Logic, Equality, Order, Arithmetic, site_of, wrong_at, typed, plain, varying, without_own, used, foreign, group_of, arithmetic, operation, at_common, negated_at, negated, inverted}
use Rattle.expression_types.specs.declared.judged.ExprType.{ExprType}
use Rattle.expression_types.specs.declared.judged.ExprType.TheVariants as ty
use Rattle.expression_types.specs.declared.judged.Judged.{Judged}
use Rattle.expression_types.specs.declared.judged.Place.{Place}
use Rattle.expression_types.specs.declared.judged.Place.TheVariants as place
use Rattle.expression_types.specs.declared.judged.Standing.{Standing}
use Rattle.expression_types.specs.declared.meaning.Seen.{Seen}
use Rattle.expression_types.specs.declared.meaning.Seen.TheVariants as seen
use Rattle.expression_types.specs.declared.meaning.Field.{Field}
use Rattle.expression_types.specs.declared.meaning.Field.TheVariants as field
use Rattle.expression_types.specs.declared.meaning.ValueType.{ValueType}
use Rattle.expression_types.specs.declared.meaning.ValueType.TheVariants as value

-- an expression as what stands around it sees it
pub record Read : Type 0 where
  -- its node, in parentheses that of the expression within
  pub node : Node
  -- the type holds all its literals without a type
  pub holds : Elem → Bool
  -- where it has no type, what it is at this one
  pub settled : Elem → Checked Judged
  -- what it is
  pub judged : Checked Judged

-- ---- operands

-- an operand: a fault of its own counts
abbrev pub operand : Standing → Node → Checked Judged → Checked Judged
operand c node x = bind x (without_own c node)

abbrev pub settled_operand : Standing → Read → Elem → Checked Judged
settled_operand c x t = operand c x.node (x.settled t)

-- a minus before it, and an operator between two, at a type
abbrev pub settled_unary : Standing → Node → Read → Elem → Checked Judged
settled_unary c node x t = bind (settled_operand c x t) (λ j. negated_at c node t j.number)

abbrev pub settled_pair : Standing → Node → BinaryOperator → Elem → Judged → Judged → Checked Judged
settled_pair c node op t i j = arithmetic c node op t i.number j.number

abbrev pub settled_binary : Standing → Node → BinaryOperator → Read → Read → Elem → Checked Judged
settled_binary c node op l r t =
    both (settled_operand c l t) (settled_operand c r t) (settled_pair c node op t)

-- ---- an expression at its place

abbrev pub fits_elem : Elem → ExprType → Bool
fits_elem t (ty.Elem s) = converts_to s t
fits_elem t ty.Loose = false
fits_elem t (ty.Other shape) = false

abbrev pub fits_integer : ExprType → Bool
fits_integer (ty.Elem s) = is_integer s
fits_integer ty.Loose = false
fits_integer (ty.Other shape) = false

abbrev pub fits_bits : ExprType → Bool
fits_bits (ty.Elem s) = is_bit_string s
fits_bits ty.Loose = false
fits_bits (ty.Other shape) = false

abbrev pub fits : Meanings → Place → ExprType → Bool
fits m place.Any t = true
fits m place.Integer t = fits_integer t
fits m place.Bits t = fits_bits t
fits m (place.Elem t) s = fits_elem t s
fits m (place.Shape a) (ty.Other b) = m.names.is_same a b
fits m (place.Shape a) ty.Loose = false
fits m (place.Shape a) (ty.Elem t) = false

abbrev pub settled_by : Standing → Read → Option Elem → Checked Judged
settled_by c x None = wrong_at c x.node code.WrongType
settled_by c x (Some t) = x.settled t

-- literals without a type at a place: of the place's type, else of their own
abbrev pub settled_at : Standing → Place → Read → Checked Judged
settled_at c (place.Elem t) x = x.settled t
settled_at c place.Any x = settled_by c x (own_type x.holds)
settled_at c place.Integer x = settled_by c x (own_type x.holds)
settled_at c place.Bits x = settled_by c x (own_type x.holds)
settled_at c (place.Shape shape) x = settled_by c x (own_type x.holds)

-- the place's rule comes before a fault of its own, which stands at the same node
abbrev pub fitting : Meanings → Standing → Place → Read → Judged → Checked Judged
fitting m c p x j =
    if fits m p j.ty then without_own c x.node j else wrong_at c x.node code.WrongType

abbrev pub fitted_type : Meanings → Standing → Place → Read → Judged → ExprType → Checked Judged
fitted_type m c p x j ty.Loose = bind (settled_at c p x) (fitting m c p x)
fitted_type m c p x j (ty.Elem t) = fitting m c p x j
fitted_type m c p x j (ty.Other shape) = fitting m c p x j

abbrev pub fitted : Meanings → Standing → Place → Read → Judged → Checked Judged
fitted m c p x j = fitted_type m c p x j j.ty

abbrev pub placed_read : Meanings → Standing → Place → Read → Checked Judged
placed_read m c p x = bind x.judged (fitted m c p x)

-- ---- operators

abbrev pub holds_both : Read → Read → Elem → Bool
holds_both l r t = l.holds t && r.holds t

abbrev pub operation_of : Standing → Node → BinaryOperator → Elem → Judged → Judged → Checked Judged
operation_of c node op t i j = operation c node op t i.number j.number

abbrev pub loose_pair_at : Standing → Node → BinaryOperator → Read → Read → Option Elem
    → Checked Judged
loose_pair_at c node op l r None = wrong_at c node code.WrongType
loose_pair_at c node op l r (Some t) =
    both (settled_operand c l t) (settled_operand c r t) (operation_of c node op t)

-- Arithmetic on literals without a type has none; comparisons and logic take the first type that
-- holds the literals of both sides.
abbrev pub loose_pair : Standing → Node → Group → BinaryOperator → Read → Read → Checked Judged
loose_pair c node Arithmetic op l r = Good (plain ty.Loose)
loose_pair c node Logic op l r = loose_pair_at c node op l r (own_type (holds_both l r))
loose_pair c node Equality op l r = loose_pair_at c node op l r (own_type (holds_both l r))
loose_pair c node Order op l r = loose_pair_at c node op l r (own_type (holds_both l r))

abbrev pub is_equality : Group → Bool
is_equality Equality = true
is_equality Logic = false
is_equality Order = false
is_equality Arithmetic = false

-- a right operand without a type, with the number of the left one, and the other way round
abbrev pub loose_right : Standing → Node → BinaryOperator → Elem → Option Number → Read → Checked Judged
loose_right c node op t a r = bind (settled_operand c r t) (λ j. operation c node op t a j.number)

abbrev pub loose_left : Standing → Node → BinaryOperator → Elem → Option Number → Read → Checked Judged
loose_left c node op t b l = bind (settled_operand c l t) (λ i. operation c node op t i.number b)

-- an operator on two judged operands: one without a type takes that of the other
abbrev pub operated_types : Meanings → Standing → Node → BinaryOperator → Read → Read
    → Option Number → Option Number → ExprType → ExprType → Checked Judged
operated_types m c node op l r a b ty.Loose ty.Loose = loose_pair c node (group_of op) op l r
operated_types m c node op l r a b (ty.Elem t) ty.Loose = loose_right c node op t a r
operated_types m c node op l r a b ty.Loose (ty.Elem t) = loose_left c node op t b l
operated_types m c node op l r a b (ty.Elem s) (ty.Elem t) = at_common c node op (common s t) a b
operated_types m c node op l r a b (ty.Other x) (ty.Other y) =
    provided (is_equality (group_of op) && m.parts.is_enumeration x && m.names.is_same x y)
    (varying c (ty.Elem elem.Bool)) (site_of c node) code.WrongType
operated_types m c node op l r a b (ty.Other x) ty.Loose = wrong_at c node code.WrongType
operated_types m c node op l r a b (ty.Other x) (ty.Elem t) = wrong_at c node code.WrongType
operated_types m c node op l r a b ty.Loose (ty.Other y) = wrong_at c node code.WrongType
operated_types m c node op l r a b (ty.Elem s) (ty.Other y) = wrong_at c node code.WrongType

abbrev pub operated : Meanings → Standing → Node → BinaryOperator → Read → Read → Judged → Judged
    → Checked Judged
operated m c node op l r i j = operated_types m c node op l r i.number j.number i.ty j.ty

-- an operand to which nothing gives a type
abbrev pub own_operand : Standing → Read → Checked Judged
own_operand c x = operand c x.node (settled_by c x (own_type x.holds))

abbrev pub inverted_own : Standing → Node → Read → Checked Judged
inverted_own c node x = bind (own_operand c x) (λ j. inverted c node j.ty)

-- NOT gives its operand no type
abbrev pub not_of : Standing → Node → Read → ExprType → Checked Judged
not_of c node x ty.Loose = inverted_own c node x
not_of c node x (ty.Elem t) = inverted c node (ty.Elem t)
not_of c node x (ty.Other shape) = inverted c node (ty.Other shape)

abbrev pub with_unary : Standing → Node → UnaryOperator → Read → Judged → Checked Judged
with_unary c node before.Negate x j = negated c node j j.ty
with_unary c node before.Not x j = not_of c node x j.ty

abbrev pub unary : Standing → Node → UnaryOperator → Read → Checked Judged
unary c node op x = bind (operand c x.node x.judged) (with_unary c node op x)

abbrev pub binary : Meanings → Standing → Node → BinaryOperator → Read → Read → Checked Judged
binary m c node op l r =
    both (operand c l.node l.judged) (operand c r.node r.judged) (operated m c node op l r)

-- ---- paths

abbrev pub root_seen : Meanings → Root → Seen
root_seen m (root.Name i) = m.names.seen i.name
root_seen m (root.Address a) = m.parts.address a.name

-- what the parts of a path are parts of: a variable
abbrev pub root_type : Standing → Node → Seen → Checked ValueType
root_type c node seen.Unknown = wrong_at c node code.Unknown
root_type c node seen.Faulty = unusable
root_type c node seen.Foreign = foreign c node
root_type c node (seen.Variable t) = Good t
root_type c node (seen.Constant k) = Good k.ty
root_type c node (seen.NoValue shape) = Good (value.Other shape)

abbrev pub field_type : Standing → Node → Node → Field → Checked ValueType
field_type c node name_node field.NoParts = wrong_at c node code.Unknown
field_type c node name_node field.Unknown = wrong_at c name_node code.Unknown
field_type c node name_node field.LeftOut = wrong_at c name_node code.OutOfProfile
field_type c node name_node field.Faulty = unusable
field_type c node name_node (field.Is t) = Good t

-- what a part by its name is; elementary types have none
abbrev pub field_of : Meanings → Standing → Node → Identifier → ValueType → Checked ValueType
field_of m c node name (value.Elem t) = wrong_at c node code.Unknown
field_of m c node name (value.Other shape) =
    field_type c node name.node (m.parts.field shape name.name)

abbrev pub element_type : Standing → Node → Option ValueType → Checked ValueType
element_type c node None = wrong_at c node code.WrongType
element_type c node (Some t) = Good t

-- what an element is; only arrays have any, and they want an index for each dimension
abbrev pub element_of : Meanings → Standing → Node → ℕ → ValueType → Checked ValueType
element_of m c node indices (value.Elem t) = wrong_at c node code.WrongType
element_of m c node indices (value.Other shape) =
    element_type c node (m.parts.element shape indices)

-- A part of what stands before it: its type, where that of the latter is known; else the faults of its
-- indices.
pub record ReadPart : Type 0 where
  pub known : Node → ValueType → Checked ValueType
  pub alone : List LinkFault

abbrev pub part_of : ReadPart → Node → Option ValueType → Checked ValueType
part_of part node None = Bad part.alone
part_of part node (Some t) = part.known node t

-- a path, with its node
pub record ReadPath : Type 0 where
  pub node : Node
  pub judged : Checked Judged

-- an argument of a call: its name, if it is written, and its value
pub record ReadArgument : Type 0 where
  pub name : Option Identifier
  pub value : Read

abbrev pub indices_in : Meanings → Standing → List Read → List (Checked Judged)
indices_in m c indices = map (placed_read m c place.Integer) indices

abbrev pub indices_alone : Meanings → Standing → List Read → Checked ValueType
indices_alone m c indices = Bad (faults_of (indices_in m c indices))

-- an element, where its indices hold no faults
abbrev pub indexed : Meanings → Standing → Node → List Read → ValueType → Checked ValueType
indexed m c node indices t =
    with_all (element_of m c node (length indices) t) (indices_in m c indices)

abbrev pub part_in : Meanings → Standing → Part-F Read ReadPart ReadArgument ReadPath → ReadPart
part_in m c (Part-F.Field name) = record { known = λ node t. field_of m c node name t; alone = [] }
part_in m c (Part-F.Index index_node indices) =
    record {
      known = λ node t. indexed m c node indices t;
      alone = faults_of (indices_in m c indices);
    }

-- from part to part
abbrev pub walk : Node → List ReadPart → Option ValueType → Checked ValueType
walk node [] None = unusable
walk node [] (Some t) = Good t
walk node (part ∷ parts) before =
    both (part_of part node before) (walk node parts (answer (part_of part node before)))
    (λ t last. Good last)

-- a variable or a part of one; what has parts is never constant
abbrev pub with_parts : Standing → Node → List ReadPart → Checked ValueType → Checked Judged
with_parts c node parts x =
    both x (walk node parts (answer x)) (λ t last. Good (varying c (typed last)))

abbrev pub seen_judged : Standing → Node → Seen → List ReadPart → Checked Judged
seen_judged c node seen [] = used c node seen
seen_judged c node seen (part ∷ parts) = with_parts c node (part ∷ parts) (root_type c node seen)

abbrev pub path_judged : Meanings → Standing → Node → Root → List ReadPart → Checked Judged
path_judged m c node r parts = seen_judged c node (root_seen m r) parts

abbrev pub path_in : Meanings → Standing → Path-F Read ReadPart ReadArgument ReadPath → ReadPath
path_in m c p = record { node = p.node; judged = path_judged m c p.node p.root p.parts }

abbrev pub argument_in : Argument-F Read ReadPart ReadArgument ReadPath → ReadArgument
argument_in a = record { name = a.name; value = a.value }

-- ---- arguments

-- the value of an argument, where any type will do
abbrev pub argument_value : Meanings → Standing → ReadArgument → Checked Judged
argument_value m c argument = placed_read m c place.Any argument.value

abbrev pub arguments_in : Meanings → Standing → List ReadArgument → List (Checked Judged)
arguments_in m c arguments = map (argument_value m c) arguments

abbrev pub names_of : List ReadArgument → List (Option Identifier)
names_of arguments = map (λ (a : ReadArgument). a.name) arguments

abbrev pub enable_fault : Standing → Node → Checked Judged
enable_fault c node = wrong_at c node code.OutOfProfile

-- EN and ENO are out of profile; their values are judged all the same
abbrev pub enabled : Meanings → Standing → ReadArgument → Option Identifier → Checked Judged
enabled m c a None = argument_value m c a
enabled m c a (Some i) = both (enable_fault c i.node) (argument_value m c a) (λ e j. Good j)
