-- The type that the operands of MIN, MAX, LIMIT and SEL share. Source: IEC 61131-3, overloaded
-- standard functions and implicit data type conversion; the order in which types are tried is this
-- profile's, and so is that literals without a type take the type that the other operands share.
use Rattle.std.specs.Prelude.{Bool, true, false, if◌then◌else◌, List, [], ◌∷◌, map, Option, Some, None}
use Rattle.std.specs.List.{list_all}
use Rattle.iec_tables.specs.Conversions.{converts_to}
use Rattle.iec_tables.specs.declared.elem.Elem.{Elem}
use Rattle.st_tree.specs.declared.node.Node.{Node}
use Rattle.link_faults.specs.declared.code.LinkCode.TheVariants as code
use Rattle.link_faults.specs.Checked.{Checked, Good, bind, both}
use Rattle.expression_types.specs.Lists.{with_all}
use Rattle.expression_types.specs.Meanings.{Meanings}
use Rattle.expression_types.specs.Types.{order, first_that, own_type}
use Rattle.expression_types.specs.Rules.{wrong_at, varying, without_own}
use Rattle.expression_types.specs.Reads.{Read, fitted}
use Rattle.expression_types.specs.declared.judged.ExprType.{ExprType}
use Rattle.expression_types.specs.declared.judged.ExprType.TheVariants as ty
use Rattle.expression_types.specs.declared.judged.Judged.{Judged}
use Rattle.expression_types.specs.declared.judged.Place.TheVariants as place
use Rattle.expression_types.specs.declared.judged.Standing.{Standing}

-- ---- operands

-- of an elementary type, or literals without a type; then a fault of its own counts
abbrev pub elementary : Standing → Node → Judged → ExprType → Checked Judged
elementary c node j (ty.Other shape) = wrong_at c node code.WrongType
elementary c node j (ty.Elem t) = without_own c node j
elementary c node j ty.Loose = without_own c node j

abbrev pub sharing : Standing → Read → Checked Judged
sharing c x = bind x.judged (λ j. elementary c x.node j j.ty)

-- an operand, and what it is
pub record Operand : Type 0 where
  pub read : Read
  pub judged : Judged

-- all of them, where none holds a fault
abbrev pub operands_in : Standing → List Read → Checked (List Operand)
operands_in c [] = Good []
operands_in c (x ∷ xs) =
    both (sharing c x) (operands_in c xs) (λ j os. Good (record { read = x; judged = j } ∷ os))

-- ---- their type

abbrev pub is_loose : ExprType → Bool
is_loose ty.Loose = true
is_loose (ty.Elem t) = false
is_loose (ty.Other shape) = false

-- it converts to the type; literals without a type play no part
abbrev pub goes_to : Elem → ExprType → Bool
goes_to u (ty.Elem t) = converts_to t u
goes_to u ty.Loose = true
goes_to u (ty.Other shape) = false

abbrev pub types_of : List Operand → List ExprType
types_of os = map (λ (o : Operand). o.judged.ty) os

abbrev pub all_go_to : List ExprType → Elem → Bool
all_go_to types u = list_all (goes_to u) types

-- the first type to which all convert
abbrev pub common_of : List ExprType → Option Elem
common_of types = first_that (all_go_to types) order

-- the type holds the literals of all of them
abbrev pub hold_all : List Operand → Elem → Bool
hold_all os t = list_all (λ (o : Operand). o.read.holds t) os

-- what they share: where all are literals without a type, the first that holds all of these
abbrev pub shared_type : List Operand → Option Elem
shared_type os =
    if list_all is_loose (types_of os) then own_type (hold_all os) else common_of (types_of os)

-- ---- what they are together

abbrev pub fitted_at : Meanings → Standing → Elem → Operand → Checked Judged
fitted_at m c t o = fitted m c (place.Elem t) o.read o.judged

abbrev pub all_at : Meanings → Standing → Elem → List Operand → Checked Judged
all_at m c t os = with_all (Good (varying c (ty.Elem t))) (map (fitted_at m c t) os)

-- each at the type that they share
abbrev pub at_type : Meanings → Standing → Node → List Operand → Option Elem → Checked Judged
at_type m c node os None = wrong_at c node code.WrongType
at_type m c node os (Some t) = all_at m c t os

abbrev pub at_shared : Meanings → Standing → Node → List Operand → Checked Judged
at_shared m c node os = at_type m c node os (shared_type os)

abbrev pub shared : Meanings → Standing → Node → List Read → Checked Judged
shared m c node xs = bind (operands_in c xs) (at_shared m c node)
