-- Calls of functions of the standard: what is asked of each input, and what the call is. Source:
-- IEC 61131-3, standard functions; which faults stand, and where, is this profile's. A call is never
-- constant.
use Rattle.std.specs.Prelude.{Bool, true, false, if◌then◌else◌, List, [], ◌∷◌, ◌++◌, Option, Some, None, ℕ}
use Rattle.iec_tables.specs.declared.elem.Elem.{Elem}
use Rattle.iec_tables.specs.declared.elem.Elem.TheVariants as elem
use Rattle.standard_names.specs.declared.function.StandardFunction.{StandardFunction}
use Rattle.standard_names.specs.declared.function.StandardFunction.TheVariants as function
use Rattle.st_tree.specs.declared.node.Node.{Node}
use Rattle.link_faults.specs.declared.code.LinkCode.TheVariants as code
use Rattle.link_faults.specs.Checked.{Checked, Good, bind}
use Rattle.expression_types.specs.Lists.{with_all}
use Rattle.expression_types.specs.Meanings.{Meanings}
use Rattle.expression_types.specs.Rules.{wrong_at, varying}
use Rattle.expression_types.specs.Reads.{Read, ReadArgument, placed_read, argument_value, names_of, enabled}
use Rattle.expression_types.specs.Shared.{shared}
use Rattle.expression_types.specs.StandardInputs.{inputs_of, is_left_out, places_given, values_at}
use Rattle.expression_types.specs.declared.judged.ExprType.TheVariants as ty
use Rattle.expression_types.specs.declared.judged.Judged.{Judged}
use Rattle.expression_types.specs.declared.judged.Place.TheVariants as place
use Rattle.expression_types.specs.declared.judged.Standing.{Standing}

-- ---- the values of the inputs, in their order

-- a call of the type of a value, and a call of a type of its own
abbrev pub of_its_type : Standing → Checked Judged → Checked Judged
of_its_type c x = bind x (λ j. Good (varying c j.ty))

abbrev pub of_type : Standing → Elem → Checked Judged → Checked Judged
of_type c t x = bind x (λ j. Good (varying c (ty.Elem t)))

-- a bit string by a number of places
abbrev pub shifted : Meanings → Standing → Read → Read → Checked Judged
shifted m c x n =
    with_all (of_its_type c (placed_read m c place.Bits x)) (placed_read m c place.Integer n ∷ [])

-- one of two by a BOOL
abbrev pub selected : Meanings → Standing → Node → Read → Read → Read → Checked Judged
selected m c node g x y =
    with_all (shared m c node (x ∷ y ∷ [])) (placed_read m c (place.Elem elem.Bool) g ∷ [])

abbrev pub standard_result : Meanings → Standing → Node → StandardFunction → List Read
    → Checked Judged
standard_result m c node function.Abs (x ∷ []) = of_its_type c (placed_read m c place.Integer x)
standard_result m c node function.Min (x ∷ y ∷ []) = shared m c node (x ∷ y ∷ [])
standard_result m c node function.Max (x ∷ y ∷ []) = shared m c node (x ∷ y ∷ [])
standard_result m c node function.Limit (mn ∷ x ∷ mx ∷ []) = shared m c node (mn ∷ x ∷ mx ∷ [])
standard_result m c node function.Sel (g ∷ x ∷ y ∷ []) = selected m c node g x y
standard_result m c node function.Shl (x ∷ n ∷ []) = shifted m c x n
standard_result m c node function.Shr (x ∷ n ∷ []) = shifted m c x n
standard_result m c node function.Rol (x ∷ n ∷ []) = shifted m c x n
standard_result m c node function.Ror (x ∷ n ∷ []) = shifted m c x n
standard_result m c node (function.Convert from to) (x ∷ []) =
    of_type c to (placed_read m c (place.Elem from) x)
standard_result m c node f xs = wrong_at c node code.WrongCall

-- ---- lists of arguments

-- what an argument tells beside the inputs: EN and ENO are out of profile, and where the list doesn't
-- fit, the values are judged all the same
abbrev pub beside : Meanings → Standing → Bool → ReadArgument → List (Checked Judged)
beside m c fits a =
    if is_left_out a.name then enabled m c a a.name ∷ []
    else (if fits then [] else argument_value m c a ∷ [])

abbrev pub all_beside : Meanings → Standing → Bool → List ReadArgument → List (Checked Judged)
all_beside m c fits [] = []
all_beside m c fits (a ∷ rest) = beside m c fits a ++ all_beside m c fits rest

abbrev pub called_with : Meanings → Standing → Node → StandardFunction → List ReadArgument
    → Option (List ℕ) → Checked Judged
called_with m c node f arguments None =
    with_all (wrong_at c node code.WrongCall) (all_beside m c false arguments)
called_with m c node f arguments (Some places) =
    with_all (standard_result m c node f (values_at arguments places)) (all_beside m c true arguments)

abbrev pub standard_called : Meanings → Standing → Node → StandardFunction → List ReadArgument
    → Checked Judged
standard_called m c node f arguments =
    called_with m c node f arguments (places_given (inputs_of f) (names_of arguments))
