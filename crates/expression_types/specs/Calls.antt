-- Calls of functions: of those of the project what is asked of each argument, and what the call is;
-- those of the standard stand in StandardCalls. Source: IEC 61131-3, calls of functions; which faults
-- stand, and where, is this profile's. A call is never constant.
use Rattle.std.specs.Prelude.{ℕ, suc, Bool, true, false, if◌then◌else◌, List, [], ◌∷◌, Option, Some, None}
use Rattle.st_tree.specs.declared.node.Node.{Node}
use Rattle.link_faults.specs.declared.code.LinkCode.{LinkCode}
use Rattle.link_faults.specs.declared.code.LinkCode.TheVariants as code
use Rattle.link_faults.specs.Checked.{Checked, Good, bind, unusable}
use Rattle.expression_types.specs.Lists.{with_all}
use Rattle.expression_types.specs.Meanings.{Meanings, Input, Function}
use Rattle.expression_types.specs.Inputs.{is_enable, taken_at, place_given, fits_function}
use Rattle.expression_types.specs.Rules.{wrong_at, typed, varying}
use Rattle.expression_types.specs.Reads.{Read, ReadArgument, placed_read, arguments_in, names_of, enabled}
use Rattle.expression_types.specs.StandardCalls.{standard_called}
use Rattle.expression_types.specs.declared.judged.ExprType.{ExprType}
use Rattle.expression_types.specs.declared.judged.ExprType.TheVariants as ty
use Rattle.expression_types.specs.declared.judged.Judged.{Judged}
use Rattle.expression_types.specs.declared.judged.Place.TheVariants as place
use Rattle.expression_types.specs.declared.judged.Standing.{Standing}
use Rattle.expression_types.specs.declared.meaning.Callee.{Callee}
use Rattle.expression_types.specs.declared.meaning.Callee.TheVariants as callee
use Rattle.expression_types.specs.declared.meaning.Taken.{Taken}
use Rattle.expression_types.specs.declared.meaning.Taken.TheVariants as taken
use Rattle.expression_types.specs.declared.meaning.ValueType.{ValueType}

-- where nothing can be called so, the values of the arguments are judged all the same
abbrev pub uncalled : Meanings → Standing → Node → LinkCode → List ReadArgument → Checked Judged
uncalled m c node fault arguments = with_all (wrong_at c node fault) (arguments_in m c arguments)

-- a result, or the fault of a list of arguments that doesn't fit
abbrev pub where_fits : Standing → Node → Bool → Checked Judged → Checked Judged
where_fits c node true result = result
where_fits c node false result = wrong_at c node code.WrongCall

-- ---- functions of the project

-- A whole array, structure or block is out of profile as an argument; no other value fits its input.
abbrev pub whole_code : Meanings → Standing → Node → ExprType → Checked Judged
whole_code m c node (ty.Other shape) =
    if m.parts.is_enumeration shape then wrong_at c node code.WrongType
    else wrong_at c node code.OutOfProfile
whole_code m c node (ty.Elem t) = wrong_at c node code.WrongType
whole_code m c node ty.Loose = wrong_at c node code.WrongType

-- the value of an input; what gives none has a value of any type
abbrev pub value_taken : Meanings → Standing → Read → Option Taken → Checked Judged
value_taken m c x None = placed_read m c place.Any x
value_taken m c x (Some taken.Anything) = placed_read m c place.Any x
value_taken m c x (Some (taken.Elem t)) = placed_read m c (place.Elem t) x
value_taken m c x (Some (taken.Shape shape)) = placed_read m c (place.Shape shape) x
value_taken m c x (Some taken.Nothing) =
    bind (placed_read m c place.Any x) (λ j. whole_code m c x.node j.ty)

abbrev pub taken_by : List Input → Option ℕ → Option Taken
taken_by inputs None = None
taken_by inputs (Some at) = taken_at inputs at

-- an argument at its place in the list
abbrev pub given : Meanings → Standing → Function → ℕ → ReadArgument → Checked Judged
given m c f at a =
    if is_enable f.declared a.name then enabled m c a a.name
    else value_taken m c a.value (taken_by f.inputs (place_given f.inputs at a.name))

abbrev pub all_given : Meanings → Standing → Function → ℕ → List ReadArgument → List (Checked Judged)
all_given m c f at [] = []
all_given m c f at (a ∷ rest) = given m c f at a ∷ all_given m c f (suc at) rest

abbrev pub result_of_type : Standing → Option ValueType → Checked Judged
result_of_type c None = unusable
result_of_type c (Some t) = Good (varying c (typed t))

abbrev pub function_called : Meanings → Standing → Node → Function → List ReadArgument → Checked Judged
function_called m c node f arguments =
    with_all (where_fits c node (fits_function f (names_of arguments)) (result_of_type c f.result))
    (all_given m c f 0 arguments)

-- ---- calls

abbrev pub call_of : Meanings → Standing → Node → Callee → List ReadArgument → Checked Judged
call_of m c node callee.Unknown arguments = uncalled m c node code.WrongCall arguments
call_of m c node callee.LeftOut arguments = uncalled m c node code.OutOfProfile arguments
call_of m c node (callee.Function f) arguments =
    function_called m c node (m.parts.function f) arguments
call_of m c node (callee.Standard f) arguments = standard_called m c node f arguments
