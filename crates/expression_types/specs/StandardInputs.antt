-- Inputs of functions of the standard, and which arguments of a call give them, by place or by name.
-- Names are compared with letters raised. Source: IEC 61131-3, standard functions and calls of
-- functions; that EN and ENO are left out is this profile's.
use Rattle.std.specs.Prelude.{ℕ, zero, suc, Bool, true, false, nat_eq, bytes_eq, if◌then◌else◌, List, [], ◌∷◌, ◌++◌, length, codes, Option, Some, None, option_map}
use Rattle.iec_tables.specs.Words.{raised_all}
use Rattle.standard_names.specs.declared.function.StandardFunction.{StandardFunction}
use Rattle.standard_names.specs.declared.function.StandardFunction.TheVariants as function
use Rattle.st_tree.specs.declared.expression.Identifier.{Identifier}
use Rattle.expression_types.specs.Inputs.{are_given, is_enable, without_enables}
use Rattle.expression_types.specs.Reads.{Read, ReadArgument}

-- the names of a function's inputs, in their order
abbrev pub inputs_of : StandardFunction → List (List ℕ)
inputs_of function.Abs = codes "IN" ∷ []
inputs_of function.Min = codes "IN1" ∷ codes "IN2" ∷ []
inputs_of function.Max = codes "IN1" ∷ codes "IN2" ∷ []
inputs_of function.Limit = codes "MN" ∷ codes "IN" ∷ codes "MX" ∷ []
inputs_of function.Sel = codes "G" ∷ codes "IN0" ∷ codes "IN1" ∷ []
inputs_of function.Shl = codes "IN" ∷ codes "N" ∷ []
inputs_of function.Shr = codes "IN" ∷ codes "N" ∷ []
inputs_of function.Rol = codes "IN" ∷ codes "N" ∷ []
inputs_of function.Ror = codes "IN" ∷ codes "N" ∷ []
inputs_of (function.Convert from to) = codes "IN" ∷ []

-- EN and ENO: no function of the standard has a variable of its own by these names
abbrev pub is_left_out : Option Identifier → Bool
is_left_out name = is_enable [] name

-- ---- arguments by name

-- the argument stands by this name
abbrev pub has_name : List ℕ → Option Identifier → Bool
has_name input None = false
has_name input (Some i) = bytes_eq input (raised_all i.name)

-- where in the list the argument by this name stands, counted from 0
abbrev pub place_named : List (Option Identifier) → List ℕ → Option ℕ
place_named [] input = None
place_named (n ∷ ns) input =
    if has_name input n then Some 0 else option_map suc (place_named ns input)

abbrev pub with_place : Option ℕ → Option (List ℕ) → Option (List ℕ)
with_place None ps = None
with_place (Some p) None = None
with_place (Some p) (Some ps) = Some (p ∷ ps)

-- where the arguments by these names stand; none where one of them is missing
abbrev pub places_named : List (Option Identifier) → List (List ℕ) → Option (List ℕ)
places_named names [] = Some []
places_named names (input ∷ inputs) =
    with_place (place_named names input) (places_named names inputs)

-- As many as inputs, EN and ENO aside, and each input among them: so each is given once.
abbrev pub by_name : List (List ℕ) → List (Option Identifier) → Option (List ℕ)
by_name inputs names =
    if nat_eq (length (without_enables [] names)) (length inputs) then places_named names inputs
    else None

-- ---- arguments by place

-- the places of the inputs, counted from this number
abbrev pub places_from : ℕ → List (List ℕ) → List ℕ
places_from at [] = []
places_from at (input ∷ inputs) = at ∷ places_from (suc at) inputs

-- as many as inputs
abbrev pub by_place : List (List ℕ) → List (Option Identifier) → Option (List ℕ)
by_place inputs names =
    if nat_eq (length names) (length inputs) then Some (places_from 0 inputs) else None

-- ---- arguments

-- Where in the list the arguments stand that give the inputs, in the order of the inputs: all inputs
-- by place, or all by name in any order; none where the list doesn't fit.
abbrev pub places_given : List (List ℕ) → List (Option Identifier) → Option (List ℕ)
places_given inputs names =
    if are_given false names then by_place inputs names
    else (if are_given true names then by_name inputs names else None)

-- the value of the argument at a place
abbrev pub value_at : List ReadArgument → ℕ → List Read
value_at [] p = []
value_at (a ∷ rest) zero = a.value ∷ []
value_at (a ∷ rest) (suc p) = value_at rest p

-- the values of the arguments at these places
abbrev pub values_at : List ReadArgument → List ℕ → List Read
values_at arguments [] = []
values_at arguments (p ∷ ps) = value_at arguments p ++ values_at arguments ps
