-- Inputs of functions, and which of them the arguments of a call give, by place or by name. Names are
-- compared with letters raised. Source: IEC 61131-3, calls of functions; that EN and ENO are left out
-- is this profile's.
use Rattle.std.specs.Prelude.{ℕ, zero, suc, Bool, true, false, ◌&&◌, ◌||◌, nat_eq, bytes_eq, if◌then◌else◌, List, [], ◌∷◌, length, codes, Option, Some, None, option_map}
use Rattle.std.specs.List.{list_any, list_all, filter}
use Rattle.iec_tables.specs.Words.{raised_all}
use Rattle.st_tree.specs.declared.expression.Identifier.{Identifier}
use Rattle.expression_types.specs.Meanings.{Input, Function}
use Rattle.expression_types.specs.declared.meaning.Taken.{Taken}

-- ---- inputs of a function of the project

abbrev pub is_among : List (List ℕ) → List ℕ → Bool
is_among names name = list_any (bytes_eq name) names

-- what the input at a place takes
abbrev pub taken_at : List Input → ℕ → Option Taken
taken_at [] at = None
taken_at (input ∷ inputs) zero = Some input.taken
taken_at (input ∷ inputs) (suc at) = taken_at inputs at

-- the place of the input with this name
abbrev pub place_of : List Input → List ℕ → Option ℕ
place_of [] name = None
place_of (input ∷ inputs) name =
    if bytes_eq input.name name then Some 0 else option_map suc (place_of inputs name)

-- ---- names of arguments

-- the argument stands by name, or it stands by place
abbrev pub is_given : Bool → Option Identifier → Bool
is_given true (Some i) = true
is_given true None = false
is_given false (Some i) = false
is_given false None = true

-- all stand by name, or all by place
abbrev pub are_given : Bool → List (Option Identifier) → Bool
are_given by_name names = list_all (is_given by_name) names

-- EN and ENO
abbrev pub is_enabling : List ℕ → Bool
is_enabling name = bytes_eq (codes "EN") name || bytes_eq (codes "ENO") name

-- EN or ENO, where the function declares no variable of that name
abbrev pub is_enable : List (List ℕ) → Option Identifier → Bool
is_enable declared None = false
is_enable declared (Some i) =
    if is_enabling (raised_all i.name) then
    (if is_among declared (raised_all i.name) then false else true)
    else false

abbrev pub is_ordinary : List (List ℕ) → Option Identifier → Bool
is_ordinary declared name = if is_enable declared name then false else true

abbrev pub without_enables : List (List ℕ) → List (Option Identifier) → List (Option Identifier)
without_enables declared names = filter (is_ordinary declared) names

-- ---- functions of the project

-- the place of the input with the name that is written
abbrev pub written_place : List Input → Option Identifier → Option ℕ
written_place inputs None = None
written_place inputs (Some i) = place_of inputs (raised_all i.name)

-- the place of the input that an argument gives: its own place, or that of the name
abbrev pub place_given : List Input → ℕ → Option Identifier → Option ℕ
place_given inputs at None = Some at
place_given inputs at (Some i) = place_of inputs (raised_all i.name)

abbrev pub is_place : ℕ → Option ℕ → Bool
is_place p None = false
is_place p (Some q) = nat_eq p q

-- the input at this place is given by one of the names
abbrev pub is_given_again : List Input → List (Option Identifier) → ℕ → Bool
is_given_again inputs names p = list_any (λ n. is_place p (written_place inputs n)) names

-- an input, which none of the names gives again
abbrev pub is_new : List Input → List (Option Identifier) → Option ℕ → Bool
is_new inputs names None = false
is_new inputs names (Some p) = if is_given_again inputs names p then false else true

-- each name is that of an input, and none gives the input of another one
abbrev pub are_new : List Input → List (Option Identifier) → Bool
are_new inputs [] = true
are_new inputs (n ∷ ns) = is_new inputs ns (written_place inputs n) && are_new inputs ns

-- All inputs by place, or some by name, each once. No argument at all gives none by name.
abbrev pub fits_function : Function → List (Option Identifier) → Bool
fits_function f names =
    (are_given false names && (nat_eq (length names) 0 || nat_eq (length names) (length f.inputs)))
    || (are_given true names && are_new f.inputs (without_enables f.declared names))
