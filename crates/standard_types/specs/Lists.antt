-- The names of the standard, as lists: elementary types, functions and function blocks of this
-- profile, and what the profile leaves out. Source: IEC 61131-3, third edition, elementary data
-- types, standard functions and standard function blocks. The code searches tables in byte order
-- and cuts the names of conversions at `_TO_`; here each function stands in the lists.
use Rattle.std.specs.Prelude.{ℕ, if◌then◌else◌, List, [], ◌∷◌, ◌++◌, map, flat_map, codes}
use Rattle.iec_tables.specs.Conversions.{is_same}
use Rattle.iec_tables.specs.Types.{name_of}
use Rattle.iec_tables.specs.declared.elem.Elem.{Elem}
use Rattle.iec_tables.specs.declared.elem.Elem.TheVariants as elem
use Rattle.standard_names.specs.Types.{left_out_types}
use Rattle.standard_names.specs.Functions.{function_name, joined, left_out_functions}
use Rattle.standard_names.specs.Blocks.{block_name}
use Rattle.standard_names.specs.declared.function.StandardFunction.{StandardFunction}
use Rattle.standard_names.specs.declared.function.StandardFunction.TheVariants as function
use Rattle.standard_names.specs.declared.block.StandardBlock.{StandardBlock}
use Rattle.standard_names.specs.declared.block.StandardBlock.TheVariants as block

abbrev pub types : List Elem
types =
    elem.Sint ∷ elem.Usint ∷ elem.Int ∷ elem.Uint ∷ elem.Dint ∷ elem.Udint ∷ elem.Lint ∷
    elem.Ulint ∷ elem.Byte ∷ elem.Word ∷ elem.Dword ∷ elem.Lword ∷ elem.Bool ∷ elem.Time ∷ []

-- ---- functions and blocks of this profile

abbrev pub plain_functions : List StandardFunction
plain_functions =
    function.Abs ∷ function.Min ∷ function.Max ∷ function.Limit ∷ function.Sel ∷ function.Shl ∷
    function.Shr ∷ function.Rol ∷ function.Ror ∷ []

-- conversions lead from each type to each other one
abbrev pub conversion : Elem → Elem → List StandardFunction
conversion from to = if is_same from to then [] else function.Convert from to ∷ []

abbrev pub conversions_from : Elem → List StandardFunction
conversions_from from = flat_map (conversion from) types

abbrev pub functions : List StandardFunction
functions = plain_functions ++ flat_map conversions_from types

abbrev pub blocks : List StandardBlock
blocks =
    block.Sr ∷ block.Rs ∷ block.RTrig ∷ block.FTrig ∷ block.Ctu ∷ block.Ctd ∷ block.Ton ∷
    block.Tof ∷ block.Tp ∷ []

abbrev pub function_names : List (List ℕ)
function_names = map function_name functions

abbrev pub block_names : List (List ℕ)
block_names = map block_name blocks

-- ---- what the profile leaves out

-- all types of the standard
abbrev pub type_names : List (List ℕ)
type_names = map name_of types ++ left_out_types

-- the conversions from a type to each of these
abbrev pub conversion_names : List (List ℕ) → List ℕ → List (List ℕ)
conversion_names to from = map (joined from) to

-- the conversions from a type that is left out, and those to one
abbrev pub left_out_conversions : List (List ℕ)
left_out_conversions =
    flat_map (conversion_names type_names) left_out_types
    ++ flat_map (conversion_names left_out_types) type_names

abbrev pub left_out_function_names : List (List ℕ)
left_out_function_names = left_out_functions ++ left_out_conversions

-- where a type is named, the names of types, of the block CTUD and of functions count
abbrev pub left_out_type_names : List (List ℕ)
left_out_type_names = left_out_types ++ (codes "CTUD" ∷ left_out_function_names)
