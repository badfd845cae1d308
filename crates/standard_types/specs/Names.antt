-- What a name stands for in the standard: plain searches in its lists of names. Letter case does
-- not tell names apart. Source: IEC 61131-3, third edition, identifiers.
use Rattle.std.specs.Prelude.{ℕ, Bool, ◌||◌, List, Option}
use Rattle.std.specs.List.{find, list_any}
use Rattle.std.specs.Str.{bytes_eq}
use Rattle.iec_tables.specs.Words.{raised_all}
use Rattle.standard_names.specs.Functions.{function_name}
use Rattle.standard_names.specs.Blocks.{block_name}
use Rattle.standard_names.specs.declared.function.StandardFunction.{StandardFunction}
use Rattle.standard_names.specs.declared.block.StandardBlock.{StandardBlock}
use Rattle.standard_types.specs.Lists.{functions, blocks, function_names, block_names}
use Rattle.standard_types.specs.Lists.{left_out_function_names, left_out_type_names}

-- the name, with its letters raised, is one of these
abbrev pub is_among : List (List ℕ) → List ℕ → Bool
is_among names name = list_any (bytes_eq (raised_all name)) names

-- the thing has the name
abbrev pub has_name : {A : Type 0} → (A → List ℕ) → List ℕ → A → Bool
has_name name_of name x = bytes_eq (raised_all name) (name_of x)

-- the function block of that name
unfoldable pub block_named : List ℕ → Option StandardBlock
block_named name = find (has_name block_name name) blocks

-- the function of that name
unfoldable pub function_named : List ℕ → Option StandardFunction
function_named name = find (has_name function_name name) functions

-- a function has the name
unfoldable pub is_function_name : List ℕ → Bool
is_function_name name = is_among function_names name

-- A function or a block has the name: no unit and no type of a project may have it. The names of
-- elementary types are reserved words, and what is left out of the standard a project may declare.
unfoldable pub is_standard_name : List ℕ → Bool
is_standard_name name = is_among function_names name || is_among block_names name

-- the standard has a function of that name that is left out
unfoldable pub is_left_out_function : List ℕ → Bool
is_left_out_function name = is_among left_out_function_names name

-- the standard has a type, a block or a function of that name that is left out
unfoldable pub is_left_out_type : List ℕ → Bool
is_left_out_type name = is_among left_out_type_names name
