-- The functions of the standard: those of the profile, and those that it leaves out. Source: IEC 61131-3, third edition,
-- standard functions. Conversions are those between each two different elementary types of the profile.
use Rattle.std.specs.Prelude.{◌≡◌, ℕ, ◌⊎◌, List, [], ◌∷◌, ◌++◌, codes}
use Rattle.std.specs.List.{Contains}
use Rattle.iec_tables.specs.declared.elem.Elem.{Elem}
use Rattle.iec_tables.specs.Types.{name_of}
use Rattle.standard_names.specs.declared.function.StandardFunction.{StandardFunction}
use Rattle.standard_names.specs.declared.function.StandardFunction.TheVariants.{Abs, Min, Max, Limit, Sel, Shl, Shr, Rol, Ror, Convert}
use Rattle.standard_names.specs.Types.{left_out_types, IsTypeName}

-- a type's name, `_TO_` and a type's name
abbrev pub joined : List ℕ → List ℕ → List ℕ
joined from to = from ++ (codes "_TO_" ++ to)

abbrev pub conversion_name : Elem → Elem → List ℕ
conversion_name a b = joined (name_of a) (name_of b)

abbrev pub function_name : StandardFunction → List ℕ
function_name Abs = codes "ABS"
function_name Min = codes "MIN"
function_name Max = codes "MAX"
function_name Limit = codes "LIMIT"
function_name Sel = codes "SEL"
function_name Shl = codes "SHL"
function_name Shr = codes "SHR"
function_name Rol = codes "ROL"
function_name Ror = codes "ROR"
function_name (Convert a b) = conversion_name a b

-- each is a function of the standard, a conversion where its types differ
abbrev pub IsFunction : StandardFunction → Type 0
IsFunction (Convert a b) = ¬ (a ≡ b)
IsFunction _ = Unit {0}

-- no conversion
abbrev pub IsPlain : StandardFunction → Type 0
IsPlain (Convert a b) = ⊥
IsPlain _ = Unit {0}

abbrev pub IsFunctionName : List ℕ → Type 0
IsFunctionName name = (f : StandardFunction) × IsFunction f × (function_name f ≡ name)

-- ---- what the profile leaves out

-- functions that the standard has and this profile leaves out, in byte order
abbrev pub left_out_functions : List (List ℕ)
left_out_functions =
    codes "ACOS" ∷ codes "ADD" ∷ codes "ASIN" ∷ codes "ATAN" ∷ codes "ATAN2" ∷ codes "CONCAT" ∷
    codes "COS" ∷ codes "DELETE" ∷ codes "DIV" ∷ codes "EQ" ∷ codes "EXP" ∷ codes "EXPT" ∷
    codes "FIND" ∷ codes "GE" ∷ codes "GT" ∷ codes "INSERT" ∷ codes "IS_VALID" ∷ codes "LE" ∷
    codes "LEFT" ∷ codes "LEN" ∷ codes "LN" ∷ codes "LOG" ∷ codes "LT" ∷ codes "MID" ∷
    codes "MOVE" ∷ codes "MUL" ∷ codes "MUX" ∷ codes "NE" ∷ codes "REPLACE" ∷ codes "RIGHT" ∷
    codes "SIN" ∷ codes "SQRT" ∷ codes "SUB" ∷ codes "TAN" ∷ codes "TRUNC" ∷ []

-- a conversion between types of the standard, of which the profile leaves out one or both
pub record IsLeftOutConversion (name : List ℕ) : Type 0 where
  pub from : List ℕ
  pub to : List ℕ
  pub name_is : joined from to ≡ name
  pub from_type : IsTypeName from
  pub to_type : IsTypeName to
  pub left_out : Contains left_out_types from ⊎ Contains left_out_types to

abbrev pub IsLeftOutFunction : List ℕ → Type 0
IsLeftOutFunction name = Contains left_out_functions name ⊎ IsLeftOutConversion name

-- where a type is named: a type, the block CTUD or a function that the standard has and this profile leaves out
abbrev pub IsLeftOutType : List ℕ → Type 0
IsLeftOutType name = Contains left_out_types name ⊎ ((codes "CTUD" ≡ name) ⊎ IsLeftOutFunction name)
