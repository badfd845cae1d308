-- The names of types. Source: IEC 61131-3, third edition, elementary data types; the profile has fourteen of them.
use Rattle.std.specs.Prelude.{◌≡◌, ℕ, ◌⊎◌, List, [], ◌∷◌, codes}
use Rattle.std.specs.List.{Contains}
use Rattle.iec_tables.specs.declared.elem.Elem.{Elem}
use Rattle.iec_tables.specs.Types.{name_of}

-- the types that the standard has and this profile leaves out, in byte order
abbrev pub left_out_types : List (List ℕ)
left_out_types =
    codes "CHAR" ∷ codes "DATE" ∷ codes "DATE_AND_TIME" ∷ codes "DT" ∷ codes "LDATE" ∷
    codes "LDATE_AND_TIME" ∷ codes "LDT" ∷ codes "LREAL" ∷ codes "LTIME" ∷ codes "LTIME_OF_DAY" ∷
    codes "LTOD" ∷ codes "REAL" ∷ codes "STRING" ∷ codes "TIME_OF_DAY" ∷ codes "TOD" ∷
    codes "WCHAR" ∷ codes "WSTRING" ∷ []

-- the name of a type of the profile
abbrev pub IsElemName : List ℕ → Type 0
IsElemName name = (t : Elem) × (name_of t ≡ name)

-- the name of a type of the standard
abbrev pub IsTypeName : List ℕ → Type 0
IsTypeName name = IsElemName name ⊎ Contains left_out_types name
