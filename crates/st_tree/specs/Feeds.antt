-- The places of the line feeds of a text. Source: this profile. The code lists them in one pass over the bytes.
use Rattle.std.specs.Prelude.{ℕ, suc, if◌then◌else◌, nat_eq, List, [], ◌∷◌}

-- those from a place on
abbrev pub feeds_from : ℕ → List ℕ → List ℕ
feeds_from at [] = []
feeds_from at (byte ∷ bytes) = if nat_eq byte 10 then at ∷ feeds_from (suc at) bytes else feeds_from (suc at) bytes
