-- Letters, of which names are compared without regard to case. Source: IEC 61131-3, third edition, identifiers.
use Rattle.std.specs.Prelude.{ℕ, ◌-◌, ◌&&◌, if◌then◌else◌, nat_le}

-- The letters `a` to `z`, 97 to 122 in ASCII, stand 32 above their capitals.
abbrev pub raised : ℕ → ℕ
raised byte = if nat_le 97 byte && nat_le byte 122 then byte - 32 else byte
