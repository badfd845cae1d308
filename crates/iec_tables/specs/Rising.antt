-- Tables whose rows rise strictly by a key. This profile's own.
use Rattle.std.specs.Prelude.{Bool, true, ◌&&◌, List, [], ◌∷◌}
use Rattle.std.specs.Ordering.{is_lt}
use Rattle.std.specs.declared.cmp.Ordering.{Ordering}

-- the keys of the rows rise strictly from that one on
abbrev pub keys_rise_from : {Row Key : Type 0} → (Key → Key → Ordering) → (Row → Key) → Key → List Row → Bool
keys_rise_from order key last [] = true
keys_rise_from order key last (row ∷ rows) = is_lt (order last (key row)) && keys_rise_from order key (key row) rows

abbrev pub keys_rise : {Row Key : Type 0} → (Key → Key → Ordering) → (Row → Key) → List Row → Bool
keys_rise order key [] = true
keys_rise order key (row ∷ rows) = keys_rise_from order key (key row) rows
