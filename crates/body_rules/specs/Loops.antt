-- The loops around a statement. Source: IEC 61131-3, iteration statements: EXIT and CONTINUE stand in a
-- loop, and a FOR's variable isn't written to in its loop.
use Rattle.std.specs.Prelude.{ℕ, Bool, true, false, bytes_eq, List, [], ◌∷◌}
use Rattle.std.specs.List.{list_any}
use Rattle.iec_tables.specs.Words.{raised_all}

-- names are compared with small letters raised
abbrev pub is_same_name : List ℕ → List ℕ → Bool
is_same_name a b = bytes_eq (raised_all a) (raised_all b)

pub data Loop : Type 0 where
  -- WHILE or REPEAT
  Plain : Loop
  -- a FOR, with its variable's name
  Counting : List ℕ → Loop

-- the loops around, from the innermost out
abbrev pub is_in_loop : List Loop → Bool
is_in_loop [] = false
is_in_loop (loop ∷ loops) = true

abbrev pub is_counting : List ℕ → Loop → Bool
is_counting name Plain = false
is_counting name (Counting variable) = is_same_name variable name

-- a loop around counts the variable with this name
abbrev pub counts : List Loop → List ℕ → Bool
counts loops name = list_any (is_counting name) loops
