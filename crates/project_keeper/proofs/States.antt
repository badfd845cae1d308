-- How many files an edit leaves, and what edits leave one after the other.
use Rattle.std.proofs.Common.{◌≡◌, ℕ, ◌+◌, ◌≤◌, Bool, true, false, cond, List, [], ◌∷◌, ◌++◌, length, arith, refl}
use Rattle.std.specs.Prelude.{take, drop}
use Rattle.station_ports.specs.Lists.{placed, taken_out, has_name}
use Rattle.station_ports.specs.declared.lists.FileEntry.{FileEntry}
use Rattle.project_keeper.specs.declared.edit.Edit.{Edit}
use Rattle.project_keeper.specs.declared.edit.Edit.TheVariants.{PutFile, DropFile, Waive, Unwaive}
use Rattle.project_keeper.specs.Projects.{State, after, after_all}

placed_length : {X : Type 0} (same : X → Bool) (new : X) (xs : List X) → length (placed same new xs) ≤ length xs + 1
placed_length same new [] = omega arith
placed_length {X} same new (x ∷ xs) = step (same x) (placed_length same new xs)
  where
    step : (b : Bool) → length (placed same new xs) ≤ length xs + 1 → length (cond b (new ∷ xs) (x ∷ placed same new xs)) ≤ length (x ∷ xs) + 1
    step true ih = omega arith
    step false ih = omega (arith, ih)

out_length : {X : Type 0} (same : X → Bool) (xs : List X) → length (taken_out same xs) ≤ length xs
out_length same [] = omega arith
out_length {X} same (x ∷ xs) = step (same x) (out_length same xs)
  where
    step : (b : Bool) → length (taken_out same xs) ≤ length xs → length (cond b xs (x ∷ taken_out same xs)) ≤ length (x ∷ xs)
    step true ih = omega arith
    step false ih = omega (arith, ih)

pub one_more_put : (name text : List ℕ) (files : List FileEntry) → length (placed (has_name name) (record { name = name; text = text }) files) ≤ length files + 1
one_more_put name text files = placed_length (has_name name) (record { name = name; text = text }) files

pub none_more_dropped : (name : List ℕ) (files : List FileEntry) → length (taken_out (has_name name) files) ≤ length files + 1
none_more_dropped name files = omega (arith, out_length (has_name name) files)

-- the edits of two lists, one after the other
pub after_both : (state : State) (xs ys : List Edit) → after_all state (xs ++ ys) ≡ after_all (after_all state xs) ys
after_both state [] ys = refl
after_both state (x ∷ xs) ys = after_both (after state x) xs ys
