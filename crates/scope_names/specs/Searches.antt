-- Where searches by halves in sorted rows end: a step on the way, which no public contract cites.
use Rattle.std.specs.Prelude.{◌≡◌, ℕ, true, false, List}
use Rattle.std.specs.List.Sorted.{IsPartitionPoint}
use Rattle.std.specs.Ordering.{is_lt, is_le}
use Rattle.std.specs.declared.cmp.Ordering.{Ordering}
use Rattle.scope_names.specs.declared.names.NameRow.{NameRow}
use Rattle.scope_names.specs.Scopes.{name_cmp}

-- a row against the name in the scope
abbrev pub against : {W : Type 0} → ℕ → List ℕ → NameRow W → Ordering
against scope name row = name_cmp row.scope row.name.now scope name

-- the rows before this place stand before the name in the scope, and those from it on don't
abbrev pub IsStart : {W : Type 0} → ℕ → List ℕ → List (NameRow W) → ℕ → Type 0
IsStart scope name rows at = IsPartitionPoint (λ row. is_lt (against scope name row) ≡ true) (λ row. is_lt (against scope name row) ≡ false) rows at

-- the rows from this place on stand behind the name in the scope, and those before it don't
abbrev pub IsEnd : {W : Type 0} → ℕ → List ℕ → List (NameRow W) → ℕ → Type 0
IsEnd scope name rows at = IsPartitionPoint (λ row. is_le (against scope name row) ≡ true) (λ row. is_le (against scope name row) ≡ false) rows at
