-- The names that scopes declare. Source: IEC 61131-3, third edition, identifiers and scopes of names: letter case does not
-- tell names apart. The code keeps the rows sorted and searches by halves; here a row is named by what it declares and by
-- where it stands among all rows of that scope and name.
use Rattle.std.specs.Prelude.{◌≡◌, ℕ, ◌<◌, Bool, List, ◌++◌, Option, IsTrue, length, slice_index_or}
use Rattle.std.specs.List.{All, Contains, find}
use Rattle.std.specs.List.Sorted.{IsSorted}
use Rattle.std.specs.Ordering.{nat_cmp, ordering_then, is_le, is_eq}
use Rattle.std.specs.Cmp.Lexicographic.{slice_cmp}
use Rattle.std.specs.declared.cmp.Ordering.{Ordering}
use Rattle.iec_tables.specs.Words.{raised_all}
use Rattle.st_tree.specs.declared.Site.{Site}
use Rattle.scope_names.specs.declared.names.NameRow.{NameRow}

-- the row declares that name in that scope
abbrev pub Declares : {W : Type 0} → ℕ → List ℕ → NameRow W → Type 0
Declares scope name row = (row.scope ≡ scope) × (raised_all row.name.now ≡ raised_all name)

-- no row declares the name in the scope
abbrev pub IsNowhere : {W : Type 0} → List (NameRow W) → ℕ → List ℕ → Type 0
IsNowhere {W} rows scope name = (row : NameRow W) → Contains rows row → ¬ (Declares scope name row)

-- sites in the order of the text: by file, and then by the number of the node
abbrev pub site_cmp : Site → Site → Ordering
site_cmp a b = ordering_then (nat_cmp a.file b.file) (nat_cmp a.node.0 b.node.0)

-- scopes with names, by scope and then by name with its letters raised
abbrev pub name_cmp : ℕ → List ℕ → ℕ → List ℕ → Ordering
name_cmp scope name scope' name' = ordering_then (nat_cmp scope scope') (slice_cmp nat_cmp (raised_all name) (raised_all name'))

-- rows by scope, name and site
abbrev pub row_cmp : {W : Type 0} → NameRow W → NameRow W → Ordering
row_cmp a b = ordering_then (name_cmp a.scope a.name.now b.scope b.name.now) (site_cmp a.site b.site)

-- whether the row declares that name in that scope
abbrev pub declares : {W : Type 0} → ℕ → List ℕ → NameRow W → Bool
declares scope name row = is_eq (name_cmp row.scope row.name.now scope name)

-- the first of the rows that declares the name in the scope, where one does
abbrev pub first_of : {W : Type 0} → List (NameRow W) → ℕ → List ℕ → Option (NameRow W)
first_of rows scope name = find (declares scope name) rows

-- of the rows that declare the name in the scope, the row is one, and no other stands before it
pub record IsFirst {W : Type 0} (rows : List (NameRow W)) (scope : ℕ) (name : List ℕ) (row : NameRow W) : Type 0 where
  pub there : Contains rows row
  pub declares : Declares scope name row
  pub first : (other : NameRow W) → Contains rows other → Declares scope name other → IsTrue (is_le (site_cmp row.site other.site))

-- of the rows that declare the name in the scope, the row is one, and no other stands behind it
pub record IsLast {W : Type 0} (rows : List (NameRow W)) (scope : ℕ) (name : List ℕ) (row : NameRow W) : Type 0 where
  pub there : Contains rows row
  pub declares : Declares scope name row
  pub last : (other : NameRow W) → Contains rows other → Declares scope name other → IsTrue (is_le (site_cmp other.site row.site))

-- the rows of some are all those that declare the name in the scope, as often as they stand among the rows, and in order
-- of their sites
pub record IsRun {W : Type 0} (rows : List (NameRow W)) (scope : ℕ) (name : List ℕ) (some : List (NameRow W)) : Type 0 where
  pub front : List (NameRow W)
  pub back : List (NameRow W)
  pub parts : rows ≡ front ++ (some ++ back)
  pub inside : All (Declares scope name) some
  pub before : IsNowhere front scope name
  pub behind : IsNowhere back scope name
  pub sorted : IsSorted (λ a b. site_cmp a.site b.site) some

-- the row stands at that place
abbrev pub StandsAt : {W : Type 0} → List (NameRow W) → ℕ → NameRow W → Type 0
StandsAt rows at row = (at < length rows) × (slice_index_or rows at row ≡ row)

-- a row before this place declares the same name in the same scope as the row at this place
pub record Repeats {W : Type 0} (rows : List (NameRow W)) (at : ℕ) : Type 0 where
  pub row : NameRow W
  pub here : StandsAt rows at row
  pub earlier : ℕ
  pub is_earlier : earlier < at
  pub other : NameRow W
  pub there : StandsAt rows earlier other
  pub same : Declares row.scope row.name.now other
