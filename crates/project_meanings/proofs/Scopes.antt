-- The names that a scope declares, and the names that are found in it.
use Rattle.std.proofs.Common.{◌≡◌, ℕ, Bool, true, false, List, [], ◌∷◌, map, cond, Option, Some, refl, sym, ap, arith}
use Rattle.std.specs.Prelude.{◌&&◌, bytes_eq, nat_eq}
use Rattle.std.specs.List.{filter, find, list_any}
use Rattle.std.specs.Option.{option_map}
use Rattle.std.specs.Ordering.{is_eq}
use Rattle.std.specs.declared.cmp.Ordering.{Ordering}
use Rattle.std.specs.declared.cmp.Ordering.TheVariants.{Less, Equal, Greater}
use Rattle.std.proofs.lemmas.Bool.Decides.{nat_tests}
use Rattle.std.proofs.lemmas.Slice.Eq.{bytes_eq-Decides}
use Rattle.iec_tables.specs.Words.{raised_all}
use Rattle.scope_names.specs.declared.names.NameRow.{NameRow}
use Rattle.scope_names.specs.Scopes.{Declares, declares}
use Rattle.scope_names.specs.Searches.{against}
use Rattle.scope_names.proofs.Tables.{tied, declared}
use Rattle.project_declarations.specs.declared.rows.What.{What}
use Rattle.expression_types.specs.Inputs.{is_among}
use Rattle.declared_names.specs.Project.{Project, finds}
use Rattle.project_meanings.specs.Functions.{is_in_scope, raised_name, names_of_scope}
use Rattle.project_meanings.specs.steps.Named.{is_found}

equal : (o : Ordering) → is_eq o ≡ true → o ≡ Equal
equal Less h = cc
equal Equal h = refl
equal Greater h = cc

same_bools : (a b : Bool) → (a ≡ true → b ≡ true) → (b ≡ true → a ≡ true) → a ≡ b
same_bools true b f g = sym (f refl)
same_bools false true f g = g refl
same_bools false false f g = refl

both_true : (a b : Bool) → a ≡ true → b ≡ true → (a && b) ≡ true
both_true a b h k = rw h k

first_true : (a b : Bool) → (a && b) ≡ true → a ≡ true
first_true true b h = refl
first_true false b h = h

second_true : (a b : Bool) → (a && b) ≡ true → b ≡ true
second_true true b h = h
second_true false b h = cc

same_number : (m n : ℕ) → nat_eq m n ≡ true → m ≡ n
same_number m n h = grind (arith, nat_tests)

number_same : (m n : ℕ) → m ≡ n → nat_eq m n ≡ true
number_same m n h = grind (arith, nat_tests)

abbrev has_name : ℕ → List ℕ → NameRow What → Bool
has_name scope name row = is_in_scope scope row && bytes_eq (raised_all name) (raised_name row)

declared_so : (scope : ℕ) (name : List ℕ) (row : NameRow What) → Declares scope name row
    → has_name scope name row ≡ true
declared_so scope name row d =
    both_true (is_in_scope scope row) (bytes_eq (raised_all name) (raised_name row))
    (number_same row.scope scope d.0)
    ((bytes_eq-Decides (raised_all name) (raised_name row)).1 (sym d.1))

so_declared : (scope : ℕ) (name : List ℕ) (row : NameRow What) → has_name scope name row ≡ true
    → Declares scope name row
so_declared scope name row h =
    let test = bytes_eq (raised_all name) (raised_name row) in (
      same_number row.scope scope (first_true (is_in_scope scope row) test h),
      sym ((bytes_eq-Decides (raised_all name) (raised_name row)).0
          (second_true (is_in_scope scope row) test h)),
    )

declares_is : (scope : ℕ) (name : List ℕ) (row : NameRow What)
    → declares scope name row ≡ has_name scope name row
declares_is scope name row =
    same_bools (declares scope name row) (has_name scope name row)
    (λ h. declared_so scope name row (declared scope name row (equal (against scope name row) h)))
    (λ h. ap is_eq (tied scope name row (so_declared scope name row h)))

abbrev what_of : NameRow What → What
what_of row = row.what

one_more : (a b : Bool) (test : List ℕ → Bool) (x : NameRow What) (kept : List (NameRow What))
    (found : Option (NameRow What)) → test (raised_name x) ≡ b
    → list_any test (map raised_name kept) ≡ is_found (option_map what_of found)
    → list_any test (map raised_name (cond a (x ∷ kept) kept))
    ≡ is_found (option_map what_of (cond (a && b) (Some x) found))
one_more false b test x kept found t h = h
one_more true true test x kept found t h = rw t refl
one_more true false test x kept found t h = rw t h

among_rows : (scope : ℕ) (name : List ℕ) (rows : List (NameRow What))
    → list_any (bytes_eq (raised_all name)) (map raised_name (filter (is_in_scope scope) rows))
    ≡ is_found (option_map what_of (find (declares scope name) rows))
among_rows scope name [] = refl
among_rows scope name (x ∷ xs) =
    rw (declares_is scope name x)
    (one_more (is_in_scope scope x) (bytes_eq (raised_all name) (raised_name x))
    (bytes_eq (raised_all name)) x (filter (is_in_scope scope) xs) (find (declares scope name) xs) refl
    (among_rows scope name xs))

pub declared_by_found : (p : Project) (scope : ℕ) (name : List ℕ)
    → is_among (names_of_scope p scope) (raised_all name) ≡ is_found (finds p scope name)
declared_by_found p scope name = among_rows scope name p.names
