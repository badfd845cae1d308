-- Lists of names by the numbers of enumerations and of declarations.
use Rattle.std.proofs.Common.{◌≡◌, ◌∙◌, ℕ, zero, suc, Bool, false, List, [], ◌∷◌, map, refl, ap}
use Rattle.std.specs.Prelude.{slice_get}
use Rattle.std.specs.Option.{unwrap_or}
use Rattle.project_declarations.specs.Declarations.{Declaration}
use Rattle.type_parts.specs.Parts.{Enumeration}
use Rattle.type_parts.specs.Places.{has_twice, values_of, fields_there, has_value_twice}
use Rattle.type_parts.specs.Places.{has_field_twice_at}
use Rattle.type_parts.specs.Tables.{list_at, values_lists, fields_lists}

pub values_at : (xs : List Enumeration) (n : ℕ)
    → list_at (values_lists xs) n ≡ values_of (slice_get xs n)
values_at [] n = refl
values_at (x ∷ xs) zero = refl
values_at (x ∷ xs) (suc n) = values_at xs n

pub fields_at : (xs : List Declaration) (n : ℕ)
    → list_at (fields_lists xs) n ≡ fields_there (slice_get xs n)
fields_at [] n = refl
fields_at (x ∷ xs) zero = refl
fields_at (x ∷ xs) (suc n) = fields_at xs n

marked_at : (lists : List (List (List ℕ))) (n : ℕ)
    → unwrap_or (slice_get (map has_twice lists) n) false ≡ has_twice (list_at lists n)
unfolding has_twice
marked_at [] n = refl
marked_at (x ∷ xs) zero = refl
marked_at (x ∷ xs) (suc n) = marked_at xs n

pub values_marked : (xs : List Enumeration) (n : ℕ) (twice : List Bool)
    → twice ≡ map has_twice (values_lists xs)
    → unwrap_or (slice_get twice n) false ≡ has_value_twice xs n
values_marked xs n twice e =
    ap (λ (marks : List Bool). unwrap_or (slice_get marks n) false) e ∙ marked_at (values_lists xs) n
    ∙ ap has_twice (values_at xs n)

pub fields_marked : (xs : List Declaration) (n : ℕ) (twice : List Bool)
    → twice ≡ map has_twice (fields_lists xs)
    → unwrap_or (slice_get twice n) false ≡ has_field_twice_at xs n
fields_marked xs n twice e =
    ap (λ (marks : List Bool). unwrap_or (slice_get marks n) false) e ∙ marked_at (fields_lists xs) n
    ∙ ap has_twice (fields_at xs n)
