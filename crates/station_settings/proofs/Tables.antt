-- The least key that is no field, in a table whose keys ascend; and how many members a table has.
use Rattle.std.proofs.Common.{◌≡◌, ℕ, true, false, List, [], ◌∷◌, length, Option, Some, None, String, Global, Less, string_bytes, nat_cmp, refl, ap, suc, cond, nat_eq, arith}
use Rattle.std.specs.Prelude.{IfSome}
use Rattle.std.proofs.lemmas.Cmp.{nat_list_cmp_total}
use Rattle.std.specs.Cmp.Lexicographic.{slice_cmp}
use Rattle.std.specs.List.{AllByRecursion}
use Rattle.std.specs.List.Sorted.{IsStrictlySortedBy}
use Rattle.std.specs.Map.{keys_of}
use Rattle.std.specs.Ordering.{is_lt}
use Rattle.std.specs.String.{string_cmp}
use Rattle.toml.specs.View.{members_view}
use Rattle.toml.proofs.Views.{Entry}
use Rattle.station_settings.specs.Fields.{is_field}
use Rattle.station_settings.specs.Schema.{caller_in, least_unknown, lesser, members}

pub members_are : (entries : List Entry) → members (members_view entries) ≡ length entries
members_are [] = refl
members_are (entry ∷ entries) = ap suc (members_are entries)

lesser-keeps : (P : List ℕ → Type 0) (key : List ℕ) (other : Option (List ℕ)) → P key → IfSome other P → P (lesser key other)
lesser-keeps P key None here there = here
lesser-keeps P key (Some other) here there =
    elim (is_lt (slice_cmp nat_cmp other key)) as (λ v. P (cond v other key)) [
      | true ↦ there
      | false ↦ here
    ]

least-keeps : (P : List ℕ → Type 0) (entries : List Entry) → AllByRecursion (λ key. P (string_bytes key)) (keys_of entries)
    → IfSome (least_unknown (members_view entries)) P
least-keeps P [] all = tt
least-keeps P (entry ∷ entries) all =
    elim (is_field (string_bytes entry.0)) as (λ v. IfSome (cond v (least_unknown (members_view entries)) (Some (lesser (string_bytes entry.0) (least_unknown (members_view entries))))) P) [
      | true ↦ least-keeps P entries all.1
      | false ↦ lesser-keeps P (string_bytes entry.0) (least_unknown (members_view entries)) all.0 (least-keeps P entries all.1)
    ]

lesser-below : (key : List ℕ) (other : Option (List ℕ)) → IfSome other (λ other. slice_cmp nat_cmp key other ≡ Less) → lesser key other ≡ key
lesser-below key None above = refl
lesser-below key (Some other) above = rw (nat_list_cmp_total.antisymm other key, above) refl

other : (m n : ℕ) → ¬ (m ≡ n) → nat_eq m n ≡ false
other m n differ = grind (arith, differ)

pub wrong_size : (entries : List Entry) → ¬ (length entries ≡ 2) → caller_in (members_view entries) ≡ None
wrong_size entries differ = rw (members_are entries, other (length entries) 2 differ) refl

-- A key below all others is the lesser one.
below : (key : String Global) (entries : List Entry) → AllByRecursion (λ other. string_cmp key other ≡ Less) (keys_of entries)
    → lesser (string_bytes key) (least_unknown (members_view entries)) ≡ string_bytes key
below key entries above =
    lesser-below (string_bytes key) (least_unknown (members_view entries))
    (least-keeps (λ other. slice_cmp nat_cmp (string_bytes key) other ≡ Less) entries above)

pub first-unknown : (entry : Entry) (entries : List Entry) → IsStrictlySortedBy string_cmp (keys_of (entry ∷ entries)) → is_field (string_bytes entry.0) ≡ false
    → least_unknown (members_view (entry ∷ entries)) ≡ Some (string_bytes entry.0)
unfolding IsStrictlySortedBy
first-unknown entry entries ascend unknown = rw (unknown, below entry.0 entries ascend.0) refl

pub others-ascend : (entry : Entry) (entries : List Entry) → IsStrictlySortedBy string_cmp (keys_of (entry ∷ entries)) → IsStrictlySortedBy string_cmp (keys_of entries)
unfolding IsStrictlySortedBy
others-ascend entry entries ascend = ascend.1

pub known-passed : (entry : Entry) (entries : List Entry) → is_field (string_bytes entry.0) ≡ true → least_unknown (members_view (entry ∷ entries)) ≡ least_unknown (members_view entries)
known-passed entry entries known = rw known refl
