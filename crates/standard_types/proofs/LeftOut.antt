-- The lists of what the profile leaves out have what the tables of the standard's names say.
use Rattle.std.proofs.Common.{◌≡◌, inl, inr, ℕ, Bool, List, ◌∷◌, map, IsTrue}
use Rattle.std.proofs.Common.{subst}
use Rattle.std.specs.Prelude.{◌↔◌, flat_map, codes}
use Rattle.iec_tables.specs.Types.{name_of}
use Rattle.iec_tables.specs.Words.{raised_all}
use Rattle.standard_names.specs.Types.{left_out_types, IsTypeName}
use Rattle.standard_names.specs.Functions.{joined, left_out_functions, IsLeftOutConversion}
use Rattle.standard_names.specs.Functions.{IsLeftOutFunction, IsLeftOutType}
use Rattle.standard_types.specs.Lists.{types, type_names, conversion_names, left_out_conversions}
use Rattle.standard_types.specs.Lists.{left_out_function_names, left_out_type_names}
use Rattle.standard_types.specs.Names.{is_left_out_function, is_left_out_type}
use Rattle.standard_types.proofs.Searches.{Among, among_left, among_right, among_either, among_map}
use Rattle.standard_types.proofs.Searches.{map_part, among_flat, flat_part, among_contains}
use Rattle.standard_types.proofs.Searches.{contains_among, tested}
use Rattle.standard_types.proofs.Tables.{among_types}

among_type_names : (s : List ℕ) → IsTypeName s → Among s type_names
among_type_names s h = elim h as (λ _. Among s type_names) [
  | inl t ↦ among_left s (map name_of types) left_out_types
      (subst (λ n. Among n (map name_of types)) t.1 (among_map name_of t.0 types (among_types t.0)))
  | inr c ↦ among_right s (map name_of types) left_out_types (among_contains s left_out_types c)
]

type_among : (s : List ℕ) → Among s type_names → IsTypeName s
type_among s h =
    elim (among_either s (map name_of types) left_out_types h) as (λ _. IsTypeName s) [
      | inl m ↦ let t = map_part name_of s types m in inl (t.0, t.2)
      | inr m ↦ inr (contains_among s left_out_types m)
    ]

-- ---- conversions

conversion_among : (from to : List ℕ) (froms tos : List (List ℕ)) → Among from froms → Among to tos
    → Among (joined from to) (flat_map (conversion_names tos) froms)
conversion_among from to froms tos f t =
    among_flat (conversion_names tos) from (joined from to) froms f (among_map (joined from) to tos t)

among_conversions : (s : List ℕ) → IsLeftOutConversion s → Among s left_out_conversions
among_conversions s c =
    let from = flat_map (conversion_names type_names) left_out_types in
    let to = flat_map (conversion_names left_out_types) type_names in
    subst (λ n. Among n left_out_conversions) c.name_is
    (elim c.left_out as (λ _. Among (joined c.from c.to) left_out_conversions) [
      | inl l ↦ among_left (joined c.from c.to) from to
          (conversion_among c.from c.to left_out_types type_names
          (among_contains c.from left_out_types l) (among_type_names c.to c.to_type))
      | inr l ↦ among_right (joined c.from c.to) from to
          (conversion_among c.from c.to type_names left_out_types
          (among_type_names c.from c.from_type) (among_contains c.to left_out_types l))
    ])

conversion_part : (s : List ℕ) (froms tos : List (List ℕ))
    → Among s (flat_map (conversion_names tos) froms)
    → (from : List ℕ) × (to : List ℕ) × Among from froms × Among to tos × (joined from to ≡ s)
conversion_part s froms tos h =
    let from = flat_part (conversion_names tos) s froms h in
    let to = map_part (joined from.0) s tos from.2 in
    (from.0, to.0, from.1, to.1, to.2)

conversion_of : (s : List ℕ) → Among s left_out_conversions → IsLeftOutConversion s
conversion_of s h =
    let from = flat_map (conversion_names type_names) left_out_types in
    let to = flat_map (conversion_names left_out_types) type_names in
    elim (among_either s from to h) as (λ _. IsLeftOutConversion s) [
      | inl m ↦ let c = conversion_part s left_out_types type_names m in
          let left = contains_among c.0 left_out_types c.2 in record {
            from = c.0;
            to = c.1;
            name_is = c.4;
            from_type = inr left;
            to_type = type_among c.1 c.3;
            left_out = inl left;
          }
      | inr m ↦ let c = conversion_part s type_names left_out_types m in
          let left = contains_among c.1 left_out_types c.3 in record {
            from = c.0;
            to = c.1;
            name_is = c.4;
            from_type = type_among c.0 c.2;
            to_type = inr left;
            left_out = inr left;
          }
    ]

-- ---- functions, and types

among_left_out_functions : (s : List ℕ) → IsLeftOutFunction s → Among s left_out_function_names
among_left_out_functions s h = elim h as (λ _. Among s left_out_function_names) [
  | inl f ↦ among_left s left_out_functions left_out_conversions
      (among_contains s left_out_functions f)
  | inr c ↦ among_right s left_out_functions left_out_conversions (among_conversions s c)
]

left_out_function_among : (s : List ℕ) → Among s left_out_function_names → IsLeftOutFunction s
left_out_function_among s h =
    elim (among_either s left_out_functions left_out_conversions h) as (λ _. IsLeftOutFunction s) [
      | inl m ↦ inl (contains_among s left_out_functions m)
      | inr m ↦ inr (conversion_of s m)
    ]

pub left_out_function_is : (name : List ℕ) (r : Bool)
    → (IsTrue r ↔ IsLeftOutFunction (raised_all name)) → r ≡ is_left_out_function name
unfolding is_left_out_function
left_out_function_is name r h =
    tested (raised_all name) left_out_function_names r h (among_left_out_functions (raised_all name))
    (left_out_function_among (raised_all name))

among_left_out_types : (s : List ℕ) → IsLeftOutType s → Among s left_out_type_names
among_left_out_types s h = elim h as (λ _. Among s left_out_type_names) [
  | inl t ↦ among_left s left_out_types (codes "CTUD" ∷ left_out_function_names)
      (among_contains s left_out_types t)
  | inr b ↦ among_right s left_out_types (codes "CTUD" ∷ left_out_function_names)
      (elim b as (λ _. Among s (codes "CTUD" ∷ left_out_function_names)) [
        | inl e ↦ inl e
        | inr f ↦ inr (among_left_out_functions s f)
      ])
]

left_out_type_among : (s : List ℕ) → Among s left_out_type_names → IsLeftOutType s
left_out_type_among s h =
    elim (among_either s left_out_types (codes "CTUD" ∷ left_out_function_names) h)
    as (λ _. IsLeftOutType s) [
      | inl m ↦ inl (contains_among s left_out_types m)
      | inr b ↦ elim b as (λ _. IsLeftOutType s) [
        | inl e ↦ inr (inl e)
        | inr f ↦ inr (inr (left_out_function_among s f))
      ]
    ]

pub left_out_type_is : (name : List ℕ) (r : Bool)
    → (IsTrue r ↔ IsLeftOutType (raised_all name)) → r ≡ is_left_out_type name
unfolding is_left_out_type
left_out_type_is name r h =
    tested (raised_all name) left_out_type_names r h (among_left_out_types (raised_all name))
    (left_out_type_among (raised_all name))
