-- What a table of the names of lists finds.
use Rattle.std.proofs.Common.{◌≡◌, ◌∙◌, ℕ, zero, suc, ◌+◌, ◌<◌, true, List, [], ◌∷◌, length}
use Rattle.std.proofs.Common.{Some, None, arith, ap, ap₂, sym, subst, subst₂, inl, inr}
use Rattle.std.specs.List.{Contains}
use Rattle.std.specs.Ordering.{is_le}
use Rattle.std.proofs.lemmas.Bool.{false_from_ne_true}
use Rattle.std.proofs.lemmas.List.Elements.{Contains-append_left, Contains-append_right}
use Rattle.std.proofs.lemmas.List.Elements.{Contains-append_cases}
use Rattle.std.proofs.lemmas.List.Sorted.{Contains-permutation, IsPermutation-sym}
use Rattle.std.proofs.lemmas.Map.Keys.{le_from_is_le}
use Rattle.iec_tables.specs.Words.{raised_all}
use Rattle.scope_names.specs.declared.names.NameRow.{NameRow}
use Rattle.scope_names.specs.Scopes.{IsNowhere, IsFirst, site_cmp}
use Rattle.type_parts.specs.Places.{is_name, place_in}
use Rattle.type_parts.specs.Tables.{Entry, entry, entry_of, entries_from, list_entries}
use Rattle.type_parts.specs.Tables.{whole_list, list_at, site_at, IsTable}
use Rattle.type_parts.proofs.Members.{further, contains_map, map_contains}
use Rattle.type_parts.proofs.Positions.{at, nowhere, first_at, raised_same, same_raised}

-- ---- entries of lists

entry_named : (n k : ℕ) (names : List (List ℕ)) (e : Entry) → Contains (list_entries n k names) e
    → (p : ℕ) × (p < length names) × (e ≡ entry n (k + p) (at names p))
entry_named n k [] e (i, l, h) = absurd (omega arith)
entry_named n k (x ∷ xs) e (zero, l, h) =
    (0, omega arith, sym h ∙ ap (λ m. entry n m x) (omega arith))
entry_named n k (x ∷ xs) e (suc i, l, h) =
    let later = entry_named n (suc k) xs e (i, omega arith, h) in (
      suc later.0,
      omega (arith, later.1),
      later.2 ∙ ap (λ m. entry n m (at xs later.0)) (omega arith),
    )

entry_there : (n k : ℕ) (names : List (List ℕ)) (p : ℕ) → p < length names
    → Contains (list_entries n k names) (entry n (k + p) (at names p))
entry_there n k [] p l = absurd (omega arith)
entry_there n k (x ∷ xs) zero l = (0, omega arith, ap (λ m. entry n m x) (omega arith))
entry_there n k (x ∷ xs) (suc p) l =
    further (entry n k x) (entry n (k + suc p) (at xs p)) (list_entries n (suc k) xs)
    (subst (λ m. Contains (list_entries n (suc k) xs) (entry n m (at xs p))) (omega arith)
    (entry_there n (suc k) xs p (omega arith)))

abbrev IsEntryFrom : ℕ → List (List (List ℕ)) → Entry → Type 0
IsEntryFrom k lists e =
    (n : ℕ) × (p : ℕ) × (p < length (list_at lists n))
    × (e ≡ entry (k + n) p (at (list_at lists n) p))

entries_named : (k : ℕ) (lists : List (List (List ℕ))) (e : Entry) → Contains (entries_from k lists) e
    → IsEntryFrom k lists e
entries_named k [] e (i, l, h) = absurd (omega arith)
entries_named k (names ∷ rest) e h =
    elim (Contains-append_cases (whole_list k names) (entries_from (suc k) rest) e h)
    as (λ _. IsEntryFrom k (names ∷ rest) e) [
      | inl c ↦ let x = entry_named k 0 names e c in (
        0,
        x.0,
        x.1,
        x.2 ∙ ap₂ (λ m q. entry m q (at names x.0)) (omega arith) (omega arith),
      )
      | inr c ↦ let x = entries_named (suc k) rest e c in (
        suc x.0,
        x.1,
        x.2,
        x.3 ∙ ap (λ m. entry m x.1 (at (list_at rest x.0) x.1)) (omega arith),
      )
    ]

entries_there : (k : ℕ) (lists : List (List (List ℕ))) (n p : ℕ) → p < length (list_at lists n)
    → Contains (entries_from k lists) (entry (k + n) p (at (list_at lists n) p))
entries_there k [] n p l = absurd (omega arith)
entries_there k (names ∷ rest) zero p l =
    Contains-append_left (whole_list k names) (entries_from (suc k) rest) (entry (k + 0) p (at names p))
    (subst₂ (λ m q. Contains (whole_list k names) (entry m q (at names p))) (omega arith) (omega arith)
    (entry_there k 0 names p l))
entries_there k (names ∷ rest) (suc n) p l =
    Contains-append_right (whole_list k names) (entries_from (suc k) rest)
    (entry (k + suc n) p (at (list_at rest n) p))
    (subst (λ m. Contains (entries_from (suc k) rest) (entry m p (at (list_at rest n) p))) (omega arith)
    (entries_there (suc k) rest n p l))

-- ---- rows of the table

pub record IsNamed (lists : List (List (List ℕ))) (row : NameRow ℕ) : Type 0 where
  pub within : row.what < length (list_at lists row.scope)
  pub name_is : row.name.now ≡ at (list_at lists row.scope) row.what
  pub site_is : row.site ≡ site_at row.what

pub record HasRow (table : List (NameRow ℕ)) (lists : List (List (List ℕ))) (n p : ℕ) : Type 0 where
  pub row : NameRow ℕ
  pub there : Contains table row
  pub scope_is : row.scope ≡ n
  pub what_is : row.what ≡ p
  pub name_is : row.name.now ≡ at (list_at lists n) p
  pub site_is : row.site ≡ site_at p

before : (p q : ℕ) → q < p → is_le (site_cmp (site_at p) (site_at q)) ≡ true → ⊥
before p q l h = absurd (omega (arith, le_from_is_le p q h))

module _ (table : List (NameRow ℕ)) (lists : List (List (List ℕ))) (t : IsTable table lists) where
  pub named : (row : NameRow ℕ) → Contains table row → IsNamed lists row
  named row c =
      let inside : Contains t.rows row =
      Contains-permutation table t.rows row (IsPermutation-sym t.rows table t.same) c in
      let told : Contains (entries_from 0 lists) (entry_of row) =
      subst (λ es. Contains es (entry_of row)) t.are (contains_map entry_of t.rows row inside) in
      let x = entries_named 0 lists (entry_of row) told in
      let scope_is : row.scope ≡ 0 + x.0 = ap (λ (e : Entry). e.list) x.3 in
      let n_is : x.0 ≡ row.scope = omega (arith, scope_is) in
      let p_is : x.1 ≡ row.what = sym (ap (λ (e : Entry). e.place) x.3) in
      record {
        within = subst₂ (λ n p. p < length (list_at lists n)) n_is p_is x.2;
        name_is =
            ap (λ (e : Entry). e.name) x.3 ∙ ap₂ (λ n p. at (list_at lists n) p) n_is p_is;
        site_is = ap (λ (e : Entry). e.site) x.3 ∙ ap site_at p_is;
      }

  pub all : (n p : ℕ) → p < length (list_at lists n) → HasRow table lists n p
  all n p l =
      let e = entry (0 + n) p (at (list_at lists n) p) in
      let found = map_contains entry_of t.rows e
      (subst (λ es. Contains es e) (sym t.are) (entries_there 0 lists n p l)) in
      let scope_is : found.0.scope ≡ 0 + n = ap (λ (x : Entry). x.list) found.2 in
      record {
        row = found.0;
        there = Contains-permutation t.rows table found.0 t.same found.1;
        scope_is = omega (arith, scope_is);
        what_is = ap (λ (x : Entry). x.place) found.2;
        name_is = ap (λ (x : Entry). x.name) found.2;
        site_is = ap (λ (x : Entry). x.site) found.2;
      }

  -- ---- places

  pub place_nowhere : (scope : ℕ) (name : List ℕ) → IsNowhere table scope name
      → place_in (list_at lists scope) name ≡ None
  place_nowhere scope name none =
      let names = list_at lists scope in
      nowhere (is_name name) 0 names (λ p l. false_from_ne_true (is_name name (at names p)) (λ h.
      let r = all scope p l in
      none r.row r.there (r.scope_is, ap raised_all r.name_is ∙ raised_same name (at names p) h)))

  pub place_first : (scope : ℕ) (name : List ℕ) (row : NameRow ℕ) → IsFirst table scope name row
      → place_in (list_at lists scope) name ≡ Some row.what
  place_first scope name row f =
      let names = list_at lists scope in
      let n = named row f.there in
      let within : row.what < length names =
      subst (λ s. row.what < length (list_at lists s)) f.declares.0 n.within in
      let name_is : row.name.now ≡ at names row.what =
      n.name_is ∙ ap (λ s. at (list_at lists s) row.what) f.declares.0 in
      first_at (is_name name) 0 names row.what within
      (same_raised name (at names row.what) (ap raised_all (sym name_is) ∙ f.declares.1))
      (λ q m. false_from_ne_true (is_name name (at names q)) (λ h.
      let r = all scope q (omega (arith, within)) in
      let le = f.first r.row r.there
      (r.scope_is, ap raised_all r.name_is ∙ raised_same name (at names q) h) in
      before row.what q m
      (subst₂ (λ a b. is_le (site_cmp a b) ≡ true) n.site_is r.site_is le)))
      ∙ ap Some (omega arith)
