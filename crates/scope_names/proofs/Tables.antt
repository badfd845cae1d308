-- What sorted rows say of a name in a scope.
use Rattle.std.proofs.Common.{◌≡◌, ℕ, ◌+◌, ◌-◌, ◌<◌, ◌≤◌, true, false, ◌⊎◌, inl, inr, List, ◌++◌, length, get_or, take, drop, IsTrue, get_or-take, get_or-drop, take-append-drop, length-drop, length-take-le, arith, ap, ap₂, subst₂, ◌∙◌, sym, subst, refl, true≢false}
use Rattle.std.specs.List.Sorted.{IsSorted, IsSortedByKey, IsPartitionedBy}
use Rattle.std.specs.Ordering.{nat_cmp, is_lt, is_le, ordering_then, ordering_index, ordering_reverse}
use Rattle.std.specs.Cmp.{IsTotalOrder}
use Rattle.std.specs.Cmp.Lexicographic.{slice_cmp}
use Rattle.std.specs.declared.cmp.Ordering.{Ordering}
use Rattle.std.specs.declared.cmp.Ordering.TheVariants.{Less, Equal, Greater}
use Rattle.std.proofs.lemmas.Cmp.{nat_cmp_total, nat_list_cmp_total, then_total, on_total, tied_itself}
use Rattle.std.proofs.lemmas.Map.Lookups.{CmpEqualImpliesEq, exact_pairs, exact_unsigned, exact_bytes}
use Rattle.std.proofs.lemmas.List.Sorted.{searchable_from_sorted, sorted_far, ranks_by}
use Rattle.std.proofs.lemmas.List.{get_or_default}
use Rattle.std.proofs.lemmas.List.Elements.{Contains-get_or}
use Rattle.iec_tables.specs.Words.{raised_all}
use Rattle.scope_names.specs.declared.names.NameRow.{NameRow}
use Rattle.scope_names.specs.Scopes.{Declares, IsNowhere, IsFirst, IsLast, IsRun, Repeats, site_cmp, row_cmp}
use Rattle.scope_names.specs.Searches.{against, IsStart, IsEnd}

-- ---- the order of rows

abbrev pub key : {W : Type 0} → NameRow W → ℕ × List ℕ
key row = (row.scope, raised_all row.name.now)

abbrev pub key_cmp : ℕ × List ℕ → ℕ × List ℕ → Ordering
key_cmp a b = ordering_then (nat_cmp a.0 b.0) (slice_cmp nat_cmp a.1 b.1)

keys_total : IsTotalOrder key_cmp
keys_total = then_total (on_total (λ k. k.0) nat_cmp_total) (on_total (λ k. k.1) nat_list_cmp_total)

exact_keys : CmpEqualImpliesEq key_cmp
exact_keys = exact_pairs nat_cmp (slice_cmp nat_cmp) exact_unsigned exact_bytes

sites_total : IsTotalOrder site_cmp
sites_total = then_total (on_total (λ s. s.file) nat_cmp_total) (on_total (λ s. s.node.0) nat_cmp_total)

pub rows_total : {W : Type 0} → IsTotalOrder (row_cmp {W = W})
rows_total = then_total (on_total key keys_total) (on_total (λ r. r.site) sites_total)

first_part : (r s : Ordering) → is_lt (ordering_then r s) ≡ false → is_lt r ≡ false
first_part Less s h = h
first_part Equal s h = refl
first_part Greater s h = refl

second_part : (r s : Ordering) → r ≡ Equal → is_lt (ordering_then r s) ≡ false → is_lt s ≡ false
second_part Less s e h = cc
second_part Equal s e h = h
second_part Greater s e h = cc

turned : (r s : Ordering) → s ≡ ordering_reverse r → is_lt r ≡ false → IsTrue (is_le s)
turned Less s e h = cc
turned Equal s e h = ap is_le e
turned Greater s e h = ap is_le e

lower_lt : (r s : Ordering) → ordering_index r ≤ ordering_index s → is_lt s ≡ true → is_lt r ≡ true
lower_lt Less s h e = refl
lower_lt Equal Less h e = absurd (omega arith)
lower_lt Equal Equal h e = cc
lower_lt Equal Greater h e = cc
lower_lt Greater Less h e = absurd (omega arith)
lower_lt Greater Equal h e = cc
lower_lt Greater Greater h e = cc

lower_le : (r s : Ordering) → ordering_index r ≤ ordering_index s → is_le s ≡ true → is_le r ≡ true
lower_le Less s h e = refl
lower_le Equal s h e = refl
lower_le Greater Less h e = absurd (omega arith)
lower_le Greater Equal h e = absurd (omega arith)
lower_le Greater Greater h e = cc

both : (r : Ordering) → is_lt r ≡ false → is_le r ≡ true → r ≡ Equal
both Less h k = cc
both Equal h k = refl
both Greater h k = cc

middle : (r s : Ordering) → ordering_index r ≤ ordering_index s → s ≡ Equal → is_lt r ≡ false → r ≡ Equal
middle Less s h e l = cc
middle Equal s h e l = refl
middle Greater Less h e l = absurd (omega arith)
middle Greater Equal h e l = absurd (omega arith)
middle Greater Greater h e l = cc

middle' : (r s : Ordering) → ordering_index r ≤ ordering_index s → r ≡ Equal → is_le s ≡ true → s ≡ Equal
middle' Less s h e l = cc
middle' Equal Less h e l = absurd (omega arith)
middle' Equal Equal h e l = refl
middle' Equal Greater h e l = cc
middle' Greater s h e l = cc

squeezed : (r s t : Ordering) → ordering_index r ≤ ordering_index s → ordering_index s ≤ ordering_index t → r ≡ Equal → t ≡ Equal → s ≡ Equal
squeezed Less s t h l e f = cc
squeezed Greater s t h l e f = cc
squeezed Equal s Less h l e f = cc
squeezed Equal s Greater h l e f = cc
squeezed Equal Less Equal h l e f = absurd (omega arith)
squeezed Equal Equal Equal h l e f = refl
squeezed Equal Greater Equal h l e f = absurd (omega arith)

-- ---- what a row declares

key-is : {W : Type 0} (scope : ℕ) (name : List ℕ) (row : NameRow W) → Declares scope name row → key row ≡ (scope, raised_all name)
key-is scope name row h = ap₂ (λ (s : ℕ) (n : List ℕ). (s, n)) h.0 h.1

pub tied : {W : Type 0} (scope : ℕ) (name : List ℕ) (row : NameRow W) → Declares scope name row → against scope name row ≡ Equal
tied scope name row h = ap (λ k. key_cmp k (scope, raised_all name)) (key-is scope name row h) ∙ tied_itself keys_total (scope, raised_all name)

pub declared : {W : Type 0} (scope : ℕ) (name : List ℕ) (row : NameRow W) → against scope name row ≡ Equal → Declares scope name row
declared scope name row h =
    let e = exact_keys (key row) (scope, raised_all name) h in
    (ap (λ k. k.0) e, ap (λ k. k.1) e)

-- a declaration stands at or behind the start, and before the end
from-start : {W : Type 0} (rows : List (NameRow W)) (scope : ℕ) (name : List ℕ) (i : ℕ) → IsStart scope name rows i
    → (other : NameRow W) (k : ℕ) → k < length rows → get_or rows k other ≡ other → Declares scope name other → i ≤ k
from-start rows scope name i p other k l e h =
    let low : k < i → ⊥ = λ b.
    let less : is_lt (against scope name (get_or rows k other)) ≡ true = p.0 k other (omega arith) b in
    true≢false (sym less ∙ ap is_lt (ap (against scope name) e ∙ tied scope name other h)) in
    grind arith

below-end : {W : Type 0} (rows : List (NameRow W)) (scope : ℕ) (name : List ℕ) (j : ℕ) → IsEnd scope name rows j
    → (other : NameRow W) (k : ℕ) → k < length rows → get_or rows k other ≡ other → Declares scope name other → k < j
below-end rows scope name j p other k l e h =
    let high : j ≤ k → ⊥ = λ b.
    let more : is_le (against scope name (get_or rows k other)) ≡ false = p.1 k other b l in
    true≢false (sym (ap is_le (ap (against scope name) e ∙ tied scope name other h)) ∙ more) in
    grind arith

outside : (at n e : ℕ) → (at ≡ 0) ⊎ (n ≤ at) → e < at → at < n → ⊥
outside at n e out h l = elim out [ inl z ↦ absurd (omega arith) | inr z ↦ absurd (omega arith) ]

module _ {W : Type 0} (rows : List (NameRow W)) (up : IsSorted row_cmp rows) where
  keyed : IsSortedByKey key key_cmp rows
  keyed k d l m = first_part (key_cmp (key (get_or rows (k + 1) d)) (key (get_or rows k d))) _ (up k d l m)

  rising : (scope : ℕ) (name : List ℕ) (i j : ℕ) (d : NameRow W) → i ≤ j → j < length rows
      → ordering_index (against scope name (get_or rows i d)) ≤ ordering_index (against scope name (get_or rows j d))
  rising scope name = searchable_from_sorted keys_total key rows (scope, raised_all name) keyed

  pub parted-lt : (scope : ℕ) (name : List ℕ) → IsPartitionedBy (λ row. is_lt (against scope name row)) rows
  parted-lt scope name i j d h l e = lower_lt _ _ (rising scope name i j d h l) e

  pub parted-le : (scope : ℕ) (name : List ℕ) → IsPartitionedBy (λ row. is_le (against scope name row)) rows
  parted-le scope name i j d h l e = lower_le _ _ (rising scope name i j d h l) e

  -- of two declarations of one name in one scope the later one's site isn't before the other's
  in-order : (scope : ℕ) (name : List ℕ) (i j : ℕ) (d : NameRow W) → i ≤ j → j < length rows
      → Declares scope name (get_or rows i d) → Declares scope name (get_or rows j d)
      → is_lt (site_cmp (get_or rows j d).site (get_or rows i d).site) ≡ false
  in-order scope name i j d h l a b =
      let far : is_lt (row_cmp (get_or rows j d) (get_or rows i d)) ≡ false = sorted_far (λ a b. is_lt (row_cmp a b)) (ranks_by rows_total (λ r. r)) rows up i j d h l in
      let same : key_cmp (key (get_or rows j d)) (key (get_or rows i d)) ≡ Equal =
      ap₂ key_cmp (key-is scope name (get_or rows j d) b) (key-is scope name (get_or rows i d) a) ∙ tied_itself keys_total (scope, raised_all name) in
      second_part _ _ same far

  -- the same, where the rows are named by what they are
  in-order-of : (scope : ℕ) (name : List ℕ) (i j : ℕ) (x y d : NameRow W) → i ≤ j → j < length rows
      → get_or rows i d ≡ x → get_or rows j d ≡ y → Declares scope name x → Declares scope name y → IsTrue (is_le (site_cmp x.site y.site))
  in-order-of scope name i j x y d h l ex ey a b =
      let xi : Declares scope name (get_or rows i d) = subst (Declares scope name) (sym ex) a in
      let yj : Declares scope name (get_or rows j d) = subst (Declares scope name) (sym ey) b in
      let low : is_lt (site_cmp y.site x.site) ≡ false = subst₂ (λ (u v : NameRow W). is_lt (site_cmp v.site u.site) ≡ false) ex ey (in-order scope name i j d h l xi yj) in
      turned (site_cmp y.site x.site) (site_cmp x.site y.site) (sites_total.antisymm x.site y.site) low

  module _ (scope : ℕ) (name : List ℕ) (i : ℕ) (p : IsStart scope name rows i) where
    pub none-behind : length rows ≤ i → IsNowhere rows scope name
    none-behind e other (k, l, is) h =
        let at : i ≤ k = from-start rows scope name i p other k l is h in
        absurd (omega arith)

    pub none-there : (d : NameRow W) → i < length rows → ¬ (Declares scope name (get_or rows i d)) → IsNowhere rows scope name
    none-there d m n other (k, l, is) h =
        let at : i ≤ k = from-start rows scope name i p other k l is h in
        let same : against scope name (get_or rows k d) ≡ Equal = ap (against scope name) (get_or_default rows k d other l ∙ is) ∙ tied scope name other h in
        n (declared scope name (get_or rows i d) (middle _ _ (rising scope name i k d at l) same (p.1 i d (omega arith) m)))

    pub first-there : (d : NameRow W) → i < length rows → Declares scope name (get_or rows i d) → IsFirst rows scope name (get_or rows i d)
    first-there d m a = record {
      there = Contains-get_or rows i d m;
      declares = a;
      first = λ other c h.
          let at : i ≤ c.0 = from-start rows scope name i p other c.0 c.1 c.2 h in
          in-order-of scope name i c.0 (get_or rows i d) other d at c.1 refl (get_or_default rows c.0 d other c.1 ∙ c.2) a h;
    }

  module _ (scope : ℕ) (name : List ℕ) (j : ℕ) (within : j ≤ length rows) (p : IsEnd scope name rows j) where
    pub none-before : j ≡ 0 → IsNowhere rows scope name
    none-before e other (k, l, is) h =
        let at : k < j = below-end rows scope name j p other k l is h in
        absurd (omega arith)

    pub none-last : (d : NameRow W) → 0 < j → ¬ (Declares scope name (get_or rows (j - 1) d)) → IsNowhere rows scope name
    none-last d m n other (k, l, is) h =
        let at : k < j = below-end rows scope name j p other k l is h in
        let same : against scope name (get_or rows k d) ≡ Equal = ap (against scope name) (get_or_default rows k d other l ∙ is) ∙ tied scope name other h in
        n (declared scope name (get_or rows (j - 1) d) (middle' _ _ (rising scope name k (j - 1) d (omega arith) (omega arith)) same (p.0 (j - 1) d (omega arith) (omega arith))))

    pub last-there : (d : NameRow W) → 0 < j → Declares scope name (get_or rows (j - 1) d) → IsLast rows scope name (get_or rows (j - 1) d)
    last-there d m a = record {
      there = Contains-get_or rows (j - 1) d (omega arith);
      declares = a;
      last = λ other c h.
          let at : c.0 < j = below-end rows scope name j p other c.0 c.1 c.2 h in
          in-order-of scope name c.0 (j - 1) other (get_or rows (j - 1) d) d (omega arith) (omega arith) (get_or_default rows c.0 d other c.1 ∙ c.2) refl h a;
    }

  pub sorted-drop : (i : ℕ) → IsSorted row_cmp (drop i rows)
  sorted-drop i k d l m =
      let long : length (drop i rows) ≡ length rows - i = length-drop i rows in
      let shifted : i + (k + 1) ≡ (i + k) + 1 = omega arith in
      let up' : is_lt (row_cmp (get_or rows ((i + k) + 1) d) (get_or rows (i + k) d)) ≡ false = up (i + k) d (omega arith) (omega arith) in
      rw (get_or-drop i rows (k + 1) d, get_or-drop i rows k d, shifted) up'

  module _ (scope : ℕ) (name : List ℕ) (i n : ℕ) (h : i ≤ length rows) (p : IsStart scope name rows i) (q : IsEnd scope name (drop i rows) n) (l : n ≤ length (drop i rows)) where
    long : length (take n (drop i rows)) ≡ n
    long = length-take-le n (drop i rows) l

    at-run : (k : ℕ) (d : NameRow W) → k < n → get_or (take n (drop i rows)) k d ≡ get_or rows (i + k) d
    at-run k d m = get_or-take n (drop i rows) k d m ∙ get_or-drop i rows k d

    inside : (k : ℕ) (d : NameRow W) → k < n → Declares scope name (get_or rows (i + k) d)
    inside k d m =
        let whole : length (drop i rows) ≡ length rows - i = length-drop i rows in
        let not_before : is_lt (against scope name (get_or rows (i + k) d)) ≡ false = p.1 (i + k) d (omega arith) (omega arith) in
        let not_behind : is_le (against scope name (get_or rows (i + k) d)) ≡ true = ap (λ (r : NameRow W). is_le (against scope name r)) (sym (get_or-drop i rows k d)) ∙ q.0 k d (omega arith) m in
        declared scope name (get_or rows (i + k) d) (both _ not_before not_behind)

    nowhere_before : IsNowhere (take i rows) scope name
    nowhere_before other (k, m, is) a =
        let whole : length (take i rows) ≡ i = length-take-le i rows h in
        let low : k < i = omega arith in
        let at : i ≤ k = from-start rows scope name i p other k (omega arith) (sym (get_or-take i rows k other low) ∙ is) a in
        absurd (omega arith)

    nowhere_behind : IsNowhere (drop n (drop i rows)) scope name
    nowhere_behind other (k, m, is) a =
        let whole : length (drop n (drop i rows)) ≡ length (drop i rows) - n = length-drop n (drop i rows) in
        let at : n + k < n = below-end (drop i rows) scope name n q other (n + k) (omega arith) (sym (get_or-drop n (drop i rows) k other) ∙ is) a in
        absurd (omega arith)

    -- from the start on, the rows up to the end of the rest
    pub run : IsRun rows scope name (take n (drop i rows))
    run = record {
      front = take i rows;
      back = drop n (drop i rows);
      parts = sym (ap (λ (rest : List (NameRow W)). take i rows ++ rest) (take-append-drop n (drop i rows)) ∙ take-append-drop i rows);
      inside = λ k d m. let low : k < n = omega (arith, long) in subst (Declares scope name) (sym (at-run k d low)) (inside k d low);
      before = nowhere_before;
      behind = nowhere_behind;
      sorted = λ k d z m.
          let low : k + 1 < n = omega (arith, long) in
          let whole : length (drop i rows) ≡ length rows - i = length-drop i rows in
          let shifted : i + (k + 1) ≡ (i + k) + 1 = omega arith in
          let ordered : is_lt (site_cmp (get_or rows (i + (k + 1)) d).site (get_or rows (i + k) d).site) ≡ false =
          in-order scope name (i + k) (i + (k + 1)) d (omega arith) (omega arith) (inside k d (omega arith)) (inside (k + 1) d low) in
          ap₂ (λ (u v : NameRow W). is_lt (site_cmp u.site v.site)) (at-run (k + 1) d low) (at-run k d (omega arith)) ∙ ordered;
    }

  pub repeats : (at : ℕ) (d e : NameRow W) → 0 < at → at < length rows → Declares (get_or rows at d).scope (get_or rows at d).name.now (get_or rows (at - 1) e) → Repeats rows at
  repeats at d e h l a = record {
    row = get_or rows at d;
    here = (l, get_or_default rows at (get_or rows at d) d l);
    earlier = at - 1;
    is_earlier = omega arith;
    other = get_or rows (at - 1) e;
    there = (omega arith, get_or_default rows (at - 1) (get_or rows (at - 1) e) e (omega arith));
    same = a;
  }

  pub repeated : (at : ℕ) (d e : NameRow W) → 0 < at → at < length rows → Repeats rows at → Declares (get_or rows at d).scope (get_or rows at d).name.now (get_or rows (at - 1) e)
  repeated at d e h l r =
      let x = get_or rows at d in
      let is : x ≡ r.row = get_or_default rows at d r.row l ∙ r.here.1 in
      let other_is : get_or rows r.earlier d ≡ r.other = get_or_default rows r.earlier d r.other r.there.0 ∙ r.there.1 in
      let other_same : Declares x.scope x.name.now (get_or rows r.earlier d) =
      subst₂ (λ (u v : NameRow W). Declares u.scope u.name.now v) (sym is) (sym other_is) r.same in
      let earlier : r.earlier ≤ at - 1 = omega (arith, r.is_earlier) in
      let low = rising x.scope x.name.now r.earlier (at - 1) d earlier (omega arith) in
      let high = rising x.scope x.name.now (at - 1) at d (omega arith) l in
      let self : against x.scope x.name.now x ≡ Equal = tied x.scope x.name.now x (refl, refl) in
      let between : against x.scope x.name.now (get_or rows (at - 1) d) ≡ Equal = squeezed _ _ _ low high (tied x.scope x.name.now (get_or rows r.earlier d) other_same) self in
      subst (Declares x.scope x.name.now) (get_or_default rows (at - 1) d e (omega arith)) (declared x.scope x.name.now (get_or rows (at - 1) d) between)

  pub unrepeated : (at : ℕ) → (at ≡ 0) ⊎ (length rows ≤ at) → ¬ (Repeats rows at)
  unrepeated at out r = outside at (length rows) r.earlier out r.is_earlier r.here.0
