-- Where the search in a table of rows that rise by a key ends.
use Rattle.std.proofs.Common.{◌≡◌, ℕ, zero, suc, ◌+◌, ◌<◌, ◌≤◌, Bool, true, false, ◌&&◌, List, [], ◌∷◌, length, get_or, IsTrue, ◌⊎◌, inl, inr, arith, ap, ◌∙◌, sym, subst, refl}
use Rattle.std.specs.List.{Contains}
use Rattle.std.specs.List.Sorted.{IsSortedBy, IsPartitionPoint, IsNonDecreasingBy}
use Rattle.std.specs.Ordering.{nat_cmp, is_lt, ordering_reverse, ordering_index}
use Rattle.std.specs.declared.cmp.Ordering.{Ordering}
use Rattle.std.specs.declared.cmp.Ordering.TheVariants.{Less, Equal, Greater}
use Rattle.std.specs.Cmp.{IsTotalOrder, tied_itself}
use Rattle.std.specs.Cmp.Lexicographic.{slice_cmp}
use Rattle.std.proofs.lemmas.List.Sorted.{searchable_from_sorted}
use Rattle.iec_tables.specs.Rising.{keys_rise, keys_rise_from}
use Rattle.iec_tables.specs.Words.{raised_all}

flipped : (r s : Ordering) → s ≡ ordering_reverse r → IsTrue (is_lt r) → is_lt s ≡ false
flipped Less s e h = ap is_lt e
flipped Equal s e h = cc
flipped Greater s e h = cc

both_true : (a b : Bool) → (a && b) ≡ true → (a ≡ true) × (b ≡ true)
both_true true b h = (refl, h)
both_true false b h = cc

rising-sorted : {Row Key : Type 0} {order : Key → Key → Ordering} → IsTotalOrder order → (key : Row → Key) (rows : List Row) → IsTrue (keys_rise order key rows)
    → IsSortedBy (λ a b. is_lt (order (key a) (key b))) rows
rising-sorted o key [] h k d l m = absurd (omega arith)
rising-sorted o key (w ∷ []) h k d l m = absurd (omega arith)
rising-sorted {order = order} o key (w ∷ v ∷ ws) h zero d l m =
    flipped (order (key w) (key v)) (order (key v) (key w)) (o.antisymm (key v) (key w)) (both_true (is_lt (order (key w) (key v))) (keys_rise_from order key (key v) ws) h).0
rising-sorted {order = order} o key (w ∷ v ∷ ws) h (suc k) d l m =
    let shifted : suc (k + 1) ≡ suc k + 1 = omega arith in
    subst (λ (n : ℕ). is_lt (order (key (get_or (w ∷ v ∷ ws) n d)) (key (get_or (v ∷ ws) k d))) ≡ false) shifted
    (rising-sorted o key (v ∷ ws) (both_true (is_lt (order (key w) (key v))) (keys_rise_from order key (key v) ws) h).1 k d (omega arith) (omega arith))

pub searchable : {Row Key : Type 0} {order : Key → Key → Ordering} → IsTotalOrder order → (key : Row → Key) (rows : List Row) (sought : Key) → IsTrue (keys_rise order key rows)
    → IsNonDecreasingBy (λ row. ordering_index (order (key row) sought)) rows
searchable o key rows sought h = searchable_from_sorted o key rows sought (rising-sorted o key rows h)

unequal : {Row Key : Type 0} {order : Key → Key → Ordering} → IsTotalOrder order → (key : Row → Key) (rows : List Row) (sought : Key) (row : Row) (k : ℕ) (r : Ordering)
    → get_or rows k row ≡ row → key row ≡ sought → order (key (get_or rows k row)) sought ≡ r → Equal ≡ r
unequal {order = order} o key rows sought row k r e same is =
    sym (tied_itself o sought) ∙ ap (λ t. order t sought) (sym same) ∙ ap (λ x. order (key x) sought) (sym e) ∙ is

below_or_not : (k i : ℕ) → (k < i) ⊎ (i ≤ k)
below_or_not k i = grind arith

pub no-row : {Row Key : Type 0} {order : Key → Key → Ordering} → IsTotalOrder order → (key : Row → Key) (rows : List Row) (sought : Key) (i : ℕ)
    → IsPartitionPoint (λ row. order (key row) sought ≡ Less) (λ row. order (key row) sought ≡ Greater) rows i
    → (row : Row) → Contains rows row → ¬ (key row ≡ sought)
no-row o key rows sought i p row (k, l, e) same =
    elim (below_or_not k i) [
      | inl h ↦ let wrong : Equal ≡ Less = unequal o key rows sought row k Less e same (p.0 k row (omega arith) h) in cc
      | inr h ↦ let wrong : Equal ≡ Greater = unequal o key rows sought row k Greater e same (p.1 k row h l) in cc
    ]

pub longer : (text key : List ℕ) → 1 ≤ length text → length key ≡ 0 → Greater ≡ slice_cmp nat_cmp text (raised_all key)
longer [] key h e = absurd (omega arith)
longer (x ∷ xs) [] h e = refl
longer (x ∷ xs) (y ∷ ys) h e = absurd (omega arith)
