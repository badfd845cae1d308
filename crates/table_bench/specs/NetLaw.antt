-- Nets are monotone systems: a proof for their law, which has to stand here.
use Rattle.std.proofs.Common.{◌≡◌, ℕ, zero, suc, ◌<◌, ◌≤◌, Bool, true, false, nat_eq, List, length, get_or, replicate, arith, rules, refl, sym, subst, ap, ◌∙◌, ⊎_elim}
use Rattle.std.specs.Prelude.{◌⊎◌, if◌then◌else◌, ℤ, pos, negsuc, ◌≤ℤ◌}
use Rattle.std.specs.List.{Contains}
use Rattle.std.specs.List.Sorted.{IsStrictlySortedBy}
use Rattle.std.specs.Ordering.{int_cmp}
use Rattle.std.specs.Int.{int_min, int_max}
use Rattle.std.proofs.lemmas.Int.{ints, clamps, by_lt_z}
use Rattle.std.proofs.lemmas.List.{length-replicate, get_or_past}
use Rattle.std.proofs.lemmas.Bool.Decides.{nat_tests}
use Rattle.interval_domain.specs.Interval.{Interval, Empty, Span, IsOrdered, IsWithin, span, hull, meet}
use Rattle.interval_domain.specs.Grid.{IsOnGrid}
use Rattle.interval_domain.specs.Operators.{add_raw}
use Rattle.interval_domain.specs.Stored.{span-ordered, span-reversed}
use Rattle.interval_domain.proofs.Laws.{meet-within, larger-add}
use Rattle.interval_domain.proofs.Within.{within_refl, within_trans, within_hull_left, within_hull_right, hull_least}
use Rattle.least_table.specs.System.{Intervals, at, AreWithin, IsMonotone}
use Rattle.table_bench.specs.Net.{Sources, Arc, no_arc, numbers, all_numbers, start, read, moved, arc_gives, is_source, net}

rises : IsStrictlySortedBy int_cmp numbers
unfolding IsStrictlySortedBy
rises = search rules

-- the numbers of the grid
number_at : (n : ℕ) → n < 8 → get_or numbers n (pos n) ≡ pos n
number_at zero h = refl
number_at (suc zero) h = refl
number_at (suc (suc zero)) h = refl
number_at (suc (suc (suc zero))) h = refl
number_at (suc (suc (suc (suc zero)))) h = refl
number_at (suc (suc (suc (suc (suc zero))))) h = refl
number_at (suc (suc (suc (suc (suc (suc zero)))))) h = refl
number_at (suc (suc (suc (suc (suc (suc (suc zero))))))) h = refl
number_at (suc (suc (suc (suc (suc (suc (suc (suc n)))))))) h = absurd (omega arith)

in_numbers : (z : ℤ) → pos 0 ≤ℤ z → z ≤ℤ pos 7 → Contains numbers z
in_numbers (pos n) h k = let l : n < 8 = omega (arith, ints) in (n, l, number_at n l)
in_numbers (negsuc n) h k = absurd (omega (arith, ints))

cut_on_grid : (a b : ℤ) → pos 0 ≤ℤ a → b ≤ℤ pos 7 → IsOnGrid numbers (span a b)
cut_on_grid a b h k =
    by_lt_z b a
    (λ below. subst (λ (i : Interval). IsOnGrid numbers i) (sym (span-reversed a b below)) tt)
    (λ ordered. subst (λ (i : Interval). IsOnGrid numbers i) (sym (span-ordered a b ordered))
    (in_numbers a h (omega (arith, ints)), in_numbers b (omega (arith, ints)) k))

cut_ordered : (a b : ℤ) → IsOrdered (span a b)
cut_ordered a b =
    by_lt_z b a
    (λ below. subst (λ (i : Interval). IsOrdered i) (sym (span-reversed a b below)) tt)
    (λ ordered. subst (λ (i : Interval). IsOrdered i) (sym (span-ordered a b ordered)) ordered)

cut_within : (a b c d : ℤ) → c ≤ℤ a → b ≤ℤ d → IsWithin (span a b) (Span c d)
cut_within a b c d h k =
    by_lt_z b a
    (λ below. subst (λ (i : Interval). IsWithin i (Span c d)) (sym (span-reversed a b below)) tt)
    (λ ordered. subst (λ (i : Interval). IsWithin i (Span c d)) (sym (span-ordered a b ordered)) (h, k))

meet_on_grid : (i : Interval) → IsOnGrid numbers (meet i all_numbers)
meet_on_grid Empty = tt
meet_on_grid (Span a b) =
    cut_on_grid (int_max a (pos 0)) (int_min b (pos 7)) (omega (arith, ints, clamps)) (omega (arith, ints, clamps))

meet_ordered : (i : Interval) → IsOrdered (meet i all_numbers)
meet_ordered Empty = tt
meet_ordered (Span a b) = cut_ordered (int_max a (pos 0)) (int_min b (pos 7))

meet_in : (i : Interval) → IsWithin (meet i all_numbers) all_numbers
meet_in Empty = tt
meet_in (Span a b) =
    cut_within (int_max a (pos 0)) (int_min b (pos 7)) (pos 0) (pos 7) (omega (arith, ints, clamps))
    (omega (arith, ints, clamps))

moved_more : (i j : Interval) (by : ℤ) → IsWithin i j → IsWithin (moved i by) (moved j by)
moved_more i j by w =
    meet-within (add_raw i (Span by by)) (add_raw j (Span by by)) all_numbers
    (larger-add i (Span by by) j (Span by by) w (omega (arith, ints), omega (arith, ints)))

hull_more : (i j k l : Interval) → IsWithin i k → IsWithin j l → IsWithin (hull i j) (hull k l)
hull_more i j k l p q =
    hull_least i j (hull k l) (within_trans i k (hull k l) p (within_hull_left k l))
    (within_trans j l (hull k l) q (within_hull_right k l))

source_more : (arc : Arc) (table other : Intervals) → AreWithin table other
    → IsWithin (hull (start arc.1) (read arc.0 table)) (hull (start arc.1) (read arc.0 other))
source_more arc table other w =
    hull_more (start arc.1) (read arc.0 table) (start arc.1) (read arc.0 other) (within_refl (start arc.1))
    (hull_more (hull (at table arc.0.0) (at table arc.0.1)) (hull (at table arc.0.2) (at table arc.0.3))
    (hull (at other arc.0.0) (at other arc.0.1)) (hull (at other arc.0.2) (at other arc.0.3))
    (hull_more (at table arc.0.0) (at table arc.0.1) (at other arc.0.0) (at other arc.0.1) (w arc.0.0) (w arc.0.1))
    (hull_more (at table arc.0.2) (at table arc.0.3) (at other arc.0.2) (at other arc.0.3) (w arc.0.2) (w arc.0.3)))

at_all_numbers : (nodes node : ℕ) → node < nodes → at (replicate nodes all_numbers) node ≡ all_numbers
at_all_numbers zero node h = absurd (omega arith)
at_all_numbers (suc nodes) zero h = refl
at_all_numbers (suc nodes) (suc node) h = at_all_numbers nodes node (omega arith)

widest_on_grid : (nodes node : ℕ) → IsOnGrid numbers (at (replicate nodes all_numbers) node)
widest_on_grid zero node = tt
widest_on_grid (suc nodes) zero = (
  in_numbers (pos 0) (omega (arith, ints)) (omega (arith, ints)),
  in_numbers (pos 7) (omega (arith, ints))
      (omega (arith, ints)),
)
widest_on_grid (suc nodes) (suc node) = widest_on_grid nodes node

widest_ordered : (nodes node : ℕ) → IsOrdered (at (replicate nodes all_numbers) node)
widest_ordered zero node = tt
widest_ordered (suc nodes) zero = omega (arith, ints)
widest_ordered (suc nodes) (suc node) = widest_ordered nodes node

-- by whether the arc leads to the node
gives_by : (P : Interval → Type 0) (b : Bool) (i : Interval) → P i → P Empty → P (if b then i else Empty)
gives_by P true i p q = p
gives_by P false i p q = q

gives_more : (b : Bool) (i j : Interval) → IsWithin i j → IsWithin (if b then i else Empty) (if b then j else Empty)
gives_more true i j w = w
gives_more false i j w = tt

inside : (k n : ℕ) → (k < n) ⊎ (n ≤ k)
inside k n = grind arith

same_at : (node : ℕ) (table other : Intervals) → length table ≡ length other
    → (node < length other → at table node ≡ at other node) → at table node ≡ at other node
same_at node table other l h =
    ⊎_elim h
    (λ (b : length other ≤ node). get_or_past table node Empty (omega arith) ∙ sym (get_or_past other node Empty b))
    (inside node (length other))

eq_same : (n : ℕ) → nat_eq n n ≡ true
eq_same n = grind (arith, nat_tests)

is_first : (from : Sources) → is_source from from.0 ≡ true
is_first from = let e = eq_same from.0 in grind (arith, nat_tests)

is_second : (from : Sources) → is_source from from.1 ≡ true
is_second from = let e = eq_same from.1 in grind (arith, nat_tests)

is_third : (from : Sources) → is_source from from.2 ≡ true
is_third from = let e = eq_same from.2 in grind (arith, nat_tests)

is_fourth : (from : Sources) → is_source from from.3 ≡ true
is_fourth from = let e = eq_same from.3 in grind (arith, nat_tests)

read_same : (from : Sources) (table other : Intervals) → length table ≡ length other
    → ((node : ℕ) → node < length other → is_source from node ≡ true → at table node ≡ at other node)
    → read from table ≡ read from other
read_same from table other l h =
    let a : at table from.0 ≡ at other from.0 = same_at from.0 table other l (λ b. h from.0 b (is_first from)) in
    let b : at table from.1 ≡ at other from.1 = same_at from.1 table other l (λ b. h from.1 b (is_second from)) in
    let c : at table from.2 ≡ at other from.2 = same_at from.2 table other l (λ b. h from.2 b (is_third from)) in
    let d : at table from.3 ≡ at other from.3 = same_at from.3 table other l (λ b. h from.3 b (is_fourth from)) in
    rw (a, b, c, d) refl

pub net_is_monotone : (nodes : ℕ) (arcs : List Arc) → IsMonotone (net nodes arcs)
net_is_monotone nodes arcs = record {
  rising = rises;
  widest_ordered = widest_ordered nodes;
  widest_on_grid = widest_on_grid nodes;
  ordered = λ unit table u t node n.
      let arc : Arc = get_or arcs unit no_arc in
      gives_by (λ (i : Interval). IsOrdered i) (nat_eq node arc.2)
      (moved (hull (start arc.1) (read arc.0 table)) arc.3)
      (meet_ordered (add_raw (hull (start arc.1) (read arc.0 table)) (Span arc.3 arc.3))) tt;
  on_grid = λ unit table u t node n.
      let arc : Arc = get_or arcs unit no_arc in
      gives_by (λ (i : Interval). IsOnGrid numbers i) (nat_eq node arc.2)
      (moved (hull (start arc.1) (read arc.0 table)) arc.3)
      (meet_on_grid (add_raw (hull (start arc.1) (read arc.0 table)) (Span arc.3 arc.3))) tt;
  within = λ unit table u t node n.
      let arc : Arc = get_or arcs unit no_arc in
      subst (λ (i : Interval). IsWithin (arc_gives arc table node) i)
      (sym (at_all_numbers nodes node (subst (λ (k : ℕ). node < k) (length-replicate nodes all_numbers) n)))
      (gives_by (λ (i : Interval). IsWithin i all_numbers) (nat_eq node arc.2)
      (moved (hull (start arc.1) (read arc.0 table)) arc.3)
      (meet_in (add_raw (hull (start arc.1) (read arc.0 table)) (Span arc.3 arc.3))) tt);
  larger = λ unit table other u t o w node n.
      let arc : Arc = get_or arcs unit no_arc in
      gives_more (nat_eq node arc.2) (moved (hull (start arc.1) (read arc.0 table)) arc.3)
      (moved (hull (start arc.1) (read arc.0 other)) arc.3)
      (moved_more (hull (start arc.1) (read arc.0 table)) (hull (start arc.1) (read arc.0 other)) arc.3
      (source_more arc table other w));
  same = λ unit table other u t o h node n.
      let arc : Arc = get_or arcs unit no_arc in
      ap (λ (i : Interval). if nat_eq node arc.2 then moved (hull (start arc.1) i) arc.3 else Empty)
      (read_same arc.0 table other (t.entries ∙ sym o.entries)
      (λ k l r. h k (subst (λ (x : ℕ). k < x) o.entries l) r));
}
