-- What the worklist keeps while it raises a table, entry by entry and unit by unit.
use Rattle.std.proofs.Common.{◌≡◌, ◌≢◌, ℕ, zero, suc, ◌+◌, ◌-◌, ◌*◌, ◌<◌, ◌≤◌, Bool, true, false, cond, List, [], ◌∷◌, length, arith, refl, sym, subst, ap, ◌∙◌, inl, inr, ⊎_elim, replicate, get_or-set_same, get_or-set_other}
use Rattle.std.specs.Prelude.{◌⊎◌, slice_set}
use Rattle.std.specs.List.{Contains, filter, range_with_len}
use Rattle.std.proofs.lemmas.List.{length-replicate, length-set, get_or_past}
use Rattle.interval_domain.specs.Interval.{Interval, Empty, IsOrdered, IsWithin, hull}
use Rattle.interval_domain.specs.Grid.{IsOnGrid}
use Rattle.interval_domain.proofs.Within.{within_refl, within_trans, within_hull_left, within_hull_right, hull_least}
use Rattle.least_table.specs.System.{Meaning, Intervals, at, AreWithin, AgreeFor, GivesBetween, IsJoined, IsTable, IsMonotone, IsClosed, IsLeast, readers_of, readings, weight}
use Rattle.least_table.specs.steps.Worklist.{Exceeds, IsQueued, IsSettled, IsBelow, IsGiven, AreSettled, IsCounted, IsOnTheWay, IsEvaluated}
use Rattle.least_table.proofs.Within.{hull_ordered, hull_on_grid, hull_empty, at_empties}
use Rattle.least_table.proofs.Ranges.{in_range, below_range}
use Rattle.least_table.proofs.Weights.{readings_le, readings_more, units_weight}

inside : (k n : ℕ) → (k < n) ⊎ (n ≤ k)
inside k n = grind arith

one_of : (k n : ℕ) → (k ≡ n) ⊎ (k ≢ n)
one_of k n = grind arith

-- ---- lists of as many entries that agree are one

pub same_tables : (table other : Intervals) → length table ≡ length other
    → ((entry : ℕ) → entry < length table → at table entry ≡ at other entry) → table ≡ other
same_tables [] [] e h = refl
same_tables [] (j ∷ js) e h = absurd (omega arith)
same_tables (i ∷ is) [] e h = absurd (omega arith)
same_tables (i ∷ is) (j ∷ js) e h =
    let first : i ≡ j = h 0 (omega arith) in
    let rest : is ≡ js = same_tables is js (omega arith) (λ k l. h (suc k) (omega arith)) in
    cc

-- ---- tables below each closed one

pub below_none : (m : Meaning) (n : ℕ) → n ≡ length m.widest → IsBelow m (replicate n Empty)
below_none m n e = record {
  is_table = record {
    entries = length-replicate n Empty ∙ e;
    ordered = λ entry. subst (λ (i : Interval). IsOrdered i) (sym (at_empties n entry)) tt;
    within = λ entry. subst (λ (i : Interval). IsWithin i (at m.widest entry)) (sym (at_empties n entry)) tt;
  };
  on_grid = λ entry. subst (λ (i : Interval). IsOnGrid m.grid i) (sym (at_empties n entry)) tt;
  least = λ other c entry. subst (λ (i : Interval). IsWithin i (at other entry)) (sym (at_empties n entry)) tt;
}

-- what holds of each interval of two tables holds of the first with an entry of the second
either_at : (P : ℕ → Interval → Type 0) (table next : Intervals) (entry : ℕ) → entry < length table
    → ((k : ℕ) → P k (at table k)) → ((k : ℕ) → P k (at next k))
    → (k : ℕ) → P k (at (slice_set table entry (at next entry)) k)
either_at P table next entry l p q k = ⊎_elim
    (λ (e : k ≡ entry).
    subst (λ (n : ℕ). P n (at (slice_set table entry (at next entry)) n)) (sym e)
    (subst (λ (i : Interval). P entry i) (sym (get_or-set_same table entry (at next entry) Empty l)) (q entry)))
    (λ (ne : k ≢ entry).
    subst (λ (i : Interval). P k i) (sym (get_or-set_other table entry k (at next entry) Empty ne)) (p k))
    (one_of k entry)

pub below_set : (m : Meaning) (table next : Intervals) (entry : ℕ) → entry < length table → IsBelow m table
    → IsBelow m next → IsBelow m (slice_set table entry (at next entry))
below_set m table next entry l b c = record {
  is_table = record {
    entries = length-set table entry (at next entry) ∙ b.is_table.entries;
    ordered = either_at (λ k i. IsOrdered i) table next entry l b.is_table.ordered c.is_table.ordered;
    within = either_at (λ k i. IsWithin i (at m.widest k)) table next entry l b.is_table.within c.is_table.within;
  };
  on_grid = either_at (λ k i. IsOnGrid m.grid i) table next entry l b.on_grid c.on_grid;
  least =
      λ other closed. either_at (λ k i. IsWithin i (at other k)) table next entry l (b.least other closed)
      (c.least other closed);
}

-- what holds of each interval of a table and of what is joined into it, if it holds of hulls
joined_at : (P : ℕ → Interval → Type 0) (given : ℕ → Interval) (table next : Intervals) → IsJoined given table next
    → ((k : ℕ) → P k Empty)
    → ((k : ℕ) (i j : Interval) → P k i → P k j → P k (hull i j)) → ((k : ℕ) → k < length table → P k (at table k))
    → ((k : ℕ) → k < length table → P k (given k))
    → (k : ℕ) → P k (at next k)
joined_at P given table next j none hulls p q k = ⊎_elim
    (λ (l : k < length table). subst (λ (i : Interval). P k i) (sym (j.each k l))
    (hulls k (at table k) (given k) (p k l) (q k l)))
    (λ (l : length table ≤ k). subst (λ (i : Interval). P k i)
    (sym (get_or_past next k Empty (omega (arith, j.entries)))) (none k))
    (inside k (length table))

pub below_joined : (m : Meaning) (unit : ℕ) (table next : Intervals) → IsMonotone m → unit < m.units → IsBelow m table
    → IsJoined (m.gives unit table) table next → IsBelow m next
below_joined m unit table next law u b j = record {
  is_table = record {
    entries = j.entries ∙ b.is_table.entries;
    ordered =
        joined_at (λ k i. IsOrdered i) (m.gives unit table) table next j (λ k. tt) (λ k. hull_ordered)
        (λ k l. b.is_table.ordered k)
        (λ k l. law.ordered unit table u b.is_table k (omega (arith, b.is_table.entries)));
    within =
        joined_at (λ k i. IsWithin i (at m.widest k)) (m.gives unit table) table next j (λ k. tt)
        (λ k i h. hull_least i h (at m.widest k)) (λ k l. b.is_table.within k)
        (λ k l. law.within unit table u b.is_table k (omega (arith, b.is_table.entries)));
  };
  on_grid =
      joined_at (λ k i. IsOnGrid m.grid i) (m.gives unit table) table next j (λ k. tt) (λ k. hull_on_grid m.grid)
      (λ k l. b.on_grid k)
      (λ k l. law.on_grid unit table u b.is_table k (omega (arith, b.is_table.entries)));
  least =
      λ other c. joined_at (λ k i. IsWithin i (at other k)) (m.gives unit table) table next j (λ k. tt)
      (λ k i h. hull_least i h (at other k)) (λ k l. b.least other c k)
      (λ k l.
      let place : k < length m.widest = omega (arith, b.is_table.entries) in
      within_trans (m.gives unit table k) (m.gives unit other k) (at other k)
      (law.larger unit table other u b.is_table c.is_table (b.least other c) k place) (c.holds unit u k place));
}

-- ---- the start of an evaluation

pub joined_inside : (given : ℕ → Interval) (table next : Intervals) → IsJoined given table next → AreWithin table next
joined_inside given table next j k = ⊎_elim
    (λ (l : k < length table). subst (λ (i : Interval). IsWithin (at table k) i) (sym (j.each k l))
    (within_hull_left (at table k) (given k)))
    (λ (l : length table ≤ k). subst (λ (i : Interval). IsWithin i (at next k))
    (sym (get_or_past table k Empty l)) tt)
    (inside k (length table))

in_either : (x y : ℕ) (xs : List ℕ) → Contains (x ∷ xs) y → (x ≡ y) ⊎ Contains xs y
in_either x y xs (zero, l, e) = inl e
in_either x y xs (suc k, l, e) = inr (k, omega arith, e)

given_more : (m : Meaning) (unit : ℕ) (table bound next : Intervals) → AreWithin bound next
    → IsGiven m unit table bound → IsGiven m unit table next
given_more m unit table bound next w g entry l =
    within_trans (m.gives unit table entry) (at bound entry) (at next entry) (g entry l) (w entry)

given_joined : (m : Meaning) (unit : ℕ) (table next : Intervals) → IsTable m table
    → IsJoined (m.gives unit table) table next → IsGiven m unit table next
given_joined m unit table next t j entry l =
    subst (λ (i : Interval). IsWithin (m.gives unit table entry) i) (sym (j.each entry (omega (arith, t.entries))))
    (within_hull_right (at table entry) (m.gives unit table entry))

pub settled_joined : (m : Meaning) (unit : ℕ) (table next : Intervals) (queue : List ℕ) → IsTable m table
    → IsJoined (m.gives unit table) table next
    → AreSettled m (unit ∷ queue) table table → AreSettled m queue table next
settled_joined m unit table next queue t j s other u = ⊎_elim
    (λ (c : Contains (unit ∷ queue) other). ⊎_elim
    (λ (e : unit ≡ other). inr (subst (λ (n : ℕ). IsGiven m n table next) e (given_joined m unit table next t j)))
    (λ (c : Contains queue other). inl c)
    (in_either unit other queue c))
    (λ (g : IsGiven m other table table). inr
    (given_more m other table table next (joined_inside (m.gives unit table) table next j) g))
    (s other u)

-- ---- one entry

agree_but : (m : Meaning) (unit entry : ℕ) (table : Intervals) (i : Interval) → m.reads unit entry ≡ false
    → AgreeFor m unit table (slice_set table entry i)
agree_but m unit entry table i r k l e = ⊎_elim
    (λ (s : k ≡ entry).
    absurd (let t : m.reads unit entry ≡ true = subst (λ (n : ℕ). m.reads unit n ≡ true) s e in cc))
    (λ (ne : k ≢ entry). sym (get_or-set_other table entry k i Empty ne))
    (one_of k entry)

-- the units that read an entry
later_if : (b : Bool) (y x : ℕ) (xs : List ℕ) → Contains xs x → Contains (cond b (y ∷ xs) xs) x
later_if true y x xs c = (suc c.0, omega (arith, c.1), c.2)
later_if false y x xs c = c

filtered : (p : ℕ → Bool) (xs : List ℕ) (x : ℕ) → Contains xs x → p x ≡ true → Contains (filter p xs) x
filtered p [] x c e = absurd (omega (arith, c.1))
filtered p (y ∷ ys) x (zero, l, s) e = let t : p y ≡ true = ap p s ∙ e in rw t (0, omega arith, s)
filtered p (y ∷ ys) x (suc k, l, s) e = later_if (p y) y x (filter p ys) (filtered p ys x (k, omega arith, s) e)

reading_in : (m : Meaning) (unit entry : ℕ) → unit < m.units → m.reads unit entry ≡ true
    → Contains (readers_of m entry) unit
reading_in m unit entry u r =
    filtered (λ unit. m.reads unit entry) (range_with_len 0 m.units) unit (in_range m.units unit u) r

from_if : (b : Bool) (y x : ℕ) (xs : List ℕ) → Contains (cond b (y ∷ xs) xs) x → (y ≡ x) ⊎ Contains xs x
from_if true y x xs c = in_either y x xs c
from_if false y x xs c = inr c

in_filtered : (p : ℕ → Bool) (P : ℕ → Type 0) (xs : List ℕ) (x : ℕ) → ((y : ℕ) → Contains xs y → P y)
    → Contains (filter p xs) x → P x
in_filtered p P [] x h c = absurd (omega (arith, c.1))
in_filtered p P (y ∷ ys) x h c =
    ⊎_elim (λ (e : y ≡ x). subst P e (h y (0, omega arith, refl)))
    (λ (d : Contains (filter p ys) x). in_filtered p P ys x (λ z k. h z (suc k.0, omega (arith, k.1), k.2)) d)
    (from_if (p y) y x (filter p ys) c)

pub readers_below : (m : Meaning) (entry unit : ℕ) → Contains (readers_of m entry) unit → unit < m.units
readers_below m entry unit c =
    in_filtered (λ unit. m.reads unit entry) (λ k. k < m.units) (range_with_len 0 m.units) unit
    (below_range m.units) c

-- a unit waits where it reads the entry, and else gives what it gave
settled_set : (m : Meaning) (table next : Intervals) (entry : ℕ) (before after : List ℕ) → IsMonotone m
    → IsTable m table → IsTable m (slice_set table entry (at next entry))
    → IsQueued (readers_of m entry) before after → AreSettled m before table next
    → AreSettled m after (slice_set table entry (at next entry)) next
settled_set m table next entry before after law t n q s unit u = ⊎_elim
    (λ (c : Contains before unit). inl (q.kept unit c))
    (λ (g : IsGiven m unit table next). by_reading (m.reads unit entry) refl g)
    (s unit u)
  where
    by_reading : (b : Bool) → m.reads unit entry ≡ b → IsGiven m unit table next → Contains after unit
        ⊎ IsGiven m unit (slice_set table entry (at next entry)) next
    by_reading true e g = inl (q.put unit (reading_in m unit entry u e))
    by_reading false e g = inr (λ k l.
        subst (λ (i : Interval). IsWithin i (at next k))
        (law.same unit table (slice_set table entry (at next entry)) u t n
        (agree_but m unit entry table (at next entry) e) k l) (g k l))

-- an entry that stays
set_same : (table next : Intervals) (entry : ℕ) → entry < length table → at table entry ≡ at next entry
    → slice_set table entry (at next entry) ≡ table
set_same table next entry l e =
    same_tables (slice_set table entry (at next entry)) table (length-set table entry (at next entry)) (λ k h. ⊎_elim
    (λ (s : k ≡ entry).
    subst (λ (n : ℕ). at (slice_set table entry (at next entry)) n ≡ at table n) (sym s)
    (get_or-set_same table entry (at next entry) Empty l ∙ sym e))
    (λ (ne : k ≢ entry). get_or-set_other table entry k (at next entry) Empty ne)
    (one_of k entry))

pub counted_none : (m : Meaning) (table : Intervals) (queue : List ℕ) → IsCounted m table table queue queue
counted_none m table queue = record { longer = omega arith; bounded = omega arith }

pub counted_both : (m : Meaning) (table middle new : Intervals) (before between after : List ℕ)
    → IsCounted m table middle before between → IsCounted m middle new between after
    → IsCounted m table new before after
counted_both m table middle new before between after p q =
    record { longer = omega (arith, p.longer, q.longer); bounded = omega (arith, p.bounded, q.bounded) }

set_inside : (table next : Intervals) (entry : ℕ) → entry < length table → AreWithin table next
    → AreWithin table (slice_set table entry (at next entry))
set_inside table next entry l w =
    either_at (λ k i. IsWithin (at table k) i) table next entry l (λ k. within_refl (at table k)) w

counted_set : (m : Meaning) (table next : Intervals) (entry : ℕ) (before after : List ℕ) → entry < length table
    → length table ≡ length m.widest → AreWithin table next
    → IsOnGrid m.grid (at next entry) → Exceeds (at table entry) (at next entry)
    → IsQueued (readers_of m entry) before after
    → IsCounted m table (slice_set table entry (at next entry)) before after
counted_set m table next entry before after l e w g x q =
    let set : at (slice_set table entry (at next entry)) entry ≡ at next entry = get_or-set_same table entry
    (at next entry) Empty l in
    let more : length (readers_of m entry) + readings m table ≤ readings m (slice_set table entry (at next entry)) =
    readings_more m table (slice_set table entry (at next entry)) entry (omega arith)
    (set_inside table next entry l w)
    (subst (λ (i : Interval). IsOnGrid m.grid i) (sym set) g)
    (subst (λ (i : Interval). Exceeds (at table entry) i) (sym set) x) in
    record { longer = q.longer; bounded = omega (arith, q.bounded) }

-- one entry more
pub way_more : (m : Meaning) (next start table : Intervals) (first before after : List ℕ) (entry : ℕ) → IsMonotone m
    → IsBelow m next → entry < length table
    → IsOnTheWay m next start table first before
    → IsSettled (at table entry) (at next entry) (readers_of m entry) before after
    → IsOnTheWay m next start (slice_set table entry (at next entry)) first after
way_more m next start table first before after entry law n l w s = record {
  below = below;
  inside = either_at (λ k i. IsWithin i (at next k)) table next entry l w.inside (λ k. within_refl (at next k));
  kept = λ k e. either_at (λ n i. at start n ≡ at next n → i ≡ at next n) table next entry l w.kept (λ n e. refl) k e;
  settled = ⊎_elim
      (λ (p : (at table entry ≡ at next entry) × (after ≡ before)).
      subst (λ (q : List ℕ). AreSettled m q (slice_set table entry (at next entry)) next) (sym p.1)
      (subst (λ (t : Intervals). AreSettled m before t next) (sym (set_same table next entry l p.0)) w.settled))
      (λ (p : Exceeds (at table entry) (at next entry) × IsQueued (readers_of m entry) before after).
      settled_set m table next entry before after law w.below.is_table below.is_table p.1 w.settled)
      s;
  counted = counted_both m start table (slice_set table entry (at next entry)) first before after w.counted (⊎_elim
      (λ (p : (at table entry ≡ at next entry) × (after ≡ before)).
      subst (λ (q : List ℕ). IsCounted m table (slice_set table entry (at next entry)) before q) (sym p.1)
      (subst (λ (t : Intervals). IsCounted m table t before before) (sym (set_same table next entry l p.0))
      (counted_none m table before)))
      (λ (p : Exceeds (at table entry) (at next entry) × IsQueued (readers_of m entry) before after).
      counted_set m table next entry before after l w.below.is_table.entries w.inside (n.on_grid entry) p.0 p.1)
      s);
}
  where
    below : IsBelow m (slice_set table entry (at next entry))
    below = below_set m table next entry l w.below n

pub taken_more : (table next : Intervals) (from entry : ℕ) → entry < length table
    → ((k : ℕ) → from ≤ k → k < entry → at table k ≡ at next k)
    → (k : ℕ) → from ≤ k → k < entry + 1 → at (slice_set table entry (at next entry)) k ≡ at next k
taken_more table next from entry l h k a b = ⊎_elim
    (λ (s : k ≡ entry).
    subst (λ (n : ℕ). at (slice_set table entry (at next entry)) n ≡ at next n) (sym s)
    (get_or-set_same table entry (at next entry) Empty l))
    (λ (ne : k ≢ entry). get_or-set_other table entry k (at next entry) Empty ne ∙ h k a (omega arith))
    (one_of k entry)

-- ---- the start and the end of an evaluation

pub way_start : (m : Meaning) (next table : Intervals) (queue : List ℕ) → IsBelow m table → AreWithin table next
    → AreSettled m queue table next
    → IsOnTheWay m next table table queue queue
way_start m next table queue b w s =
    record { below = b; inside = w; kept = λ k e. e; settled = s; counted = counted_none m table queue }

-- the entries of the unit were taken over, and the others agreed before
pub way_end : (m : Meaning) (unit from to : ℕ) (next start table : Intervals) (before after : List ℕ)
    → IsBelow m start → IsJoined (m.gives unit start) start next
    → unit < m.units → GivesBetween m unit from to → IsOnTheWay m next start table before after
    → ((entry : ℕ) → from ≤ entry → entry < to → at table entry ≡ at next entry)
    → table ≡ next
way_end m unit from to next start table before after b j u g w h =
    same_tables table next (w.below.is_table.entries ∙ sym (j.entries ∙ b.is_table.entries)) each
  where
    outside : (entry : ℕ) → entry < length table → (entry < from) ⊎ (to ≤ entry) → at table entry ≡ at next entry
    outside entry l o =
        let place : entry < length m.widest = omega (arith, w.below.is_table.entries) in
        w.kept entry
        (sym (j.each entry (omega (arith, b.is_table.entries))
        ∙ ap (λ (i : Interval). hull (at start entry) i) (g start b.is_table entry place o)
        ∙ hull_empty (at start entry)))

    each : (entry : ℕ) → entry < length table → at table entry ≡ at next entry
    each entry l = ⊎_elim
        (λ (low : entry < from). outside entry l (inl low))
        (λ (high : from ≤ entry). ⊎_elim
        (λ (low : entry < to). h entry high low)
        (λ (far : to ≤ entry). outside entry l (inr far))
        (inside entry to))
        (inside entry from)

pub evaluated : (m : Meaning) (next start table : Intervals) (before after : List ℕ)
    → IsOnTheWay m next start table before after → table ≡ next
    → IsEvaluated m start table before after
evaluated m next start table before after w e = record {
  below = w.below;
  settled = subst (λ (t : Intervals). AreSettled m after table t) (sym e) w.settled;
  counted = w.counted;
}

-- ---- the end: no unit waits

pub settled_least : (m : Meaning) (table : Intervals) (queue : List ℕ) → queue ≡ [] → IsBelow m table
    → AreSettled m queue table table → IsLeast m table
settled_least m table queue e b s = record {
  closed = record {
    is_table = b.is_table;
    holds = λ unit u. ⊎_elim
        (λ (c : Contains queue unit).
        absurd (let d : Contains [] unit = subst (λ (q : List ℕ). Contains q unit) e c in omega (arith, d.1)))
        (λ (g : IsGiven m unit table table). g)
        (s unit u);
  };
  least = b.least;
}

-- ---- the bounds on steps

pub most_read : (m : Meaning) (table other : Intervals) (start solved waiting : ℕ) → IsBelow m table
    → IsClosed m other
    → solved + waiting ≤ start + (m.units + readings m table) → solved ≤ start + (m.units + readings m other)
most_read m table other start solved waiting b c h = omega (arith, readings_le m table other (b.least other c))

pub most_solved : (m : Meaning) (table other : Intervals) (start solved waiting : ℕ) → IsBelow m table
    → IsClosed m other
    → solved + waiting ≤ start + (m.units + readings m table) → solved ≤ start + m.units * (1 + weight m.grid other)
most_solved m table other start solved waiting b c h =
    units_weight m other start solved c.is_table.entries (most_read m table other start solved waiting b c h)

-- what is left: the waiting units, and the readings that may be added
pub less_left : (m : Meaning) (table new : Intervals) (before after queue : List ℕ) (unit : ℕ) → queue ≡ unit ∷ before
    → IsEvaluated m table new before after
    → length after + (readings m m.widest - readings m new) < length queue + (readings m m.widest - readings m table)
less_left m table new before after queue unit e v =
    let more : readings m new ≤ readings m m.widest = readings_le m new m.widest v.below.is_table.within in
    let taken : length queue ≡ suc (length before) = ap (λ (q : List ℕ). length q) e in
    omega (arith, v.counted.bounded, v.counted.longer)
