-- Rounds of passes over one task, and what the answer is made of.
use Rattle.std.proofs.Common.{◌≡◌, ℕ, zero, suc, ◌+◌, ◌<◌, ◌≤◌, Bool, true, false, List, [], ◌∷◌, ◌++◌, length, refl, sym, ap, ◌∙◌, subst, arith, ⊎_elim, replicate, append_assoc, get_or}
use Rattle.std.proofs.lemmas.List.{length-replicate}
use Rattle.std.proofs.lemmas.Option.{none-some, same_Some}
use Rattle.st_tree.specs.declared.code.Component.{Component}
use Rattle.st_tree.specs.declared.code.Cell.{Cell}
use Rattle.st_tree.specs.declared.code.Operation.{Operation}
use Rattle.st_tree.specs.Code.{Done, Literal, Read, Operate, Write}
use Rattle.iec_tables.specs.declared.kind.Kind.TheVariants.{Overflow}
use Rattle.interval_domain.specs.Operators.{range_of, is_alarmed, typed}
use Rattle.std.specs.Prelude.{if◌then◌else◌}
use Rattle.cycle_analysis.specs.declared.task_pass.Value.{Value}
use Rattle.cycle_analysis.specs.declared.task_pass.Value.TheVariants.{Plain}
use Rattle.cycle_analysis.specs.Pass.{Rely, log_at, operation_log, operation_value, raw_of, interval_of, unless_empty, assigned, read_value}
use Rattle.cycle_analysis.specs.Table.{Each, IsClosed, IsClosedFor, IsTableWithin, IsPartWithin, part_at, no_part, hulls, pass_of}
use Rattle.st_tree.specs.Writes.{HasWritten, WritesCells}
use Rattle.cycle_analysis.specs.Solved.{HasRanges, Answers}
use Rattle.std.specs.Prelude.{◌⊎◌, ℤ, slice_get, Some, IsPermutation}
use Rattle.interval_domain.specs.Interval.{Interval, Empty, Span, IsWithin, hull}
use Rattle.interval_domain.specs.Grid.{rounded}
use Rattle.interval_domain.proofs.Rounding.{rounded-grows}
use Rattle.st_tree.specs.declared.hit.Hit.{Hit}
use Rattle.st_tree.specs.declared.code.CellInfo.{CellInfo}
use Rattle.st_tree.specs.declared.code.TaskCode.{TaskCode}
use Rattle.st_tree.specs.declared.code.Cell.TheVariants.{Own, Shared}
use Rattle.st_tree.specs.Code.{Instructions, reading}
use Rattle.cycle_analysis.specs.declared.row.Row.{Row}
use Rattle.cycle_analysis.specs.declared.solution.Solution.{Solution}
use Rattle.cycle_analysis.specs.declared.task_pass.Told.{Told}
use Rattle.cycle_analysis.specs.Pass.{State, Unreachable, Reached, Entry, Wrote, Alarm, at, pass}
use Rattle.cycle_analysis.specs.Fill.{Kept, noted, all_noted, kept_of, state_of, hits}
use Rattle.cycle_analysis.specs.Rows.{AreAll, joined, raised, rooms}
use Rattle.cycle_analysis.specs.Table.{Head, Part, IsBelow, points}
use Rattle.cycle_analysis.specs.Solved.{alarms_of, pass_from, blank_of, head_of, table_of, IsStable, IsRaisedFrom, IsLeastHead, IsRound, IsRounded, IsSolved}
use Rattle.cycle_analysis.proofs.Lists.{length_map}
use Rattle.interval_domain.proofs.Within.{within_refl, within_trans, within_hull_left, within_hull_right, hull_least}
use Rattle.cycle_analysis.proofs.Rows.{at_past, at_empties}
use Rattle.cycle_analysis.proofs.Monotone.{Lies, Has, pass_mono, pass_has, blank, kept_has, IsThere, KeptIn, kept_in, blank_in, log_in}

-- ---- what raising a row gives

inside : (k n : ℕ) → (k < n) ⊎ (n ≤ k)
inside k n = grind arith

raised_stays : (grid : List ℤ) (is js ks : List Interval) → length js ≡ length is → ks ≡ is → AreAll (raised grid is js) ks → (k : ℕ) → IsWithin (rounded grid (at js k)) (at is k)
raised_stays grid is js ks l e h k =
    ⊎_elim
    (λ (a : k < length is).
    let b : k < length ks = rw e a in
    let same : at is k ≡ hull (at is k) (rounded grid (at js k)) = subst (λ (x : List Interval). at x k ≡ hull (at is k) (rounded grid (at js k))) e (h k b) in
    subst (λ (i : Interval). IsWithin (rounded grid (at js k)) i) (sym same) (within_hull_right (at is k) (rounded grid (at js k))))
    (λ (a : length is ≤ k). rw (at_past js k (omega arith)) tt)
    (inside k (length is))

pub raised_more : (grid : List ℤ) (is js ks : List Interval) → length ks ≡ length is → AreAll (raised grid is js) ks → (k : ℕ) → IsWithin (at is k) (at ks k)
raised_more grid is js ks l h k =
    ⊎_elim
    (λ (a : k < length ks). rw (h k a) (within_hull_left (at is k) (rounded grid (at js k))))
    (λ (a : length ks ≤ k). rw (at_past is k (omega arith)) tt)
    (inside k (length ks))

pub raised_has : (grid : List ℤ) (is js ks : List Interval) → length js ≡ length ks → AreAll (raised grid is js) ks → (k : ℕ) → IsWithin (rounded grid (at js k)) (at ks k)
raised_has grid is js ks l h k =
    ⊎_elim
    (λ (a : k < length ks). rw (h k a) (within_hull_right (at is k) (rounded grid (at js k))))
    (λ (a : length ks ≤ k). rw (at_past js k (omega arith)) tt)
    (inside k (length ks))

pub raised_least : (grid : List ℤ) (is js ks hs : List Interval) → AreAll (raised grid is js) ks → ((k : ℕ) → IsWithin (at is k) (at hs k)) → ((k : ℕ) → IsWithin (rounded grid (at js k)) (at hs k)) → (k : ℕ) → IsWithin (at ks k) (at hs k)
raised_least grid is js ks hs h p q k =
    ⊎_elim
    (λ (a : k < length ks). rw (h k a) (hull_least (at is k) (rounded grid (at js k)) (at hs k) (p k) (q k)))
    (λ (a : length ks ≤ k). rw (at_past ks k a) tt)
    (inside k (length ks))

-- raised from nothing
pub raised_empties : (grid : List ℤ) (n : ℕ) (js ks : List Interval) → length ks ≡ n → length js ≡ n → AreAll (raised grid (replicate n Empty) js) ks → (k : ℕ) → at ks k ≡ rounded grid (at js k)
raised_empties grid n js ks l m h k =
    ⊎_elim
    (λ (a : k < length ks).
    let first : at ks k ≡ hull (at (replicate n Empty) k) (rounded grid (at js k)) = h k a in
    let none : at (replicate n Empty) k ≡ Empty = at_empties n k in
    first ∙ ap (λ (i : Interval). hull i (rounded grid (at js k))) none)
    (λ (a : length ks ≤ k). rw (at_past ks k a, at_past js k (omega arith)) refl)
    (inside k (length ks))

pub joined_all : (is js ks : List Interval) → length ks ≡ length is → length js ≡ length is → AreAll (joined is js) ks → (k : ℕ) → at ks k ≡ hull (at is k) (at js k)
joined_all is js ks l m h k =
    ⊎_elim
    (λ (a : k < length ks). h k a)
    (λ (a : length ks ≤ k). rw (at_past ks k a, at_past is k (omega arith), at_past js k (omega arith)) refl)
    (inside k (length ks))

-- ---- rounds

ends_has : (code : Instructions) (head : Head) (end : Row) → state_of end ≡ (pass_from code head).state → (length end.own.items ≡ length head.own) × (length end.shared.items ≡ length head.views)
ends_has code head end e =
    subst (λ (s : State). Has (length head.own) (length head.views) s) (sym e)
    (pass_has (length head.own) (length head.views) (record { during = [] }) code [] (Reached head.own head.views) (refl, refl))

pub round_by : (grid : List ℤ) (code : Instructions) (old new end : Row) (grown : Bool)
    → state_of end ≡ (pass_from code (head_of old)).state
    → length new.own.items ≡ length old.own.items → length new.shared.items ≡ length old.shared.items
    → AreAll (raised grid old.own.items end.own.items) new.own.items → AreAll (raised grid old.shared.items end.shared.items) new.shared.items
    → (grown ≡ false → new.own.items ≡ old.own.items) → (grown ≡ false → new.shared.items ≡ old.shared.items)
    → (grown ≡ true → rooms new.own.items + rooms new.shared.items < rooms old.own.items + rooms old.shared.items)
    → IsRound grid (pass_from code (head_of old)).state old new end grown
round_by grid code old new end false e lo ls ro rs so ss r =
    let has = ends_has code (head_of old) end e in
    let below : IsBelow grid (state_of end) (head_of old) = (
      raised_stays grid old.own.items end.own.items new.own.items has.0 (so refl) ro,
      raised_stays grid old.shared.items end.shared.items new.shared.items has.1 (ss refl) rs,
    ) in
    (so refl, ss refl, subst (λ (s : State). IsBelow grid s (head_of old)) e below)
round_by grid code old new end true e lo ls ro rs so ss r =
    let has = ends_has code (head_of old) end e in
    (sym e, lo, ls, has.0, has.1, ro, rs, r refl)

pub round_stops : (grid : List ℤ) (code : Instructions) (old end : Row) → Unreachable ≡ (pass_from code (head_of old)).state → IsRound grid (pass_from code (head_of old)).state old old end false
round_stops grid code old end e = (refl, refl, subst (λ (s : State). IsBelow grid s (head_of old)) e tt)

pub round_raises : (grid : List ℤ) (s : State) (old new end : Row) → IsRound grid s old new end true → IsRaisedFrom (head_of old) (head_of new)
round_raises grid s old new end r = record {
  own_places = r.1;
  shared_places = r.2;
  larger = record {
    own = raised_more grid old.own.items end.own.items new.own.items r.1 r.5;
    views = raised_more grid old.shared.items end.shared.items new.shared.items r.2 r.6;
  };
}

pub raised_refl : (h : Head) → IsRaisedFrom h h
raised_refl h = record { own_places = refl; shared_places = refl; larger = record { own = λ k. within_refl (at h.own k); views = λ k. within_refl (at h.views k) } }

pub raised_trans : (h k l : Head) → IsRaisedFrom h k → IsRaisedFrom k l → IsRaisedFrom h l
raised_trans h k l p q = record {
  own_places = q.own_places ∙ p.own_places;
  shared_places = q.shared_places ∙ p.shared_places;
  larger = record {
    own = λ n. within_trans (at h.own n) (at k.own n) (at l.own n) (p.larger.own n) (q.larger.own n);
    views = λ n. within_trans (at h.views n) (at k.views n) (at l.views n) (p.larger.views n) (q.larger.views n);
  };
}

below_mono : (grid : List ℤ) (s t : State) (h : Head) → Lies s t → IsBelow grid t h → IsBelow grid s h
below_mono grid Unreachable t h p q = tt
below_mono grid (Reached is vs) Unreachable h p q = absurd p
below_mono grid (Reached is vs) (Reached js ws) h p q = (
  (λ k. within_trans (rounded grid (at is k)) (rounded grid (at js k)) (at h.own k) (rounded-grows grid (at is k) (at js k) (p.2 k)) (q.0 k)),
  (λ k. within_trans (rounded grid (at vs k)) (rounded grid (at ws k)) (at h.views k) (rounded-grows grid (at vs k) (at ws k) (p.3 k)) (q.1 k)),
)

pub head_lies : (grid : List ℤ) (code : Instructions) (cells shared : List CellInfo) (head : Head) (part : Part) → IsLeastHead grid code cells shared head → IsStable grid code cells shared part
    → Lies (Reached head.own head.views) (Reached part.cycle.own part.cycle.views)
head_lies grid code cells shared head part l st =
    let w = l.least part st in
    (l.own_places ∙ sym st.own_places, l.shared_places ∙ sym st.shared_places, w.own, w.views)

pub round_least : (grid : List ℤ) (code : Instructions) (cells shared : List CellInfo) (old new end : Row) → IsRound grid (pass_from code (head_of old)).state old new end true
    → IsLeastHead grid code cells shared (head_of old) → IsLeastHead grid code cells shared (head_of new)
round_least grid code cells shared old new end r l = record {
  own_places = r.1 ∙ l.own_places;
  shared_places = r.2 ∙ l.shared_places;
  least = λ part st.
      let w = l.least part st in
      let m = pass_mono grid part (record { during = [] }) code [] [] (Reached old.own.items old.shared.items) (Reached part.cycle.own part.cycle.views) tt (head_lies grid code cells shared (head_of old) part l st) in
      let b = below_mono grid (pass_from code (head_of old)).state (pass_from code part.cycle).state part.cycle m.state st.turns in
      let c : IsBelow grid (state_of end) part.cycle = subst (λ (s : State). IsBelow grid s part.cycle) r.0 b in
      record {
        own = raised_least grid old.own.items end.own.items new.own.items part.cycle.own r.5 w.own c.0;
        views = raised_least grid old.shared.items end.shared.items new.shared.items part.cycle.views r.6 w.views c.1;
      };
}

-- ---- what is told

pub kept_places : (t u : Told) (log : List Entry) → kept_of u ≡ all_noted (blank_of t) log → (length u.writes.own.items ≡ length t.writes.own.items) × (length u.writes.shared.items ≡ length t.writes.shared.items)
kept_places t u log e =
    let n = length t.writes.own.items in
    let m = length t.writes.shared.items in
    let h = kept_has n m (blank n m) log (length-replicate n Empty, length-replicate m Empty) in
    (ap (λ (x : Kept). length x.own) e ∙ h.0, ap (λ (x : Kept). length x.shared) e ∙ h.1)

pub kept_alarms : (t : Kept) (log : List Entry) → (all_noted t log).alarms ≡ t.alarms ++ alarms_of log
kept_alarms t [] = append_nil t.alarms
  where
    append_nil : (xs : List Hit) → xs ≡ xs ++ []
    append_nil [] = refl
    append_nil (x ∷ xs) = ap (λ (ys : List Hit). x ∷ ys) (append_nil xs)
kept_alarms t (Wrote (Own k) i ∷ log) = kept_alarms (noted t (Wrote (Own k) i)) log
kept_alarms t (Wrote (Shared k) i ∷ log) = kept_alarms (noted t (Wrote (Shared k) i)) log
kept_alarms t (Alarm kind site i ∷ log) = kept_alarms (noted t (Alarm kind site i)) log ∙ append_assoc t.alarms (hits kind site i) (alarms_of log)

-- ---- what the answer is made of

start_in : (grid : List ℤ) (cells : List CellInfo) (is js ks hs : List Interval) → js ≡ points cells → length ks ≡ length cells → AreAll (raised grid is js) ks
    → ((k : ℕ) → IsWithin (at ks k) (at hs k)) → (k : ℕ) → IsWithin (rounded grid (at (points cells) k)) (at hs k)
start_in grid cells is js ks hs e l h w k =
    let n : length js ≡ length ks = ap (λ (x : List Interval). length x) e ∙ length_map (λ (cell : CellInfo). Span cell.start cell.start) cells ∙ sym l in
    subst (λ (x : List Interval). IsWithin (rounded grid (at x k)) (at hs k)) e
    (within_trans (rounded grid (at js k)) (at ks k) (at hs k) (raised_has grid is js ks n h k) (w k))

first_least : (grid : List ℤ) (cells : List CellInfo) (n : ℕ) (is js ks hs : List Interval) → js ≡ points cells → is ≡ replicate n Empty → AreAll (raised grid is js) ks
    → ((k : ℕ) → IsWithin (rounded grid (at (points cells) k)) (at hs k)) → (k : ℕ) → IsWithin (at ks k) (at hs k)
first_least grid cells n is js ks hs e z h w =
    raised_least grid is js ks hs h
    (λ k. let none : at is k ≡ Empty = ap (λ (x : List Interval). at x k) z ∙ at_empties n k in subst (λ (i : Interval). IsWithin i (at hs k)) (sym none) tt)
    (λ k. subst (λ (x : List Interval). IsWithin (rounded grid (at x k)) (at hs k)) (sym e) (w k))

writes_is : (grid : List ℤ) (n : ℕ) (is js ks : List Interval) → is ≡ replicate n Empty → length ks ≡ length is → length js ≡ n → AreAll (raised grid is js) ks → (k : ℕ) → at ks k ≡ rounded grid (at js k)
writes_is grid n is js ks z l m h =
    let long : length ks ≡ n = l ∙ ap (λ (x : List Interval). length x) z ∙ length-replicate n Empty in
    raised_empties grid n js ks long m (subst (λ (x : List Interval). AreAll (raised grid x js) ks) z h)

ranges_are : (cells : List CellInfo) (js ws ks : List Interval) → js ≡ points cells → length ks ≡ length js → length ws ≡ length cells → AreAll (joined js ws) ks → (k : ℕ) → at ks k ≡ hull (at (points cells) k) (at ws k)
ranges_are cells js ws ks e l m h k =
    let n : length js ≡ length cells = ap (λ (x : List Interval). length x) e ∙ length_map (λ (cell : CellInfo). Span cell.start cell.start) cells in
    subst (λ (x : List Interval). at ks k ≡ hull (at x k) (at ws k)) e (joined_all js ws ks l (m ∙ sym n) h k)

blanks : (a b n m : ℕ) → a ≡ n → b ≡ m → blank a b ≡ blank n m
blanks a b n m p q = ap (λ (x : ℕ). blank x b) p ∙ ap (λ (x : ℕ). blank n x) q

pub solved_by : (grid : List ℤ) (task : TaskCode) (shared : List CellInfo) (s : Solution) (starts head0 head1 w0 : Row) (t0 told : Told)
    → starts.own.items ≡ points task.cells → starts.shared.items ≡ points shared
    → head0.own.items ≡ replicate (length task.cells) Empty → head0.shared.items ≡ replicate (length shared) Empty
    → length head1.own.items ≡ length head0.own.items → length head1.shared.items ≡ length head0.shared.items
    → AreAll (raised grid head0.own.items starts.own.items) head1.own.items → AreAll (raised grid head0.shared.items starts.shared.items) head1.shared.items
    → t0.writes.own.items ≡ replicate (length task.cells) Empty → t0.writes.shared.items ≡ replicate (length shared) Empty
    → kept_of told ≡ all_noted (blank_of t0) (pass_from (reading task.code) (head_of s.head)).log
    → IsBelow grid (pass_from (reading task.code) (head_of s.head)).state (head_of s.head)
    → IsRaisedFrom (head_of head1) (head_of s.head)
    → ((cells others : List CellInfo) → IsLeastHead grid (reading task.code) cells others (head_of head1) → IsLeastHead grid (reading task.code) cells others (head_of s.head))
    → w0.own.items ≡ replicate (length task.cells) Empty → w0.shared.items ≡ replicate (length shared) Empty
    → length s.writes.own.items ≡ length w0.own.items → length s.writes.shared.items ≡ length w0.shared.items
    → AreAll (raised grid w0.own.items told.writes.own.items) s.writes.own.items → AreAll (raised grid w0.shared.items told.writes.shared.items) s.writes.shared.items
    → length s.ranges.own.items ≡ length starts.own.items → length s.ranges.shared.items ≡ length starts.shared.items
    → AreAll (joined starts.own.items s.writes.own.items) s.ranges.own.items → AreAll (joined starts.shared.items s.writes.shared.items) s.ranges.shared.items
    → IsPermutation told.alarms.items s.alarms.items
    → IsSolved grid task shared s
solved_by grid task shared s starts head0 head1 w0 t0 told so ss ho hs lo ls ro rs to ts k turns up least wo ws vo vs xo xs qo qs jo js perm = record {
  own_writes = own_writes;
  shared_writes = shared_writes;
  start = (
    start_in grid task.cells head0.own.items starts.own.items head1.own.items s.head.own.items so own1 ro up.larger.own,
    start_in grid shared head0.shared.items starts.shared.items head1.shared.items s.head.shared.items ss shared1 rs up.larger.views,
  );
  turns = turns;
  least = least task.cells shared (record {
    own_places = own1;
    shared_places = shared1;
    least = λ part st. record {
      own = first_least grid task.cells (length task.cells) head0.own.items starts.own.items head1.own.items part.cycle.own so ho ro st.start.0;
      views = first_least grid shared (length shared) head0.shared.items starts.shared.items head1.shared.items part.cycle.views ss hs rs st.start.1;
    };
  });
  writes = subst (λ (x : Kept). IsRounded grid x s.writes.own.items s.writes.shared.items) same (record {
    own_is = writes_is grid (length task.cells) w0.own.items told.writes.own.items s.writes.own.items wo vo places.0 xo;
    shared_is = writes_is grid (length shared) w0.shared.items told.writes.shared.items s.writes.shared.items ws vs places.1 xs;
  });
  ranges = record {
    own_is = ranges_are task.cells starts.own.items s.writes.own.items s.ranges.own.items so qo own_writes jo;
    shared_is = ranges_are shared starts.shared.items s.writes.shared.items s.ranges.shared.items ss qs shared_writes js;
  };
  alarms = subst (λ (x : List Hit). IsPermutation x s.alarms.items) (ap (λ (x : Kept). x.alarms) k ∙ kept_alarms (blank_of t0) (pass_from (reading task.code) (head_of s.head)).log) perm;
}
  where
    count : (is : List Interval) (n : ℕ) → is ≡ replicate n Empty → length is ≡ n
    count is n e = ap (λ (x : List Interval). length x) e ∙ length-replicate n Empty

    own1 : length head1.own.items ≡ length task.cells
    own1 = lo ∙ count head0.own.items (length task.cells) ho

    shared1 : length head1.shared.items ≡ length shared
    shared1 = ls ∙ count head0.shared.items (length shared) hs

    own_writes : length s.writes.own.items ≡ length task.cells
    own_writes = vo ∙ count w0.own.items (length task.cells) wo

    shared_writes : length s.writes.shared.items ≡ length shared
    shared_writes = vs ∙ count w0.shared.items (length shared) ws

    places : (length told.writes.own.items ≡ length task.cells) × (length told.writes.shared.items ≡ length shared)
    places =
        let p = kept_places t0 told (pass_from (reading task.code) (head_of s.head)).log k in
        (p.0 ∙ count t0.writes.own.items (length task.cells) to, p.1 ∙ count t0.writes.shared.items (length shared) ts)

    same : kept_of told ≡ all_noted (blank (length task.cells) (length shared)) (pass_from (reading task.code) (head_of s.head)).log
    same = k ∙ ap (λ (x : Kept). all_noted x (pass_from (reading task.code) (head_of s.head)).log)
        (blanks (length t0.writes.own.items) (length t0.writes.shared.items) (length task.cells) (length shared) (count t0.writes.own.items (length task.cells) to) (count t0.writes.shared.items (length shared) ts))

-- ---- the table

each_join : (P : Entry → Type 0) (xs ys : List Entry) → Each P xs → Each P ys → Each P (xs ++ ys)
each_join P [] ys p q = q
each_join P (x ∷ xs) ys p q = (p.0, each_join P xs ys p.1 q)

operation_there : (n m : ℕ) (o : Operation) (raw : Interval) (s : State) → Each (IsThere n m) (log_at s (operation_log o raw))
operation_there n m o raw Unreachable = tt
operation_there n m o raw (Reached is vs) = go (is_alarmed Overflow raw (range_of o.elem))
  where
    go : (b : Bool) → Each (IsThere n m) (if b then Alarm Overflow o.site raw ∷ [] else [])
    go true = (tt, tt)
    go false = tt

wrote_there : (n m : ℕ) (cell : Cell) (i : Interval) (s : State) → IsThere n m (Wrote cell i) → Each (IsThere n m) (log_at s (Wrote cell i ∷ []))
wrote_there n m cell i Unreachable h = tt
wrote_there n m cell i (Reached is vs) h = (h, tt)

pass_there : (n m : ℕ) (rely : Rely) (code : Instructions) (vs : List Value) (s : State) → HasWritten n m code → Each (IsThere n m) (pass rely code vs s).log
pass_there n m rely Done vs s h = tt
pass_there n m rely (Literal value rest) vs s h = pass_there n m rely rest (Plain (Span value value) ∷ vs) s h
pass_there n m rely (Read cell rest) vs s h =
    pass_there n m rely rest (read_value rely cell s ∷ vs) (unless_empty (interval_of (read_value rely cell s)) s) h
pass_there n m rely (Operate o rest) [] s h = tt
pass_there n m rely (Operate o rest) (v ∷ []) s h = tt
pass_there n m rely (Operate o rest) (v ∷ u ∷ vs) s h =
    let raw = raw_of o.operator (interval_of u) (interval_of v) in
    each_join (IsThere n m) (log_at s (operation_log o raw)) (pass rely rest (operation_value o raw ∷ vs) (unless_empty (typed o.elem raw) s)).log
    (operation_there n m o raw s) (pass_there n m rely rest (operation_value o raw ∷ vs) (unless_empty (typed o.elem raw) s) h)
pass_there n m rely (Write cell rest) [] s h = tt
pass_there n m rely (Write (Own k) rest) (v ∷ vs) s h =
    each_join (IsThere n m) (log_at s (Wrote (Own k) (interval_of v) ∷ [])) (pass rely rest vs (assigned (Own k) (interval_of v) s)).log
    (wrote_there n m (Own k) (interval_of v) s h.0) (pass_there n m rely rest vs (assigned (Own k) (interval_of v) s) h.1)
pass_there n m rely (Write (Shared k) rest) (v ∷ vs) s h =
    each_join (IsThere n m) (log_at s (Wrote (Shared k) (interval_of v) ∷ [])) (pass rely rest vs (assigned (Shared k) (interval_of v) s)).log
    (wrote_there n m (Shared k) (interval_of v) s h.0) (pass_there n m rely rest vs (assigned (Shared k) (interval_of v) s) h.1)

only_first : {X : Type 0} (xs : List X) (k : ℕ) (x : X) → length xs ≡ 1 → slice_get xs (suc k) ≡ Some x → ⊥
only_first [] k x l e = none-some x e
only_first (y ∷ []) k x l e = none-some x e
only_first (y ∷ z ∷ xs) k x l e = absurd (omega arith)

hulls_none : (is : List Interval) → hulls is [] ≡ is
hulls_none [] = refl
hulls_none (i ∷ is) = refl

solved_closed : (grid : List ℤ) (component : Component) (task : TaskCode) (s : Solution) → IsSolved grid task component.shared s → HasWritten (length task.cells) (length component.shared) (reading task.code)
    → IsClosedFor grid component (table_of s ∷ []) zero task
solved_closed grid component task s h w =
    let n = length task.cells in
    let m = length component.shared in
    let log = (pass_from (reading task.code) (head_of s.head)).log in
    let kept = all_noted (blank n m) log in
    let within : KeptIn grid (table_of s) kept = record {
      own = λ k. subst (λ (i : Interval). IsWithin i (at s.writes.own.items k)) (h.writes.own_is k) (within_refl (at s.writes.own.items k));
      shared = λ k. subst (λ (i : Interval). IsWithin i (at s.writes.shared.items k)) (h.writes.shared_is k) (within_refl (at s.writes.shared.items k));
    } in
    record {
      cells = record { head = h.least.own_places; views = h.least.shared_places; own = h.own_writes; shared = h.shared_writes };
      start = h.start;
      turns = h.turns;
      log = log_in grid (table_of s) n m (blank n m) kept log (length-replicate n Empty, length-replicate m Empty) refl within
          (pass_there n m (record { during = [] }) (reading task.code) [] (Reached s.head.own.items s.head.shared.items) w);
    }

solved_least : (grid : List ℤ) (component : Component) (task : TaskCode) (s : Solution) (part : Part) → IsSolved grid task component.shared s → IsClosedFor grid component (part ∷ []) zero task → IsPartWithin (table_of s) part
solved_least grid component task s part h c =
    let code = reading task.code in
    let n = length task.cells in
    let m = length component.shared in
    let st : IsStable grid code task.cells component.shared part = record { own_places = c.cells.head; shared_places = c.cells.views; start = c.start; turns = c.turns; log = c.log } in
    let w = h.least.least part st in
    let less = pass_mono grid part (record { during = [] }) code [] [] (Reached s.head.own.items s.head.shared.items) (Reached part.cycle.own part.cycle.views) tt
    (head_lies grid code task.cells component.shared (head_of s.head) part h.least st) in
    let kept = kept_in grid part (blank n m) (pass_from code (head_of s.head)).log (blank_in grid part n m) (less.log st.log) in
    record {
      head = w.own;
      views = w.views;
      own = λ k. subst (λ (i : Interval). IsWithin i (at part.own k)) (sym (h.writes.own_is k)) (kept.own k);
      shared = λ k. subst (λ (i : Interval). IsWithin i (at part.shared k)) (sym (h.writes.shared_is k)) (kept.shared k);
    }

nothing_within : (p : Part) → IsPartWithin no_part p
nothing_within p = record { head = λ k. tt; views = λ k. tt; own = λ k. tt; shared = λ k. tt }

pub answers_by : (grid : List ℤ) (component : Component) (task : TaskCode) (s : Solution) → length component.tasks ≡ 1 → slice_get component.tasks 0 ≡ Some task → IsSolved grid task component.shared s → Answers grid component s
answers_by grid component task s one is h = record {
  solution = λ w. record { closed = record { parts = sym one; each = closed w }; least = least };
  least = least;
  alarms = λ t e. subst (λ (x : TaskCode). IsPermutation (alarms_of (pass_of x (table_of s ∷ []) 0).log) s.alarms.items) (same t e) h.alarms;
  ranges = λ t e. subst (λ (x : TaskCode). HasRanges component x s) (same t e) (record {
    own = h.ranges.own_is;
    shared = λ k. subst (λ (x : List Interval). at s.ranges.shared.items k ≡ hull (at (points component.shared) k) (at x k)) (sym (hulls_none s.writes.shared.items)) (h.ranges.shared_is k);
  });
}
  where
    same : (t : TaskCode) → slice_get component.tasks 0 ≡ Some t → task ≡ t
    same t e = same_Some task t (sym is ∙ e)

    closed : WritesCells component → (me : ℕ) (t : TaskCode) → slice_get component.tasks me ≡ Some t → IsClosedFor grid component (table_of s ∷ []) me t
    closed w zero t e = subst (λ (x : TaskCode). IsClosedFor grid component (table_of s ∷ []) zero x) (same t e) (solved_closed grid component task s h (w zero task is))
    closed w (suc k) t e = absurd (only_first component.tasks k t one e)

    least : (other : List Part) → IsClosed grid component other → IsTableWithin (table_of s ∷ []) other
    least [] c me = absurd (let p : length {A = Part} [] ≡ length component.tasks = c.parts in omega arith)
    least (p ∷ []) c zero = solved_least grid component task s p h (c.each zero task is)
    least (p ∷ []) c (suc k) = nothing_within (part_at (p ∷ []) (suc k))
    least (p ∷ q ∷ ps) c me = absurd (let e : length (p ∷ q ∷ ps) ≡ length component.tasks = c.parts in omega arith)

first_is : {X : Type 0} (xs : List X) (x : X) → length xs ≡ 1 → x ≡ get_or xs 0 x → slice_get xs 0 ≡ Some x
first_is [] x l e = absurd (omega arith)
first_is (y ∷ xs) x l e = ap (λ z. Some z) (sym e)

pub solve_by : (grid : List ℤ) (component : Component) (tasks : List TaskCode) (shared : List CellInfo) (task : TaskCode) (s : Solution) → length component.tasks ≡ 1
    → tasks ≡ component.tasks → shared ≡ component.shared → task ≡ get_or tasks 0 task → IsSolved grid task shared s → Answers grid component s
solve_by grid component tasks shared task s one t o e h =
    answers_by grid component task s one
    (first_is component.tasks task one (subst (λ (x : List TaskCode). task ≡ get_or x 0 task) t e))
    (subst (λ (x : List CellInfo). IsSolved grid task x s) o h)
