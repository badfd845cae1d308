-- Every run of a component is covered by a closed table.
use Rattle.std.proofs.Common.{◌≡◌, ◌≢◌, ℕ, List, [], ◌∷◌, Option, Some, None, refl, sym, ap, ◌∙◌, subst, arith, ⊎_elim}
use Rattle.std.specs.Prelude.{◌⊎◌, ℤ, false, slice_get, slice_set}
use Rattle.std.specs.List.{Contains}
use Rattle.std.proofs.lemmas.Option.{same_Some}
use mathlib.Core.Logic.{inl, inr}
use Rattle.iec_tables.specs.declared.kind.Kind.{Kind}
use Rattle.interval_domain.specs.Interval.{Interval, Holds}
use Rattle.st_tree.specs.declared.code.Cell.TheVariants.{Own, Shared}
use Rattle.st_tree.specs.declared.code.CellInfo.{CellInfo}
use Rattle.st_tree.specs.declared.code.TaskCode.{TaskCode}
use Rattle.st_tree.specs.declared.code.Component.{Component}
use Rattle.st_tree.specs.declared.node.Site.{Site}
use Rattle.st_tree.specs.Code.{reading}
use Rattle.task_meaning.specs.Meaning.{State as Whole, TaskState, Numbers, Written, Move, Act, Goes, Faults, Waits, Outcome, Continues, Faulty, cycle_of, act, acted, step_of, step, go_on, run, starts, state_at_start, unwritten, start}
use Rattle.cycle_analysis.specs.declared.task_pass.Value.{Value}
use Rattle.cycle_analysis.specs.Pass.{State, Unreachable, Reached, Entry, Wrote, Alarm, at}
use Rattle.cycle_analysis.specs.Table.{Part, part_at, all_writes, others, pass_of, InPart, Each, points, IsClosed, IsAlarmed, own_range, shared_range, InRanges, IsCovered, Theorem, HasNoAlarm, GoesOn, Theorem_free}
use Rattle.interval_domain.proofs.Within.{within_refl, within_hull_left, within_hull_right}
use Rattle.cycle_analysis.proofs.Intervals.{within_holds, rounded_within, writes_all, writes_others, at_points, below_leads}
use Rattle.cycle_analysis.proofs.Lists.{got_set, length_set, got_map, length_map, contains_one}
use Rattle.cycle_analysis.proofs.Invariant.{is_mine, Seen, ViewFit, FitAt, Allowed, Accepts, Covers, Holds_of, Invariant}
use Rattle.cycle_analysis.proofs.Steps.{IsGood, step_good}

-- ---- the steps of others

abbrev written_by : ℕ → ℤ → List Written
written_by me v = record { value = v; writer = Some me } ∷ []

not_mine : (me u : ℕ) → u ≢ me → is_mine me (Some u) ≡ false
not_mine me u ne = grind arith

-- another task writes a number that lies in what the others write
stable_view : (me u : ℕ) → u ≢ me → (during : List Interval) (shared : List (List Written)) (vs : List Interval) (k : ℕ) (v : ℤ) → Holds (at during k) v
    → ViewFit me during shared vs → ViewFit me during (slice_set shared k (written_by u v)) vs
stable_view me u ne during shared vs k v h f l cell e =
    ⊎_elim
    (λ p. (
      record { value = v; writer = Some u },
      p.1,
      subst (λ n. Seen (is_mine me (Some u)) (at vs n) (at during n) v) (sym p.0)
          (subst (λ b. Seen b (at vs k) (at during k) v) (sym (not_mine me u ne)) h),
    ))
    (λ p. f l cell p.1)
    (got_set shared k (written_by u v) l cell e)

stable_fit : (part : Part) (me u : ℕ) → u ≢ me → (during : List Interval) (shared : List (List Written)) (own : List Numbers) (k : ℕ) (v : ℤ) (s : State) → Holds (at during k) v
    → FitAt part me during shared own s → FitAt part me during (slice_set shared k (written_by u v)) own s
stable_fit part me u ne during shared own k v Unreachable h f = f
stable_fit part me u ne during shared own k v (Reached is vs) h f = record {
  own_fit = f.own_fit;
  view_fit = stable_view me u ne during shared vs k v h f.view_fit;
  own_cells = f.own_cells;
  own_places = f.own_places;
  shared_cells = length_set shared k (written_by u v) ∙ f.shared_cells;
  shared_places = f.shared_places;
}

stable : (allowed : Allowed) (part : Part) (me u : ℕ) → u ≢ me → (during : List Interval) (shared : List (List Written)) (state : TaskState) (k : ℕ) (v : ℤ) → Holds (at during k) v
    → Invariant allowed part during me shared state → Invariant allowed part during me (slice_set shared k (written_by u v)) state
stable allowed part me u ne during shared state k v h inv = record {
  at_state = inv.at_state;
  values = inv.values;
  holds = record {
    covers = inv.holds.covers;
    fit = stable_fit part me u ne during shared state.own k v inv.at_state h inv.holds.fit;
    numbers = inv.holds.numbers;
  };
}

-- ---- the pass over a cycle

log_accepted : (allowed : Allowed) (grid : List ℤ) (part : Part) (log : List Entry) → ((kind : Kind) (site : Site) (v : ℤ) → IsAlarmed log kind site v → allowed kind site v)
    → Each (InPart grid part) log → Each (Accepts allowed part) log
log_accepted allowed grid part [] sub h = tt
log_accepted allowed grid part (Wrote (Own k) i ∷ log) sub h = (rounded_within grid i (at part.own k) h.0, log_accepted allowed grid part log sub h.1)
log_accepted allowed grid part (Wrote (Shared k) i ∷ log) sub h = (rounded_within grid i (at part.shared k) h.0, log_accepted allowed grid part log sub h.1)
log_accepted allowed grid part (Alarm kind site i ∷ log) sub h =
    ((λ v hv. sub kind site v (inl (refl, refl, hv))), log_accepted allowed grid part log (λ k n v a. sub k n v (inr a)) h.1)

module _ (grid : List ℤ) (component : Component) (table : List Part) (closed : IsClosed grid component table) where
  abbrev may : ℕ → Allowed
  may me kind site v = (task : TaskCode) × (slice_get component.tasks me ≡ Some task) × IsAlarmed (pass_of task table me).log kind site v

  abbrev Inv_of : ℕ → List (List Written) → TaskState → Type 0
  Inv_of me shared s = Invariant (may me) (part_at table me) (others table me) me shared s

  cycle_covers : (me : ℕ) (task : TaskCode) → slice_get component.tasks me ≡ Some task
      → Covers (may me) (part_at table me) (record { during = others table me }) (cycle_of (reading task.code)) [] (Reached (part_at table me).cycle.own (part_at table me).cycle.views)
  cycle_covers me task is =
      let c = closed.each me task is in (
        log_accepted (may me) grid (part_at table me) (pass_of task table me).log (λ kind site v a. (task, is, a)) c.log,
        below_leads grid (pass_of task table me).state (part_at table me).cycle c.turns,
      )

  -- what holds between two steps of the whole
  record Kept (whole : Whole) : Type 0 where
    pub each : (me : ℕ) (task : TaskCode) (s : TaskState) → slice_get component.tasks me ≡ Some task → slice_get whole.tasks me ≡ Some s → Inv_of me whole.shared s
    pub ranges : InRanges component table whole

  abbrev IsFine : Outcome → Type 0
  IsFine (Continues whole) = Kept whole
  IsFine (Faulty whole me kind site v) = InRanges component table whole × may me kind site v

  abbrev Good : ℕ → TaskCode → List (List Written) → List Numbers → Act → Type 0
  Good me task shared own a = IsGood (may me) (part_at table me) (others table me) me (reading task.code) shared own a

  act_good : (me : ℕ) (task : TaskCode) (shared : List (List Written)) (s : TaskState) → slice_get component.tasks me ≡ Some task → Inv_of me shared s
      → Good me task shared s.own (act (reading task.code) me shared s)
  act_good me task shared s is inv = go inv.at_state inv.values inv.holds
    where
      go : (at_state : State) (values : List Value) → Holds_of (may me) (part_at table me) (others table me) me shared s at_state values
          → Good me task shared s.own (act (reading task.code) me shared s)
      go Unreachable values h = absurd h.fit
      go (Reached ks vs) values h =
          step_good (may me) (part_at table me) (others table me) me (reading task.code) (cycle_covers me task is) shared s.work s.stack s.own ks vs values h.covers h.fit h.numbers

  own_kept : (me : ℕ) (task : TaskCode) (whole : Whole) (s : TaskState) → slice_get component.tasks me ≡ Some task → slice_get whole.tasks me ≡ Some s → InRanges component table whole
      → (own : List Numbers) → (own ≡ s.own) ⊎ ((k : ℕ) × (v : ℤ) × Holds (at (part_at table me).own k) v × (own ≡ slice_set s.own k (v ∷ [])))
      → (l : ℕ) (cell : Numbers) (x : ℤ) → slice_get own l ≡ Some cell → Contains cell x → Holds (own_range task (part_at table me) l) x
  own_kept me task whole s is at_s r own (inl same) l cell x e m =
      r.own me task s l cell x is at_s (subst (λ (o : List Numbers). slice_get o l ≡ Some cell) same e) m
  own_kept me task whole s is at_s r own (inr (k, v, h, same)) l cell x e m =
      ⊎_elim
      (λ p.
      let one : v ≡ x = contains_one v x (subst (λ (c : Numbers). Contains c x) p.1 m) in
      let part = part_at table me in
      within_holds (at part.own l) (own_range task part l) x (within_hull_right (at (points task.cells) l) (at part.own l))
      (subst (λ n. Holds (at part.own n) x) (sym p.0) (subst (λ (z : ℤ). Holds (at part.own k) z) one h)))
      (λ p. r.own me task s l cell x is at_s p.1 m)
      (got_set s.own k (v ∷ []) l cell (subst (λ (o : List Numbers). slice_get o l ≡ Some cell) same e))

  shared_kept : (me : ℕ) (whole : Whole) → InRanges component table whole
      → (shared : List (List Written)) → (shared ≡ whole.shared) ⊎ ((k : ℕ) × (v : ℤ) × Holds (at (part_at table me).shared k) v × (shared ≡ slice_set whole.shared k (written_by me v)))
      → (l : ℕ) (cell : List Written) (g : Written) → slice_get shared l ≡ Some cell → Contains cell g → Holds (shared_range component table l) g.value
  shared_kept me whole r shared (inl same) l cell g e m = r.shared l cell g (subst (λ (o : List (List Written)). slice_get o l ≡ Some cell) same e) m
  shared_kept me whole r shared (inr (k, v, h, same)) l cell g e m =
      ⊎_elim
      (λ p.
      let one = contains_one (record { value = v; writer = Some me }) g (subst (λ (c : List Written). Contains c g) p.1 m) in
      let a = within_holds (at (part_at table me).shared k) (at (all_writes table) k) v (writes_all table me k) h in
      let b = within_holds (at (all_writes table) k) (shared_range component table k) v (within_hull_right (at (points component.shared) k) (at (all_writes table) k)) a in
      subst (λ n. Holds (shared_range component table n) g.value) (sym p.0) (subst (λ (w : Written). Holds (shared_range component table k) w.value) one b))
      (λ p. r.shared l cell g p.1 m)
      (got_set whole.shared k (written_by me v) l cell (subst (λ (o : List (List Written)). slice_get o l ≡ Some cell) same e))

  -- another task keeps its invariant
  other_kept : (me t : ℕ) → t ≢ me → (whole : Whole) (s : TaskState) (shared : List (List Written))
      → (shared ≡ whole.shared) ⊎ ((k : ℕ) × (v : ℤ) × Holds (at (part_at table me).shared k) v × (shared ≡ slice_set whole.shared k (written_by me v)))
      → Inv_of t whole.shared s → Inv_of t shared s
  other_kept me t ne whole s shared (inl same) inv = subst (λ (sh : List (List Written)). Inv_of t sh s) (sym same) inv
  other_kept me t ne whole s shared (inr (k, v, h, same)) inv =
      let other : me ≢ t = λ e. ne (sym e) in
      let d = within_holds (at (part_at table me).shared k) (at (others table t) k) v (writes_others table t me other k) h in
      subst (λ (sh : List (List Written)). Inv_of t sh s) (sym same) (stable (may t) (part_at table t) t me other (others table t) whole.shared s k v d inv)

  acted_fine : (me : ℕ) (task : TaskCode) (whole : Whole) (s : TaskState) → slice_get component.tasks me ≡ Some task → slice_get whole.tasks me ≡ Some s → Kept whole
      → (a : Act) → Good me task whole.shared s.own a → IsFine (acted whole me a)
  acted_fine me task whole s is at_s kept Waits good = kept
  acted_fine me task whole s is at_s kept (Faults kind site v) good = (kept.ranges, good)
  acted_fine me task whole s is at_s kept (Goes shared state) good = record {
    each = λ t task' s' is' e.
        ⊎_elim
        (λ p. subst (λ n. Inv_of n shared s') (sym p.0) (subst (λ (x : TaskState). Inv_of me shared x) (sym p.1) good.after))
        (λ p. other_kept me t p.0 whole s' shared good.writes (kept.each t task' s' is' p.1))
        (got_set whole.tasks me state t s' e);
    ranges = record {
      own = λ t task' s' l cell x is' e el m.
          ⊎_elim
          (λ p.
          let same = same_Some task task' (sym is ∙ (subst (λ n. slice_get component.tasks n ≡ Some task') p.0 is')) in
          subst (λ n. Holds (own_range task' (part_at table n) l) x) (sym p.0)
          (subst (λ (y : TaskCode). Holds (own_range y (part_at table me) l) x) same
          (own_kept me task whole s is at_s kept.ranges state.own good.own_writes l cell x (subst (λ (o : TaskState). slice_get o.own l ≡ Some cell) p.1 el) m)))
          (λ p. kept.ranges.own t task' s' l cell x is' p.1 el m)
          (got_set whole.tasks me state t s' e);
      shared = shared_kept me whole kept.ranges shared good.writes;
    };
  }

  step_fine : (whole : Whole) (move : Move) → Kept whole → IsFine (step component whole move)
  step_fine whole move kept = go (slice_get component.tasks move.task) refl (slice_get whole.tasks move.task) refl
    where
      go : (o : Option TaskCode) → slice_get component.tasks move.task ≡ o → (q : Option TaskState) → slice_get whole.tasks move.task ≡ q → IsFine (step_of whole move.task o q)
      go None e q f = kept
      go (Some task) e None f = kept
      go (Some task) e (Some s) f =
          acted_fine move.task task whole s e f kept (act (reading task.code) move.task whole.shared s)
          (act_good move.task task whole.shared s e (kept.each move.task task s e f))

  then_fine : (go : Whole → Outcome) → ((whole : Whole) → Kept whole → IsFine (go whole)) → (o : Outcome) → IsFine o → IsFine (go_on o go)
  then_fine go f (Continues whole) h = f whole h
  then_fine go f (Faulty whole me kind site v) h = h

  run_fine : (moves : List Move) (whole : Whole) → Kept whole → IsFine (run component moves whole)
  run_fine [] whole kept = kept
  run_fine (move ∷ moves) whole kept = then_fine (run component moves) (run_fine moves) (step component whole move) (step_fine whole move kept)

  -- ---- the start

  -- a cell at the start holds its start value
  own_start : (cells : List CellInfo) (k : ℕ) (cell : Numbers) → slice_get (starts cells) k ≡ Some cell → (v : ℤ) × (cell ≡ v ∷ []) × Holds (at (points cells) k) v
  own_start cells k cell e =
      let m = got_map (λ (c : CellInfo). c.start ∷ []) cells k cell e in
      (m.0.start, m.2, at_points cells k m.0 m.1)

  shared_start : (k : ℕ) (cell : List Written) → slice_get (start component).shared k ≡ Some cell
      → (v : ℤ) × (cell ≡ record { value = v; writer = None } ∷ []) × Holds (at (points component.shared) k) v
  shared_start k cell e =
      let m = got_map unwritten (starts component.shared) k cell e in
      let n = own_start component.shared k m.0 m.1 in
      (n.0, m.2 ∙ ap unwritten n.1, n.2)

  task_start : (me : ℕ) (task : TaskCode) → slice_get component.tasks me ≡ Some task → Inv_of me (start component).shared (state_at_start task)
  task_start me task is =
      let c = closed.each me task is in
      let head = (part_at table me).cycle in
      let below = below_leads grid (Reached (points task.cells) (points component.shared)) (part_at table me).cycle c.start in
      record {
        at_state = Reached (part_at table me).cycle.own (part_at table me).cycle.views;
        values = [];
        holds = record {
          covers = ((λ k. within_refl (at (part_at table me).cycle.own k)), (λ k. within_refl (at (part_at table me).cycle.views k)));
          fit = record {
            own_fit = λ k cell e.
                let m = own_start task.cells k cell e in
                (m.0, m.1, within_holds (at (points task.cells) k) (at head.own k) m.0 (below.0 k) m.2);
            view_fit = λ k cell e.
                let m = shared_start k cell e in
                (record { value = m.0; writer = None }, m.1, within_holds (at (points component.shared) k) (at head.views k) m.0 (below.1 k) m.2);
            own_cells = length_map (λ (c : CellInfo). c.start ∷ []) task.cells ∙ sym c.cells.head;
            own_places = refl;
            shared_cells = length_map unwritten (starts component.shared) ∙ length_map (λ (c : CellInfo). c.start ∷ []) component.shared ∙ sym c.cells.views;
            shared_places = refl;
          };
          numbers = tt;
        };
      }

  start_kept : Kept (start component)
  start_kept = record {
    each = λ me task s is e.
        let m = got_map state_at_start component.tasks me s e in
        let same = same_Some m.0 task (sym m.1 ∙ is) in
        subst (λ (x : TaskState). Inv_of me (start component).shared x) (sym (m.2 ∙ ap state_at_start same)) (task_start me task is);
    ranges = record {
      own = λ me task s k cell v is e ek c.
          let m = got_map state_at_start component.tasks me s e in
          let same = same_Some m.0 task (sym m.1 ∙ is) in
          let n = own_start task.cells k cell (subst (λ (x : TaskState). slice_get x.own k ≡ Some cell) (m.2 ∙ ap state_at_start same) ek) in
          let one : n.0 ≡ v = contains_one n.0 v (subst (λ (l : Numbers). Contains l v) n.1 c) in
          within_holds (at (points task.cells) k) (own_range task (part_at table me) k) v (within_hull_left (at (points task.cells) k) (at (part_at table me).own k))
          (subst (λ (x : ℤ). Holds (at (points task.cells) k) x) one n.2);
      shared = λ k cell g e c.
          let n = shared_start k cell e in
          let one = contains_one (record { value = n.0; writer = None }) g (subst (λ (l : List Written). Contains l g) n.1 c) in
          within_holds (at (points component.shared) k) (shared_range component table k) g.value (within_hull_left (at (points component.shared) k) (at (all_writes table) k))
          (subst (λ (w : Written). Holds (at (points component.shared) k) w.value) one n.2);
    };
  }

  fine_covered : (o : Outcome) → IsFine o → IsCovered component table o
  fine_covered (Continues whole) h = h.ranges
  fine_covered (Faulty whole me kind site v) h = h

  covered_all : (moves : List Move) → IsCovered component table (run component moves (start component))
  covered_all moves = fine_covered (run component moves (start component)) (run_fine moves (start component) start_kept)

pub covered : Theorem
covered grid component table closed moves = covered_all grid component table closed moves

-- ---- where no pass tells an alarm

none_alarmed : (log : List Entry) (kind : Kind) (site : Site) (v : ℤ) → HasNoAlarm log → IsAlarmed log kind site v → ⊥
none_alarmed [] kind site v n a = a
none_alarmed (Wrote cell i ∷ log) kind site v n a = none_alarmed log kind site v n a
none_alarmed (Alarm k m i ∷ log) kind site v n a = n

pub free : Theorem_free
free grid component table closed none moves = go (run component moves (start component)) (covered grid component table closed moves)
  where
    go : (o : Outcome) → IsCovered component table o → GoesOn component table o
    go (Continues whole) h = h
    go (Faulty whole me kind site v) h =
        let a = h.1 in
        none_alarmed (pass_of a.0 table me).log kind site v (none me a.0 a.1) a.2
