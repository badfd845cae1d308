-- A pass from a larger state ends in no smaller one and tells no less; and it keeps how many cells there are.
use Rattle.std.proofs.Common.{◌≡◌, ℕ, zero, suc, ◌<◌, Bool, true, false, List, [], ◌∷◌, ◌++◌, length, refl, sym, ◌∙◌, arith, ⊎_elim, replicate}
use mathlib.Core.Logic.{inl, inr}
use Rattle.std.specs.Prelude.{◌⊎◌, ℤ, pos, ◌≤ℤ◌, ◌+ℤ◌, ◌-ℤ◌, neg_ℤ, ◌^◌, ◌-◌, int_le, if◌then◌else◌}
use Rattle.std.specs.Int.{int_max, int_min}
use Rattle.std.proofs.lemmas.Int.{ints, clamps, by_lt_z}
use Rattle.iec_tables.specs.declared.kind.Kind.TheVariants.{Overflow}
use Rattle.iec_tables.specs.declared.elem.Elem.{Elem}
use Rattle.interval_domain.specs.Interval.{Interval, Empty, Span, IsWithin, span, hull, meet}
use Rattle.interval_domain.specs.Operators.{range_of, typed, is_alarmed, kept}
use Rattle.interval_domain.specs.Grid.{rounded, floor_in, ceiling_in}
use Rattle.interval_domain.proofs.Rounding.{rounded-grows}
use Rattle.st_tree.specs.declared.code.Cell.{Cell}
use Rattle.st_tree.specs.declared.code.Cell.TheVariants.{Own, Shared}
use Rattle.st_tree.specs.declared.code.Operation.{Operation}
use Rattle.st_tree.specs.declared.code.Operator.{Operator}
use Rattle.st_tree.specs.declared.code.Operator.TheVariants.{Add, Subtract}
use Rattle.st_tree.specs.Code.{Instructions, Done, Literal, Read, Operate, Write}
use Rattle.cycle_analysis.specs.declared.task_pass.Value.{Value}
use Rattle.cycle_analysis.specs.declared.task_pass.Value.TheVariants.{Plain}
use Rattle.cycle_analysis.specs.Pass.{State, Unreachable, Reached, Entry, Wrote, Alarm, Rely, Passed, at, put, interval_of, unless_empty, own_at, view_at, put_at, assigned, log_at, read_value, raw_of, operation_log, operation_value, nothing, pass}
use Rattle.cycle_analysis.specs.Table.{Part, InPart, Each}
use Rattle.cycle_analysis.specs.Fill.{Kept, noted, all_noted}
use Rattle.cycle_analysis.proofs.Rows.{at_empties}
use Rattle.interval_domain.proofs.Within.{within_refl, within_trans, within_hull_left, within_hull_right}
use Rattle.cycle_analysis.proofs.Intervals.{at-put_same, length-put}

pub span_mono : (a b c d : ℤ) → c ≤ℤ a → b ≤ℤ d → IsWithin (span a b) (span c d)
span_mono a b c d p q = go (int_le a b) refl (int_le c d) refl
  where
    go : (s : Bool) → int_le a b ≡ s → (t : Bool) → int_le c d ≡ t → IsWithin (if s then Span a b else Empty) (if t then Span c d else Empty)
    go false e t f = tt
    go true e true f = (p, q)
    go true e false f = absurd (grind (arith, ints))

pub hull_mono : (i j k l : Interval) → IsWithin i k → IsWithin j l → IsWithin (hull i j) (hull k l)
hull_mono Empty j k l p q = within_trans j l (hull k l) q (within_hull_right k l)
hull_mono (Span a b) Empty k l p q = within_trans (Span a b) k (hull k l) p (within_hull_left k l)
hull_mono (Span a b) (Span c d) Empty l p q = absurd p
hull_mono (Span a b) (Span c d) (Span e f) Empty p q = absurd q
hull_mono (Span a b) (Span c d) (Span e f) (Span g h) p q = (omega (arith, ints, clamps), omega (arith, ints, clamps))

meet_mono : (i j k l : Interval) → IsWithin i k → IsWithin j l → IsWithin (meet i j) (meet k l)
meet_mono Empty j k l p q = tt
meet_mono (Span a b) Empty k l p q = tt
meet_mono (Span a b) (Span c d) Empty l p q = absurd p
meet_mono (Span a b) (Span c d) (Span e f) Empty p q = absurd q
meet_mono (Span a b) (Span c d) (Span e f) (Span g h) p q =
    span_mono (int_max a c) (int_min b d) (int_max e g) (int_min f h) (omega (arith, ints, clamps)) (omega (arith, ints, clamps))

typed_mono : (t : Elem) (i j : Interval) → IsWithin i j → IsWithin (typed t i) (typed t j)
typed_mono t i j p = meet_mono i (range_of t) j (range_of t) p (within_refl (range_of t))

clamp_mono : (l u x y : ℤ) → x ≤ℤ y → int_max l (int_min u x) ≤ℤ int_max l (int_min u y)
clamp_mono l u x y h = omega (arith, ints, clamps)

kept_mono : (x y : ℤ) → x ≤ℤ y → kept x ≤ℤ kept y
kept_mono x y h = clamp_mono (neg_ℤ (pos (2 ^ 127 - 1))) (pos (2 ^ 127 - 1)) x y h

raw_mono : (op : Operator) (i j k l : Interval) → IsWithin i k → IsWithin j l → IsWithin (raw_of op i j) (raw_of op k l)
raw_mono Add Empty j k l p q = tt
raw_mono Add (Span a b) Empty k l p q = tt
raw_mono Add (Span a b) (Span c d) Empty l p q = absurd p
raw_mono Add (Span a b) (Span c d) (Span e f) Empty p q = absurd q
raw_mono Add (Span a b) (Span c d) (Span e f) (Span g h) p q =
    (kept_mono (e +ℤ g) (a +ℤ c) (omega (arith, ints)), kept_mono (b +ℤ d) (f +ℤ h) (omega (arith, ints)))
raw_mono Subtract Empty j k l p q = tt
raw_mono Subtract (Span a b) Empty k l p q = tt
raw_mono Subtract (Span a b) (Span c d) Empty l p q = absurd p
raw_mono Subtract (Span a b) (Span c d) (Span e f) Empty p q = absurd q
raw_mono Subtract (Span a b) (Span c d) (Span e f) (Span g h) p q =
    (kept_mono (e -ℤ h) (a -ℤ d) (omega (arith, ints)), kept_mono (b -ℤ c) (f -ℤ g) (omega (arith, ints)))

-- the first state lies in the second
abbrev pub Lies : State → State → Type 0
Lies Unreachable t = Unit {0}
Lies (Reached is vs) Unreachable = ⊥
Lies (Reached is vs) (Reached js ws) =
    (length is ≡ length js) × (length vs ≡ length ws) × ((k : ℕ) → IsWithin (at is k) (at js k)) × ((k : ℕ) → IsWithin (at vs k) (at ws k))

put_lies : (is js : List Interval) (k : ℕ) (i j : Interval) → length is ≡ length js → ((l : ℕ) → IsWithin (at is l) (at js l)) → IsWithin i j → (l : ℕ) → IsWithin (at (put is k i) l) (at (put js k j) l)
put_lies [] [] k i j e p q l = tt
put_lies [] (y ∷ js) k i j e p q l = absurd (omega arith)
put_lies (x ∷ is) [] k i j e p q l = absurd (omega arith)
put_lies (x ∷ is) (y ∷ js) zero i j e p q zero = q
put_lies (x ∷ is) (y ∷ js) zero i j e p q (suc l) = p (suc l)
put_lies (x ∷ is) (y ∷ js) (suc k) i j e p q zero = p zero
put_lies (x ∷ is) (y ∷ js) (suc k) i j e p q (suc l) = put_lies is js k i j (omega arith) (λ m. p (suc m)) q l

unless_lies : (i j : Interval) (s t : State) → IsWithin i j → Lies s t → Lies (unless_empty i s) (unless_empty j t)
unless_lies Empty j s t p q = tt
unless_lies (Span a b) Empty s t p q = absurd p
unless_lies (Span a b) (Span c d) s t p q = q

own_mono : (s t : State) (k : ℕ) → Lies s t → IsWithin (own_at s k) (own_at t k)
own_mono Unreachable t k p = tt
own_mono (Reached is vs) Unreachable k p = absurd p
own_mono (Reached is vs) (Reached js ws) k p = p.2 k

view_mono : (s t : State) (k : ℕ) → Lies s t → IsWithin (view_at s k) (view_at t k)
view_mono Unreachable t k p = tt
view_mono (Reached is vs) Unreachable k p = absurd p
view_mono (Reached is vs) (Reached js ws) k p = p.3 k

put_at_mono : (cell : Cell) (i j : Interval) (s t : State) → IsWithin i j → Lies s t → Lies (put_at cell i s) (put_at cell j t)
put_at_mono cell i j Unreachable t p q = tt
put_at_mono cell i j (Reached is vs) Unreachable p q = absurd q
put_at_mono (Own k) i j (Reached is vs) (Reached js ws) p q =
    (length-put is k i ∙ q.0 ∙ sym (length-put js k j), q.1, put_lies is js k i j q.0 q.2 p, q.3)
put_at_mono (Shared k) i j (Reached is vs) (Reached js ws) p q =
    (q.0, length-put vs k i ∙ q.1 ∙ sym (length-put ws k j), q.2, put_lies vs ws k i j q.1 q.3 p)

assigned_mono : (cell : Cell) (i j : Interval) (s t : State) → IsWithin i j → Lies s t → Lies (assigned cell i s) (assigned cell j t)
assigned_mono cell i j s t p q = unless_lies i j (put_at cell i s) (put_at cell j t) p (put_at_mono cell i j s t p q)

read_mono : (rely : Rely) (cell : Cell) (s t : State) → Lies s t → IsWithin (interval_of (read_value rely cell s)) (interval_of (read_value rely cell t))
read_mono rely (Own k) s t p = own_mono s t k p
read_mono rely (Shared k) s t p =
    hull_mono (view_at s k) (at rely.during k) (view_at t k) (at rely.during k) (view_mono s t k p) (within_refl (at rely.during k))

-- the stacks have values of the same places, each of the first within that of the second
abbrev pub Stacks : List Value → List Value → Type 0
Stacks [] [] = Unit {0}
Stacks [] (w ∷ ws) = ⊥
Stacks (v ∷ vs) [] = ⊥
Stacks (v ∷ vs) (w ∷ ws) = IsWithin (interval_of v) (interval_of w) × Stacks vs ws

-- what is told lies in a part
abbrev pub AllIn : List ℤ → Part → List Entry → Type 0
AllIn grid part log = Each (InPart grid part) log

pub each_join : (grid : List ℤ) (part : Part) (xs ys : List Entry) → AllIn grid part xs → AllIn grid part ys → AllIn grid part (xs ++ ys)
each_join grid part [] ys p q = q
each_join grid part (x ∷ xs) ys p q = (p.0, each_join grid part xs ys p.1 q)

each_front : (grid : List ℤ) (part : Part) (xs ys : List Entry) → AllIn grid part (xs ++ ys) → AllIn grid part xs
each_front grid part [] ys p = tt
each_front grid part (x ∷ xs) ys p = (p.0, each_front grid part xs ys p.1)

each_back : (grid : List ℤ) (part : Part) (xs ys : List Entry) → AllIn grid part (xs ++ ys) → AllIn grid part ys
each_back grid part [] ys p = p
each_back grid part (x ∷ xs) ys p = each_back grid part xs ys p.1

pub record Less (grid : List ℤ) (part : Part) (y z : Passed) : Type 0 where
  pub state : Lies y.state z.state
  pub log : AllIn grid part z.log → AllIn grid part y.log

wrote_in : (grid : List ℤ) (part : Part) (cell : Cell) (i j : Interval) → IsWithin i j → InPart grid part (Wrote cell j) → InPart grid part (Wrote cell i)
wrote_in grid part (Own k) i j w h = within_trans (rounded grid i) (rounded grid j) (at part.own k) (rounded-grows grid i j w) h
wrote_in grid part (Shared k) i j w h = within_trans (rounded grid i) (rounded grid j) (at part.shared k) (rounded-grows grid i j w) h

wrote_mono : (grid : List ℤ) (part : Part) (cell : Cell) (i j : Interval) (s t : State) → IsWithin i j → Lies s t → AllIn grid part (log_at t (Wrote cell j ∷ [])) → AllIn grid part (log_at s (Wrote cell i ∷ []))
wrote_mono grid part cell i j Unreachable t w l h = tt
wrote_mono grid part cell i j (Reached is vs) Unreachable w l h = absurd l
wrote_mono grid part cell i j (Reached is vs) (Reached js ws) w l h = (wrote_in grid part cell i j w h.0, tt)

pub operation_in : (grid : List ℤ) (part : Part) (o : Operation) (raw : Interval) (s : State) → AllIn grid part (log_at s (operation_log o raw))
operation_in grid part o raw Unreachable = tt
operation_in grid part o raw (Reached is vs) = go (is_alarmed Overflow raw (range_of o.elem))
  where
    go : (b : Bool) → AllIn grid part (if b then Alarm Overflow o.site raw ∷ [] else [])
    go true = (tt, tt)
    go false = tt

nothing_less : (grid : List ℤ) (part : Part) (z : Passed) → Less grid part nothing z
nothing_less grid part z = record { state = tt; log = λ h. tt }

pub pass_mono : (grid : List ℤ) (part : Part) (rely : Rely) (code : Instructions) (vs ws : List Value) (s t : State) → Stacks vs ws → Lies s t → Less grid part (pass rely code vs s) (pass rely code ws t)
pass_mono grid part rely Done vs ws s t p q = record { state = q; log = λ h. tt }
pass_mono grid part rely (Literal value rest) vs ws s t p q =
    pass_mono grid part rely rest (Plain (Span value value) ∷ vs) (Plain (Span value value) ∷ ws) s t (within_refl (Span value value), p) q
pass_mono grid part rely (Read cell rest) vs ws s t p q =
    let r = read_mono rely cell s t q in
    pass_mono grid part rely rest (read_value rely cell s ∷ vs) (read_value rely cell t ∷ ws)
    (unless_empty (interval_of (read_value rely cell s)) s) (unless_empty (interval_of (read_value rely cell t)) t)
    (r, p) (unless_lies (interval_of (read_value rely cell s)) (interval_of (read_value rely cell t)) s t r q)
pass_mono grid part rely (Operate o rest) [] ws s t p q = nothing_less grid part (pass rely (Operate o rest) ws t)
pass_mono grid part rely (Operate o rest) (v ∷ []) ws s t p q = nothing_less grid part (pass rely (Operate o rest) ws t)
pass_mono grid part rely (Operate o rest) (v ∷ u ∷ vs) [] s t p q = absurd p
pass_mono grid part rely (Operate o rest) (v ∷ u ∷ vs) (w ∷ []) s t p q = absurd p.1
pass_mono grid part rely (Operate o rest) (v ∷ u ∷ vs) (w ∷ x ∷ ws) s t p q =
    let raw = raw_of o.operator (interval_of u) (interval_of v) in
    let wide = raw_of o.operator (interval_of x) (interval_of w) in
    let r = typed_mono o.elem raw wide (raw_mono o.operator (interval_of u) (interval_of v) (interval_of x) (interval_of w) p.1.0 p.0) in
    let m = pass_mono grid part rely rest (operation_value o raw ∷ vs) (operation_value o wide ∷ ws) (unless_empty (typed o.elem raw) s) (unless_empty (typed o.elem wide) t)
    (r, p.1.1) (unless_lies (typed o.elem raw) (typed o.elem wide) s t r q) in
    record {
      state = m.state;
      log = λ h. each_join grid part (log_at s (operation_log o raw)) (pass rely rest (operation_value o raw ∷ vs) (unless_empty (typed o.elem raw) s)).log
          (operation_in grid part o raw s)
          (m.log (each_back grid part (log_at t (operation_log o wide)) (pass rely rest (operation_value o wide ∷ ws) (unless_empty (typed o.elem wide) t)).log h));
    }
pass_mono grid part rely (Write cell rest) [] ws s t p q = nothing_less grid part (pass rely (Write cell rest) ws t)
pass_mono grid part rely (Write cell rest) (v ∷ vs) [] s t p q = absurd p
pass_mono grid part rely (Write cell rest) (v ∷ vs) (w ∷ ws) s t p q =
    let i = interval_of v in
    let j = interval_of w in
    let m = pass_mono grid part rely rest vs ws (assigned cell i s) (assigned cell j t) p.1 (assigned_mono cell i j s t p.0 q) in
    record {
      state = m.state;
      log = λ h. each_join grid part (log_at s (Wrote cell i ∷ [])) (pass rely rest vs (assigned cell i s)).log
          (wrote_mono grid part cell i j s t p.0 q (each_front grid part (log_at t (Wrote cell j ∷ [])) (pass rely rest ws (assigned cell j t)).log h))
          (m.log (each_back grid part (log_at t (Wrote cell j ∷ [])) (pass rely rest ws (assigned cell j t)).log h));
    }

-- ---- how many cells there are

abbrev pub Has : ℕ → ℕ → State → Type 0
Has n m Unreachable = Unit {0}
Has n m (Reached is vs) = (length is ≡ n) × (length vs ≡ m)

unless_has : (n m : ℕ) (i : Interval) (s : State) → Has n m s → Has n m (unless_empty i s)
unless_has n m Empty s h = tt
unless_has n m (Span a b) s h = h

assigned_has : (n m : ℕ) (cell : Cell) (i : Interval) (s : State) → Has n m s → Has n m (assigned cell i s)
assigned_has n m cell i Unreachable h = unless_has n m i Unreachable tt
assigned_has n m (Own k) i (Reached is vs) h = unless_has n m i (Reached (put is k i) vs) (length-put is k i ∙ h.0, h.1)
assigned_has n m (Shared k) i (Reached is vs) h = unless_has n m i (Reached is (put vs k i)) (h.0, length-put vs k i ∙ h.1)

pub pass_has : (n m : ℕ) (rely : Rely) (code : Instructions) (vs : List Value) (s : State) → Has n m s → Has n m (pass rely code vs s).state
pass_has n m rely Done vs s h = h
pass_has n m rely (Literal value rest) vs s h = pass_has n m rely rest (Plain (Span value value) ∷ vs) s h
pass_has n m rely (Read cell rest) vs s h =
    pass_has n m rely rest (read_value rely cell s ∷ vs) (unless_empty (interval_of (read_value rely cell s)) s) (unless_has n m (interval_of (read_value rely cell s)) s h)
pass_has n m rely (Operate o rest) [] s h = tt
pass_has n m rely (Operate o rest) (v ∷ []) s h = tt
pass_has n m rely (Operate o rest) (v ∷ u ∷ vs) s h =
    let raw = raw_of o.operator (interval_of u) (interval_of v) in
    pass_has n m rely rest (operation_value o raw ∷ vs) (unless_empty (typed o.elem raw) s) (unless_has n m (typed o.elem raw) s h)
pass_has n m rely (Write cell rest) [] s h = tt
pass_has n m rely (Write cell rest) (v ∷ vs) s h =
    pass_has n m rely rest vs (assigned cell (interval_of v) s) (assigned_has n m cell (interval_of v) s h)

-- ---- what is kept of a log

abbrev pub blank : ℕ → ℕ → Kept
blank n m = record { own = replicate n Empty; shared = replicate m Empty; alarms = [] }

abbrev pub KeptHas : ℕ → ℕ → Kept → Type 0
KeptHas n m t = (length t.own ≡ n) × (length t.shared ≡ m)

noted_has : (n m : ℕ) (t : Kept) (e : Entry) → KeptHas n m t → KeptHas n m (noted t e)
noted_has n m t (Wrote (Own k) i) h = (length-put t.own k (hull (at t.own k) i) ∙ h.0, h.1)
noted_has n m t (Wrote (Shared k) i) h = (h.0, length-put t.shared k (hull (at t.shared k) i) ∙ h.1)
noted_has n m t (Alarm kind site i) h = h

pub kept_has : (n m : ℕ) (t : Kept) (log : List Entry) → KeptHas n m t → KeptHas n m (all_noted t log)
kept_has n m t [] h = h
kept_has n m t (e ∷ log) h = kept_has n m (noted t e) log (noted_has n m t e h)

-- the kept intervals, once rounded, lie in a part
pub record KeptIn (grid : List ℤ) (part : Part) (t : Kept) : Type 0 where
  pub own : (k : ℕ) → IsWithin (rounded grid (at t.own k)) (at part.own k)
  pub shared : (k : ℕ) → IsWithin (rounded grid (at t.shared k)) (at part.shared k)

floor_min : (grid : List ℤ) (a c x : ℤ) → x ≤ℤ floor_in grid a → x ≤ℤ floor_in grid c → x ≤ℤ floor_in grid (int_min a c)
floor_min grid a c x p q = ⊎_elim
    (λ (e : int_min a c ≡ a). rw e p)
    (λ (e : int_min a c ≡ c). rw e q)
    (either a c)
  where
    either : (a c : ℤ) → (int_min a c ≡ a) ⊎ (int_min a c ≡ c)
    either a c = by_lt_z a c (λ l. inl (omega (arith, ints, clamps))) (λ g. inr (omega (arith, ints, clamps)))

ceiling_max : (grid : List ℤ) (b d y : ℤ) → ceiling_in grid b ≤ℤ y → ceiling_in grid d ≤ℤ y → ceiling_in grid (int_max b d) ≤ℤ y
ceiling_max grid b d y p q = ⊎_elim
    (λ (e : int_max b d ≡ b). rw e p)
    (λ (e : int_max b d ≡ d). rw e q)
    (either b d)
  where
    either : (a c : ℤ) → (int_max a c ≡ a) ⊎ (int_max a c ≡ c)
    either a c = by_lt_z c a (λ l. inl (omega (arith, ints, clamps))) (λ g. inr (omega (arith, ints, clamps)))

rounded_hull : (grid : List ℤ) (i j k : Interval) → IsWithin (rounded grid i) k → IsWithin (rounded grid j) k → IsWithin (rounded grid (hull i j)) k
rounded_hull grid Empty j k p q = q
rounded_hull grid (Span a b) Empty k p q = p
rounded_hull grid (Span a b) (Span c d) Empty p q = absurd p
rounded_hull grid (Span a b) (Span c d) (Span x y) p q = (floor_min grid a c x p.0 q.0, ceiling_max grid b d y p.1 q.1)

put_in : (grid : List ℤ) (is js : List Interval) (k : ℕ) (i : Interval) → ((l : ℕ) → IsWithin (rounded grid (at is l)) (at js l)) → IsWithin (rounded grid i) (at js k) → (l : ℕ) → IsWithin (rounded grid (at (put is k (hull (at is k) i)) l)) (at js l)
put_in grid [] js k i p q l = tt
put_in grid (x ∷ is) [] zero i p q zero = rounded_hull grid x i Empty (p zero) q
put_in grid (x ∷ is) [] zero i p q (suc l) = p (suc l)
put_in grid (x ∷ is) [] (suc k) i p q zero = p zero
put_in grid (x ∷ is) [] (suc k) i p q (suc l) = put_in grid is [] k i (λ m. p (suc m)) q l
put_in grid (x ∷ is) (y ∷ js) zero i p q zero = rounded_hull grid x i y (p zero) q
put_in grid (x ∷ is) (y ∷ js) zero i p q (suc l) = p (suc l)
put_in grid (x ∷ is) (y ∷ js) (suc k) i p q zero = p zero
put_in grid (x ∷ is) (y ∷ js) (suc k) i p q (suc l) = put_in grid is js k i (λ m. p (suc m)) q l

noted_in : (grid : List ℤ) (part : Part) (t : Kept) (e : Entry) → KeptIn grid part t → InPart grid part e → KeptIn grid part (noted t e)
noted_in grid part t (Wrote (Own k) i) h w = record { own = put_in grid t.own part.own k i h.own w; shared = h.shared }
noted_in grid part t (Wrote (Shared k) i) h w = record { own = h.own; shared = put_in grid t.shared part.shared k i h.shared w }
noted_in grid part t (Alarm kind site i) h w = record { own = h.own; shared = h.shared }

pub kept_in : (grid : List ℤ) (part : Part) (t : Kept) (log : List Entry) → KeptIn grid part t → AllIn grid part log → KeptIn grid part (all_noted t log)
kept_in grid part t [] h w = h
kept_in grid part t (e ∷ log) h w = kept_in grid part (noted t e) log (noted_in grid part t e h w.0) w.1

pub blank_in : (grid : List ℤ) (part : Part) (n m : ℕ) → KeptIn grid part (blank n m)
blank_in grid part n m = record {
  own = λ k. rw (at_empties n k) tt;
  shared = λ k. rw (at_empties m k) tt;
}

-- the kept intervals only grow, and hold what is told of a cell that is there
pub record Grows (t u : Kept) : Type 0 where
  pub own : (k : ℕ) → IsWithin (at t.own k) (at u.own k)
  pub shared : (k : ℕ) → IsWithin (at t.shared k) (at u.shared k)

put_grows : (is : List Interval) (k : ℕ) (i : Interval) (l : ℕ) → IsWithin (at is l) (at (put is k (hull (at is k) i)) l)
put_grows [] k i l = tt
put_grows (x ∷ is) zero i zero = within_hull_left x i
put_grows (x ∷ is) zero i (suc l) = within_refl (at is l)
put_grows (x ∷ is) (suc k) i zero = within_refl x
put_grows (x ∷ is) (suc k) i (suc l) = put_grows is k i l

noted_grows : (t : Kept) (e : Entry) → Grows t (noted t e)
noted_grows t (Wrote (Own k) i) = record { own = put_grows t.own k i; shared = λ l. within_refl (at t.shared l) }
noted_grows t (Wrote (Shared k) i) = record { own = λ l. within_refl (at t.own l); shared = put_grows t.shared k i }
noted_grows t (Alarm kind site i) = record { own = λ l. within_refl (at t.own l); shared = λ l. within_refl (at t.shared l) }

grows : (t : Kept) (log : List Entry) → Grows t (all_noted t log)
grows t [] = record { own = λ l. within_refl (at t.own l); shared = λ l. within_refl (at t.shared l) }
grows t (e ∷ log) =
    let p = noted_grows t e in
    let q = grows (noted t e) log in
    let u = noted t e in
    let w = all_noted (noted t e) log in
    record {
      own = λ l. within_trans (at t.own l) (at u.own l) (at w.own l) (p.own l) (q.own l);
      shared = λ l. within_trans (at t.shared l) (at u.shared l) (at w.shared l) (p.shared l) (q.shared l);
    }

-- what is told of cells that are there
abbrev pub IsThere : ℕ → ℕ → Entry → Type 0
IsThere n m (Wrote (Own k) i) = k < n
IsThere n m (Wrote (Shared k) i) = k < m
IsThere n m (Alarm kind site i) = Unit {0}

put_holds : (is : List Interval) (k : ℕ) (i : Interval) → k < length is → IsWithin i (at (put is k (hull (at is k) i)) k)
put_holds is k i h = rw (at-put_same is k (hull (at is k) i)) (within_hull_right (at is k) i)

-- each entry lies in what is kept, as far as that lies in the part
pub log_in : (grid : List ℤ) (part : Part) (n m : ℕ) (t u : Kept) (log : List Entry) → KeptHas n m t → u ≡ all_noted t log → KeptIn grid part u → Each (IsThere n m) log → AllIn grid part log
log_in grid part n m t u [] h e w p = tt
log_in grid part n m t u (Wrote (Own k) i ∷ log) h e w p =
    let v = noted t (Wrote (Own k) i) in
    let g : IsWithin (at v.own k) (at u.own k) = rw e ((grows v log).own k) in
    let a : k < length t.own = rw h.0 p.0 in
    let b : IsWithin i (at u.own k) = within_trans i (at v.own k) (at u.own k) (put_holds t.own k i a) g in (
      within_trans (rounded grid i) (rounded grid (at u.own k)) (at part.own k) (rounded-grows grid i (at u.own k) b) (w.own k),
      log_in grid part n m v u log (noted_has n m t (Wrote (Own k) i) h) e w p.1,
    )
log_in grid part n m t u (Wrote (Shared k) i ∷ log) h e w p =
    let v = noted t (Wrote (Shared k) i) in
    let g : IsWithin (at v.shared k) (at u.shared k) = rw e ((grows v log).shared k) in
    let a : k < length t.shared = rw h.1 p.0 in
    let b : IsWithin i (at u.shared k) = within_trans i (at v.shared k) (at u.shared k) (put_holds t.shared k i a) g in (
      within_trans (rounded grid i) (rounded grid (at u.shared k)) (at part.shared k) (rounded-grows grid i (at u.shared k) b) (w.shared k),
      log_in grid part n m v u log (noted_has n m t (Wrote (Shared k) i) h) e w p.1,
    )
log_in grid part n m t u (Alarm kind site i ∷ log) h e w p = (tt, log_in grid part n m (noted t (Alarm kind site i)) u log h e w p.1)
