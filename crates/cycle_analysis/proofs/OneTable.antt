-- The solution of a component is determined by its grid and by the code and the cells of its one task.
use Rattle.std.proofs.Common.{◌≡◌, ℕ, zero, suc, List, [], ◌∷◌, length, Some, refl, sym, ap, subst, ◌∙◌, arith}
use Rattle.std.specs.Prelude.{ℤ, slice_get}
use Rattle.std.proofs.lemmas.Int.{ints}
use Rattle.std.proofs.lemmas.Option.{none-some, same_Some}
use Rattle.interval_domain.specs.Interval.{Interval, Empty, Span, IsWithin}
use Rattle.st_tree.specs.declared.code.CellInfo.{CellInfo}
use Rattle.st_tree.specs.declared.code.TaskCode.{TaskCode}
use Rattle.st_tree.specs.declared.code.Component.{Component}
use Rattle.st_tree.specs.Code.{Instructions, reading}
use Rattle.cycle_analysis.specs.Pass.{Reached, Passed, at, pass}
use Rattle.cycle_analysis.specs.Table.{Part, part_at, others, pass_of, points, IsBelow, InPart, Each, HasCells, IsClosedFor, IsClosed, IsPartWithin, IsSolution}

-- ---- intervals and parts that lie within each other

pub within_both : (i j : Interval) → IsWithin i j → IsWithin j i → i ≡ j
within_both Empty Empty p q = refl
within_both Empty (Span c d) p q = absurd q
within_both (Span a b) Empty p q = absurd p
within_both (Span a b) (Span c d) p q =
    let low : a ≡ c = omega (arith, ints) in
    let high : b ≡ d = omega (arith, ints) in
    cc

same_items : (is js : List Interval) → length is ≡ length js → ((k : ℕ) → IsWithin (at is k) (at js k)) → ((k : ℕ) → IsWithin (at js k) (at is k)) → is ≡ js
same_items [] [] e p q = refl
same_items [] (j ∷ js) e p q = absurd (omega arith)
same_items (i ∷ is) [] e p q = absurd (omega arith)
same_items (i ∷ is) (j ∷ js) e p q =
    let first : i ≡ j = within_both i j (p 0) (q 0) in
    let rest : is ≡ js = same_items is js (omega arith) (λ k. p (suc k)) (λ k. q (suc k)) in
    cc

-- the same number of intervals of each kind
pub record HasSameLengths (p q : Part) : Type 0 where
  pub head : length p.cycle.own ≡ length q.cycle.own
  pub views : length p.cycle.views ≡ length q.cycle.views
  pub own : length p.own ≡ length q.own
  pub shared : length p.shared ≡ length q.shared

same_part : (p q : Part) → HasSameLengths p q → IsPartWithin p q → IsPartWithin q p → p ≡ q
same_part p q l a b =
    let head : p.cycle.own ≡ q.cycle.own = same_items p.cycle.own q.cycle.own l.head a.head b.head in
    let views : p.cycle.views ≡ q.cycle.views = same_items p.cycle.views q.cycle.views l.views a.views b.views in
    let own : p.own ≡ q.own = same_items p.own q.own l.own a.own b.own in
    let shared : p.shared ≡ q.shared = same_items p.shared q.shared l.shared a.shared b.shared in
    λ i. record { cycle = record { own = head i; views = views i }; own = own i; shared = shared i }

same_lengths : (c : Component) (t : TaskCode) (p q : Part) → HasCells c t p → HasCells c t q → HasSameLengths p q
same_lengths c t p q a b = record { head = a.head ∙ sym b.head; views = a.views ∙ sym b.views; own = a.own ∙ sym b.own; shared = a.shared ∙ sym b.shared }

-- a table of one part
one_part : (p : List Part) → length p ≡ 1 → p ≡ part_at p 0 ∷ []
one_part [] e = absurd (omega arith)
one_part (x ∷ []) e = refl
one_part (x ∷ y ∷ p) e = absurd (omega arith)

-- ---- components of one task with the same code and the same cells

-- the code of a task has places in memory, so that two tasks of one code needn't be equal
pub record AreAlike (c d : Component) (t u : TaskCode) : Type 0 where
  pub first : c.tasks ≡ t ∷ []
  pub second : d.tasks ≡ u ∷ []
  pub code : reading t.code ≡ reading u.code
  pub cells : t.cells ≡ u.cells
  pub shared : c.shared ≡ d.shared

pub alike_back : (c d : Component) (t u : TaskCode) → AreAlike c d t u → AreAlike d c u t
alike_back c d t u a = record { first = a.second; second = a.first; code = sym a.code; cells = sym a.cells; shared = sym a.shared }

pub same_pass : (t u : TaskCode) (table : List Part) (me : ℕ) → reading t.code ≡ reading u.code → pass_of t table me ≡ pass_of u table me
same_pass t u table me e =
    ap (λ (code : Instructions). pass (record { during = others table me }) code [] (Reached (part_at table me).cycle.own (part_at table me).cycle.views)) e

only_task : (c : Component) (t : TaskCode) → c.tasks ≡ t ∷ [] → (me : ℕ) (task : TaskCode) → slice_get c.tasks me ≡ Some task → (me ≡ 0) × (t ≡ task)
only_task c t e zero task h = (refl, same_Some t task (rw e at h))
only_task c t e (suc k) task h = let none = rw e at h in absurd (none-some task none)

closed_for : (grid : List ℤ) (c d : Component) (t u : TaskCode) (table : List Part) → AreAlike c d t u → IsClosedFor grid d table 0 u → IsClosedFor grid c table 0 t
closed_for grid c d t u table a h =
    let pass_is : pass_of u table 0 ≡ pass_of t table 0 = sym (same_pass t u table 0 a.code) in
    record {
      cells = record {
        head = h.cells.head ∙ sym (ap length a.cells);
        views = h.cells.views ∙ sym (ap length a.shared);
        own = h.cells.own ∙ sym (ap length a.cells);
        shared = h.cells.shared ∙ sym (ap length a.shared);
      };
      start = subst (λ (own : List CellInfo). IsBelow grid (Reached (points own) (points c.shared)) (part_at table 0).cycle) (sym a.cells)
          (subst (λ (shared : List CellInfo). IsBelow grid (Reached (points u.cells) (points shared)) (part_at table 0).cycle) (sym a.shared) h.start);
      turns = subst (λ (p : Passed). IsBelow grid p.state (part_at table 0).cycle) pass_is h.turns;
      log = subst (λ (p : Passed). Each (InPart grid (part_at table 0)) p.log) pass_is h.log;
    }

-- a table that is closed for one of them is closed for the other
pub closed_too : (grid : List ℤ) (c d : Component) (t u : TaskCode) (table : List Part) → AreAlike c d t u → IsClosed grid d table → IsClosed grid c table
closed_too grid c d t u table a h = record {
  parts = h.parts ∙ ap length a.second ∙ sym (ap length a.first);
  each = λ me task e.
      let only = only_task c t a.first me task e in
      let there : slice_get d.tasks 0 ≡ Some u = ap (λ (tasks : List TaskCode). slice_get tasks 0) a.second in
      subst (λ (k : ℕ). IsClosedFor grid c table k task) (sym only.0)
      (subst (λ (x : TaskCode). IsClosedFor grid c table 0 x) only.1 (closed_for grid c d t u table a (h.each 0 u there)));
}

-- ---- the law

pub one_table : (grid : List ℤ) (c d : Component) (t u : TaskCode) (p q : List Part) → AreAlike c d t u → IsSolution grid c p → IsSolution grid d q → p ≡ q
one_table grid c d t u p q a h k =
    let q_closed = closed_too grid c d t u q a k.closed in
    let p_closed = closed_too grid d c u t p (alike_back c d t u a) h.closed in
    let there : slice_get c.tasks 0 ≡ Some t = ap (λ (tasks : List TaskCode). slice_get tasks 0) a.first in
    let one : length c.tasks ≡ 1 = ap length a.first in
    let part : part_at p 0 ≡ part_at q 0 =
    same_part (part_at p 0) (part_at q 0) (same_lengths c t (part_at p 0) (part_at q 0) (h.closed.each 0 t there).cells (q_closed.each 0 t there).cells) (h.least q q_closed 0) (k.least p p_closed 0) in
    one_part p (h.closed.parts ∙ one) ∙ ap (λ (x : Part). x ∷ []) part ∙ sym (one_part q (q_closed.parts ∙ one))
