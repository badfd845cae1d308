use Rattle.std.proofs.Common.{◌≡◌, ℕ, ◌<◌, List, length, refl, ◌∙◌, arith, sym, subst}
use Rattle.std.specs.List.{Contains}
use Rattle.least_table.specs.System.{Intervals, at, readers_of}
use Rattle.least_table.specs.steps.Worklist.{IsOnTheWay, IsSettled}
use Rattle.least_table.proofs.Settling.{joined_inside, way_start, way_more, taken_more, way_end, evaluated, readers_below}
use Rattle.least_table.proofs.solver.settle_unit.Goals as goal

pub loop-entry-init : goal.loop-entry-init
loop-entry-init g c =
    let m = g.S.System.meaning c.args.sys.now in
    record {
      units = refl;
      way = way_start m c.args.next.now c.args.table.now c.args.pending.now.queue c.requires.table
          (joined_inside
          (m.gives c.args.unit c.args.table.now) c.args.table.now c.args.next.now c.requires.joined)
          c.requires.settled;
      taken = λ entry a b. absurd (omega arith);
    }

pub settle-requires-clause-units : goal.settle-requires-clause-units
settle-requires-clause-units g c unit inside =
    let m = g.S.System.meaning c.args.sys.now in
    let place : c.loop-entry.entry < length m.widest = omega (arith, c.given-from.ensures.whole) in
    let low : unit < m.units =
    readers_below m c.loop-entry.entry unit (subst (λ (units : List ℕ). Contains units unit)
    (c.requires.readers.each c.loop-entry.entry place) inside) in
    omega (arith, c.loop-entry.invariant.units, c.requires.units)

pub loop-entry-preserved : goal.loop-entry-preserved
loop-entry-preserved g c =
    let m = g.S.System.meaning c.args.sys.now in
    let entry = c.loop-entry.entry in
    let place : c.loop-entry.entry < length m.widest = omega (arith, c.given-from.ensures.whole) in
    let short : c.loop-entry.entry < length c.loop-entry.table = omega (
      arith,
      c.loop-entry.invariant.way.below.is_table.entries,
    ) in
    let settled : IsSettled (at c.loop-entry.table entry) (at c.args.next.now entry) (readers_of m entry) c.loop-entry.pending.queue c.settle.new.pending.queue =
    subst (λ (units : List ℕ). IsSettled (at c.loop-entry.table entry)
    (at c.args.next.now entry) units c.loop-entry.pending.queue c.settle.new.pending.queue)
    (c.requires.readers.each entry place) c.in_ok-settle.ensures.settled in
    record {
      units = c.settle.ensures.units ∙ c.loop-entry.invariant.units;
      way =
          subst (λ (t : Intervals).
          IsOnTheWay m c.args.next.now c.args.table.now t c.args.pending.now.queue c.settle.new.pending.queue)
          (sym c.in_ok-settle.ensures.value)
          (way_more m c.args.next.now c.args.table.now c.loop-entry.table c.args.pending.now.queue
          c.loop-entry.pending.queue c.settle.new.pending.queue entry
          (g.met.S.System.law c.args.sys.now) c.requires.next short c.loop-entry.invariant.way settled);
      taken = λ k a b. subst (λ (t : Intervals). at t k ≡ at c.args.next.now k) (sym c.in_ok-settle.ensures.value)
          (taken_more c.loop-entry.table c.args.next.now c.given-from.result.0 entry short
          c.loop-entry.invariant.taken k a b);
    }

same : goal.returns-clause-next
same g c =
    way_end (g.S.System.meaning c.args.sys.now) c.args.unit c.given-from.result.0 c.given-from.result.1
    c.args.next.now c.args.table.now c.loop-entry.table
    c.args.pending.now.queue c.loop-entry.pending.queue c.requires.table c.requires.joined c.requires.unit
    c.given-from.ensures.outside c.loop-entry.invariant.way
    (λ k a b. c.loop-entry.invariant.taken k a (omega arith))

pub returns-clause-next : goal.returns-clause-next
returns-clause-next g c = same g c

pub returns-clause-evaluated : goal.returns-clause-evaluated
returns-clause-evaluated g c =
    evaluated (g.S.System.meaning c.args.sys.now) c.args.next.now c.args.table.now c.loop-entry.table
    c.args.pending.now.queue c.loop-entry.pending.queue
    c.loop-entry.invariant.way (same g c)
