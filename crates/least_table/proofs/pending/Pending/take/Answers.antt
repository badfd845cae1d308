use Rattle.std.proofs.Common.{rules, ◌∷◌, List, ℕ, ◌<◌, length, ap, subst, arith}
use Rattle.least_table.specs.steps.Worklist.{Waiting, AreMarked}
use Rattle.least_table.proofs.Queues.{taken, first_in}
use Rattle.least_table.proofs.pending.Pending.take.Goals as goal

pub index_mut-requires : goal.index_mut-requires
index_mut-requires c =
    let marked : AreMarked c.self.inside.marks.items (c.in-Some.unit ∷ c.pop_front.new.self.items) =
    subst (λ (q : List ℕ). AreMarked c.self.inside.marks.items q) c.in-Some.ensures.items c.self.invariant in
    let inside : c.in-Some.unit < length c.self.inside.marks.items = marked.inside c.in-Some.unit
    (first_in c.in-Some.unit c.pop_front.new.self.items) in
    search rules

pub invariant_of-self-in-Some : goal.invariant_of-self-in-Some
invariant_of-self-in-Some c =
    taken c.self.inside.marks.items c.in-Some.unit c.pop_front.new.self.items
    (subst (λ (q : List ℕ). AreMarked c.self.inside.marks.items q) c.in-Some.ensures.items c.self.invariant)

pub returns-in-Some-clause-inside : goal.returns-in-Some-clause-inside
returns-in-Some-clause-inside c =
    let marked : AreMarked c.self.inside.marks.items (c.in-Some.unit ∷ c.pop_front.new.self.items) =
    subst (λ (q : List ℕ). AreMarked c.self.inside.marks.items q) c.in-Some.ensures.items c.self.invariant in
    let inside : c.in-Some.unit < length c.self.inside.marks.items = marked.inside c.in-Some.unit
    (first_in c.in-Some.unit c.pop_front.new.self.items) in
    omega (arith, ap (λ (w : Waiting). w.units) c.self.view_is)
