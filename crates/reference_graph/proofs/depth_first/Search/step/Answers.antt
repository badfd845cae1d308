use Rattle.std.proofs.Common.{◌≡◌, ◌<◌, ◌≤◌, ◌∙◌, Bool, Some, ap, sym, subst, get_or, arith, List, ℕ, ◌++◌, ◌∷◌, []}
use Rattle.std.specs.Prelude.{slice_get}
use Rattle.std.proofs.lemmas.List.Elements.{Contains-push}
use Rattle.std.proofs.lemmas.Option.{slice_get_within}
use Rattle.reference_graph.specs.declared.depth_first.Mark.{Mark}
use Rattle.reference_graph.specs.declared.depth_first.Mark.TheVariants.{New, Open}
use Rattle.reference_graph.specs.declared.depth_first.Frame.{Frame}
use Rattle.reference_graph.specs.steps.DepthFirst.{IsSearch, IsSeen, way_of}
use Rattle.reference_graph.proofs.Searching.{step_entered, step_left}
use Rattle.reference_graph.proofs.depth_first.Search.step.Goals as goal

pub targets-row-requires : goal.targets-row-requires
targets-row-requires c =
    omega (
      arith,
      c.requires.search.nodes,
      slice_get_within c.args.self.now.marks.items c.args.frame.node Open
          (c.requires.search.listed_open c.args.frame.node (Contains-push (way_of c.args.self.now.stack.items) c.args.frame.node)),
    )

pub enter-requires : goal.enter-requires
enter-requires c =
    let new : slice_get c.deref.result.now (get_or c.targets-row.result.now c.first_new-at.result 0) ≡ Some New = c.first_new-at.ensures.found c.if-at-row.true in
    omega (arith, slice_get_within c.deref.result.now (get_or c.targets-row.result.now c.first_new-at.result 0) New new, c.deref.ensures.len)

pub leave-requires : goal.leave-requires
leave-requires c =
    omega (
      arith,
      c.args.self.now.marks.ok.0,
      slice_get_within c.args.self.now.marks.items c.args.frame.node Open
          (c.requires.search.listed_open c.args.frame.node (Contains-push (way_of c.args.self.now.stack.items) c.args.frame.node)),
    )

pub returns-in_ok-enter : goal.returns-in_ok-enter
returns-in_ok-enter c =
    step_entered c.args.graph.now c.args.self.now.marks.items c.enter.new.self.marks.items c.args.self.now.stack.items c.enter.new.self.stack.items
    c.enter.new.self.finished.items c.enter.new.self.cyclic c.args.frame c.targets-row.result.now c.first_new-at.result
    (subst (λ (b : Bool). IsSearch c.args.graph.now c.args.self.now.marks.items (way_of c.args.self.now.stack.items ++ c.args.frame.node ∷ []) c.enter.new.self.finished.items b)
    (sym c.enter.ensures.cyclic)
    (subst (λ (f : List ℕ). IsSearch c.args.graph.now c.args.self.now.marks.items (way_of c.args.self.now.stack.items ++ c.args.frame.node ∷ []) f c.args.self.now.cyclic)
    (sym c.enter.ensures.finished) c.requires.search))
    c.requires.passed c.targets-row.ensures
    (subst (λ (ms : List Mark). (k : ℕ) → c.args.frame.next ≤ k → k < c.first_new-at.result → IsSeen ms (get_or c.targets-row.result.now k 0)) c.deref.ensures.value
    c.first_new-at.ensures.passed)
    c.if-at-row.true
    (subst (λ (ms : List Mark). slice_get ms (get_or c.targets-row.result.now c.first_new-at.result 0) ≡ Some New) c.deref.ensures.value
    (c.first_new-at.ensures.found c.if-at-row.true))
    c.in_ok-enter.ensures.marks
    (c.in_ok-enter.ensures.stack
    ∙ ap (λ (fs : List Frame). fs ++ record { node = get_or c.targets-row.result.now c.first_new-at.result 0; next = 0 } ∷ []) c.in_ok-push.ensures.items)

pub returns-in_ok-leave : goal.returns-in_ok-leave
returns-in_ok-leave c =
    step_left c.args.graph.now c.args.self.now.marks.items c.leave.new.self.marks.items c.args.self.now.stack.items c.leave.new.self.stack.items
    c.args.self.now.finished.items c.leave.new.self.finished.items c.args.self.now.cyclic c.leave.new.self.cyclic c.args.frame c.targets-row.result.now
    c.first_new-at.result c.requires.search c.requires.passed c.targets-row.ensures
    (subst (λ (ms : List Mark). (k : ℕ) → c.args.frame.next ≤ k → k < c.first_new-at.result → IsSeen ms (get_or c.targets-row.result.now k 0)) c.deref.ensures.value
    c.first_new-at.ensures.passed)
    c.if-at-row.false c.leave.ensures.cyclic c.in_ok-leave.ensures.marks c.leave.ensures.stack c.in_ok-leave.ensures.finished
