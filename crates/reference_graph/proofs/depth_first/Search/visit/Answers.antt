use Rattle.std.proofs.Common.{◌≡◌, ◌+◌, ◌∙◌, Some, ap, subst, length, arith, List}
use Rattle.std.specs.Prelude.{slice_get}
use Rattle.std.proofs.lemmas.List.{length_push}
use Rattle.reference_graph.specs.declared.depth_first.Mark.{Mark}
use Rattle.reference_graph.specs.declared.depth_first.Mark.TheVariants.{New}
use Rattle.reference_graph.specs.declared.depth_first.Frame.{Frame}
use Rattle.reference_graph.proofs.Searching.{visit_start, visit_taken, visit_more}
use Rattle.reference_graph.proofs.depth_first.Search.visit.Goals as goal

pub loop-frame-init : goal.loop-frame-init
loop-frame-init c =
    let new : slice_get c.deref.result.now c.args.root ≡ Some New = c.is_new.ensures.0 c.if-is_new.true in
    visit_start c.args.graph.now c.args.self.now.marks.items c.enter.new.self.marks.items c.args.root c.args.self.now.stack.items
    c.enter.new.self.stack.items c.args.self.now.finished.items c.enter.new.self.finished.items c.args.self.now.cyclic c.enter.new.self.cyclic
    c.requires.search (subst (λ (ms : List Mark). slice_get ms c.args.root ≡ Some New) c.deref.ensures.value new) c.requires.stack
    c.in_ok-enter.ensures.marks c.in_ok-enter.ensures.stack c.enter.ensures.finished c.enter.ensures.cyclic

pub loop-frame-preserved : goal.loop-frame-preserved
loop-frame-preserved c =
    visit_more c.args.graph.now c.args.self.now.marks.items c.args.root c.loop-frame.self.marks.items c.step.new.self.marks.items c.loop-frame.self.stack.items
    c.pop.new.self.items c.step.new.self.stack.items c.loop-frame.self.finished.items c.step.new.self.finished.items c.loop-frame.self.cyclic
    c.step.new.self.cyclic c.loop-frame.invariant c.in_ok-step.ensures

pub loop-frame-smaller : goal.loop-frame-smaller
loop-frame-smaller c =
    let popped : length c.loop-frame.self.stack.items ≡ length c.pop.new.self.items + 1 =
    ap (λ (fs : List Frame). length fs) c.in-Some.ensures.items ∙ length_push c.pop.new.self.items c.in-Some.frame in
    omega (arith, c.in_ok-step.ensures.fewer)

pub step-requires : goal.step-requires
step-requires c =
    let taken = visit_taken c.args.graph.now c.args.self.now.marks.items c.args.root c.loop-frame.self.marks.items c.loop-frame.self.stack.items c.pop.new.self.items
    c.loop-frame.self.finished.items c.loop-frame.self.cyclic c.in-Some.frame c.loop-frame.invariant c.in-Some.ensures.items in
    record { search = taken.0; passed = taken.1 }
