use Rattle.std.proofs.Common.{rules, ◌≡◌, ◌≢◌, ℕ, List, [], replicate, false, arith, sym, subst, ap, ◌∙◌, ⊎_elim}
use Rattle.reference_graph.specs.declared.depth_first.Mark.TheVariants.{New}
use Rattle.reference_graph.specs.steps.DepthFirst.{IsSearch, IsSeen}
use Rattle.reference_graph.proofs.Places.{same_or_not}
use Rattle.reference_graph.proofs.Searching.{search_none, searched}
use Rattle.reference_graph.proofs.depth_first.depth_first.Goals as goal

pub loop-root-init : goal.loop-root-init
loop-root-init c =
    let new : c.in_ok-vec.field-0.items ≡ replicate c.nodes.result New = search rules in
    record {
      stack = c.new.ensures.items;
      search = subst (λ (finished : List ℕ). IsSearch c.args.graph.now c.in_ok-vec.field-0.items [] finished false) (sym c.new-2.ensures.items)
          (search_none c.args.graph.now c.in_ok-vec.field-0.items (new ∙ ap (λ (n : ℕ). replicate n New) c.nodes.ensures));
      seen = λ x l. absurd (omega arith);
    }

pub loop-root-preserved : goal.loop-root-preserved
loop-root-preserved c = record {
  stack = c.in_ok-visit.ensures.stack;
  search = c.in_ok-visit.ensures.search;
  seen = λ x l. ⊎_elim
      (λ (s : x ≡ c.loop-root.root). subst (λ (n : ℕ). IsSeen c.visit.new.self.marks.items n) (sym s) c.in_ok-visit.ensures.root)
      (λ (ne : x ≢ c.loop-root.root). c.in_ok-visit.ensures.seen x (c.loop-root.invariant.seen x (omega arith)))
      (same_or_not x c.loop-root.root);
}

pub returns : goal.returns
returns c =
    searched c.args.graph.now c.loop-root.search.marks.items c.loop-root.search.finished.items c.loop-root.search.cyclic c.loop-root.invariant.search
    (λ x l. c.loop-root.invariant.seen x (omega (arith, c.nodes-root-end.ensures)))
