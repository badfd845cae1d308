use Rattle.std.proofs.Common.{rules, ◌≡◌, ◌+◌, ◌∙◌, ℕ, List, length, replicate, arith, ap}
use Rattle.std.proofs.lemmas.List.{length_push}
use Rattle.reference_graph.proofs.Settling.{numbering_start, numbering_more, next_node, numbers_of, groups_even}
use Rattle.reference_graph.proofs.numbering.components.Goals as goal

pub loop-node-init : goal.loop-node-init
loop-node-init c =
    let ones : c.in_ok-groups.groups.items ≡ replicate c.nodes.result 1 = search rules in
    numbering_start c.args.graph.now c.in_ok-left.field-0.finished.items c.in_ok-groups.groups.items c.in_ok-left.field-0.cyclic c.in_ok-left.ensures
    (ones ∙ ap (λ (n : ℕ). replicate n 1) c.nodes.ensures)

pub loop-node-preserved : goal.loop-node-preserved
loop-node-preserved c =
    numbering_more c.args.graph.now c.loop-node.left.items c.pop.new.self.items c.loop-node.groups.items c.settle.new.groups.items c.in-Some.node
    c.loop-node.count c.in_ok-count.count c.in-Some.ensures.items c.loop-node.invariant c.in_ok-count.ensures

pub loop-node-smaller : goal.loop-node-smaller
loop-node-smaller c =
    let popped : length c.loop-node.left.items ≡ length c.pop.new.self.items + 1 =
    ap (λ (xs : List ℕ). length xs) c.in-Some.ensures.items ∙ length_push c.pop.new.self.items c.in-Some.node in
    omega arith

pub settle-requires : goal.settle-requires
settle-requires c =
    let popped : length c.loop-node.left.items ≡ length c.pop.new.self.items + 1 =
    ap (λ (xs : List ℕ). length xs) c.in-Some.ensures.items ∙ length_push c.pop.new.self.items c.in-Some.node in
    record {
      turned = c.in_ok-turned.ensures;
      groups = c.loop-node.invariant.groups_are;
      node = next_node c.args.graph.now c.loop-node.left.items c.pop.new.self.items c.loop-node.groups.items c.in-Some.node c.loop-node.count
          c.in-Some.ensures.items c.loop-node.invariant;
      room = omega (
        arith,
        c.loop-node.invariant.few,
        c.loop-node.invariant.groups_are.nodes,
        c.loop-node.groups.ok.0,
        c.loop-node.groups.ok.1,
        c.loop-node.groups.small,
      );
    }

pub number-requires : goal.number-requires
number-requires c a l =
    groups_even c.args.graph.now c.loop-node.left.items c.loop-node.groups.items c.loop-node.count c.loop-node.invariant
    (omega (arith, c.in_default.ensures.cases.0, c.loop-node.left.ok.0)) a l

pub returns : goal.returns
returns c =
    numbers_of c.args.graph.now c.loop-node.left.items c.loop-node.groups.items c.number.new.groups.items c.loop-node.count c.loop-node.invariant
    (omega (arith, c.in_default.ensures.cases.0, c.loop-node.left.ok.0)) c.number.ensures.long c.number.ensures.each
