use Rattle.std.proofs.Common.{◌≡◌, ◌<◌, ◌∙◌, List, ℕ, length, get_or, arith, subst, ap}
use Rattle.std.proofs.lemmas.List.{get_or_default}
use Rattle.std.proofs.lemmas.List.Elements.{Contains-get_or}
use Rattle.std.proofs.lemmas.Option.{slice_get_within}
use Rattle.reference_graph.specs.Graph.{targets}
use Rattle.reference_graph.specs.steps.Groups.{IsSpread}
use Rattle.reference_graph.proofs.Splitting.{split_start, split_more, split_end}
use Rattle.reference_graph.proofs.group.split.Goals as goal

pub loop-at-init : goal.loop-at-init
loop-at-init c =
    split_start c.args.graph.now c.args.root c.args.group c.args.own c.args.groups.now.items c.move_node.new.groups.items c.move_node.new.found.items
    c.clear.new.self.items c.clear.ensures.items c.requires.root c.in_ok-move_node.ensures

pub targets-requires : goal.targets-requires
targets-requires c =
    let l : c.loop-at.at < length c.loop-at.found.items = omega (arith, c.loop-at-test.true, c.len.ensures, c.loop-at.found.ok.0) in
    let node : c.index.result.now ≡ get_or c.loop-at.found.items c.loop-at.at 0 =
    c.index.ensures ∙ get_or_default c.loop-at.found.items c.loop-at.at c.index.result.now 0 l in
    let m = c.loop-at.invariant.found_moved (get_or c.loop-at.found.items c.loop-at.at 0) (Contains-get_or c.loop-at.found.items c.loop-at.at 0 l) in
    omega (arith, slice_get_within c.args.groups.now.items (get_or c.loop-at.found.items c.loop-at.at 0) c.args.group m.0, c.requires.nodes)

pub loop-at-preserved : goal.loop-at-preserved
loop-at-preserved c =
    let l : c.loop-at.at < length c.loop-at.found.items = omega (arith, c.loop-at-test.true, c.len.ensures, c.loop-at.found.ok.0) in
    let node : c.index.result.now ≡ get_or c.loop-at.found.items c.loop-at.at 0 =
    c.index.ensures ∙ get_or_default c.loop-at.found.items c.loop-at.at c.index.result.now 0 l in
    split_more c.args.graph.now c.args.root c.args.group c.args.own c.args.groups.now.items c.loop-at.groups.items c.loop-at.found.items
    c.move_nodes.new.groups.items c.move_nodes.new.found.items c.loop-at.at c.requires.apart c.requires.nodes l c.loop-at.invariant
    (subst
    (λ (row : List ℕ). IsSpread row c.args.group c.args.own c.loop-at.groups.items c.loop-at.found.items c.move_nodes.new.groups.items c.move_nodes.new.found.items)
    (c.targets.ensures ∙ ap (λ (n : ℕ). targets c.args.graph.now n) node) c.in_ok-move_nodes.ensures)

pub returns : goal.returns
returns c =
    split_end c.args.graph.now c.args.root c.args.group c.args.own c.args.groups.now.items c.loop-at.groups.items c.loop-at.found.items c.loop-at.at
    (omega (arith, c.loop-at-test.false, c.len.ensures, c.loop-at.found.ok.0)) c.loop-at.invariant
