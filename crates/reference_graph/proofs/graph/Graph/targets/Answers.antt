use Rattle.std.proofs.Common.{◌<◌, ◌≤◌, ◌∙◌, ap, sym, subst, length, slice_range, arith, List, ℕ}
use Rattle.reference_graph.proofs.Storing.{row_of, node_stored}
use Rattle.reference_graph.proofs.graph.Graph.targets.Goals as goal

pub start_behind-end-requires : goal.start_behind-end-requires
start_behind-end-requires c =
    subst (λ (xs : List ℕ). c.args.node < length xs) (sym c.deref.ensures.value)
    (node_stored c.self.inside.starts.items c.self.inside.targets.items c.args.self.now c.args.node c.self.view_is c.requires)

pub index-requires : goal.index-requires
index-requires c =
    omega (
      arith,
      node_stored c.self.inside.starts.items c.self.inside.targets.items c.args.self.now c.args.node c.self.view_is c.requires,
      c.self.inside.starts.ok.0,
    )

pub part-requires-clause-order : goal.part-requires-clause-order
part-requires-clause-order c =
    (row_of c.self.inside.starts.items c.self.inside.targets.items c.deref.result.now c.args.self.now c.args.node c.index.result.now c.start_behind-end.result
    c.len.result c.self.invariant c.self.view_is c.requires c.deref.ensures.value (omega (arith, c.len.ensures, c.self.inside.targets.ok.0))
    c.index.ensures c.start_behind-end.ensures).order

pub part-requires-clause-within : goal.part-requires-clause-within
part-requires-clause-within c =
    subst (λ (xs : List ℕ). c.start_behind-end.result ≤ length xs) (sym c.deref-2.ensures.value)
    (row_of c.self.inside.starts.items c.self.inside.targets.items c.deref.result.now c.args.self.now c.args.node c.index.result.now c.start_behind-end.result
    c.len.result c.self.invariant c.self.view_is c.requires c.deref.ensures.value (omega (arith, c.len.ensures, c.self.inside.targets.ok.0))
    c.index.ensures c.start_behind-end.ensures).within

pub returns : goal.returns
returns c =
    c.part.ensures
    ∙ ap (λ (xs : List ℕ). slice_range xs c.index.result.now c.start_behind-end.result) c.deref-2.ensures.value
    ∙ (row_of c.self.inside.starts.items c.self.inside.targets.items c.deref.result.now c.args.self.now c.args.node c.index.result.now c.start_behind-end.result
    c.len.result c.self.invariant c.self.view_is c.requires c.deref.ensures.value (omega (arith, c.len.ensures, c.self.inside.targets.ok.0))
    c.index.ensures c.start_behind-end.ensures).row
