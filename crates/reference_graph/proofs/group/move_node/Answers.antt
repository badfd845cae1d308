use Rattle.std.proofs.Common.{◌≡◌, Some, List, ℕ, subst, refl}
use Rattle.std.specs.Prelude.{slice_get, slice_set}
use Rattle.reference_graph.proofs.Splitting.{spread_moves}
use Rattle.reference_graph.proofs.group.move_node.Goals as goal

pub returns : goal.returns
returns c =
    let member : slice_get c.deref.result.now c.args.node ≡ Some c.args.group = c.is_in.ensures.0 c.if-not-is_in.false in
    spread_moves c.args.node c.args.group c.args.own c.args.groups.now.items c.args.found.now.items
    (slice_set c.args.groups.now.items c.args.node c.args.own) c.push.new.self.items c.requires
    (subst (λ (xs : List ℕ). slice_get xs c.args.node ≡ Some c.args.group) c.deref.ensures.value member) refl c.in_ok-push.ensures.items
