use Rattle.std.proofs.Common.{◌≡◌, ap, length, arith, ◌++◌, ◌∷◌, [], List, ℕ, length-append}
use Rattle.reference_graph.proofs.Storing.{target_added, starts_longer}
use Rattle.reference_graph.proofs.graph.Graph.edge.Goals as goal

pub invariant_of-self-2 : goal.invariant_of-self-2
invariant_of-self-2 c =
    let stored : c.push.new.self.items ≡ c.self.inside.targets.items ++ c.args.target ∷ [] = c.in_ok-push.ensures.items in
    starts_longer c.self.inside.starts.items (length c.self.inside.targets.items) (length c.push.new.self.items)
    (omega (arith, ap (λ (xs : List ℕ). length xs) stored, length-append c.self.inside.targets.items (c.args.target ∷ []))) c.self.invariant

pub returns-clause-ok : goal.returns-clause-ok
returns-clause-ok c =
    target_added c.self.inside.starts.items c.self.inside.targets.items c.args.self.now c.args.target c.push.new.self.items c.self.invariant
    c.self.view_is c.in_ok-push.ensures.items
