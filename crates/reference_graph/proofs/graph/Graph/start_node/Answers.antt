use Rattle.std.proofs.Common.{◌≡◌, ◌∙◌, ap, sym, length, arith, ◌++◌, ◌∷◌, [], ℕ, append-nil}
use Rattle.reference_graph.proofs.Storing.{node_added, starts_added}
use Rattle.reference_graph.proofs.graph.Graph.start_node.Goals as goal

starts : (c : goal.In_ok-push) → c.push.new.self.items ≡ c.self.inside.starts.items ++ length c.self.inside.targets.items ∷ []
starts c =
    let end : c.len.result ≡ length c.self.inside.targets.items = omega (arith, c.len.ensures, c.self.inside.targets.ok.0) in
    c.in_ok-push.ensures.items ∙ ap (λ (n : ℕ). c.self.inside.starts.items ++ n ∷ []) end

pub invariant_of-self-2 : goal.invariant_of-self-2
invariant_of-self-2 c =
    starts_added c.self.inside.starts.items (length c.self.inside.targets.items) (length c.self.inside.targets.items) c.push.new.self.items c.self.invariant
    (omega arith) (starts c)

pub returns-clause-ok : goal.returns-clause-ok
returns-clause-ok c =
    node_added c.self.inside.starts.items c.self.inside.targets.items c.args.self.now [] c.push.new.self.items c.self.inside.targets.items c.self.invariant
    c.self.view_is (starts c) (sym (append-nil c.self.inside.targets.items))
