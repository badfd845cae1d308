use Rattle.std.proofs.Common.{◌≡◌, ◌∙◌, ap, length, arith, ◌++◌, ◌∷◌, [], List, ℕ, length-append}
use Rattle.reference_graph.proofs.Storing.{node_added, starts_added}
use Rattle.reference_graph.proofs.graph.Graph.add_node.Goals as goal

pub invariant_of-self-in_err-extend_from_slice : goal.invariant_of-self-in_err-extend_from_slice
invariant_of-self-in_err-extend_from_slice c =
    let end : c.len.result ≡ length c.self.inside.targets.items = omega (arith, c.len.ensures, c.self.inside.targets.ok.0) in
    let stored : c.extend_from_slice.new.self.items ≡ c.self.inside.targets.items = c.in_err-extend_from_slice.ensures.items in
    starts_added c.self.inside.starts.items (length c.self.inside.targets.items) (length c.extend_from_slice.new.self.items) c.push.new.self.items
    c.self.invariant (omega (arith, ap (λ (xs : List ℕ). length xs) stored))
    (c.in_ok-push.ensures.items ∙ ap (λ (n : ℕ). c.self.inside.starts.items ++ n ∷ []) end)

pub invariant_of-self-2 : goal.invariant_of-self-2
invariant_of-self-2 c =
    let end : c.len.result ≡ length c.self.inside.targets.items = omega (arith, c.len.ensures, c.self.inside.targets.ok.0) in
    let stored : c.extend_from_slice.new.self.items ≡ c.self.inside.targets.items ++ c.args.targets.now = c.in_ok-extend_from_slice.ensures.items in
    starts_added c.self.inside.starts.items (length c.self.inside.targets.items) (length c.extend_from_slice.new.self.items) c.push.new.self.items
    c.self.invariant
    (omega (arith, ap (λ (xs : List ℕ). length xs) stored, length-append c.self.inside.targets.items c.args.targets.now))
    (c.in_ok-push.ensures.items ∙ ap (λ (n : ℕ). c.self.inside.starts.items ++ n ∷ []) end)

pub returns : goal.returns
returns c =
    let end : c.len.result ≡ length c.self.inside.targets.items = omega (arith, c.len.ensures, c.self.inside.targets.ok.0) in
    node_added c.self.inside.starts.items c.self.inside.targets.items c.args.self.now c.args.targets.now c.push.new.self.items
    c.extend_from_slice.new.self.items c.self.invariant c.self.view_is
    (c.in_ok-push.ensures.items ∙ ap (λ (n : ℕ). c.self.inside.starts.items ++ n ∷ []) end) c.in_ok-extend_from_slice.ensures.items
