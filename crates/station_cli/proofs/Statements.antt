-- The nodes of the statements of a tree of one unit are nodes of the tree.
use Rattle.std.proofs.Common.{◌≡◌, List, [], ◌∷◌, sym, subst, ⊎_elim, arith}
use Rattle.std.specs.Prelude.{map, flat_map}
use Rattle.std.specs.List.{Contains}
use Rattle.st_tree.specs.declared.node.Node.{Node}
use Rattle.st_tree.specs.declared.node.NodeNo.{NodeNo}
use Rattle.first_form.specs.declared.tree.Stmt.{Stmt}
use Rattle.first_form.specs.declared.tree.Unit.{Unit as SourceUnit}
use Rattle.first_form.specs.declared.tree.SourceTree.{SourceTree}
use Rattle.first_form.specs.Nodes.{stmt_nodes, section_nodes, unit_nodes, nodes_of}
use Rattle.task_config.proofs.Held.{numbers_more, numbers_less}
use Rattle.station_cli.specs.steps.Lines.{IsInBody}
use Rattle.cycle_analysis.proofs.Lists.{in_cases}

in_body : (body : List Stmt) (stmt : Stmt) (number : NodeNo) → Contains body stmt → Contains (map (λ (n : Node). n.number) (stmt_nodes stmt)) number → Contains (map (λ (n : Node). n.number) (flat_map stmt_nodes body)) number
in_body [] stmt number c h = absurd (omega (arith, c.1))
in_body (s ∷ body) stmt number c h =
    ⊎_elim (λ e. numbers_less (stmt_nodes s) (flat_map stmt_nodes body) number (subst (λ (x : Stmt). Contains (map (λ (n : Node). n.number) (stmt_nodes x)) number) (sym e) h))
    (λ d. numbers_more (stmt_nodes s) (flat_map stmt_nodes body) number (in_body body stmt number d h)) (in_cases s stmt body c)

pub in_tree : (tree : SourceTree) (unit : SourceUnit) (number : NodeNo) → tree.units ≡ unit ∷ [] → IsInBody unit number → Contains (map (λ (n : Node). n.number) (nodes_of tree)) number
in_tree tree unit number e h =
    subst (λ (units : List SourceUnit). Contains (map (λ (n : Node). n.number) (flat_map unit_nodes units)) number) (sym e)
    (numbers_less (unit_nodes unit) [] number
    (numbers_more (unit.node ∷ (unit.name.node ∷ flat_map section_nodes unit.sections)) (flat_map stmt_nodes unit.body) number (in_body unit.body h.stmt number h.there h.holds)))
