-- Of a tree whose nodes are numbered, one statement holds a node.
use Rattle.std.proofs.Common.{◌≡◌, sym, ◌∙◌, refl}
use Rattle.std.specs.Prelude.{map, Contains, Some}
use Rattle.std.specs.List.{find}
use Rattle.std.proofs.lemmas.Option.{same_Some}
use Rattle.st_tree.specs.declared.node.Node.{Node}
use Rattle.st_tree.specs.declared.node.NodeNo.{NodeNo}
use Rattle.first_form.specs.declared.tree.Stmt.{Stmt}
use Rattle.first_form.specs.declared.tree.Unit.{Unit as SourceUnit}
use Rattle.first_form.specs.declared.tree.SourceTree.{SourceTree}
use Rattle.first_form.specs.Nodes.{IsNumbered, stmt_nodes}
use Rattle.finding_spans.specs.Places.{has_number}
use Rattle.finding_spans.proofs.Nested.{statement_found}

abbrev Holds : Stmt → NodeNo → Type 0
Holds stmt number = Contains (map (λ (node : Node). node.number) (stmt_nodes stmt)) number

pub one_statement : (tree : SourceTree) (number : NodeNo) (unit : SourceUnit) (s t : Stmt) → IsNumbered tree → Contains tree.units unit
    → Contains unit.body s → Contains unit.body t → Holds s number → Holds t number → s ≡ t
one_statement tree number unit s t numbered u bs bt hs ht =
    let found = find (λ (stmt : Stmt). has_number number (stmt_nodes stmt)) unit.body in
    let first : found ≡ Some s = statement_found tree number unit s numbered u bs hs unit found refl (λ among. refl) in
    let second : found ≡ Some t = statement_found tree number unit t numbered u bt ht unit found refl (λ among. refl) in
    same_Some s t (sym first ∙ second)
