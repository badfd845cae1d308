-- The parts of a unit, in their order.
use Rattle.std.proofs.Common.{◌≡◌, ℕ, suc, ◌+◌, ◌<◌, Bool, true, false, List, ◌∷◌, ◌++◌, length, Option, Some, refl, ◌∙◌, subst, inl, inr, arith}
use Rattle.std.specs.Prelude.{map, flat_map, nat_eq, Contains}
use Rattle.std.specs.List.{find}
use Rattle.std.proofs.lemmas.Bool.{or_right, both_ways, cases_lt}
use Rattle.std.proofs.lemmas.List.{length-append}
use Rattle.st_tree.specs.declared.node.Node.{Node}
use Rattle.st_tree.specs.declared.node.NodeNo.{NodeNo}
use Rattle.first_form.specs.declared.tree.Stmt.{Stmt}
use Rattle.first_form.specs.declared.tree.Section.{Section}
use Rattle.first_form.specs.declared.tree.Unit.{Unit as SourceUnit}
use Rattle.first_form.specs.declared.tree.SourceTree.{SourceTree}
use Rattle.first_form.specs.Nodes.{CountsFrom, IsNumbered, stmt_nodes, decl_nodes, section_nodes, unit_nodes, nodes_of}
use Rattle.finding_spans.specs.Places.{has_number}
use Rattle.finding_spans.specs.Searches.{IsAmong}
use Rattle.first_form.proofs.Parts.{counts_left, counts_right}
use Rattle.finding_spans.proofs.Numbers.{has_in, has_from, has_of_numbers}
use Rattle.finding_spans.proofs.Parts.{has_append, has_part, found, part_of}

-- The nodes are numbered one after the other, and none of the numbers up to that one lies past them.
pub record Reach (number : NodeNo) (nodes : List Node) : Type 0 where
  pub from : ℕ
  pub counts : CountsFrom from nodes
  pub below : number.0 < from + length nodes

pub body_counts : (number : NodeNo) (unit : SourceUnit) → IsAmong number (unit_nodes unit) → Reach number (flat_map stmt_nodes unit.body)
body_counts number unit among =
    let sections : List Node = flat_map section_nodes unit.sections in
    let body : List Node = flat_map stmt_nodes unit.body in
    let within = has_in among.from number (unit_nodes unit) among.counts among.has in
    let total : length (sections ++ body) ≡ length sections + length body = length-append sections body in
    record {
      from = suc (suc among.from) + length sections;
      counts = counts_right (suc (suc among.from)) sections body among.counts.1.1;
      below = omega arith;
    }

pub section_counts : (number : NodeNo) (unit : SourceUnit) → IsAmong number (unit_nodes unit) → has_number number (flat_map stmt_nodes unit.body) ≡ false → Reach number (flat_map section_nodes unit.sections)
section_counts number unit among none =
    let sections : List Node = flat_map section_nodes unit.sections in
    let body : List Node = flat_map stmt_nodes unit.body in
    let from : ℕ = suc (suc among.from) in
    let within = has_in among.from number (unit_nodes unit) among.counts among.has in
    let total : length (sections ++ body) ≡ length sections + length body = length-append sections body in
    record {
      from = from;
      counts = counts_left from sections body among.counts.1.1;
      below = elim (cases_lt number.0 (from + length sections)) [
        | inl l ↦ l
        | inr l ↦ absurd (both_ways _ none (has_from (from + length sections) number body (counts_right from sections body among.counts.1.1) l (omega arith)))
      ];
    }

pub decl_counts : (number : NodeNo) (section : Section) → IsAmong number (section_nodes section) → Reach number (flat_map decl_nodes section.decls)
decl_counts number section among =
    let within = has_in among.from number (section_nodes section) among.counts among.has in
    record { from = suc among.from; counts = among.counts.1; below = omega arith }

-- what stands in the sections or the body stands in the unit
in_unit : (number : NodeNo) (unit : SourceUnit) → has_number number (flat_map section_nodes unit.sections ++ flat_map stmt_nodes unit.body) ≡ true → has_number number (unit_nodes unit) ≡ true
in_unit number unit h =
    or_right (nat_eq unit.node.number.0 number.0) (has_number number (unit.name.node ∷ (flat_map section_nodes unit.sections ++ flat_map stmt_nodes unit.body)))
    (or_right (nat_eq unit.name.node.number.0 number.0) (has_number number (flat_map section_nodes unit.sections ++ flat_map stmt_nodes unit.body)) h)

in_body : (number : NodeNo) (unit : SourceUnit) (stmt : Stmt) → Contains unit.body stmt → has_number number (stmt_nodes stmt) ≡ true → has_number number (unit_nodes unit) ≡ true
in_body number unit stmt b h =
    let sections : Bool = has_number number (flat_map section_nodes unit.sections) in
    in_unit number unit
    (has_append number (flat_map section_nodes unit.sections) (flat_map stmt_nodes unit.body) sections true refl (has_part stmt_nodes number unit.body stmt b h) ∙ or_right sections true refl)

module _ (tree : SourceTree) (number : NodeNo) (unit : SourceUnit) (stmt : Stmt) (numbered : IsNumbered tree) (u : Contains tree.units unit) (b : Contains unit.body stmt)
    (n : Contains (map (λ node. node.number) (stmt_nodes stmt)) number) where
  has_unit : has_number number (unit_nodes unit) ≡ true
  has_unit = in_body number unit stmt b (has_of_numbers number (stmt_nodes stmt) n)

  among_tree : IsAmong number (nodes_of tree)
  among_tree = record { from = 0; counts = numbered; has = has_part unit_nodes number tree.units unit u has_unit }

  unit_is_found : find (λ unit. has_number number (unit_nodes unit)) tree.units ≡ Some unit
  unit_is_found = found unit_nodes number 0 tree.units unit numbered u has_unit

  pub unit_found : (answer : Option SourceUnit) → (IsAmong number (nodes_of tree) → answer ≡ find (λ unit. has_number number (unit_nodes unit)) tree.units) → answer ≡ Some unit
  unit_found answer h = h among_tree ∙ unit_is_found

  statement_is_found : find (λ stmt. has_number number (stmt_nodes stmt)) unit.body ≡ Some stmt
  statement_is_found =
      let among = part_of unit_nodes number 0 tree.units unit numbered unit_is_found in
      let reach = body_counts number unit among in
      found stmt_nodes number reach.from unit.body stmt reach.counts b (has_of_numbers number (stmt_nodes stmt) n)

  pub statement_found : (v : SourceUnit) (answer : Option Stmt) → v ≡ unit → (IsAmong number (unit_nodes v) → answer ≡ find (λ stmt. has_number number (stmt_nodes stmt)) v.body) → answer ≡ Some stmt
  statement_found v answer e h =
      let among = part_of unit_nodes number 0 tree.units unit numbered unit_is_found in
      let P : SourceUnit → Type 0 = λ w. IsAmong number (unit_nodes w) → answer ≡ find (λ stmt. has_number number (stmt_nodes stmt)) w.body in
      subst P e h among ∙ statement_is_found
