-- The holders of a unit, and those of them that hold a node.
use Rattle.std.proofs.Common.{◌≡◌, suc, Bool, true, false, List, [], ◌∷◌, ◌++◌, Option, Some, None, refl, ap, sym, ◌∙◌, append-nil}
use Rattle.std.specs.Prelude.{map, flat_map, nat_eq, unwrap_or, Contains}
use Rattle.std.specs.List.{find, filter}
use Rattle.std.proofs.lemmas.Bool.{or_parts, both_ways, false_from_ne_true}
use Rattle.std.proofs.lemmas.List.Concat.{flat_map_single}
use Rattle.std.proofs.lemmas.List.Elements.{filter-append}
use Rattle.st_tree.specs.declared.node.Node.{Node}
use Rattle.st_tree.specs.declared.node.NodeNo.{NodeNo}
use Rattle.first_form.specs.declared.tree.Stmt.{Stmt}
use Rattle.first_form.specs.declared.tree.Decl.{Decl}
use Rattle.first_form.specs.declared.tree.Section.{Section}
use Rattle.first_form.specs.declared.tree.Unit.{Unit as SourceUnit}
use Rattle.first_form.specs.declared.tree.SourceTree.{SourceTree}
use Rattle.first_form.specs.Nodes.{IsNumbered, stmt_nodes, decl_nodes, section_nodes, unit_nodes, nodes_of}
use Rattle.finding_spans.specs.Places.{Holder, has_number, decl_holders, stmt_node, stmt_holder, unit_holders, holds, last_of, holder_of}
use Rattle.finding_spans.specs.Searches.{IsAmong}
use Rattle.finding_spans.proofs.Numbers.{apart, has_of_numbers}
use Rattle.finding_spans.proofs.Parts.{has_append, none_has, part_of, held_by_none, held_by_one, has_found}
use Rattle.finding_spans.proofs.Names.{filter_yes, filter_no, decl_quiet}
use Rattle.finding_spans.proofs.Nested.{body_counts, section_counts, decl_counts}

-- the holders of a section, and of the statements one by one
abbrev pub section_holders : Section → List Holder
section_holders section = flat_map decl_holders section.decls

abbrev one_holder : Stmt → List Holder
one_holder stmt = stmt_holder stmt ∷ []

abbrev pub has_section : NodeNo → Section → Bool
has_section number section = has_number number (section_nodes section)

abbrev pub has_decl : NodeNo → Decl → Bool
has_decl number decl = has_number number (decl_nodes decl)

abbrev pub has_stmt : NodeNo → Stmt → Bool
has_stmt number stmt = has_number number (stmt_nodes stmt)

abbrev pub has_unit : NodeNo → SourceUnit → Bool
has_unit number unit = has_number number (unit_nodes unit)

-- ---- what doesn't have the node has no holder of it

section_quiet : (number : NodeNo) (section : Section) → has_section number section ≡ false → filter (holds number) (section_holders section) ≡ []
section_quiet number section h =
    let parts = or_parts (nat_eq section.node.number.0 number.0) (has_number number (flat_map decl_nodes section.decls)) h in
    held_by_none decl_nodes number decl_holders (decl_quiet number) section.decls parts.1

stmt_quiet : (number : NodeNo) (stmt : Stmt) → has_stmt number stmt ≡ false → filter (holds number) (one_holder stmt) ≡ []
stmt_quiet number stmt h = filter_no (holds number) (stmt_holder stmt) [] h

body_quiet : (number : NodeNo) (body : List Stmt) → has_number number (flat_map stmt_nodes body) ≡ false → filter (holds number) (map stmt_holder body) ≡ []
body_quiet number body h = ap (filter (holds number)) (sym (flat_map_single stmt_holder body)) ∙ held_by_none stmt_nodes number one_holder (stmt_quiet number) body h

inside_quiet : (number : NodeNo) (unit : SourceUnit) → has_number number (flat_map section_nodes unit.sections) ≡ false → has_number number (flat_map stmt_nodes unit.body) ≡ false
    → filter (holds number) (flat_map section_holders unit.sections ++ map stmt_holder unit.body) ≡ []
inside_quiet number unit s b =
    filter-append (holds number) (flat_map section_holders unit.sections) (map stmt_holder unit.body)
    ∙ ap (λ (hs : List Holder). hs ++ filter (holds number) (map stmt_holder unit.body)) (held_by_none section_nodes number section_holders (section_quiet number) unit.sections s)
    ∙ body_quiet number unit.body b

unit_quiet : (number : NodeNo) (unit : SourceUnit) → has_unit number unit ≡ false → filter (holds number) (unit_holders unit) ≡ []
unit_quiet number unit h =
    let inside : List Node = flat_map section_nodes unit.sections ++ flat_map stmt_nodes unit.body in
    let after = or_parts (nat_eq unit.node.number.0 number.0) (has_number number (unit.name.node ∷ inside)) h in
    let within = or_parts (nat_eq unit.name.node.number.0 number.0) (has_number number inside) after.1 in
    let parts = or_parts _ _ (sym (has_append number (flat_map section_nodes unit.sections) (flat_map stmt_nodes unit.body) _ _ refl refl) ∙ within.1) in
    filter_no (holds number) (record { node = unit.node; held = unit_nodes unit }) (flat_map section_holders unit.sections ++ map stmt_holder unit.body) h ∙ inside_quiet number unit parts.0 parts.1

-- ---- the holder among declaration names

pub no_section : (number : NodeNo) (unit : SourceUnit) → None ≡ find (has_section number) unit.sections → None ≡ last_of (filter (holds number) (flat_map section_holders unit.sections))
no_section number unit e =
    sym (ap last_of (held_by_none section_nodes number section_holders (section_quiet number) unit.sections (none_has section_nodes number unit.sections (sym e))))

pub in_section : (number : NodeNo) (unit : SourceUnit) (section : Section) → IsAmong number (unit_nodes unit) → has_number number (flat_map stmt_nodes unit.body) ≡ false → Some section ≡ find (has_section number) unit.sections
    → IsAmong number (section_nodes section) × (filter (holds number) (flat_map section_holders unit.sections) ≡ filter (holds number) (section_holders section))
in_section number unit section among none e =
    let reach = section_counts number unit among none in (
      part_of section_nodes number reach.from unit.sections section reach.counts (sym e),
      held_by_one section_nodes number section_holders (section_quiet number) reach.from unit.sections section reach.counts (sym e),
    )

pub no_decl : (number : NodeNo) (section : Section) → None ≡ find (has_decl number) section.decls → None ≡ last_of (filter (holds number) (section_holders section))
no_decl number section e = sym (ap last_of (held_by_none decl_nodes number decl_holders (decl_quiet number) section.decls (none_has decl_nodes number section.decls (sym e))))

pub in_decl : (number : NodeNo) (section : Section) (decl : Decl) → IsAmong number (section_nodes section) → Some decl ≡ find (has_decl number) section.decls
    → IsAmong number (decl_nodes decl) × (filter (holds number) (section_holders section) ≡ filter (holds number) (decl_holders decl))
in_decl number section decl among e =
    let reach = decl_counts number section among in (
      part_of decl_nodes number reach.from section.decls decl reach.counts (sym e),
      held_by_one decl_nodes number decl_holders (decl_quiet number) reach.from section.decls decl reach.counts (sym e),
    )

-- ---- the holder in a unit

last_cons : (holder : Holder) (holders : List Holder) → last_of (holder ∷ holders) ≡ Some (unwrap_or (last_of holders) holder.node)
last_cons holder [] = refl
last_cons holder (next ∷ holders) =
    let later = last_cons next holders in
    later ∙ sym (ap (λ (o : Option Node). Some (unwrap_or o holder.node)) later)

-- the unit holds each of its nodes, and then its sections or its statements may
held_inside : (number : NodeNo) (unit : SourceUnit) (s b : List Holder) → has_unit number unit ≡ true → filter (holds number) (flat_map section_holders unit.sections) ≡ s → filter (holds number) (map stmt_holder unit.body) ≡ b
    → last_of (filter (holds number) (unit_holders unit)) ≡ Some (unwrap_or (last_of (s ++ b)) unit.node)
held_inside number unit s b h es eb =
    let own : Holder = record { node = unit.node; held = unit_nodes unit } in
    let inside : List Holder = flat_map section_holders unit.sections ++ map stmt_holder unit.body in
    let split : filter (holds number) inside ≡ s ++ b =
    filter-append (holds number) (flat_map section_holders unit.sections) (map stmt_holder unit.body) ∙ ap (λ (hs : List Holder). hs ++ filter (holds number) (map stmt_holder unit.body)) es
    ∙ ap (λ (hs : List Holder). s ++ hs) eb in
    ap last_of (filter_yes (holds number) own inside h ∙ ap (λ (hs : List Holder). own ∷ hs) split) ∙ last_cons own (s ++ b)

pub held_by_stmt : (number : NodeNo) (unit : SourceUnit) (stmt : Stmt) → IsAmong number (unit_nodes unit) → Some stmt ≡ find (has_stmt number) unit.body → last_of (filter (holds number) (unit_holders unit)) ≡ Some (stmt_node stmt)
held_by_stmt number unit stmt among e =
    let sections : List Node = flat_map section_nodes unit.sections in
    let body : List Node = flat_map stmt_nodes unit.body in
    let reach = body_counts number unit among in
    let here = part_of stmt_nodes number reach.from unit.body stmt reach.counts (sym e) in
    let in_body : has_number number body ≡ true = has_found stmt_nodes number unit.body stmt (sym e) in
    let elsewhere : has_number number sections ≡ false = false_from_ne_true _ (λ s. both_ways _ (apart (suc (suc among.from)) number sections body among.counts.1.1 s) in_body) in
    let s = held_by_none section_nodes number section_holders (section_quiet number) unit.sections elsewhere in
    let b : filter (holds number) (map stmt_holder unit.body) ≡ stmt_holder stmt ∷ [] =
    ap (filter (holds number)) (sym (flat_map_single stmt_holder unit.body)) ∙ held_by_one stmt_nodes number one_holder (stmt_quiet number) reach.from unit.body stmt reach.counts (sym e)
    ∙ filter_yes (holds number) (stmt_holder stmt) [] here.has in
    held_inside number unit [] (stmt_holder stmt ∷ []) among.has s b

pub no_stmt : (number : NodeNo) (unit : SourceUnit) → None ≡ find (has_stmt number) unit.body → has_number number (flat_map stmt_nodes unit.body) ≡ false
no_stmt number unit e = none_has stmt_nodes number unit.body (sym e)

pub held_by_other : (number : NodeNo) (unit : SourceUnit) → IsAmong number (unit_nodes unit) → has_number number (flat_map stmt_nodes unit.body) ≡ false
    → last_of (filter (holds number) (unit_holders unit)) ≡ Some (unwrap_or (last_of (filter (holds number) (flat_map section_holders unit.sections))) unit.node)
held_by_other number unit among none =
    let s : List Holder = filter (holds number) (flat_map section_holders unit.sections) in
    held_inside number unit s [] among.has refl (body_quiet number unit.body none) ∙ ap (λ (hs : List Holder). Some (unwrap_or (last_of hs) unit.node)) (append-nil s)

-- ---- the holder in a tree

pub no_unit : (number : NodeNo) (tree : SourceTree) → IsAmong number (nodes_of tree) → None ≡ find (has_unit number) tree.units → ⊥
no_unit number tree among e = both_ways _ (none_has unit_nodes number tree.units (sym e)) among.has

pub held_in_unit : (number : NodeNo) (tree : SourceTree) (unit : SourceUnit) (node : Node) → IsAmong number (nodes_of tree) → Some unit ≡ find (has_unit number) tree.units
    → (IsAmong number (unit_nodes unit) → last_of (filter (holds number) (unit_holders unit)) ≡ Some node) → holder_of tree number ≡ Some node
held_in_unit number tree unit node among e h =
    ap last_of (held_by_one unit_nodes number unit_holders (unit_quiet number) among.from tree.units unit among.counts (sym e))
    ∙ h (part_of unit_nodes number among.from tree.units unit among.counts (sym e))

pub among_numbers : (number : NodeNo) (tree : SourceTree) → IsNumbered tree → Contains (map (λ node. node.number) (nodes_of tree)) number → IsAmong number (nodes_of tree)
among_numbers number tree numbered h = record { from = 0; counts = numbered; has = has_of_numbers number (nodes_of tree) h }
