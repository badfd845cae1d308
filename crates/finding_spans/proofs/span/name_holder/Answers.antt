use Rattle.std.proofs.Common.{◌≡◌, false, ltb, List, Some, sym, subst, rules}
use Rattle.std.specs.Prelude.{map, Contains, slice_get}
use Rattle.std.proofs.lemmas.Bool.{eqb-true}
use Rattle.std.proofs.lemmas.List.Sorted.{IsPartitionPoint-from_clause}
use Rattle.first_form.specs.declared.tree.Identifier.{Identifier}
use Rattle.first_form.specs.Nodes.{name_node}
use Rattle.finding_spans.specs.Places.{has_number}
use Rattle.finding_spans.proofs.Names.{held_by_name, held_by_first, no_name_in, other_name, past_names}
use Rattle.finding_spans.proofs.span.name_holder.Goals as goal
use Rattle.finding_spans.proofs.span.name_holder.Goals.{in_default-via-in-Some+else-eq, in_default-via-in_default}

pub returns-in-Some : goal.returns-in-Some
returns-in-Some c = λ among.
    let name : Identifier = c.in-Some.name.now in
    let found = c.in-Some.ensures.lookup in
    let there = subst (λ names. Contains names name) c.as_slice-names.ensures (c.partition_point-count.result, found.3.0, sym found.1) in
    sym (held_by_name c.args.node c.args.decl.now name among there (eqb-true name.node.number.0 c.args.node.0 (sym c.if-eq.ensures)))

pub returns-in_ok-first-in_default : goal.returns-in_ok-first-in_default
returns-in_ok-first-in_default c = λ among.
    let names : List Identifier = c.as_slice-names.result.now in
    let none : has_number c.args.node (map name_node c.args.decl.now.names) ≡ false =
    no_name_in c.args.node c.args.decl.now names c.partition_point-count.result c.as_slice-names.ensures among c.partition_point-count.ensures.bound
    (λ parted. IsPartitionPoint-from_clause (λ name. ltb name.node.number.0 c.args.node.0) names _ c.partition_point-count.ensures.partitioned parted (λ a r q k. search rules))
    (elim c.in_default.branch [
      | in_default-via-in-Some+else-eq w ↦ other_name c.args.node names c.partition_point-count.result w.in-Some.name.now w.in-Some.ensures.lookup.3.0 w.in-Some.ensures.lookup.1 (sym w.if-eq.ensures)
      | in_default-via-in_default w ↦ past_names c.args.node names c.partition_point-count.result w.in_default.ensures.lookup.3
    ]) in
    let first = c.in_ok-first-in_default.field-0.now in
    let at : slice_get c.args.decl.now.names 0 ≡ Some first = subst (λ (xs : List Identifier). slice_get xs 0 ≡ Some first) c.as_slice-names.ensures (sym c.in_ok-first-in_default.ensures.value) in
    sym (held_by_first c.args.node c.args.decl.now first among at none)
