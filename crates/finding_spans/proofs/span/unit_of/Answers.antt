use Rattle.std.proofs.Common.{◌∙◌, leb, rules}
use Rattle.std.proofs.lemmas.List.Sorted.{IsPartitionPoint-from_clause}
use Rattle.first_form.specs.Nodes.{unit_nodes, nodes_of}
use Rattle.finding_spans.proofs.Heads.{unit_rest, unit_is}
use Rattle.finding_spans.proofs.Numbers.{has_in}
use Rattle.finding_spans.proofs.Parts.{point_found}
use Rattle.finding_spans.proofs.span.unit_of.Goals as goal

pub returns : goal.returns
returns c = λ among.
    let within = has_in among.from c.args.node (nodes_of c.args.tree.now) among.counts among.has in
    c.last_of_first.ensures
    ∙ point_found unit_nodes c.args.node (λ unit. unit.node) unit_rest unit_is among.from c.args.tree.now.units c.as_slice-units.result.now c.partition_point-count.result among.counts within.1 c.as_slice-units.ensures c.partition_point-count.ensures.bound
    (λ parted. IsPartitionPoint-from_clause (λ unit. leb unit.node.number.0 c.args.node.0) c.as_slice-units.result.now _ c.partition_point-count.ensures.partitioned parted (λ a r q k. search rules))
