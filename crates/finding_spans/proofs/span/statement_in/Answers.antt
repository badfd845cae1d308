use Rattle.std.proofs.Common.{◌∙◌, leb, rules}
use Rattle.std.proofs.lemmas.List.Sorted.{IsPartitionPoint-from_clause}
use Rattle.first_form.specs.Nodes.{stmt_nodes}
use Rattle.finding_spans.specs.Places.{stmt_node}
use Rattle.finding_spans.proofs.Heads.{stmt_rest, stmt_is}
use Rattle.finding_spans.proofs.Nested.{body_counts}
use Rattle.finding_spans.proofs.Parts.{point_found}
use Rattle.finding_spans.proofs.span.statement_in.Goals as goal

pub returns : goal.returns
returns c = λ among.
    let body = body_counts c.args.node c.args.unit.now among in
    c.last_of_first.ensures
    ∙ point_found stmt_nodes c.args.node stmt_node stmt_rest stmt_is body.from c.args.unit.now.body c.as_slice-body.result.now c.partition_point-count.result body.counts body.below c.as_slice-body.ensures c.partition_point-count.ensures.bound
    (λ parted. IsPartitionPoint-from_clause (λ stmt. leb (stmt_node stmt).number.0 c.args.node.0) c.as_slice-body.result.now _ c.partition_point-count.ensures.partitioned parted (λ a r q k. search rules))
