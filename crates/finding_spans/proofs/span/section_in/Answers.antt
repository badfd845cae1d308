use Rattle.std.proofs.Common.{◌∙◌, leb, rules}
use Rattle.std.proofs.lemmas.List.Sorted.{IsPartitionPoint-from_clause}
use Rattle.first_form.specs.Nodes.{section_nodes}
use Rattle.finding_spans.proofs.Heads.{section_rest, section_is}
use Rattle.finding_spans.proofs.Nested.{section_counts}
use Rattle.finding_spans.proofs.Parts.{point_found}
use Rattle.finding_spans.proofs.span.section_in.Goals as goal

pub returns : goal.returns
returns c = λ among none.
    let reach = section_counts c.args.node c.args.unit.now among none in
    c.last_of_first.ensures
    ∙ point_found section_nodes c.args.node (λ section. section.node) section_rest section_is reach.from c.args.unit.now.sections c.as_slice-sections.result.now c.partition_point-count.result reach.counts reach.below c.as_slice-sections.ensures
    c.partition_point-count.ensures.bound
    (λ parted. IsPartitionPoint-from_clause (λ section. leb section.node.number.0 c.args.node.0) c.as_slice-sections.result.now _ c.partition_point-count.ensures.partitioned parted (λ a r q k. search rules))
