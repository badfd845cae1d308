use Rattle.std.proofs.Common.{◌∙◌, leb, rules}
use Rattle.std.proofs.lemmas.List.Sorted.{IsPartitionPoint-from_clause}
use Rattle.first_form.specs.Nodes.{decl_nodes}
use Rattle.finding_spans.proofs.Heads.{decl_rest, decl_is}
use Rattle.finding_spans.proofs.Nested.{decl_counts}
use Rattle.finding_spans.proofs.Parts.{point_found}
use Rattle.finding_spans.proofs.span.decl_in.Goals as goal

pub returns : goal.returns
returns c = λ among.
    let reach = decl_counts c.args.node c.args.section.now among in
    c.last_of_first.ensures
    ∙ point_found decl_nodes c.args.node (λ decl. decl.node) decl_rest decl_is reach.from c.args.section.now.decls c.as_slice-decls.result.now c.partition_point-count.result reach.counts reach.below c.as_slice-decls.ensures
    c.partition_point-count.ensures.bound
    (λ parted. IsPartitionPoint-from_clause (λ decl. leb decl.node.number.0 c.args.node.0) c.as_slice-decls.result.now _ c.partition_point-count.ensures.partitioned parted (λ a r q k. search rules))
