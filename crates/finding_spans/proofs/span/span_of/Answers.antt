use Rattle.std.proofs.Common.{◌≡◌, ltb, ap, ◌∙◌, rules, arith}
use Rattle.std.proofs.lemmas.List.Sorted.{IsPartitionPoint-from_clause}
use Rattle.finding_spans.specs.Searches.{last_of_first}
use Rattle.finding_spans.proofs.Feeds.{place_counted, column_of}
use Rattle.finding_spans.proofs.span.span_of.Goals as goal
use Rattle.finding_spans.proofs.span.span_of.Goals.{in-None, in-Some}

pub returns-clause-position : goal.returns-clause-position
returns-clause-position c = λ text e long within.
    let start = c.args.node.start in
    let column : c.match-last_of_first.column ≡ column_of (last_of_first c.args.feeds.now c.partition_point-before.result) start =
    elim c.match-last_of_first.branch [
      | in-None w ↦ w.column-is ∙ ap (λ o. column_of o start) w.in-None.ensures
      | in-Some w ↦ w.column-is ∙ omega arith ∙ ap (λ o. column_of o start) w.in-Some.ensures
    ] in
    place_counted text c.args.feeds.now start c.partition_point-before.result c.match-last_of_first.column c.counted.result c.counted-2.result e long within c.partition_point-before.ensures.bound
    (λ parted. IsPartitionPoint-from_clause (λ feed. ltb feed start) c.args.feeds.now _ c.partition_point-before.ensures.partitioned parted (λ a r q k. search rules))
    column c.counted.ensures c.counted-2.ensures
