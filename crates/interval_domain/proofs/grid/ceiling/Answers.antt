use Rattle.std.proofs.Common.{rules, get_or, pos, FitsSigned, arith, int_lt, sym, ◌∙◌}
use Rattle.std.proofs.lemmas.Int.{to_z-of_z}
use Rattle.std.proofs.lemmas.List.Sorted.{IsPartitionPoint-from_clause}
use mir.Syntax.{w128}
use Rattle.interval_domain.proofs.Searching.{parted-lt, ceiling-none, ceiling-found}
use Rattle.interval_domain.proofs.grid.ceiling.Goals as goal

pub returns-then-count-numbers : goal.returns-then-count-numbers
returns-then-count-numbers c =
    let point = IsPartitionPoint-from_clause
    (λ n. int_lt n c.args.value) _ _ c.partition_point-count.ensures.partitioned (parted-lt _ c.args.value c.requires)
    (λ a r q k. search rules) in
    let fits : FitsSigned w128 (get_or c.args.numbers.now c.partition_point-count.result (pos 0)) = search rules in
    to_z-of_z w128 (get_or c.args.numbers.now c.partition_point-count.result (pos 0)) fits
    ∙ sym (ceiling-found c.args.numbers.now c.args.value c.partition_point-count.result (pos 0) (omega arith) point)

pub returns-else-count-numbers : goal.returns-else-count-numbers
returns-else-count-numbers c =
    let point = IsPartitionPoint-from_clause
    (λ n. int_lt n c.args.value) _ _ c.partition_point-count.ensures.partitioned (parted-lt _ c.args.value c.requires)
    (λ a r q k. search rules) in
    to_z-of_z w128 c.args.value c.ranges.value
    ∙ sym (ceiling-none c.args.numbers.now c.args.value c.partition_point-count.result
    c.partition_point-count.ensures.bound (omega arith) point)
