use Rattle.std.proofs.Common.{rules, ◌-◌, get_or, pos, FitsSigned, int_le, sym, ◌∙◌}
use Rattle.std.proofs.lemmas.Int.{to_z-of_z}
use Rattle.std.proofs.lemmas.List.Sorted.{IsPartitionPoint-from_clause}
use mir.Syntax.{w128}
use Rattle.interval_domain.proofs.Searching.{parted-le, floor-none, floor-found}
use Rattle.interval_domain.proofs.grid.floor.Goals as goal

pub returns-then-count-eq0 : goal.returns-then-count-eq0
returns-then-count-eq0 c =
    let point = IsPartitionPoint-from_clause
    (λ n. int_le n c.args.value) _ _ c.partition_point-count.ensures.partitioned (parted-le _ c.args.value c.requires)
    (λ a r q k. search rules) in
    to_z-of_z w128 c.args.value c.ranges.value
    ∙ sym (floor-none c.args.numbers.now c.args.value c.partition_point-count.result c.if-count-eq0.true point)

pub returns-else-count-eq0 : goal.returns-else-count-eq0
returns-else-count-eq0 c =
    let point = IsPartitionPoint-from_clause
    (λ n. int_le n c.args.value) _ _ c.partition_point-count.ensures.partitioned (parted-le _ c.args.value c.requires)
    (λ a r q k. search rules) in
    let fits : FitsSigned w128 (get_or c.args.numbers.now (c.partition_point-count.result - 1) (pos 0)) = search rules
    in
    to_z-of_z w128 (get_or c.args.numbers.now (c.partition_point-count.result - 1) (pos 0)) fits
    ∙ sym (floor-found c.args.numbers.now c.args.value c.partition_point-count.result
    (pos 0) c.if-count-eq0.false c.partition_point-count.ensures.bound point)
