use Rattle.std.proofs.Common.{ltb, sym, rules}
use Rattle.std.proofs.lemmas.List.Sorted.{IsPartitionPoint-from_clause, IsPartitionedBy-ltb}
use Rattle.tree_numbers.specs.NumberedAt.{before}
use Rattle.tree_numbers.proofs.Counts.{count_to}
use Rattle.tree_numbers.proofs.starts.Starts.before.Goals as goal

pub returns : goal.returns
unfolding before
returns c =
    let parted = IsPartitionedBy-ltb (λ x. x) _ c.args.place c.self.invariant in
    let point =
    IsPartitionPoint-from_clause (λ x. ltb x c.args.place) _ _
    c.partition_point.ensures.partitioned parted (λ a r q k. search rules) in
    rw (sym c.self.view_is) (count_to (λ x. ltb x c.args.place) _ _ c.partition_point.ensures.bound point)
