use Rattle.std.proofs.Common.{rules, is_le}
use Rattle.std.proofs.lemmas.List.Sorted.{IsPartitionPoint-from_clause}
use Rattle.scope_names.specs.Searches.{against}
use Rattle.scope_names.proofs.Tables.{parted-le}
use Rattle.scope_names.proofs.names.end_of.Goals as goal

pub returns-clause-ends : goal.returns-clause-ends
returns-clause-ends g c =
    let scope = c.args.scope in
    let name = c.args.name.now in
    IsPartitionPoint-from_clause (λ row. is_le (against scope name row)) c.args.rows.now _ c.partition_point.ensures.partitioned (parted-le c.args.rows.now c.requires scope name) (λ a r q k. search rules)
