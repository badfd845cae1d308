use Rattle.std.proofs.Common.{rules, is_lt}
use Rattle.std.proofs.lemmas.List.Sorted.{IsPartitionPoint-from_clause}
use Rattle.scope_names.specs.Searches.{against}
use Rattle.scope_names.proofs.Tables.{parted-lt}
use Rattle.scope_names.proofs.names.start_of.Goals as goal

pub returns-clause-starts : goal.returns-clause-starts
returns-clause-starts g c =
    let scope = c.args.scope in
    let name = c.args.name.now in
    IsPartitionPoint-from_clause (λ row. is_lt (against scope name row)) c.args.rows.now _ c.partition_point.ensures.partitioned (parted-lt c.args.rows.now c.requires scope name) (λ a r q k. search rules)
