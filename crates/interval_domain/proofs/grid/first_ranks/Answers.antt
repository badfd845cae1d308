use Rattle.std.proofs.Common.{◌≡◌, nat_eq}
use Rattle.std.specs.List.{dedup}
use Rattle.std.proofs.lemmas.List.Filters.{dedup_is}
use Rattle.interval_domain.proofs.Sets.{ranks-set}
use Rattle.interval_domain.proofs.grid.first_ranks.Goals as goal

pub returns : goal.returns
returns c =
    let left : c.dedup.new.self.items ≡ dedup nat_eq c.sort.new.self.items = dedup_is nat_eq _ _
    c.dedup.ensures.filtered in (
      c.dedup.new.self.items,
      ranks-set _ _ _ _ c.in_ok-ranks.ensures c.in_ok-sort.ensures.permutation
          c.in_ok-sort.ensures.sorted left,
      c.truncate.ensures.items,
    )
