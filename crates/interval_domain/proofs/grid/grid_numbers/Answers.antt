use Rattle.std.proofs.Common.{◌≡◌, ◌∙◌, ◌++◌, map}
use Rattle.std.specs.List.{dedup}
use Rattle.std.specs.Ordering.{int_eq}
use Rattle.std.proofs.lemmas.List.Filters.{dedup_is}
use Rattle.interval_domain.specs.Grid as grids
use Rattle.interval_domain.proofs.Sets.{numbers-set}
use Rattle.interval_domain.proofs.grid.grid_numbers.Goals as goal

pub returns : goal.returns
returns c =
    let left : c.dedup.new.self.items ≡ dedup int_eq c.sort.new.self.items = dedup_is int_eq _ _
    c.dedup.ensures.filtered in
    let made : c.push_numbers.new.numbers.items ≡ grids.type_bounds ++ map grids.number_of c.in_ok-ranks.ranks.items =
    c.in_ok-push_numbers.ensures ∙ (λ n. c.in_ok-numbers.ensures n ++ map grids.number_of
    (c.deref.ensures.value n)) in (
      c.in_ok-ranks.ranks.items,
      c.in_ok-ranks.ensures,
      numbers-set _ _ _ _ made c.in_ok-sort.ensures.permutation c.in_ok-sort.ensures.sorted left,
    )
