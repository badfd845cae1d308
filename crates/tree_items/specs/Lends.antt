-- What a `Boxed` and an `Items` end as, where a `&mut` to what they hold is returned.
use Rattle.std.specs.Prelude.{ℕ, List, ◌++◌, length, take, drop, slice_set}
use Rattle.std.specs.Borrow.{Lends, Fml, RattleType, MutBor, Array}
use Rattle.tree_items.specs.contracts.boxed.Boxed as boxed
use Rattle.tree_items.specs.contracts.items.Items as items

module _ (T : RattleType) where
  -- once the borrow ends, the value is the last one written through it
  abbrev pub LendsValue : MutBor T.Denot → MutBor T.Denot → Fml
  LendsValue b r = Lends (boxed.the_row T) T b r (λ w. w)

  -- once the borrow ends, the item at the place is the last one written through it
  abbrev pub LendsItem : MutBor (List T.Denot) → ℕ → MutBor T.Denot → Fml
  LendsItem b at r = Lends (items.the_row T) T b r (slice_set b.now at)

  -- once the borrow ends, the items are the last ones written through it, as many as before
  abbrev pub LendsItems : MutBor (List T.Denot) → MutBor (List T.Denot) → Fml
  LendsItems b r =
      Lends (items.the_row T) (Array T 0) b r
      (λ w. take (length b.now) (w ++ drop (length w) b.now))
