-- How many items a list has; what a loop over them has found, before what the rest gives.
use Rattle.std.proofs.Common.{◌≡◌, List, [], ◌∷◌, ◌++◌, length, Option, Some, None, refl, ap, suc}
use Rattle.toml.specs.View.{items_view}
use Rattle.toml.specs.declared.value.Value.{Value}
use Rattle.station_settings.specs.Schema.{count}

pub count_is : (values : List Value) → count (items_view values) ≡ length values
count_is [] = refl
count_is (value ∷ values) = ap suc (count_is values)

abbrev pub behind : {A : Type 0} → List A → Option (List A) → Option (List A)
behind found None = None
behind found (Some rest) = Some (found ++ rest)
