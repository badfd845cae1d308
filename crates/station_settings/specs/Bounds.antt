-- The bounds of a document, read before the other fields: a step on the way.
use Rattle.std.specs.Prelude.{◌≡◌, Some}
use Rattle.toml.specs.Data.{Members}
use Rattle.station_settings.specs.Schema as schema
use Rattle.station_settings.specs.declared.settings.Bounds.{Bounds}

pub record HasBounds (document : Members) (bounds : Bounds) : Type 0 where
  pub name_min : schema.name_min document ≡ Some bounds.name_min
  pub name_max : schema.name_max bounds.name_min document ≡ Some bounds.name_max
  pub max_nesting : schema.max_nesting document ≡ Some bounds.max_nesting
  pub max_statements : schema.max_statements document ≡ Some bounds.max_statements
