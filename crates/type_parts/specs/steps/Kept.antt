-- What the tables of enumerations and of fields keep: a step on the way.
use Rattle.std.specs.Prelude.{◌≡◌, ℕ, Bool, List, map}
use Rattle.std.specs.BTreeMap.{BTreeMap}
use Rattle.scope_names.specs.declared.names.NameRow.{NameRow}
use Rattle.type_parts.specs.Parts.{Enumeration}
use Rattle.type_parts.specs.Places.{has_twice}
use Rattle.type_parts.specs.Tables.{values_lists, IsTable}
use Rattle.type_parts.specs.steps.Numbered.{AreNumbers}

-- the names of lists, and which lists have a name twice
pub record AreNamed (lists : List (List (List ℕ))) (names : List (NameRow ℕ)) (twice : List Bool)
    : Type 0 where
  pub table : IsTable names lists
  pub twice_are : twice ≡ map has_twice lists

-- the same of the values of enumerations, with their numbers by their sites
pub record AreKept (enumerations : List Enumeration) (numbers : BTreeMap (ℕ × ℕ) ℕ)
    (names : List (NameRow ℕ)) (twice : List Bool) : Type 0 where
  pub numbered : AreNumbers 0 enumerations numbers
  pub named : AreNamed (values_lists enumerations) names twice
