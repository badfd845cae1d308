-- Numbers of enumerations in a map: a step on the way.
use Rattle.std.specs.Prelude.{◌≡◌, ℕ, List}
use Rattle.std.specs.List.{position_from}
use Rattle.std.specs.Ordering.{nat_cmp, ordering_then}
use Rattle.std.specs.BTreeMap.{BTreeMap, get}
use Rattle.std.specs.declared.cmp.Ordering.{Ordering}
use Rattle.st_tree.specs.declared.node.Site.{Site}
use Rattle.type_parts.specs.Parts.{Enumeration}
use Rattle.type_parts.specs.Places.{is_listed_at}

abbrev pub key_cmp : ℕ × ℕ → ℕ × ℕ → Ordering
key_cmp a b = ordering_then (nat_cmp a.0 b.0) (nat_cmp a.1 b.1)

abbrev pub key_of : Site → ℕ × ℕ
key_of site = (site.file, site.node.0)

-- the map has the numbers of these enumerations, of which the first one has the number k
abbrev pub AreNumbers : ℕ → List Enumeration → BTreeMap (ℕ × ℕ) ℕ → Type 0
AreNumbers k enumerations numbers =
    (site : Site) → get key_cmp numbers (key_of site)
    ≡ position_from (is_listed_at site) k enumerations
