-- Lists in which a name stands twice, marked name by name: a step on the way.
use Rattle.std.specs.Prelude.{◌≡◌, ℕ, ◌<◌, Bool, false, ◌&&◌, not, nat_eq, List, Option, Some, None}
use Rattle.std.specs.Prelude.{get_or, length}
use Rattle.std.specs.List.{list_any}
use Rattle.scope_names.specs.declared.names.NameRow.{NameRow}
use Rattle.type_parts.specs.Places.{place_in}
use Rattle.type_parts.specs.Tables.{list_at}

-- something is found, at another place
abbrev pub is_other : Option ℕ → ℕ → Bool
is_other None place = false
is_other (Some found) place = not (nat_eq found place)

-- the first name of its list that is the row's stands at another place
abbrev pub is_further : List (List (List ℕ)) → NameRow ℕ → Bool
is_further lists row = is_other (place_in (list_at lists row.scope) row.name.now) row.what

-- the row is such a further name in the list of that number
abbrev pub marks : List (List (List ℕ)) → ℕ → NameRow ℕ → Bool
marks lists number row = nat_eq row.scope number && is_further lists row

-- of that many lists those are marked that have such a row among some
pub record AreMarked (lists : List (List (List ℕ))) (count : ℕ) (some : List (NameRow ℕ))
    (twice : List Bool) : Type 0 where
  pub long : length twice ≡ count
  pub marked : (n : ℕ) → n < count → get_or twice n false ≡ list_any (marks lists n) some
