-- What stands under a name in a list of named contents, by this product's own choice. The code compares names as bytes, and stops
-- at the first that is equal.
use Rattle.std.specs.Prelude.{◌≢◌, ℕ, List, [], Option, Some, AllPairs, bytes_eq, find, option_map, unwrap_or}
use Rattle.station_ports.specs.declared.memory.FileBytes.{FileBytes}

-- no two entries have the same name
abbrev pub NamesDiffer : List FileBytes → Type 0
NamesDiffer entries = AllPairs (λ one other. one.name ≢ other.name) entries

-- the content of the entry of that name, and of the first where there are more
abbrev pub content_of : List FileBytes → List ℕ → Option (List ℕ)
content_of entries name = option_map (λ entry. entry.bytes.items) (find (λ entry. bytes_eq entry.name name) entries)

-- the same, and an empty content for each other name
abbrev pub content_or_empty : List FileBytes → List ℕ → Option (List ℕ)
content_or_empty entries name = Some (unwrap_or (content_of entries name) [])
