-- Files by their names and waivers by their keys, each name and key once, by this product's own choice. The code looks an entry up by its
-- place, and changes the list there.
use Rattle.std.specs.Prelude.{◌≡◌, ℕ, Bool, false, ◌&&◌, List, [], ◌∷◌, bytes_eq, if◌then◌else◌}
use Rattle.std.specs.List.{list_any}
use Rattle.station_ports.specs.declared.lists.FileEntry.{FileEntry}
use Rattle.station_ports.specs.declared.lists.Waiver.{Waiver}
use Rattle.station_ports.specs.declared.lists.WaiverKey.{WaiverKey}

-- ---- lists in which an item takes the place of the one that is the same

-- the new item in the place of the first that passes, and else as the last
abbrev pub placed : {X : Type 0} → (X → Bool) → X → List X → List X
placed same new [] = new ∷ []
placed same new (x ∷ xs) = if same x then new ∷ xs else x ∷ placed same new xs

-- the list without the first that passes
abbrev pub taken_out : {X : Type 0} → (X → Bool) → List X → List X
taken_out same [] = []
taken_out same (x ∷ xs) = if same x then xs else x ∷ taken_out same xs

-- no two are the same
abbrev pub AreApart : {X : Type 0} → (X → X → Bool) → List X → Type 0
AreApart same [] = Unit {0}
AreApart same (x ∷ xs) = (list_any (same x) xs ≡ false) × AreApart same xs

-- ---- files

abbrev pub has_name : List ℕ → FileEntry → Bool
has_name name entry = bytes_eq name entry.name

-- the names of files differ
abbrev pub NamesApart : List FileEntry → Type 0
NamesApart files = AreApart (λ one. has_name one.name) files

abbrev pub is_file_in : List ℕ → List FileEntry → Bool
is_file_in name files = list_any (has_name name) files

-- the files with this text under that name: in the place of the file of that name, or as a new last one
abbrev pub with_file : List ℕ → List ℕ → List FileEntry → List FileEntry
with_file name text files = placed (has_name name) (record { name = name; text = text }) files

-- the files without the one of that name
abbrev pub without_file : List ℕ → List FileEntry → List FileEntry
without_file name files = taken_out (has_name name) files

-- ---- waivers

abbrev pub key_of : Waiver → WaiverKey
key_of waiver = record { code = waiver.code; unit = waiver.unit; subject = waiver.subject }

abbrev pub has_key : WaiverKey → Waiver → Bool
has_key key waiver = bytes_eq key.code waiver.code && (bytes_eq key.unit waiver.unit && bytes_eq key.subject waiver.subject)

-- the keys of waivers differ
abbrev pub KeysApart : List Waiver → Type 0
KeysApart waivers = AreApart (λ one. has_key (key_of one)) waivers

abbrev pub is_waived_in : WaiverKey → List Waiver → Bool
is_waived_in key waivers = list_any (has_key key) waivers

-- the waivers with this one: in the place of the one of its key, or as a new last one
abbrev pub with_waiver : Waiver → List Waiver → List Waiver
with_waiver waiver waivers = placed (has_key (key_of waiver)) waiver waivers

-- the waivers without the one of that key
abbrev pub without_waiver : WaiverKey → List Waiver → List Waiver
without_waiver key waivers = taken_out (has_key key) waivers
