-- What each call of the outside does to what contracts see: this product's own rules, which every form of the outside meets.
use Rattle.std.specs.Prelude.{◌≡◌, ℕ, ◌+◌, ◌-◌, ◌^◌, ◌<◌, ◌≤◌, min, List, length, take, Option, Some, None, Result, Ok, Err, IsSomeAnd, IfSome, IsErr, option_map}
use Rattle.std.specs.Io.{ReadsAtMost}
use Rattle.std.specs.Io.KnownBytes.{Appends, ReadConsumes}
use Rattle.station_ports.specs.Views.{FilesView, PortView}
use Rattle.station_ports.specs.declared.outside.PutRefusal.{PutRefusal}
use Rattle.station_ports.specs.declared.outside.PutRefusal.TheVariants.{Failed, NoMemory}

-- the count rose, or stands at its counter's last value
abbrev pub Rose : ℕ → ℕ → Type 0
Rose before now = min (before + 1) (2 ^ 64 - 1) ≤ now

-- the count rose by one, or stands at its counter's last value
abbrev pub IsNextCount : ℕ → ℕ → Type 0
IsNextCount before now = now ≡ min (before + 1) (2 ^ 64 - 1)

-- one call more, where the object tells
abbrev pub IsCalled : Option ℕ → Option ℕ → Type 0
IsCalled before now = now ≡ option_map (λ count. min (count + 1) (2 ^ 64 - 1)) before

-- A call counts itself where it failed, and nothing else.
pub record IsFaultCounted (before now : ℕ) (Failed : Type 0) : Type 0 where
  pub later : before ≤ now
  pub failed : Failed → IsNextCount before now
  pub otherwise : (Failed → ⊥) → now ≡ before

-- this is the content of that name, where the files tell
abbrev pub Holds : FilesView → List ℕ → List ℕ → Type 0
Holds files name content = IfSome files.contents (λ content_of. content_of name ≡ Some content)

-- the content of that name is longer than the limit, where the files tell
abbrev pub IsTooLong : FilesView → List ℕ → ℕ → Type 0
IsTooLong files name limit = IfSome files.contents (λ content_of. IsSomeAnd (content_of name) (λ content. limit < length content))

-- the files tell, and nothing stands under that name
abbrev pub IsMissing : FilesView → List ℕ → Type 0
IsMissing files name = IsSomeAnd files.contents (λ content_of. content_of name ≡ None)

-- Files::read at Ok: the content of that name, within the limit
pub record IsContent (files : FilesView) (name : List ℕ) (limit : ℕ) (content : List ℕ) : Type 0 where
  pub holds : Holds files name content
  pub within : length content ≤ limit

-- Source::take: where the source tells, the n bytes given are the next ones and are no longer left; 0 into a place with room
-- means that none is left; a refusal leaves all as it was
pub record IsTaken {F : Type 0} (old new : PortView) (into : List ℕ) (answer : Result ℕ F) : Type 0 where
  pub count : ReadsAtMost answer into
  pub bytes : ReadConsumes old.left new.left answer into
  pub same : new.sent ≡ old.sent
  pub called : IsCalled old.calls new.calls
  pub cause : IsFaultCounted old.faults new.faults (IsErr answer)

-- the first n of these bytes were appended, where the object tells
pub record IsCutAt (old new : Option (List ℕ)) (bytes : List ℕ) (n : ℕ) : Type 0 where
  pub within : n ≤ length bytes
  pub appended : Appends old new (take n bytes)

-- all bytes were appended; after a refusal a prefix of them, and after NoMemory not the whole, unless there are none
abbrev pub Puts : Option (List ℕ) → Option (List ℕ) → List ℕ → Result (Unit {0}) PutRefusal → Type 0
Puts old new bytes (Ok done) = Appends old new bytes
Puts old new bytes (Err Failed) = (n : ℕ) × IsCutAt old new bytes n
Puts old new bytes (Err NoMemory) = (n : ℕ) × IsCutAt old new bytes n × (n ≡ length bytes → n ≡ 0)

-- Sink::put
pub record IsPut (old new : PortView) (bytes : List ℕ) (answer : Result (Unit {0}) PutRefusal) : Type 0 where
  pub bytes_put : Puts old.sent new.sent bytes answer
  pub same : new.left ≡ old.left
  pub called : IsCalled old.calls new.calls
  pub cause : IsFaultCounted old.faults new.faults (answer ≡ Err Failed)
