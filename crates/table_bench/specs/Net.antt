-- The meaning of nets as a system, the example of the tests. Source: difference bounds, of which each says
-- that a node holds what other ones hold, moved by a number; here numbers are those from 0 to 7.
use Rattle.std.specs.Prelude.{ℕ, nat_eq, ◌||◌, Bool, true, false, if◌then◌else◌, List, [], ◌∷◌, length, get_or, replicate, ℤ, pos}
use Rattle.interval_domain.specs.Interval.{Interval, Empty, Span, hull, meet}
use Rattle.interval_domain.specs.Operators.{add_raw}
use Rattle.least_table.specs.System.{Meaning, Intervals, at}

-- four nodes that are read, of which some may be none
abbrev pub Sources : Type 0
Sources = ℕ × ℕ × ℕ × ℕ

-- the nodes that it comes from, whether it starts with 0 besides, the node that it leads to, and by how
-- much it moves
abbrev pub Arc : Type 0
Arc = Sources × Bool × ℕ × ℤ

-- an arc that leads nowhere
abbrev pub no_arc : Arc
no_arc = ((0, 0, 0, 0), false, 0, pos 0)

abbrev pub numbers : List ℤ
numbers = pos 0 ∷ pos 1 ∷ pos 2 ∷ pos 3 ∷ pos 4 ∷ pos 5 ∷ pos 6 ∷ pos 7 ∷ []

abbrev pub all_numbers : Interval
all_numbers = Span (pos 0) (pos 7)

-- what an arc starts with
abbrev pub start : Bool → Interval
start true = Span (pos 0) (pos 0)
start false = Empty

-- what the nodes hold that are read
abbrev pub read : Sources → Intervals → Interval
read from table = hull (hull (at table from.0) (at table from.1)) (hull (at table from.2) (at table from.3))

-- moved, and cut to the numbers
abbrev pub moved : Interval → ℤ → Interval
moved i by = meet (add_raw i (Span by by)) all_numbers

-- what an arc gives for a node
abbrev pub arc_gives : Arc → Intervals → ℕ → Interval
arc_gives arc table node = if nat_eq node arc.2 then moved (hull (start arc.1) (read arc.0 table)) arc.3 else Empty

abbrev pub is_source : Sources → ℕ → Bool
is_source from node = nat_eq node from.0 || nat_eq node from.1 || nat_eq node from.2 || nat_eq node from.3

-- a unit is an arc, an entry is a node
abbrev pub net : ℕ → List Arc → Meaning
net nodes arcs = record {
  grid = numbers;
  widest = replicate nodes all_numbers;
  units = length arcs;
  gives = λ unit table node. arc_gives (get_or arcs unit no_arc) table node;
  reads = λ unit node. is_source (get_or arcs unit no_arc).0 node;
}
