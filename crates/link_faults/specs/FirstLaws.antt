-- What the first fault is, without a word of the order in which faults are noted.
use Rattle.std.specs.Prelude.{◌≡◌, false, List, [], ◌∷◌, Some, None, ◌⊎◌, ◌↔◌}
use Rattle.link_faults.specs.First.{is_before, no_faults, after}
use Rattle.link_faults.specs.declared.fault.LinkFault.{LinkFault}

-- the fault is one of the list
abbrev pub IsAmong : LinkFault → List LinkFault → Type 0
IsAmong f [] = ⊥
IsAmong f (g ∷ gs) = (f ≡ g) ⊎ IsAmong f gs

-- it is one of the list, and none of the list comes before it
pub record IsFirst (fs : List LinkFault) (f : LinkFault) : Type 0 where
  pub among : IsAmong f fs
  pub least : (g : LinkFault) → IsAmong g fs → is_before g f ≡ false

abbrev pub KeepsTheFirst : Type 0
KeepsTheFirst =
    (fs : List LinkFault) (f : LinkFault) → (after no_faults fs).first ≡ Some f → IsFirst fs f

-- none is kept only where none is noted
abbrev pub KeepsOne : Type 0
KeepsOne = (fs : List LinkFault) → (after no_faults fs).first ≡ None → fs ≡ []

-- lists with the same faults have the same first one
abbrev pub OrderPlaysNoPart : Type 0
OrderPlaysNoPart =
    (fs gs : List LinkFault) → ((f : LinkFault) → IsAmong f fs ↔ IsAmong f gs)
    → after no_faults fs ≡ after no_faults gs
