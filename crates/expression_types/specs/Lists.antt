-- What is told of several parts that stand side by side.
use Rattle.std.specs.Prelude.{◌≡◌, Bool, true, false, if◌then◌else◌, List, [], ◌∷◌, ◌++◌}
use Rattle.link_faults.specs.First.{after}
use Rattle.link_faults.specs.Checked.{Checked, Good, Bad, faults}
use Rattle.link_faults.specs.declared.fault.LinkFault.{LinkFault}
use Rattle.link_faults.specs.declared.fault.Faults.{Faults}

abbrev pub is_good : {A : Type 0} → Checked A → Bool
is_good (Good a) = true
is_good (Bad fs) = false

-- none of them holds a fault
abbrev pub are_good : {A : Type 0} → List (Checked A) → Bool
are_good [] = true
are_good (x ∷ xs) = if is_good x then are_good xs else false

-- the faults of all of them
abbrev pub faults_of : {A : Type 0} → List (Checked A) → List LinkFault
faults_of [] = []
faults_of (x ∷ xs) = faults x ++ faults_of xs

-- it is so where those beside it hold no faults, either
abbrev pub with_all : {A B : Type 0} → Checked B → List (Checked A) → Checked B
with_all (Good b) xs = if are_good xs then Good b else Bad (faults_of xs)
with_all (Bad fs) xs = Bad (fs ++ faults_of xs)

-- What a call tells of several parts: the first fault after it, and whether all are good.
pub record TellsAll {A : Type 0} (xs : List (Checked A)) (old new : Faults) (result : Bool) : Type 0 where
  pub first : new ≡ after old (faults_of xs)
  pub all : result ≡ are_good xs
