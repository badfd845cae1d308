-- Names cut at `_TO_`: a step on the way to conversions, which no public contract cites.
use Rattle.std.specs.Prelude.{◌≡◌, ℕ, ◌<◌, List, ◌++◌, length, take, drop, codes}

-- `_TO_` stands at that place of the name
abbrev pub JoinsAt : List ℕ → ℕ → Type 0
JoinsAt name at = take 4 (drop at name) ≡ codes "_TO_"

abbrev pub HasNoJoint : List ℕ → Type 0
HasNoJoint name = (at : ℕ) → ¬ (JoinsAt name at)

-- the parts before and behind the first `_TO_`
pub record IsCut (name before behind : List ℕ) : Type 0 where
  pub parts : name ≡ before ++ (codes "_TO_" ++ behind)
  pub first : (at : ℕ) → at < length before → ¬ (JoinsAt name at)
