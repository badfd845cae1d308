-- What contracts see of the objects of the outside, by this product's own choice. What an object holds is optional: None where it
-- doesn't tell.
use Rattle.std.specs.Prelude.{ℕ, List, Option, None}

-- files: how often they were called and how often a call has failed, and the content that stands under each name (None under a name
-- that isn't there)
pub record FilesView : Type 0 where
  pub calls : Option ℕ
  pub faults : ℕ
  pub contents : Option (List ℕ → Option (List ℕ))

-- files that don't tell what they hold
abbrev pub untold_files : ℕ → FilesView
untold_files count = record { calls = None; faults = count; contents = None }

-- a source, a sink, or both in one: how often it was called and how often a call has failed, the bytes that are left to take, and the
-- bytes that were put
pub record PortView : Type 0 where
  pub calls : Option ℕ
  pub faults : ℕ
  pub left : Option (List ℕ)
  pub sent : Option (List ℕ)

-- a source or a sink that doesn't tell what it holds
abbrev pub untold_port : ℕ → PortView
untold_port count = record { calls = None; faults = count; left = None; sent = None }

-- the steps that were counted
pub record StepsView : Type 0 where
  pub parsed : ℕ
  pub solved : ℕ
