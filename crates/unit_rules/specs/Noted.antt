-- Faults at nodes of files, as lists. A list of faults stands for a collection: their order plays
-- no part in which one is the first.
use Rattle.std.specs.Prelude.{ℕ, Bool, if◌then◌else◌, List, [], ◌∷◌}
use Rattle.st_tree.specs.declared.node.Node.{Node}
use Rattle.link_faults.specs.declared.code.LinkCode.{LinkCode}
use Rattle.link_faults.specs.declared.fault.LinkFault.{LinkFault}
use Rattle.project_declarations.specs.Named.{site_of}

abbrev pub fault_at : ℕ → Node → LinkCode → LinkFault
fault_at file node code = record { site = site_of file node; code = code }

-- the fault, where the test holds
abbrev pub fault_where : Bool → LinkFault → List LinkFault
fault_where test fault = if test then fault ∷ [] else []
