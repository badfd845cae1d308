-- Faults as lists. A list of faults stands for a collection: their order plays no part in which one is
-- the first.
use Rattle.std.specs.Prelude.{ℕ, Bool, true, false, List, [], ◌∷◌, ◌++◌}
use Rattle.st_tree.specs.declared.node.Node.{Node}
use Rattle.st_tree.specs.declared.expression.Expr.{Expr}
use Rattle.link_faults.specs.Checked.{Checked, Good, Bad, faults}
use Rattle.link_faults.specs.declared.code.LinkCode.{LinkCode}
use Rattle.link_faults.specs.declared.fault.LinkFault.{LinkFault}
use Rattle.expression_types.specs.Rules.{site_of}
use Rattle.expression_types.specs.Judge.{read, placed}
use Rattle.expression_types.specs.declared.judged.Place.{Place}
use Rattle.expression_types.specs.declared.judged.Standing.{Standing}
use Rattle.body_rules.specs.Surroundings.{Here}

-- an expression that needn't be constant, and one that must be
abbrev pub anywhere : ℕ → Standing
anywhere file = record { file = file; constant = false }

abbrev pub constant : ℕ → Standing
constant file = record { file = file; constant = true }

abbrev pub fault : Here → Node → LinkCode → List LinkFault
fault h node code = record { site = site_of (anywhere h.file) node; code = code } ∷ []

-- the fault, where the test holds, or where it doesn't
abbrev pub fault_where : Here → Bool → Node → LinkCode → List LinkFault
fault_where h true node code = fault h node code
fault_where h false node code = []

abbrev pub fault_unless : Here → Bool → Node → LinkCode → List LinkFault
fault_unless h true node code = []
fault_unless h false node code = fault h node code

-- the faults that a rule tells of a part; where the part has faults of its own, these and others
abbrev pub followed : {A : Type 0} → Checked A → (A → List LinkFault) → List LinkFault → List LinkFault
followed (Good a) rule others = rule a
followed (Bad fs) rule others = fs ++ others

-- the faults of an expression at its place
abbrev pub expression : Here → Place → Expr → List LinkFault
expression h p e = faults (placed h.meanings (anywhere h.file) p e)

-- the node of an expression, in parentheses that of the one within
abbrev pub node_of : Here → Expr → Node
node_of h e = (read h.meanings (anywhere h.file) e).node
