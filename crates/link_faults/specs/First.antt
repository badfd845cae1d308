-- The first of the faults: by the place of the file among the project's files, then by the number of
-- the node, then by the number of the code. Source: this profile.
use Rattle.std.specs.Prelude.{ℕ, Bool, nat_eq, nat_lt, if◌then◌else◌, List, [], ◌∷◌, Option, Some, None}
use Rattle.link_faults.specs.Codes.{code_of}
use Rattle.link_faults.specs.declared.fault.LinkFault.{LinkFault}
use Rattle.link_faults.specs.declared.fault.Faults.{Faults}

-- the number of the node where a fault stands
abbrev pub node_of : LinkFault → ℕ
node_of f = f.site.node.0

abbrev pub is_before : LinkFault → LinkFault → Bool
is_before f g =
    if nat_eq f.site.file g.site.file then
    (if nat_eq (node_of f) (node_of g) then nat_lt (code_of f.code) (code_of g.code)
    else nat_lt (node_of f) (node_of g))
    else nat_lt f.site.file g.site.file

-- the first of those so far and of one more
abbrev pub sooner : Option LinkFault → LinkFault → Option LinkFault
sooner None f = Some f
sooner (Some first) f = if is_before f first then Some f else Some first

abbrev pub noted : Faults → LinkFault → Faults
noted old f = record { first = sooner old.first f }

abbrev pub no_faults : Faults
no_faults = record { first = None }

-- the first fault when these are noted too, one after the other
abbrev pub after : Faults → List LinkFault → Faults
after old [] = old
after old (f ∷ fs) = after (noted old f) fs
