-- Instructions that are reversed twice are the instructions.
use Rattle.std.proofs.Common.{◌≡◌, refl, ap, ◌∙◌}
use Rattle.st_tree.specs.Code.{Instructions, Done, Literal, Read, Operate, Write}
use Rattle.tree_copies.specs.steps.Reversed.{reversed_onto}

-- the instructions, and then others
abbrev before : Instructions → Instructions → Instructions
before Done rest = rest
before (Literal number first) rest = Literal number (before first rest)
before (Read cell first) rest = Read cell (before first rest)
before (Operate operation first) rest = Operate operation (before first rest)
before (Write cell first) rest = Write cell (before first rest)

all_before : (first : Instructions) → before first Done ≡ first
all_before Done = refl
all_before (Literal number first) = ap (Literal number) (all_before first)
all_before (Read cell first) = ap (Read cell) (all_before first)
all_before (Operate operation first) = ap (Operate operation) (all_before first)
all_before (Write cell first) = ap (Write cell) (all_before first)

twice_onto : (first behind rest : Instructions) →
    reversed_onto (reversed_onto first behind) rest ≡ reversed_onto behind (before first rest)
twice_onto Done behind rest = refl
twice_onto (Literal number first) behind rest = twice_onto first (Literal number behind) rest
twice_onto (Read cell first) behind rest = twice_onto first (Read cell behind) rest
twice_onto (Operate operation first) behind rest = twice_onto first (Operate operation behind) rest
twice_onto (Write cell first) behind rest = twice_onto first (Write cell behind) rest

pub reversed_twice : (all : Instructions) → reversed_onto (reversed_onto all Done) Done ≡ all
reversed_twice all = twice_onto all Done Done ∙ all_before all
