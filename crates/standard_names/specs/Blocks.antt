-- The function blocks of the standard: their names, and the inputs and outputs of each. Source: IEC 61131-3, third edition,
-- standard function blocks; PV and CV are INT, PT and ET are TIME, and all others BOOL.
use Rattle.std.specs.Prelude.{◌≡◌, ℕ, List, [], ◌∷◌, codes}
use Rattle.std.specs.List.{Contains}
use Rattle.iec_tables.specs.declared.elem.Elem.{Elem}
use Rattle.iec_tables.specs.declared.elem.Elem.TheVariants.{Bool, Int, Time}
use Rattle.standard_names.specs.declared.block.StandardBlock.{StandardBlock}
use Rattle.standard_names.specs.declared.block.StandardBlock.TheVariants.{Sr, Rs, RTrig, FTrig, Ctu, Ctd, Ton, Tof, Tp}
use Rattle.standard_names.specs.declared.block.PartKind.{PartKind}
use Rattle.standard_names.specs.declared.block.PartKind.TheVariants.{Input, Output}
use Rattle.standard_names.specs.declared.block.BlockPart.{BlockPart}

abbrev pub block_name : StandardBlock → List ℕ
block_name Sr = codes "SR"
block_name Rs = codes "RS"
block_name RTrig = codes "R_TRIG"
block_name FTrig = codes "F_TRIG"
block_name Ctu = codes "CTU"
block_name Ctd = codes "CTD"
block_name Ton = codes "TON"
block_name Tof = codes "TOF"
block_name Tp = codes "TP"

abbrev pub IsBlockName : List ℕ → Type 0
IsBlockName name = (b : StandardBlock) × (block_name b ≡ name)

-- a part's name, its type, and whether it is an input or an output
abbrev pub Seen : Type 0
Seen = List ℕ × Elem × PartKind

abbrev pub part_of : BlockPart → Seen
part_of part = (part.name.now, part.elem, part.kind)

abbrev pub timer_parts : List Seen
timer_parts = (codes "IN", Bool, Input) ∷ (codes "PT", Time, Input) ∷ (codes "Q", Bool, Output) ∷ (codes "ET", Time, Output) ∷ []

-- the inputs and outputs of a block
abbrev pub parts_of : StandardBlock → List Seen
parts_of Sr = (codes "S1", Bool, Input) ∷ (codes "R", Bool, Input) ∷ (codes "Q1", Bool, Output) ∷ []
parts_of Rs = (codes "S", Bool, Input) ∷ (codes "R1", Bool, Input) ∷ (codes "Q1", Bool, Output) ∷ []
parts_of RTrig = (codes "CLK", Bool, Input) ∷ (codes "Q", Bool, Output) ∷ []
parts_of FTrig = (codes "CLK", Bool, Input) ∷ (codes "Q", Bool, Output) ∷ []
parts_of Ctu =
    (codes "CU", Bool, Input) ∷ (codes "R", Bool, Input) ∷ (codes "PV", Int, Input) ∷
    (codes "Q", Bool, Output) ∷ (codes "CV", Int, Output) ∷ []
parts_of Ctd =
    (codes "CD", Bool, Input) ∷ (codes "LD", Bool, Input) ∷ (codes "PV", Int, Input) ∷
    (codes "Q", Bool, Output) ∷ (codes "CV", Int, Output) ∷ []
parts_of Ton = timer_parts
parts_of Tof = timer_parts
parts_of Tp = timer_parts

-- no part has that name
abbrev pub HasNoPart : List Seen → List ℕ → Type 0
HasNoPart parts name = (part : Seen) → Contains parts part → ¬ (part.0 ≡ name)
