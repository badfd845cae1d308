-- What units may not have. Source: this profile: how many units a project may have, what functions
-- may be, and which sections of variables stand in which units.
use Rattle.std.specs.Prelude.{ℕ, Bool, true, false, ◌&&◌, ◌||◌, not, List, [], ◌∷◌, ◌++◌, map}
use Rattle.std.specs.Prelude.{flat_map, drop, Option, Some, None}
use Rattle.st_tree.specs.declared.chart.Sfc.{Sfc}
use Rattle.st_tree.specs.declared.declaration.Keep.{Keep}
use Rattle.st_tree.specs.declared.declaration.Keep.TheVariants as keep
use Rattle.st_tree.specs.declared.declaration.Section.{Section}
use Rattle.st_tree.specs.declared.declaration.SectionKind.{SectionKind}
use Rattle.st_tree.specs.declared.declaration.SectionKind.TheVariants as section
use Rattle.st_tree.specs.declared.file.Body.{Body}
use Rattle.st_tree.specs.declared.file.UnitKind.{UnitKind}
use Rattle.link_faults.specs.declared.code.LinkCode.TheVariants as code
use Rattle.link_faults.specs.declared.fault.LinkFault.{LinkFault}
use Rattle.project_declarations.specs.Declarations.{Placed}
use Rattle.unit_rules.specs.Noted.{fault_at, fault_where}

-- the most units of a project
abbrev pub max_units : ℕ
max_units = 16384

abbrev pub unit_beyond : Placed → LinkFault
unit_beyond x = fault_at x.file x.unit.node code.OutOfProfile

-- ---- bodies

-- the body of a function is no chart
abbrev pub body_faults : ℕ → UnitKind → Body → List LinkFault
body_faults file (UnitKind.Function result) (Body.Chart chart) =
    fault_at file chart.node code.OutOfProfile ∷ []
body_faults file (UnitKind.Function result) (Body.Statements statements) = []
body_faults file UnitKind.Block body = []
body_faults file UnitKind.Program body = []

-- ---- sections

-- A function has no outputs beside its result, and sees no variables of others; a program has
-- nobody that hands it variables to be changed.
abbrev pub function_has : SectionKind → Bool
function_has section.Var = true
function_has section.Input = true
function_has section.Temp = true
function_has section.Output = false
function_has section.InOut = false
function_has section.External = false

abbrev pub program_has : SectionKind → Bool
program_has section.Var = true
program_has section.Input = true
program_has section.Temp = true
program_has section.Output = true
program_has section.External = true
program_has section.InOut = false

abbrev pub has_section : UnitKind → SectionKind → Bool
has_section (UnitKind.Function result) kind = function_has kind
has_section UnitKind.Program kind = program_has kind
has_section UnitKind.Block kind = true

abbrev pub is_constant : Option Keep → Bool
is_constant (Some keep.Constant) = true
is_constant (Some keep.Retain) = false
is_constant (Some keep.NonRetain) = false
is_constant None = false

-- a unit's own variables and global ones that it names may be constants
abbrev pub may_be_constant : SectionKind → Bool
may_be_constant section.Var = true
may_be_constant section.External = true
may_be_constant section.Input = false
may_be_constant section.Output = false
may_be_constant section.InOut = false
may_be_constant section.Temp = false

abbrev pub has_place : UnitKind → Section → Bool
has_place kind x = has_section kind x.kind && (not (is_constant x.keep) || may_be_constant x.kind)

abbrev pub section_faults : ℕ → UnitKind → Section → List LinkFault
section_faults file kind x =
    fault_where (not (has_place kind x)) (fault_at file x.node code.OutOfProfile)

-- ---- units

abbrev pub unit_faults : Placed → List LinkFault
unit_faults x =
    body_faults x.file x.unit.kind x.unit.body
    ++ flat_map (section_faults x.file x.unit.kind) x.unit.sections

-- units stand in file and text order
abbrev pub units_faults : List Placed → List LinkFault
units_faults units = map unit_beyond (drop max_units units) ++ flat_map unit_faults units
