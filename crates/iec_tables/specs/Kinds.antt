-- The kinds of faults by number and name. This profile's own.
use Rattle.std.specs.Prelude.{ℕ, List, codes}
use Rattle.iec_tables.specs.declared.kind.Kind.{Kind}
use Rattle.iec_tables.specs.declared.kind.Kind.TheVariants.{ZeroDivisor, Index, Subrange, Overflow}

-- the number of a kind
abbrev pub code_of : Kind → ℕ
code_of ZeroDivisor = 1
code_of Index = 2
code_of Subrange = 3
code_of Overflow = 4

-- the bytes of its name
abbrev pub name_of : Kind → List ℕ
name_of ZeroDivisor = codes "ZeroDivisor"
name_of Index = codes "Index"
name_of Subrange = codes "Subrange"
name_of Overflow = codes "Overflow"
