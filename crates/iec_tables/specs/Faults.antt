-- The numbers and names of the faults for which a text is refused. Source: this profile.
use Rattle.std.specs.Prelude.{ℕ, List, codes}
use Rattle.iec_tables.specs.declared.fault.FaultCode.{FaultCode}
use Rattle.iec_tables.specs.declared.fault.FaultCode.TheVariants.{NotUtf8, BadByte, OpenComment, BadNumber, BadName, Grammar, TooDeep}

abbrev pub code_of : FaultCode → ℕ
code_of NotUtf8 = 1
code_of BadByte = 2
code_of OpenComment = 3
code_of BadNumber = 4
code_of BadName = 5
code_of Grammar = 6
code_of TooDeep = 7

abbrev pub name_of : FaultCode → List ℕ
name_of NotUtf8 = codes "NotUtf8"
name_of BadByte = codes "BadByte"
name_of OpenComment = codes "OpenComment"
name_of BadNumber = codes "BadNumber"
name_of BadName = codes "BadName"
name_of Grammar = codes "Grammar"
name_of TooDeep = codes "TooDeep"
