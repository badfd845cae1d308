-- The codes of the faults of linking: their numbers and their names. Source: this profile.
use Rattle.std.specs.Prelude.{ℕ, List, codes}
use Rattle.link_faults.specs.declared.code.LinkCode.{LinkCode}
use Rattle.link_faults.specs.declared.code.LinkCode.TheVariants as code

abbrev pub code_of : LinkCode → ℕ
code_of code.Unknown = 20
code_of code.Twice = 21
code_of code.WrongType = 22
code_of code.NotConstant = 23
code_of code.OutOfProfile = 24
code_of code.BadBound = 25
code_of code.WrongCall = 26
code_of code.NotAssignable = 27

abbrev pub name_of : LinkCode → List ℕ
name_of code.Unknown = codes "Unknown"
name_of code.Twice = codes "Twice"
name_of code.WrongType = codes "WrongType"
name_of code.NotConstant = codes "NotConstant"
name_of code.OutOfProfile = codes "OutOfProfile"
name_of code.BadBound = codes "BadBound"
name_of code.WrongCall = codes "WrongCall"
name_of code.NotAssignable = codes "NotAssignable"
