use Rattle.iec_tables.specs.Types.{name_of}
use Rattle.iec_tables.specs.Words.{raised_all}
use Rattle.standard_names.proofs.Joining.{unjoined}
use Rattle.standard_names.proofs.Names.{converted}
use Rattle.standard_names.proofs.function.conversion.Goals as goal

pub returns-in-Some : goal.returns-in-Some
returns-in-Some c =
    converted (raised_all c.args.name.now) (raised_all c.in-Some.from.now) (raised_all c.in-Some.to.now) c.in-Some.ensures
    c.elem_named.result c.elem_named-in-Some.result c.elem_named.ensures c.elem_named-in-Some.ensures c.different.result c.different.ensures

pub returns-in-None : goal.returns-in-None
returns-in-None c = λ a b ne e. unjoined (raised_all c.args.name.now) (name_of a) (name_of b) c.in-None.ensures e
