use Rattle.std.proofs.Common.{◌≡◌, rules}
use Rattle.std.specs.List.{slice_get}
use Rattle.iec_tables.specs.Words.{raised_all}
use Rattle.standard_names.specs.declared.function.StandardFunction.TheVariants.{Abs}
use Rattle.standard_names.specs.declared.function.TheConstants.{FUNCTIONS}
use Rattle.standard_names.specs.Functions.{function_name, IsPlain}
use Rattle.standard_names.proofs.Rows.{found, missed}
use Rattle.standard_names.proofs.Names.{all_plain, plain-among}
use Rattle.standard_names.proofs.function.plain_function.Goals as goal

pub returns-in-Some : goal.returns-in-Some
returns-in-Some c =
    let got : c.copied.result ≡ slice_get FUNCTIONS c.in-Some.number = search rules in
    found function_name IsPlain FUNCTIONS c.plain_names.result c.plain_names.ensures.texts Abs all_plain c.plain_names.ensures.numbers
    (raised_all c.args.name.now) c.in-Some.number c.in-Some.ensures c.copied.result got

pub returns-in-None : goal.returns-in-None
returns-in-None c = missed function_name IsPlain FUNCTIONS c.plain_names.result c.plain_names.ensures.texts plain-among (raised_all c.args.name.now) c.in-None.ensures
