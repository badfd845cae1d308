use Rattle.std.proofs.Common.{Some}
use Rattle.iec_tables.specs.Words.{raised_all}
use Rattle.standard_names.specs.declared.function.StandardFunction.TheVariants.{Convert}
use Rattle.standard_names.specs.Functions.{function_name, IsFunction}
use Rattle.standard_names.proofs.Rows.{exact}
use Rattle.standard_names.proofs.Names.{functions-alike}
use Rattle.standard_names.proofs.function.standard_function.Goals as goal

pub returns-in-Some-conversion : goal.returns-in-Some-conversion
returns-in-Some-conversion c =
    exact function_name IsFunction functions-alike (Some (Convert c.in-Some-conversion.from c.in-Some-conversion.to)) (raised_all c.args.name.now) c.in-Some-conversion.ensures
