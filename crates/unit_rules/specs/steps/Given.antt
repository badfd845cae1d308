-- A step on the way from the code to `Parameters`: which of the three parameters are given before.
-- Of any other name it isn't kept whether it is given, since such a parameter is unknown at the
-- same node, and that comes before a second one.
use Rattle.std.specs.Prelude.{ℕ, Bool, true, false, List, ◌++◌, codes}
use Rattle.st_tree.specs.declared.file.Parameter.{Parameter}
use Rattle.link_faults.specs.declared.code.LinkCode.TheVariants as code
use Rattle.link_faults.specs.declared.fault.LinkFault.{LinkFault}
use Rattle.expression_types.specs.Meanings.{Meanings}
use Rattle.unit_rules.specs.Noted.{fault_at, fault_where}
use Rattle.unit_rules.specs.Parameters.{is_given, kind_faults}
use Rattle.unit_rules.specs.declared.parameters.Given.{Given}
use Rattle.unit_rules.specs.declared.parameters.ParameterKind.{ParameterKind}
use Rattle.unit_rules.specs.declared.parameters.ParameterKind.TheVariants as kind

abbrev pub given_in : List Parameter → Given
given_in xs = record {
  priority = is_given xs (codes "PRIORITY");
  interval = is_given xs (codes "INTERVAL");
  single = is_given xs (codes "SINGLE");
}

abbrev pub gives : Given → ParameterKind → Bool
gives given kind.Priority = given.priority
gives given kind.Interval = given.interval
gives given kind.Single = given.single
gives given kind.Other = false

-- and one of that kind
abbrev pub and_given : Given → ParameterKind → Given
and_given given kind.Priority =
    record { priority = true; interval = given.interval; single = given.single }
and_given given kind.Interval =
    record { priority = given.priority; interval = true; single = given.single }
and_given given kind.Single =
    record { priority = given.priority; interval = given.interval; single = true }
and_given given kind.Other = given

-- what is noted of a parameter, behind those that are given
abbrev pub noted_of : Meanings → ℕ → Given → ParameterKind → Parameter → List LinkFault
noted_of m file given kind x =
    fault_where (gives given kind) (fault_at file x.name.node code.Twice)
    ++ kind_faults m file x kind
