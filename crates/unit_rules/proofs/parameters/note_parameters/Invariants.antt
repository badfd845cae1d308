use Rattle.std.proofs.Common.{◌≡◌, take}
use Rattle.link_faults.specs.First.{after}
use Rattle.expression_types.specs.Meanings.{meant}
use Rattle.project_declarations.specs.Named.{each_from}
use Rattle.project_declarations.specs.Declarations.{joined}
use Rattle.unit_rules.specs.Parameters.{parameter_faults}
use Rattle.unit_rules.specs.steps.Given.{given_in}
use Rattle.unit_rules.proofs.parameters.note_parameters.Given as goal

abbrev pub invariant-loop-parameter : goal.invariant-loop-parameter
invariant-loop-parameter g l =
    let m = meant (g.M.Names.names l.meaning) (g.M.Meaning.parts l.meaning) in
    let done = take l.parameter-index l.parameters in
    record {
      noted : l.faults ≡ after l.fn.faults
          (joined (each_from (parameter_faults m l.file l.parameters) 0 done));
      given : l.given ≡ given_in done;
    }
