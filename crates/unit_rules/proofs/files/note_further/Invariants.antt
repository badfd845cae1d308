use Rattle.std.proofs.Common.{◌≡◌, take, false}
use Rattle.link_faults.specs.First.{after}
use Rattle.project_declarations.specs.Named.{each_from}
use Rattle.project_declarations.specs.Declarations.{joined}
use Rattle.unit_rules.specs.Running.{further_configs}
use Rattle.unit_rules.specs.steps.Further.{behind, any_of}
use Rattle.unit_rules.proofs.files.note_further.Given as goal

abbrev pub invariant-loop-place : goal.invariant-loop-place
invariant-loop-place l =
    let fs = joined (each_from further_configs 0 (take l.place l.files)) in
    record {
      noted : l.faults ≡ after l.fn.faults (behind false fs);
      any : l.any ≡ any_of false fs;
    }
