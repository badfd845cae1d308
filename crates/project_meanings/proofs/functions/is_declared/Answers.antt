use Rattle.std.proofs.Common.{◌∙◌, ap, sym}
use Rattle.declared_names.specs.Tables.{project_in}
use Rattle.project_meanings.specs.steps.Named.{is_found}
use Rattle.project_meanings.proofs.Scopes.{declared_by_found}
use Rattle.project_meanings.proofs.functions.is_declared.Goals as goal

pub returns : goal.returns
returns c =
    c.is_found.ensures ∙ ap is_found c.found.ensures
    ∙ sym (declared_by_found (project_in c.args.project.now) c.args.scope c.args.name.now)
