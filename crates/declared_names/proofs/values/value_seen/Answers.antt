use Rattle.std.proofs.Common.{◌∙◌, ap, sym}
use Rattle.project_declarations.specs.declared.scopes.TheConstants as scope
use Rattle.declared_names.specs.Seen as seen
use Rattle.declared_names.specs.Tables.{project_in}
use Rattle.declared_names.proofs.Runs.{run_is}
use Rattle.declared_names.proofs.values.value_seen.Goals as goal

pub returns : goal.returns
returns c =
    let p = project_in c.args.project.now in
    c.value_among.ensures
    ∙ ap (seen.value_among p) (sym (run_is p.names scope.VALUES c.args.name.now c.all.result.now c.all.ensures))
