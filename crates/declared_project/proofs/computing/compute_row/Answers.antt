use Rattle.project_declarations.specs.Rows.{bare_decl}
use Rattle.declared_names.specs.Tables.{project_in, known_at, here_of}
use Rattle.declared_project.proofs.Rows.{row_computed}
use Rattle.declared_project.proofs.computing.compute_row.Goals as goal

pub returns : goal.returns
returns c =
    row_computed (project_in c.args.project.now) c.args.number (bare_decl c.args.row.now)
    (known_at c.in_ok-at.at) (here_of c.in_ok-at.at) c.args.computed.now.given.items _ _
    c.args.computed.now.forms.items c.declare.new.forms.items c.args.computed.now.rows.items _ _ _ _
    c.in_ok-at.ensures.known c.deref.ensures.value c.in_ok-at.ensures.here c.in_ok-made.ensures
    c.set_given.ensures
