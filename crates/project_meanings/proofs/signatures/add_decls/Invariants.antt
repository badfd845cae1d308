use Rattle.std.proofs.Common.{◌≡◌, ◌++◌, take, flat_map}
use Rattle.declared_names.specs.Tables.{project_in}
use Rattle.project_meanings.specs.Signatures as spec
use Rattle.project_meanings.specs.Rows.{bare_inputs}
use Rattle.project_meanings.proofs.signatures.add_decls.Given as goal

abbrev pub invariant-loop-decl : goal.invariant-loop-decl
invariant-loop-decl l =
    bare_inputs l.rows.items
    ≡ bare_inputs l.fn.rows.items
    ++ flat_map (spec.decl_inputs (project_in l.project) l.file) (take l.decl-index l.decls)
