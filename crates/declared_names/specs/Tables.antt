-- What the code knows of a project, as the definitions see it.
use Rattle.std.specs.Prelude.{map}
use Rattle.project_declarations.specs.Rows.{bare_unit}
use Rattle.declaration_order.specs.Tables.{decls_in, components_in}
use Rattle.declared_names.specs.Project as spec
use Rattle.declared_names.specs.declared.at.At.{At}
use Rattle.declared_names.specs.declared.project.Project.{Project}

abbrev pub project_in : Project → spec.Project
project_in p =
    record {
      names = p.names;
      units = map bare_unit p.units.items;
      decls = decls_in p.table;
      components = components_in p.components;
    }

abbrev pub known_at : At → spec.Known
known_at at = record { project = project_in at.project.now; given = at.given.now }

abbrev pub here_of : At → spec.Here
here_of at = record { number = at.number; file = at.file; owner = at.owner }
