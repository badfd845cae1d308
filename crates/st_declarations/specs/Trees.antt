-- The trees of declarations, made of the first byte, the byte after the last, and what is spelled
-- between.
use Rattle.std.specs.Prelude.{ℕ, List, Option}
use Rattle.iec_tables.specs.declared.elem.Elem.{Elem}
use Rattle.st_tree.specs.Places.{node_at}
use Rattle.st_tree.specs.declared.expression.Identifier.{Identifier}
use Rattle.st_tree.specs.declared.expression.Address.{Address}
use Rattle.st_tree.specs.declared.expression.Expr.{Expr}
use Rattle.st_tree.specs.declared.declaration.TypeName.{TypeName}
use Rattle.st_tree.specs.declared.declaration.TypeName.TheVariants as name
use Rattle.st_tree.specs.declared.declaration.Range.{Range}
use Rattle.st_tree.specs.declared.declaration.Spec.{Spec}
use Rattle.st_tree.specs.declared.declaration.Spec.TheVariants as spec
use Rattle.st_tree.specs.declared.declaration.Init.{Init}
use Rattle.st_tree.specs.declared.declaration.Init.TheVariants as init
use Rattle.st_tree.specs.declared.declaration.Item.{Item}
use Rattle.st_tree.specs.declared.declaration.Item.TheVariants as item
use Rattle.st_tree.specs.declared.declaration.FieldInit.{FieldInit}
use Rattle.st_tree.specs.declared.declaration.Decl.{Decl}
use Rattle.st_tree.specs.declared.declaration.SectionKind.{SectionKind}
use Rattle.st_tree.specs.declared.declaration.Keep.{Keep}
use Rattle.st_tree.specs.declared.declaration.Section.{Section}
use Rattle.st_tree.specs.declared.file.Types.{Types}
use Rattle.st_tree.specs.declared.file.TypeDecl.{TypeDecl}
use Rattle.st_tree.specs.declared.file.Shape.{Shape}
use Rattle.st_tree.specs.declared.file.Shape.TheVariants as shape
use Rattle.st_tree.specs.declared.file.Fields.{Fields}
use Rattle.st_tree.specs.declared.file.Globals.{Globals}
use Rattle.st_tree.specs.declared.file.Config.{Config}
use Rattle.st_tree.specs.declared.file.Resource.{Resource}
use Rattle.st_tree.specs.declared.file.Tasks.{Tasks}
use Rattle.st_tree.specs.declared.file.Task.{Task}
use Rattle.st_tree.specs.declared.file.Parameter.{Parameter}
use Rattle.st_tree.specs.declared.file.ProgramLine.{ProgramLine}

abbrev pub Text : Type 0
Text = List ℕ

-- ---- what declarations say

abbrev pub make_elementary : ℕ → ℕ → Elem → TypeName
make_elementary start end e = name.Elementary (node_at start end) e

abbrev pub make_range : ℕ → ℕ → Expr × Expr → Range
make_range start end p = record { node = node_at start end; lower = p.0; upper = p.1 }

abbrev pub make_type : ℕ → ℕ → TypeName × Option Range → Spec
make_type start end p = spec.Type (node_at start end) p.0 p.1

abbrev pub make_enumeration : ℕ → ℕ → List Identifier → Spec
make_enumeration start end names = spec.Enumeration (node_at start end) names

abbrev pub make_array : ℕ → ℕ → List Range × Spec → Spec
make_array start end p = spec.Array (node_at start end) p.0 p.1

abbrev pub make_elements : ℕ → ℕ → List Item → Init
make_elements start end items = init.Array (node_at start end) items

abbrev pub make_structure : ℕ → ℕ → List FieldInit → Init
make_structure start end fields = init.Structure (node_at start end) fields

abbrev pub make_repeated : ℕ → ℕ → Text × Init → Item
make_repeated start end p = item.Repeated (node_at start end) p.0 p.1

abbrev pub make_field_init : ℕ → ℕ → Identifier × Init → FieldInit
make_field_init start end p = record { node = node_at start end; name = p.0; value = p.1 }

abbrev pub make_decl : ℕ → ℕ → List Identifier × Option Address × Spec × Option Init → Decl
make_decl start end (names, address, s, i) = record {
  node = node_at start end;
  names = names;
  address = address;
  spec = s;
  init = i;
}

abbrev pub make_section : ℕ → ℕ → SectionKind × Option Keep × List Decl → Section
make_section start end (kind, keep, decls) = record {
  node = node_at start end;
  kind = kind;
  keep =
      keep;
  decls = decls;
}

-- ---- files

abbrev pub make_globals : ℕ → ℕ → Option Keep × List Decl → Globals
make_globals start end p = record { node = node_at start end; keep = p.0; decls = p.1 }

abbrev pub make_fields : ℕ → ℕ → List Identifier × Spec × Option Init → Fields
make_fields start end (names, s, i) = record {
  node = node_at start end;
  names = names;
  spec = s;
  init = i;
}

abbrev pub make_struct : ℕ → ℕ → List Fields → Shape
make_struct start end fields = shape.Structure (node_at start end) fields

abbrev pub make_type_decl : ℕ → ℕ → Identifier × Shape × Option Init → TypeDecl
make_type_decl start end (name, s, i) = record {
  node = node_at start end;
  name = name;
  shape = s;
  init = i;
}

abbrev pub make_types : ℕ → ℕ → List TypeDecl → Types
make_types start end decls = record { node = node_at start end; decls = decls }

abbrev pub make_parameter : ℕ → ℕ → Identifier × Expr → Parameter
make_parameter start end p = record { node = node_at start end; name = p.0; value = p.1 }

abbrev pub make_task : ℕ → ℕ → Identifier × List Parameter → Task
make_task start end p = record { node = node_at start end; name = p.0; parameters = p.1 }

abbrev pub make_line : ℕ → ℕ → Identifier × Option Identifier × Identifier → ProgramLine
make_line start end (name, task, program) = record {
  node = node_at start end;
  name = name;
  task =
      task;
  program = program;
}

abbrev pub tasks_of : List Task → List ProgramLine → Tasks
tasks_of tasks lines = record { tasks = tasks; lines = lines }

abbrev pub make_resource : ℕ → ℕ → Identifier × Identifier × List Globals × Tasks → Resource
make_resource start end (name, kind, globals, tasks) =
    record { node = node_at start end; name = name; kind = kind; globals = globals; tasks = tasks }

abbrev pub make_config : ℕ → ℕ → Identifier × List Globals × List Resource × Tasks → Config
make_config start end (name, globals, resources, tasks) =
    record {
      node = node_at start end;
      name = name;
      globals = globals;
      resources = resources;
      tasks = tasks;
    }
