-- The tree of a unit, made of the first byte, the byte after the last, and what is spelled between.
use Rattle.std.specs.Prelude.{ℕ, List}
use Rattle.st_tree.specs.Places.{node_at}
use Rattle.st_tree.specs.declared.expression.Identifier.{Identifier}
use Rattle.st_tree.specs.declared.declaration.Section.{Section}
use Rattle.st_tree.specs.declared.file.Body.{Body}
use Rattle.st_tree.specs.declared.file.Unit.{Unit}
use Rattle.st_tree.specs.declared.file.UnitKind.{UnitKind}

abbrev pub make_unit : ℕ → ℕ → UnitKind × Identifier × List Section × Body → Unit
make_unit start end (kind, name, sections, body) = record {
  node = node_at start end;
  kind = kind;
  name = name;
  sections = sections;
  body = body;
}
