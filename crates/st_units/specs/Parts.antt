-- The parts of a file by their kinds.
use Rattle.std.specs.Prelude.{ℕ, List, ◌++◌, Option, Some, None}
use Rattle.std.specs.List.{filter_map}
use Rattle.st_tree.specs.declared.file.Unit.{Unit}
use Rattle.st_tree.specs.declared.file.Types.{Types}
use Rattle.st_tree.specs.declared.file.Globals.{Globals}
use Rattle.st_tree.specs.declared.file.Config.{Config}
use Rattle.st_tree.specs.declared.file.FilePart.{FilePart}
use Rattle.st_tree.specs.declared.file.Comment.{Comment}
use Rattle.st_tree.specs.declared.file.SourceTree.{SourceTree}

-- the part, if it is of that kind
abbrev pub unit_of : FilePart → Option Unit
unit_of (FilePart.Unit x) = Some x
unit_of part = None

abbrev pub types_of : FilePart → Option Types
types_of (FilePart.Types x) = Some x
types_of part = None

abbrev pub globals_of : FilePart → Option Globals
globals_of (FilePart.Globals x) = Some x
globals_of part = None

abbrev pub config_of : FilePart → Option Config
config_of (FilePart.Config x) = Some x
config_of part = None

-- the file with these parts behind its own, each kind in the order of the text
abbrev pub with_parts : SourceTree → List FilePart → SourceTree
with_parts tree parts = record {
  units = tree.units ++ filter_map unit_of parts;
  types = tree.types ++ filter_map types_of parts;
  globals = tree.globals ++ filter_map globals_of parts;
  config = tree.config ++ filter_map config_of parts;
  comments = tree.comments;
  feeds = tree.feeds;
}

-- a file of these parts, comments and line feeds
abbrev pub file_of : List FilePart → List Comment → List ℕ → SourceTree
file_of parts comments feeds = record {
  units = filter_map unit_of parts;
  types = filter_map types_of parts;
  globals = filter_map globals_of parts;
  config = filter_map config_of parts;
  comments = comments;
  feeds = feeds;
}
