-- What the text of a file is parsed to: a form of the code between its steps, without a source of
-- its own.
use Rattle.std.specs.Prelude.{◌≡◌, ◌≤◌, ℕ, List, [], ◌∷◌, length}
use Rattle.std.specs.List.{Contains}
use Rattle.st_tree.specs.declared.file.SourceTree.{SourceTree as SourceFile}
use Rattle.st_units.specs.SourceTrees.{IsTreeOf, IsFaultOf}
use Rattle.first_form.specs.FirstForm.{IsFirstForm}
use Rattle.st_tree.specs.declared.node.Node.{Node}
use Rattle.first_form.specs.declared.tree.Unit.{Unit as SourceUnit}
use Rattle.first_form.specs.declared.tree.SourceTree.{SourceTree}
use Rattle.st_tree.specs.Feeds.{feeds_from}
use Rattle.first_form.specs.Names.{UsesDeclared}
use Rattle.first_form.specs.Nodes.{IsNumbered, nodes_of}
use Rattle.station_cli.specs.Report.{IsFormOf}
use Rattle.station_cli.specs.declared.report.Parsed.{Parsed}
use Rattle.station_cli.specs.declared.report.Parsed.TheVariants.{Tree, Fault, Other}

-- What the parser promises of a tree of a text, so that it can be analysed.
pub record IsAnalysable (text : List ℕ) (tree : SourceTree) : Type 0 where
  pub unit : SourceUnit
  pub units : tree.units ≡ unit ∷ []
  pub uses : UsesDeclared unit
  pub numbered : IsNumbered tree
  pub feeds : tree.feeds ≡ feeds_from 0 text
  pub within : (node : Node) → Contains (nodes_of tree) node → node.start ≤ length text
  pub short : length text ≤ 1048576

-- What a text is parsed to: its tree, of the first form, its first fault, or that it is a file of
-- another form.
abbrev pub IsParsed : List ℕ → Parsed → Type 0
IsParsed text (Tree tree) = IsFormOf text tree × IsAnalysable text tree
IsParsed text (Fault fault) = IsFaultOf text fault.code fault.at × (fault.at ≤ length text)
IsParsed text Other =
    (file : SourceFile) × IsTreeOf text file × ((tree : SourceTree) → IsFirstForm file tree → ⊥)
