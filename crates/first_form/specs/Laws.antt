-- What holds of the trees of the first form.
use Rattle.std.specs.Prelude.{◌≡◌}
use Rattle.st_tree.specs.declared.file.SourceTree as written_file
use Rattle.first_form.specs.declared.tree.SourceTree.{SourceTree}
use Rattle.first_form.specs.Names.{UsesDeclared}
use Rattle.first_form.specs.FirstForm.{IsFirstForm}

-- A file has one tree of the first form at most.
abbrev pub OneForm : Type 0
OneForm = (file : written_file.SourceTree) (tree other : SourceTree) → IsFirstForm file tree
    → IsFirstForm file other → tree ≡ other

-- The unit of such a tree names declared variables alone.
abbrev pub SoundForm : Type 0
SoundForm = (file : written_file.SourceTree) (tree : SourceTree) (is : IsFirstForm file tree)
    → UsesDeclared is.unit
