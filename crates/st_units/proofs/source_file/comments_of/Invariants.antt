use Rattle.std.proofs.Common.{◌≡◌, ◌++◌, drop}
use Rattle.st_units.specs.SourceTrees.{comments_from}
use Rattle.st_units.proofs.source_file.comments_of.Given as goal

abbrev pub invariant-loop-at : goal.invariant-loop-at
invariant-loop-at l = l.made ++ comments_from l.nodes l.at l.text (drop l.at l.comments)
    ≡ comments_from l.nodes 0 l.text l.comments
