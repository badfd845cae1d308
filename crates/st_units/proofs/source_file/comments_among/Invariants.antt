use Rattle.std.proofs.Common.{◌≡◌, ◌++◌, drop}
use Rattle.st_units.specs.SourceTrees.{comments_among}
use Rattle.st_units.proofs.source_file.comments_among.Given as goal

abbrev pub invariant-loop-at : goal.invariant-loop-at
invariant-loop-at l = l.comments.items ++ comments_among (drop l.at l.tokens)
    ≡ comments_among l.tokens
