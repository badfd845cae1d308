use Rattle.std.proofs.Common.{◌≡◌, ◌++◌, drop}
use Rattle.st_units.specs.SourceTrees.{starts_of}
use Rattle.st_units.proofs.source_file.starts_of.Given as goal

abbrev pub invariant-loop-token : goal.invariant-loop-token
invariant-loop-token l = l.starts.items ++ starts_of (drop l.token-index l.tokens)
    ≡ starts_of l.tokens
