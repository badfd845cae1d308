use Rattle.std.proofs.Common.{◌≡◌, ◌++◌, drop}
use Rattle.st_tree.specs.Feeds.{feeds_from}
use Rattle.st_tree.proofs.feeds.feeds_of.Given as goal

abbrev pub invariant-loop-at : goal.invariant-loop-at
invariant-loop-at l = l.feeds ++ feeds_from l.at (drop l.at l.text) ≡ feeds_from 0 l.text
