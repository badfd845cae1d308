use Rattle.std.proofs.Common.{◌≡◌, ◌+◌, length, drop}
use Rattle.std.specs.List.{filter}
use Rattle.token_grammar.specs.Kept.{is_kept}
use Rattle.st_units.proofs.fronts.behind.Given as goal

-- what is unread, and how many were kept of those that were passed
abbrev pub invariant-loop-number : goal.invariant-loop-number
invariant-loop-number l = length (filter is_kept (drop l.fn.from l.tokens)) + l.unread
    ≡ l.fn.read + length (filter is_kept (drop l.number l.tokens))
