use Rattle.std.proofs.Common.{◌≡◌, ℕ, ◌+◌, slice_get, ap, ◌∙◌, arith}
use Rattle.std.specs.Option.{option_map}
use Rattle.tree_numbers.specs.NodeLists.{nodes_of_parts}
use Rattle.tree_numbers.specs.NumberedAt.{numbered_at}
use Rattle.tree_numbers.specs.Numbers.{fresh}
use Rattle.tree_numbers.proofs.Numbering.{each_way, each_is, are_numbered}
use Rattle.tree_numbers.proofs.FileLaws.{file_part_way, file_part_is}
use Rattle.tree_numbers.proofs.law.numbering_laws.Goals as goal

pub returns-clause-same : goal.returns-clause-same
returns-clause-same c =
    λ comments parts. (each_is file_part_way file_part_is parts).stays (fresh comments)

pub returns-clause-numbers : goal.returns-clause-numbers
returns-clause-numbers c = λ comments parts k.
    let all =
    are_numbered (each_way file_part_way) parts (fresh comments)
    (each_is file_part_way file_part_is parts) in
    let none : 0 + k ≡ k = omega arith in
    all.numbers k
    ∙ ap (λ (n : ℕ). option_map (numbered_at comments n) (slice_get (nodes_of_parts parts) k))
    none
