use Rattle.std.proofs.Common.{rules, ◌≡◌, is_lt}
use Rattle.std.proofs.lemmas.Fn.{always_returns_same}
use Rattle.std.proofs.lemmas.List.Sorted.{ranks_by}
use Rattle.scope_names.specs.Scopes.{row_cmp}
use Rattle.scope_names.proofs.Tables.{rows_total}
use Rattle.scope_names.proofs.names.Names.of.Goals as goal

pub invariant_of-result : goal.invariant_of-result
invariant_of-result g c =
    c.sort_unstable_by.ensures.sorted (λ a b. is_lt (row_cmp a b)) (ranks_by rows_total (λ r. r))
    (always_returns_same _ (λ a r. is_lt r ≡ is_lt (row_cmp a.0.now a.1.0.now)) _ (λ a r q k. search rules))

pub returns-clause-sorted : goal.returns-clause-sorted
returns-clause-sorted g c =
    let sorted : goal.invariant_of-result = invariant_of-result in
    sorted g c
