use Rattle.std.proofs.Common.{◌≡◌, sym, ◌∙◌}
use Rattle.iec_tables.specs.Words.{raised_all}
use Rattle.standard_names.specs.Functions.{function_name, IsFunction}
use Rattle.standard_names.specs.Blocks.{block_name}
use Rattle.standard_names.proofs.Rows.{there, not-there, first_holds, second_decides, some_exactly}
use Rattle.standard_names.proofs.function.is_standard.Goals as goal

pub returns-then-is_some : goal.returns-then-is_some
returns-then-is_some c =
    let s = raised_all c.args.name.now in
    let found = there (λ f. IsFunction f × (function_name f ≡ s)) c.standard_function.result c.standard_function.ensures (sym c.is_some.ensures ∙ c.if-is_some.true) in
    first_holds c.is_some.result c.if-is_some.true (found.0, found.1.0, found.1.1)

pub returns-else-is_some : goal.returns-else-is_some
returns-else-is_some c =
    let s = raised_all c.args.name.now in
    second_decides c.is_some-else-is_some.result
    (λ f. not-there (λ f. IsFunction f × (function_name f ≡ s)) c.standard_function.result c.standard_function.ensures (sym c.is_some.ensures ∙ c.if-is_some.false) f.0 (f.1, f.2))
    (some_exactly (λ b. block_name b ≡ s) c.standard_block.result c.standard_block.ensures c.is_some-else-is_some.result c.is_some-else-is_some.ensures)
