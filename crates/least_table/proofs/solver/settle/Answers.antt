use Rattle.std.proofs.Common.{◌≡◌, ℕ, List, [], get_or, ◌∙◌, subst}
use Rattle.std.specs.List.{Contains}
use Rattle.std.proofs.lemmas.List.{get_or_default}
use Rattle.least_table.proofs.solver.settle.Goals as goal

pub put_all-requires : goal.put_all-requires
put_all-requires c unit inside =
    let these : c.units.result.now ≡ get_or c.args.readers.now c.args.entry [] =
    c.units.ensures ∙ c.index-readers-entry.is
    ∙ get_or_default c.args.readers.now c.args.entry c.index-readers-entry.result [] c.requires.readers in
    c.requires.units unit (subst (λ (units : List ℕ). Contains units unit) these inside)
