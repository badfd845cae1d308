use Rattle.std.proofs.Common.{◌<◌, length, ap, sym, subst, arith, true≢false, ◌∙◌, Some}
use Rattle.scope_names.specs.Scopes.{Declares, IsFirst}
use Rattle.scope_names.proofs.Tables.{none-behind, none-there, first-there}
use Rattle.scope_names.proofs.Found.{none-found, first-found}
use Rattle.scope_names.proofs.names.find_first.Goals as goal

pub returns-then-start-rows-clause-first : goal.returns-then-start-rows-clause-first
returns-then-start-rows-clause-first g c =
    none-behind c.args.rows.now c.requires c.args.scope c.args.name.now c.start_of-start.result c.start_of-start.ensures.starts (omega arith)

pub returns-then-start-rows-clause-exact : goal.returns-then-start-rows-clause-exact
returns-then-start-rows-clause-exact g c =
    let rows = c.args.rows.now in
    let scope = c.args.scope in
    let name = c.args.name.now in
    let start = c.start_of-start.result in
    sym (none-found rows scope name
    (none-behind rows c.requires scope name start c.start_of-start.ensures.starts (omega arith)))

pub returns-then-declares-clause-first : goal.returns-then-declares-clause-first
returns-then-declares-clause-first g c =
    let rows = c.args.rows.now in
    let scope = c.args.scope in
    let name = c.args.name.now in
    let row = c.index-rows-start.result in
    let within : c.start_of-start.result < length rows = omega arith in
    let declares = subst (Declares scope name) c.index-rows-start.is (c.declares.ensures.0 c.if-declares.true) in
    subst (IsFirst rows scope name) (sym c.index-rows-start.is) (first-there rows c.requires scope name c.start_of-start.result c.start_of-start.ensures.starts row within declares)

pub returns-then-declares-clause-exact : goal.returns-then-declares-clause-exact
returns-then-declares-clause-exact g c =
    let rows = c.args.rows.now in
    let scope = c.args.scope in
    let name = c.args.name.now in
    let start = c.start_of-start.result in
    let row = c.index-rows-start.result in
    let within : start < length rows = omega arith in
    let declares = subst (Declares scope name) c.index-rows-start.is (c.declares.ensures.0 c.if-declares.true) in
    ap Some c.index-rows-start.is
    ∙ sym (first-found rows scope name start c.start_of-start.ensures.starts row within declares)

pub returns-else-declares-clause-first : goal.returns-else-declares-clause-first
returns-else-declares-clause-first g c =
    let rows = c.args.rows.now in
    let scope = c.args.scope in
    let name = c.args.name.now in
    let row = c.index-rows-start.result in
    let within : c.start_of-start.result < length rows = omega arith in
    none-there rows c.requires scope name c.start_of-start.result c.start_of-start.ensures.starts row within (λ h. true≢false (sym (c.declares.ensures.1 (subst (Declares scope name) (sym c.index-rows-start.is) h)) ∙ c.if-declares.false))

pub returns-else-declares-clause-exact : goal.returns-else-declares-clause-exact
returns-else-declares-clause-exact g c =
    let rows = c.args.rows.now in
    let scope = c.args.scope in
    let name = c.args.name.now in
    let start = c.start_of-start.result in
    let row = c.index-rows-start.result in
    let within : start < length rows = omega arith in
    sym (none-found rows scope name
    (none-there rows c.requires scope name start c.start_of-start.ensures.starts row within
    (λ h. true≢false (sym (c.declares.ensures.1 (subst (Declares scope name) (sym c.index-rows-start.is) h)) ∙ c.if-declares.false))))
