use Rattle.std.proofs.Common.{◌<◌, sym, subst, arith, true≢false, ◌∙◌}
use Rattle.scope_names.specs.Scopes.{Declares, IsLast}
use Rattle.scope_names.proofs.Tables.{none-before, none-last, last-there}
use Rattle.scope_names.proofs.names.find_last.Goals as goal

pub returns-then-end-eq0 : goal.returns-then-end-eq0
returns-then-end-eq0 g c =
    none-before c.args.rows.now c.requires c.args.scope c.args.name.now c.end_of-end.result c.end_of-end.ensures.bound c.end_of-end.ensures.ends c.if-end-eq0.true

pub returns-then-declares : goal.returns-then-declares
returns-then-declares g c =
    let rows = c.args.rows.now in
    let scope = c.args.scope in
    let name = c.args.name.now in
    let row = c.index-rows-end.result in
    let within : 0 < c.end_of-end.result = omega arith in
    let declares = subst (Declares scope name) c.index-rows-end.is (c.declares.ensures.0 c.if-declares.true) in
    subst (IsLast rows scope name) (sym c.index-rows-end.is) (last-there rows c.requires scope name c.end_of-end.result c.end_of-end.ensures.bound c.end_of-end.ensures.ends row within declares)

pub returns-else-declares : goal.returns-else-declares
returns-else-declares g c =
    let rows = c.args.rows.now in
    let scope = c.args.scope in
    let name = c.args.name.now in
    let row = c.index-rows-end.result in
    let within : 0 < c.end_of-end.result = omega arith in
    none-last rows c.requires scope name c.end_of-end.result c.end_of-end.ensures.bound c.end_of-end.ensures.ends row within (λ h. true≢false (sym (c.declares.ensures.1 (subst (Declares scope name) (sym c.index-rows-end.is) h)) ∙ c.if-declares.false))
