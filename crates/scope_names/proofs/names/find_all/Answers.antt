use Rattle.std.proofs.Common.{◌≡◌, ◌-◌, ◌≤◌, List, length, take, drop, sym, subst, arith, take_all, length-drop}
use Rattle.scope_names.specs.declared.names.NameRow.{NameRow}
use Rattle.scope_names.specs.Scopes.{IsRun}
use Rattle.scope_names.specs.Searches.{IsEnd}
use Rattle.scope_names.proofs.Tables.{run}
use Rattle.scope_names.proofs.names.find_all.Goals as goal

pub returns : goal.returns
returns g c =
    let rows = c.args.rows.now in
    let scope = c.args.scope in
    let name = c.args.name.now in
    let i = c.start_of.result in
    let n = c.end_of.result in
    let long : length (drop i rows) ≤ length rows - i = omega (arith, length-drop i rows) in
    let rest : take (length rows - i) (drop i rows) ≡ drop i rows = take_all (length rows - i) (drop i rows) long in
    let ends : IsEnd scope name (drop i rows) n = subst (λ (r : List (NameRow g.row.W.Denot)). IsEnd scope name r n) rest c.end_of.ensures.ends in
    let within : n ≤ length (drop i rows) = subst (λ (r : List (NameRow g.row.W.Denot)). n ≤ length r) rest c.end_of.ensures.bound in
    subst (λ (r : List (NameRow g.row.W.Denot)). IsRun rows scope name (take n r)) (sym rest)
    (run rows c.requires scope name i n c.start_of.ensures.bound c.start_of.ensures.starts ends within)
