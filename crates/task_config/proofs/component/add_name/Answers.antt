use Rattle.std.proofs.Common.{◌≡◌, ℕ, List, Some, Bor, false, ◌∙◌, arith}
use Rattle.std.specs.Prelude.{is_some}
use Rattle.std.proofs.lemmas.Grind.{common_steps}
use Rattle.std.proofs.lemmas.Map.Text.{btree_map_updates_str}
use Rattle.task_config.specs.Written.{place_in}
use Rattle.task_config.proofs.Places.{new_place}
use Rattle.task_config.proofs.component.add_name.Goals as goal

pub returns-in_ok-insert : goal.returns-in_ok-insert
returns-in_ok-insert c =
    let v = c.get.ensures.value in
    let e : is_some (place_in {K = Bor (List ℕ)} (λ key. key.now) c.args.names.now c.args.name.now) ≡ false = grind (arith, common_steps, v, c.is_none.ensures, c.if-is_none.true) in
    λ q. btree_map_updates_str c.args.name.now c.args.names.now c.insert.new.self (Some c.args.place) c.in_ok-insert.ensures.updates q
    ∙ new_place (place_in {K = Bor (List ℕ)} (λ key. key.now) c.args.names.now) c.args.name.now c.args.place q e
