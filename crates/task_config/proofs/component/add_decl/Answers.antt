use Rattle.std.proofs.Common.{ℕ, List, Bor, take, arith}
use Rattle.std.proofs.lemmas.Grind.{common_steps}
use Rattle.task_config.specs.Plan.{cell_of}
use Rattle.task_config.specs.Written.{place_in}
use Rattle.task_config.proofs.Places.{names_step, cells_step}
use Rattle.task_config.proofs.component.add_decl.Goals as goal

pub loop-identifier-preserved : goal.loop-identifier-preserved
loop-identifier-preserved c = record {
  cells = cells_step (cell_of c.args.decl.now.spec.elem) c.args.cells.now c.loop-identifier.cells c.push.new.self (take c.loop-identifier.identifier-index c.args.decl.now.names) _ c.identifier-item.result c.in_ok-cell.cell
      c.loop-identifier.invariant.cells c.in_ok-push.ensures.ok c.in_ok-cell.ensures (grind (arith, common_steps));
  names = λ h. names_step (place_in {K = Bor (List ℕ)} (λ key. key.now) c.loop-identifier.names) (place_in {K = Bor (List ℕ)} (λ key. key.now) c.add_name.new.names)
      c.loop-identifier.cells c.push.new.self c.args.decl.now.spec.elem c.identifier-item.result c.bytes.result.now c.len.result c.in_ok-cell.cell
      c.bytes.ensures c.len.ensures c.in_ok-cell.ensures c.in_ok-push.ensures.ok c.in_ok-add_name.ensures (c.loop-identifier.invariant.names h);
}
