use Rattle.std.proofs.Common.{refl, ap, sym, ◌∙◌}
use Rattle.st_tree.specs.Code.{reading}
use Rattle.first_form.specs.declared.tree.Stmt.TheVariants.{Assign}
use Rattle.task_config.specs.Written.{place_in}
use Rattle.task_config.proofs.Written.{assign_case, reads_same}
use Rattle.task_config.proofs.code.stmt_code.Goals as goal

pub returns : goal.returns
returns c =
    let n = ap reading c.in_ok-new.ensures.ok in
    let v = c.value-1.given in
    let t = c.target-1.given in
    let g = v.1 in
    let g2 = t.1 in
    let g3 = simp g2 at c.cell_of-cell.ensures in
    reads_same c.value_code.result _ _ c.value_code.ensures
    (rw g (assign_case (place_in (λ key. key.now) c.args.cells.now) (Assign v.0.0 v.0.1.0 v.0.1.1.0) t.0.0 v.0.0 t.0.1.0 v.0.1.0 t.0.1.1.0 v.0.1.1.0 _ _ _ (sym g ∙ g2) refl g3 n))
