use Rattle.std.proofs.Common.{rules, [], ℕ, ◌+◌, take, arith, subst}
use Rattle.std.proofs.lemmas.Grind.{common_steps}
use Rattle.project_declarations.specs.Declarations.{outer_decls, outer_names}
use Rattle.project_declarations.specs.Rows.{Adds}
use Rattle.project_declarations.proofs.Adding.{adds_file}
use Rattle.project_declarations.proofs.collected.Collected.outer_of_files.Goals as goal

pub loop-place-preserved : goal.loop-place-preserved
loop-place-preserved c =
    let files = c.args.files.now in
    let k = c.loop-place.place in
    let tree = c.index-files-place.result in
    adds_file (take k files) (take (k + 1) files) tree k
    (grind (arith, common_steps)) (grind (arith, common_steps)) c.loop-place.invariant
    (subst (λ (n : ℕ). Adds c.loop-place.self c.outer.new.self [] (outer_decls n tree) (outer_names n tree))
    c.in_ok-file.ensures c.in_ok-outer.ensures)
