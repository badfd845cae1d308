use Rattle.std.proofs.Common.{rules, ℕ, ◌+◌, List, take, map, arith, subst}
use Rattle.std.proofs.lemmas.Grind.{common_steps}
use Rattle.st_tree.specs.declared.file.Unit.{Unit}
use Rattle.project_declarations.specs.Declarations.{placed}
use Rattle.project_declarations.specs.Rows.{AddsUnits}
use Rattle.project_declarations.proofs.Adding.{adds_next_file}
use Rattle.project_declarations.proofs.collected.Collected.units_of_files.Goals as goal

pub loop-place-preserved : goal.loop-place-preserved
loop-place-preserved c =
    let files = c.args.files.now in
    let k = c.loop-place.place in
    let tree = c.index-files-place.result in
    let old = c.loop-place.self in
    let new = c.all_units.new.self in
    adds_next_file (take k files) (take (k + 1) files) tree k
    (grind (arith, common_steps)) (grind (arith, common_steps)) c.loop-place.invariant
    (subst (λ (n : ℕ). AddsUnits old new (map (placed n) tree.units)) c.in_ok-file.ensures
    (subst (λ (units : List Unit). AddsUnits old new (map (placed c.in_ok-file.file) units))
    c.as_slice.ensures c.in_ok-all_units.ensures))
