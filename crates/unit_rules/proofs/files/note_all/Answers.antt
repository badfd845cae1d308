use Rattle.std.proofs.Common.{◌≡◌, ℕ, arith, subst}
use Rattle.std.specs.Prelude.{List, flat_map}
use Rattle.link_faults.specs.First.{after}
use Rattle.expression_types.specs.Meanings.{meant}
use Rattle.st_tree.specs.declared.file.Config.{Config}
use Rattle.unit_rules.specs.Running.{outer, config_faults, configs_faults}
use Rattle.unit_rules.proofs.Noting.{noted_at}
use Rattle.unit_rules.proofs.files.note_all.Goals as goal

pub loop-place-preserved : goal.loop-place-preserved
loop-place-preserved g c =
    let m = meant (g.M.Names.names c.args.meaning.now) (g.M.Meaning.parts c.args.meaning.now) in
    let p = outer c.args.names.now c.args.units.now in
    let configs = c.index-files-place.result.config in
    let file = c.file_number-file.result in
    let old = c.loop-place.faults in
    let new = c.note_configs.new.faults in
    noted_at (configs_faults m p) c.args.files.now c.loop-place.place c.index-files-place.result
    _ _ _ (omega arith) c.index-files-place.is c.loop-place.invariant
    (subst (λ (n : ℕ). new ≡ after old (flat_map (config_faults m p n) configs))
    c.file_number-file.ensures
    (subst (λ (l : List Config). new ≡ after old (flat_map (config_faults m p file) l))
    c.as_slice.ensures c.note_configs.ensures))
