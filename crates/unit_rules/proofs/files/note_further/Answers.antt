use Rattle.std.proofs.Common.{◌≡◌, ◌∙◌, ℕ, arith, subst, ap}
use Rattle.std.specs.Prelude.{List, map, take}
use Rattle.link_faults.specs.First.{after}
use Rattle.st_tree.specs.declared.file.Config.{Config}
use Rattle.project_declarations.specs.Named.{each_from}
use Rattle.project_declarations.specs.Declarations.{joined}
use Rattle.unit_rules.specs.Running.{further_config, further_configs}
use Rattle.unit_rules.specs.steps.Further.{behind, any_of}
use Rattle.unit_rules.proofs.Noting.{joined_more}
use Rattle.unit_rules.proofs.Further.{noted_behind, any_behind}
use Rattle.unit_rules.proofs.files.note_further.Goals as goal

pub loop-place-preserved : goal.loop-place-preserved
loop-place-preserved c =
    let files = c.args.files.now in
    let k = c.loop-place.place in
    let tree = c.index-files-place.result in
    let n = c.file_number-file.result in
    let old = c.loop-place.faults in
    let new = c.note_further_configs-any.new.faults in
    let any = c.loop-place.any in
    let done = joined (each_from further_configs 0 (take k files)) in
    let more = joined_more further_configs files k tree (omega arith) c.index-files-place.is in
    let told =
    ap (λ (l : List Config). map (further_config n) l) c.as_slice.ensures
    ∙ ap (λ (j : ℕ). map (further_config j) tree.config) c.file_number-file.ensures in
    record {
      noted = noted_behind done (further_configs k tree) _ any _ old new more
          c.loop-place.invariant.any c.loop-place.invariant.noted
          (c.note_further_configs-any.ensures.noted ∙ ap (λ r. after old (behind any r)) told);
      any = any_behind done (further_configs k tree) _ any _ more c.loop-place.invariant.any
          (c.note_further_configs-any.ensures.any ∙ ap (any_of any) told);
    }
