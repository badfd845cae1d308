-- The cells so far are those of the variables so far, and the map has their places.
use Rattle.std.proofs.Common.{◌≡◌, take}
use Rattle.std.specs.Prelude.{flat_map}
use Rattle.task_config.specs.Plan.{decl_cells}
use Rattle.task_config.specs.Written.{place_in, place_among}
use Rattle.task_config.proofs.component.task_of.Given as goal

abbrev pub invariant-loop-section : goal.invariant-loop-section
invariant-loop-section l = record {
  cells : l.cells ≡ flat_map (λ section. flat_map decl_cells section.decls) (take l.section-index l.unit.sections);
  names : place_in (λ key. key.now) l.names ≡ place_among l.cells;
}
