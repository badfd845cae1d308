-- The cells so far are those of the variables so far, and the map has their places.
use Rattle.std.proofs.Common.{◌≡◌, ◌++◌, take}
use Rattle.std.specs.Prelude.{flat_map}
use Rattle.task_config.specs.Plan.{decl_cells}
use Rattle.task_config.specs.Written.{place_in, place_among}
use Rattle.task_config.proofs.component.add_section.Given as goal

abbrev pub invariant-loop-decl : goal.invariant-loop-decl
invariant-loop-decl l = record {
  cells : l.cells ≡ l.fn.cells ++ flat_map decl_cells (take l.decl-index l.section.decls);
  names : place_in (λ key. key.now) l.fn.names ≡ place_among l.fn.cells → place_in (λ key. key.now) l.names ≡ place_among l.cells;
}
