-- The cells so far are those of the variables so far, and the map has their places.
use Rattle.std.proofs.Common.{◌≡◌, ◌++◌, take}
use Rattle.std.specs.Prelude.{map}
use Rattle.task_config.specs.Plan.{cell_of}
use Rattle.task_config.specs.Written.{place_in, place_among}
use Rattle.task_config.proofs.component.add_decl.Given as goal

abbrev pub invariant-loop-identifier : goal.invariant-loop-identifier
invariant-loop-identifier l = record {
  cells : l.cells ≡ l.fn.cells ++ map (cell_of l.decl.spec.elem) (take l.identifier-index l.decl.names);
  names : place_in (λ key. key.now) l.fn.names ≡ place_among l.fn.cells → place_in (λ key. key.now) l.names ≡ place_among l.cells;
}
