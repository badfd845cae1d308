-- What is planned is the component of the unit, and its code is steady.
use Rattle.std.proofs.Common.{◌≡◌, length, ℕ, zero, suc, [], ◌∷◌, Some, sym, ap, subst, ◌∙◌}
use Rattle.std.specs.Prelude.{slice_get}
use Rattle.first_form.specs.declared.tree.Unit.{Unit as SourceUnit}
use Rattle.st_tree.specs.declared.code.Component.{Component}
use Rattle.std.proofs.lemmas.Option.{same_Some, none-some}
use Rattle.st_tree.specs.Code.{reading}
use Rattle.first_form.specs.Names.{UsesDeclared, unit_names}
use Rattle.st_tree.specs.Writes.{WritesCells}
use Rattle.st_tree.specs.Steady.{IsSteady, IsSteadyComponent}
use Rattle.st_tree.specs.declared.code.TaskCode.{TaskCode}
use Rattle.st_tree.specs.declared.code.CellInfo.{CellInfo}
use Rattle.task_config.specs.Plan.{unit_cells, IsComponent}
use Rattle.task_config.specs.Written.{place_among, IsWritten}
use Rattle.task_config.proofs.Named.{place_names, cells_count}
use Rattle.task_config.proofs.Exact.{body_is}
use Rattle.task_config.proofs.Steady.{steady_writes, body_steady}
use Rattle.task_config.proofs.Literals.{in_body, from_body}

only : {X : Type 0} (x y : X) (k : ℕ) → slice_get (x ∷ []) k ≡ Some y → x ≡ y
only x y zero e = same_Some x y e
only x y (suc k) e = absurd (none-some y e)

pub is_component : (unit : SourceUnit) (component : Component) → IsWritten unit component → UsesDeclared unit → IsComponent unit component
is_component unit component w u = record {
  task = w.task;
  tasks = w.tasks;
  is_task = record { code = ap Some w.is_task.code ∙ sym (body_is (unit_names unit) (place_among (unit_cells unit)) (place_names unit) unit.body u); cells = w.is_task.cells };
  shared = w.shared;
  literals = λ n. (λ c. in_body (unit_names unit) n unit.body u (rw w.literals at c), λ c. rw w.literals (from_body (unit_names unit) n unit.body u c));
}

-- the code that the definitions give is steady
pub component_steady : (unit : SourceUnit) (component : Component) → IsComponent unit component → IsSteadyComponent component
component_steady unit component c me task e =
    let same = only c.task task me (rw c.tasks at e) in
    let code = body_steady (unit_names unit) (length component.shared) unit.body (reading c.task.code) (sym c.is_task.code) in
    let count : length (unit_names unit) ≡ length c.task.cells = cells_count unit ∙ ap (length {A = CellInfo}) (sym c.is_task.cells) in
    subst (λ (x : TaskCode). IsSteady (length x.cells) (length component.shared) 0 (reading x.code)) same
    (subst (λ n. IsSteady n (length component.shared) 0 (reading c.task.code)) count code)

pub writes_cells : (component : Component) → IsSteadyComponent component → WritesCells component
writes_cells component steady me task e = steady_writes (length task.cells) (length component.shared) 0 (reading task.code) (steady me task e)
