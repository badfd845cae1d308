use Rattle.task_config.proofs.Planned.{is_component, component_steady, writes_cells}
use Rattle.task_config.proofs.component.plan.Goals as goal

pub returns-clause-component : goal.returns-clause-component
returns-clause-component c = λ unit e uses. is_component unit _ (c.in_ok-component_of.ensures.written unit e) uses

pub returns-clause-steady : goal.returns-clause-steady
returns-clause-steady c = λ unit e uses. component_steady unit _ (is_component unit _ (c.in_ok-component_of.ensures.written unit e) uses)

pub returns-clause-writes : goal.returns-clause-writes
returns-clause-writes c = λ unit e uses. writes_cells c.in_ok-component_of.field-0 (component_steady unit _ (is_component unit _ (c.in_ok-component_of.ensures.written unit e) uses))
