-- The trees of charts, made of the first byte, the byte after the last, and what is spelled between.
use Rattle.std.specs.Prelude.{ℕ, List, Option}
use Rattle.st_tree.specs.Places.{node_at}
use Rattle.st_tree.specs.declared.expression.Identifier.{Identifier}
use Rattle.st_tree.specs.declared.expression.Expr.{Expr}
use Rattle.st_tree.specs.declared.statement.Stmt.{Stmt}
use Rattle.st_tree.specs.declared.chart.Association.{Association}
use Rattle.st_tree.specs.declared.chart.Step.{Step}
use Rattle.st_tree.specs.declared.chart.StepNames.{StepNames}
use Rattle.st_tree.specs.declared.chart.StepNames.TheVariants as steps
use Rattle.st_tree.specs.declared.chart.Transition.{Transition}
use Rattle.st_tree.specs.declared.chart.Action.{Action}
use Rattle.st_tree.specs.declared.chart.SfcPart.{SfcPart}
use Rattle.st_tree.specs.declared.chart.Sfc.{Sfc}

abbrev pub make_association : ℕ → ℕ → Identifier × Option Identifier → Association
make_association start end p = record {
  node = node_at start end;
  action = p.0;
  qualifier = p.1;
}

abbrev pub make_step : ℕ → ℕ → Identifier × List Association → Step
make_step start end p = record {
  node = node_at start end;
  name = p.0;
  associations = p.1;
}

abbrev pub make_several : ℕ → ℕ → List Identifier → StepNames
make_several start end found = steps.Several (node_at start end) found

-- the name, the steps from which and to which it leads, the condition
abbrev pub make_transition : ℕ → ℕ → Option Identifier × (StepNames × StepNames) × Expr → Transition
make_transition start end p = record {
  node = node_at start end;
  name = p.0;
  from = p.1.0;
  to = p.1.1;
  condition = p.2;
}

abbrev pub make_action : ℕ → ℕ → Identifier × List Stmt → Action
make_action start end p = record {
  node = node_at start end;
  name = p.0;
  body = p.1;
}

abbrev pub make_sfc : ℕ → ℕ → Step × List SfcPart → Sfc
make_sfc start end p = record {
  node = node_at start end;
  initial = p.0;
  parts = p.1;
}
