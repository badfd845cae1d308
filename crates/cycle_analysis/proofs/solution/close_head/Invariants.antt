use Rattle.std.proofs.Common.{◌≡◌, ◌+◌, List, length}
use Rattle.st_tree.specs.Code.{reading}
use Rattle.st_tree.specs.declared.code.CellInfo.{CellInfo}
use Rattle.cycle_analysis.specs.Rows.{rooms}
use Rattle.cycle_analysis.specs.Solved.{IsLeastHead, IsRaisedFrom, head_of}
use Rattle.cycle_analysis.proofs.solution.close_head.Given as goal

abbrev pub invariant-rounds : goal.invariant-rounds
invariant-rounds g l = record {
  parsed : l.steps.parsed ≡ l.fn.steps.parsed;
  own : length l.point.state.own.items ≡ length l.head.own.items;
  shared : length l.point.state.shared.items ≡ length l.head.shared.items;
  told_own : length l.told.writes.own.items ≡ length l.fn.told.writes.own.items;
  told_shared : length l.told.writes.shared.items ≡ length l.fn.told.writes.shared.items;
  raised : IsRaisedFrom (head_of l.fn.head) (head_of l.head);
  least : (cells shared : List CellInfo) → IsLeastHead l.grid (reading l.fn.task.code) cells shared (head_of l.fn.head) → IsLeastHead l.grid (reading l.fn.task.code) cells shared (head_of l.head);
}

abbrev pub decreases-rounds : goal.decreases-rounds
decreases-rounds g l = rooms l.head.own.items + rooms l.head.shared.items
