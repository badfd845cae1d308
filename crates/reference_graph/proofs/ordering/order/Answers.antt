use Rattle.reference_graph.proofs.Orders.{ordered, acyclic}
use Rattle.reference_graph.proofs.ordering.order.Goals as goal

pub returns-else-search-clause-order : goal.returns-else-search-clause-order
returns-else-search-clause-order c =
    ordered c.args.graph.now c.in_ok-search.search.finished.items c.in_ok-search.search.cyclic c.in_ok-search.ensures c.if-search.false

pub returns-else-search-clause-acyclic : goal.returns-else-search-clause-acyclic
returns-else-search-clause-acyclic c h =
    acyclic c.args.graph.now c.in_ok-search.search.finished.items
    (ordered c.args.graph.now c.in_ok-search.search.finished.items c.in_ok-search.search.cyclic c.in_ok-search.ensures c.if-search.false) h
