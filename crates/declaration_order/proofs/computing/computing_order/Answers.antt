use Rattle.std.proofs.Common.{refl, subst}
use Rattle.std.specs.Prelude.{IfSome, IfNone}
use Rattle.reference_graph.specs.Reach.{IsOrder, HasCycle}
use Rattle.declaration_order.specs.Leads as spec
use Rattle.declaration_order.specs.Tables.{decls_in}
use Rattle.declaration_order.proofs.InOrder.{no_cycle, computing}
use Rattle.declaration_order.proofs.computing.computing_order.Goals as goal

pub unreachable-requires : goal.unreachable-requires
unreachable-requires c =
    no_cycle (spec.found_in c.args.names.now) (decls_in c.args.table.now)
    c.in_ok-leads.leads c.in_ok-values.values
    (spec.graph_of spec.names (spec.found_in c.args.names.now) (decls_in c.args.table.now))
    c.args.found.now.all c.args.found.now.by_names c.in_ok-graph.graph
    c.in_ok-leads.ensures c.in_ok-values.ensures refl
    c.requires.all c.requires.by_names c.in_ok-graph.ensures
    (subst (λ o. IfNone o (HasCycle c.in_ok-graph.graph)) c.in-None.is c.in_ok-list.ensures.cycle)

pub returns : goal.returns
returns c =
    computing (spec.found_in c.args.names.now) (decls_in c.args.table.now)
    c.in_ok-leads.leads c.in_ok-values.values
    (spec.graph_of spec.names (spec.found_in c.args.names.now) (decls_in c.args.table.now))
    c.args.found.now.all c.args.found.now.by_names c.in_ok-graph.graph
    c.in_ok-leads.ensures c.in_ok-values.ensures refl
    c.requires.all c.requires.by_names c.in_ok-graph.ensures
    c.in-Some.list.items
    (subst (λ o. IfSome o (λ list. IsOrder c.in_ok-graph.graph list.items)) c.in-Some.is c.in_ok-list.ensures.order)
