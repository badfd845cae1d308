-- What numbering does to sequential function charts.
use Rattle.std.proofs.Common.{refl}
use Rattle.st_tree.specs.declared.chart.Association.{Association}
use Rattle.st_tree.specs.declared.chart.Step.{Step}
use Rattle.st_tree.specs.declared.chart.StepNames.{StepNames}
use Rattle.st_tree.specs.declared.chart.StepNames.TheVariants as step_names
use Rattle.st_tree.specs.declared.chart.Transition.{Transition}
use Rattle.st_tree.specs.declared.chart.Action.{Action}
use Rattle.st_tree.specs.declared.chart.SfcPart.{SfcPart}
use Rattle.st_tree.specs.declared.chart.SfcPart.TheVariants as sfc_part
use Rattle.st_tree.specs.declared.chart.Sfc.{Sfc}
use Rattle.tree_numbers.specs.NodeLists.{nodes_of_association, nodes_of_step, nodes_of_step_names, nodes_of_transition, nodes_of_action, nodes_of_sfc_part, nodes_of_sfc}
use Rattle.tree_numbers.specs.Bare.{bare_association, bare_step, bare_step_names, bare_transition, bare_action, bare_sfc_part, bare_sfc}
use Rattle.tree_numbers.specs.steps.Counted.{counted_association, counted_step, counted_step_names, counted_transition, counted_action, counted_sfc_part, counted_sfc}
use Rattle.tree_numbers.proofs.Numbering.{Way, IsCounted, node_is, at1, at2, at3, at5, each_is, option_is}
use Rattle.tree_numbers.proofs.ExpressionLaws.{identifier_way, identifier_is, expr_is}
use Rattle.tree_numbers.proofs.StatementLaws.{stmt_way, stmt_is}

abbrev pub association_way : Way Association
association_way =
    record { counts = counted_association; nodes = nodes_of_association; bare = bare_association }

pub association_is : (x : Association) → IsCounted association_way x
association_is x =
    at3 association_way
    (λ node action qualifier. record { node = node; action = action; qualifier = qualifier })
    (λ node action qualifier c. refl) (λ node action qualifier. refl)
    (λ node action qualifier. refl)
    (node_is x.node) (identifier_is x.action) (option_is identifier_way identifier_is x.qualifier)

abbrev pub step_way : Way Step
step_way = record { counts = counted_step; nodes = nodes_of_step; bare = bare_step }

pub step_is : (x : Step) → IsCounted step_way x
step_is x =
    at3 step_way
    (λ node name associations. record { node = node; name = name; associations = associations })
    (λ node name associations c. refl) (λ node name associations. refl)
    (λ node name associations. refl)
    (node_is x.node) (identifier_is x.name) (each_is association_way association_is x.associations)

abbrev pub step_names_way : Way StepNames
step_names_way =
    record { counts = counted_step_names; nodes = nodes_of_step_names; bare = bare_step_names }

pub step_names_is : (x : StepNames) → IsCounted step_names_way x
step_names_is (StepNames.One name) =
    at1 step_names_way step_names.One
    (λ name c. refl) (λ name. refl) (λ name. refl)
    (identifier_is name)
step_names_is (StepNames.Several node names) =
    at2 step_names_way step_names.Several
    (λ node names c. refl) (λ node names. refl) (λ node names. refl)
    (node_is node) (each_is identifier_way identifier_is names)

abbrev pub transition_way : Way Transition
transition_way =
    record { counts = counted_transition; nodes = nodes_of_transition; bare = bare_transition }

pub transition_is : (x : Transition) → IsCounted transition_way x
transition_is x =
    at5 transition_way
    (λ node name from to condition. record
    { node = node; name = name; from = from; to = to; condition = condition })
    (λ node name from to condition c. refl) (λ node name from to condition. refl)
    (λ node name from to condition. refl)
    (node_is x.node) (option_is identifier_way identifier_is x.name) (step_names_is x.from)
    (step_names_is x.to) (expr_is x.condition)

abbrev pub action_way : Way Action
action_way = record { counts = counted_action; nodes = nodes_of_action; bare = bare_action }

pub action_is : (x : Action) → IsCounted action_way x
action_is x =
    at3 action_way (λ node name body. record { node = node; name = name; body = body })
    (λ node name body c. refl) (λ node name body. refl) (λ node name body. refl)
    (node_is x.node) (identifier_is x.name) (each_is stmt_way stmt_is x.body)

abbrev pub sfc_part_way : Way SfcPart
sfc_part_way = record { counts = counted_sfc_part; nodes = nodes_of_sfc_part; bare = bare_sfc_part }

pub sfc_part_is : (x : SfcPart) → IsCounted sfc_part_way x
sfc_part_is (SfcPart.Step step) =
    at1 sfc_part_way sfc_part.Step
    (λ step c. refl) (λ step. refl) (λ step. refl)
    (step_is step)
sfc_part_is (SfcPart.Transition transition) =
    at1 sfc_part_way sfc_part.Transition
    (λ transition c. refl) (λ transition. refl) (λ transition. refl)
    (transition_is transition)
sfc_part_is (SfcPart.Action action) =
    at1 sfc_part_way sfc_part.Action
    (λ action c. refl) (λ action. refl) (λ action. refl)
    (action_is action)

abbrev pub sfc_way : Way Sfc
sfc_way = record { counts = counted_sfc; nodes = nodes_of_sfc; bare = bare_sfc }

pub sfc_is : (x : Sfc) → IsCounted sfc_way x
sfc_is x =
    at3 sfc_way (λ node initial parts. record { node = node; initial = initial; parts = parts })
    (λ node initial parts c. refl) (λ node initial parts. refl) (λ node initial parts. refl)
    (node_is x.node) (step_is x.initial) (each_is sfc_part_way sfc_part_is x.parts)
