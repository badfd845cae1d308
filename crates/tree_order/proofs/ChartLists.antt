-- What is gathered from the words of sequential function charts.
use Rattle.std.proofs.Common.{List, ◌++◌, Option, append_assoc, refl}
use Rattle.std.proofs.Common.{sym}
use Rattle.std.specs.Prelude.{flat_map}
use Rattle.std.proofs.lemmas.List.{append-nil}
use Rattle.token_grammar.specs.declared.token.TokenKind.{TokenKind}
use Rattle.token_grammar.specs.declared.token.TokenKind.TheVariants as k
use Rattle.token_grammar.specs.Grammar.{Word, node}
use Rattle.st_tree.specs.declared.expression.Identifier.{Identifier}
use Rattle.st_tree.specs.declared.expression.Expr.{Expr}
use Rattle.st_tree.specs.declared.statement.Stmt.{Stmt}
use Rattle.st_tree.specs.declared.chart.Association.{Association}
use Rattle.st_tree.specs.declared.chart.Step.{Step}
use Rattle.st_tree.specs.declared.chart.StepNames.{StepNames}
use Rattle.st_tree.specs.declared.chart.StepNames.TheVariants as steps
use Rattle.st_tree.specs.declared.chart.Transition.{Transition}
use Rattle.st_tree.specs.declared.chart.Action.{Action}
use Rattle.st_tree.specs.declared.chart.SfcPart.{SfcPart}
use Rattle.st_tree.specs.declared.chart.SfcPart.TheVariants as part
use Rattle.st_tree.specs.declared.chart.Sfc.{Sfc}
use Rattle.sfc_text.specs.Trees.{make_association, make_step, make_several, make_transition}
use Rattle.sfc_text.specs.Trees.{make_action, make_sfc}
use Rattle.sfc_text.specs.Grammar as g
use Rattle.tree_order.proofs.Gathering.{Gathering, Filled, Lists, filled_token, filled_first}
use Rattle.tree_order.proofs.Gathering.{filled_scoped, filled_node, gathers_give, gathers_then}
use Rattle.tree_order.proofs.Gathering.{gathers_behind, lists_or, lists_scoped, lists}
use Rattle.tree_order.proofs.Gathering.{lists_enclosed, lists_node, gathers_another, lists_many}
use Rattle.tree_order.proofs.ExpressionLists.{ExprLists, of_identifier, list_if, filled_identifier}
use Rattle.tree_order.proofs.ExpressionLists as exprs
use Rattle.tree_order.proofs.StatementLists.{StmtLists}
use Rattle.tree_order.proofs.StatementLists as stmts

-- ---- what is gathered of each part of a chart

module _ {M : Type 0} {P : Word → List M → Type 0} (G : Gathering P) where
  abbrev pub of_association : Association → List M
  of_association x =
      G.own x.node ++ (of_identifier G x.action ++ list_if (of_identifier G) x.qualifier)

  abbrev pub of_step : Step → List M
  of_step x = G.own x.node ++ (of_identifier G x.name ++ flat_map of_association x.associations)

  abbrev pub of_step_names : StepNames → List M
  of_step_names (steps.One name) = of_identifier G name
  of_step_names (steps.Several node names) = G.own node ++ flat_map (of_identifier G) names

module _ {M : Type 0} {P : Word → List M → Type 0} {G : Gathering P} {E : ExprLists G}
    (S : StmtLists E) where
  abbrev pub of_transition : Transition → List M
  of_transition x =
      G.own x.node ++ (list_if (of_identifier G) x.name
      ++ (of_step_names G x.from ++ (of_step_names G x.to ++ E.of_expr x.condition)))

  abbrev pub of_action : Action → List M
  of_action x = G.own x.node ++ (of_identifier G x.name ++ flat_map S.of_stmt x.body)

  abbrev pub of_sfc_part : SfcPart → List M
  of_sfc_part (part.Step x) = of_step G x
  of_sfc_part (part.Transition x) = of_transition x
  of_sfc_part (part.Action x) = of_action x

  abbrev pub of_sfc : Sfc → List M
  of_sfc x = G.own x.node ++ (of_step G x.initial ++ flat_map of_sfc_part x.parts)

-- ---- the rules

module _ {M : Type 0} {P : Word → List M → Type 0} (G : Gathering P) where
  optional_name : Lists P (list_if (of_identifier G)) g.optional_name
  optional_name =
      lists_or G (lists G (gathers_then G (exprs.identifier G)
      (λ i. gathers_give G (sym (append-nil (of_identifier G i)))))) (lists G (gathers_give G refl))

  qualifier : Lists P (list_if (of_identifier G)) g.qualifier
  qualifier = lists_scoped G (lists_enclosed G 1 1 0 0 optional_name)

  association : Lists P (of_association G) g.association
  association =
      lists_node G (λ (p : Identifier × Option Identifier). of_identifier G p.0
      ++ list_if (of_identifier G) p.1) (of_association G) make_association
      (filled_first filled_identifier) (λ start end p. refl)
      (lists G (gathers_then G (exprs.identifier G)
      (λ i. gathers_then G qualifier
      (λ q. gathers_behind G 0 0 (λ t. gathers_give G (rw append-nil refl))))))

  step_as : (kind : TokenKind) → Lists P (of_step G) (g.step_as kind)
  step_as kind =
      lists_node G (λ (p : Identifier × List Association). of_identifier G p.0
      ++ flat_map (of_association G) p.1) (of_step G) make_step (filled_first (filled_token 0 0))
      (λ start end p. refl)
      (lists G (gathers_behind G 0 0 (λ t. gathers_then G (exprs.identifier G)
      (λ i. gathers_behind G 0 0
      (λ c. gathers_then G (lists_many G (of_association G) (gathers_another G association))
      (λ found.
      gathers_behind G 0 0 (λ e. gathers_give G (rw append-nil refl))))))))

  step_names : Lists P (of_step_names G) g.step_names
  step_names = lists_or G
      (lists_node G (flat_map (of_identifier G)) (of_step_names G) make_several
      (filled_scoped (filled_first (filled_token 1 1))) (λ start end found. refl)
      (lists_scoped G (lists_enclosed G 1 1 0 0 (exprs.names G))))
      (lists G (gathers_then G (exprs.identifier G)
      (λ i. gathers_give G (sym (append-nil (of_identifier G i))))))

  link : Lists P (λ (p : StepNames × StepNames). of_step_names G p.0 ++ of_step_names G p.1) g.link
  link =
      lists G (gathers_behind G 0 0
      (λ t. gathers_then G step_names
      (λ from. gathers_behind G 0 0
      (λ t. gathers_then G step_names (λ to. gathers_give G (rw append-nil refl))))))

module _ {M : Type 0} {P : Word → List M → Type 0} {G : Gathering P} {E : ExprLists G}
    (S : StmtLists E) where
  transition : Lists P (of_transition S) g.transition
  transition =
      lists_node G (λ (p : Option Identifier × (StepNames × StepNames) × Expr). list_if
      (of_identifier G) p.0 ++ (of_step_names G p.1.0 ++ (of_step_names G p.1.1 ++ E.of_expr p.2)))
      (of_transition S) make_transition
      (filled_first (filled_token 0 0)) (λ start end p. refl)
      (lists G (gathers_behind G 0 0 (λ t. gathers_then G (optional_name G)
      (λ name. gathers_then G (link G)
      (λ l. gathers_then G condition (λ x. gathers_behind G 0 0 (λ e.
      gathers_give G (rw (append-nil, append_assoc) refl))))))))
    where
      condition : Lists P E.of_expr g.condition
      condition = lists_enclosed G 0 0 0 0 (exprs.expression E)

  action : Lists P (of_action S) g.action
  action =
      lists_node G (λ (p : Identifier × List Stmt). of_identifier G p.0 ++ flat_map S.of_stmt p.1)
      (of_action S) make_action (filled_first (filled_token 0 0)) (λ start end p. refl)
      (lists G (gathers_behind G 0 0 (λ t. gathers_then G (exprs.identifier G)
      (λ i. gathers_behind G 0 0 (λ c. gathers_then G (stmts.statements S)
      (λ b. gathers_behind G 0 0 (λ e. gathers_give G (rw append-nil refl))))))))

  chart_part : Lists P (of_sfc_part S) g.chart_part
  chart_part =
      lists_or G (lists G (gathers_then G (step_as G k.Step)
      (λ s. gathers_give G (sym (append-nil (of_step G s))))))
      (lists_or G (lists G
      (gathers_then G transition (λ t. gathers_give G (sym (append-nil (of_transition S t))))))
      (lists G (gathers_then G action
      (λ a. gathers_give G (sym (append-nil (of_action S a)))))))

  pub sfc : Lists P (of_sfc S) g.sfc
  sfc =
      lists_node G (λ (p : Step × List SfcPart). of_step G p.0 ++ flat_map (of_sfc_part S) p.1)
      (of_sfc S) make_sfc (filled_first filled_initial) (λ start end p. refl)
      (lists G (gathers_then G (step_as G k.InitialStep)
      (λ s. gathers_then G (lists_many G (of_sfc_part S) (gathers_another G chart_part))
      (λ found. gathers_give G (rw append-nil refl)))))
    where
      filled_initial : Filled (g.step_as k.InitialStep)
      filled_initial = filled_node make_step (filled_first (filled_token 0 0))
