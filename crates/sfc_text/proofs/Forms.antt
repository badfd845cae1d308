-- The parsers of charts read their grammar.
use Rattle.std.proofs.Common.{◌≡◌, List, [], ◌∷◌, Some, None, refl}
use Rattle.token_grammar.specs.declared.token.TokenKind.{TokenKind}
use Rattle.token_grammar.specs.declared.token.TokenKind.TheVariants as k
use Rattle.token_grammar.specs.Texts.{Lexeme}
use Rattle.token_grammar.specs.steps.Parsers.{sees_in}
use Rattle.token_grammar.proofs.Laws.{Exact}
use Rattle.token_grammar.proofs.Starts.{sees_any, IsLevel, bind_starts, bind_give, starts_bind}
use Rattle.token_grammar.proofs.Forms.{Form, level_carries, form_take, form_then, form_as, form_or, form_node, form_scoped, exact_optional, level_bind, level_give, level_or, level_node, level_scoped, level_then}
use Rattle.st_tree.specs.declared.chart.StepNames.TheVariants as steps
use Rattle.st_tree.specs.declared.chart.SfcPart.TheVariants as part
use Rattle.sfc_text.specs.Trees.{make_association, make_step, make_several, make_transition, make_action, make_sfc}
use Rattle.sfc_text.specs.Grammar as g
use Rattle.sfc_text.specs.steps.Parse as p
use Rattle.st_expr.proofs.Leaves.{form_identifier, level_identifier}
use Rattle.st_expr.proofs.Operators.{or_is}
use Rattle.st_expr.proofs.Exactness.{goes_on, form_expression, level_expression}
use Rattle.st_expr.proofs.Lists.{Here, one_kind, stays, into, exact_each, level_each, exact_last, level_last}
use Rattle.st_expr.proofs.NameLists.{exact_names}
use Rattle.st_statements.proofs.ReadingForms.{statement_kinds}
use Rattle.st_statements.proofs.StatementExactness.{exact_statements, level_statements}

-- ---- steps

exact_optional_name : Exact Here p.optional_name g.optional_name (sees_any (k.Name ∷ []))
unfolding p.optional_name
exact_optional_name = exact_optional k.Name None (form_as (λ i. Some i) form_identifier)

level_optional_name : IsLevel g.optional_name
level_optional_name =
    level_or (level_bind level_identifier (λ i. level_give (Some i))) (level_give None)

form_qualifier : Form Here p.qualifier g.qualifier (k.OpenParenthesis ∷ []) []
unfolding p.qualifier
form_qualifier = form_scoped {es = []} (form_take {W = Here} {es = []} k.OpenParenthesis 1 1
    (λ _. exact_last (k.Name ∷ []) k.CloseParenthesis (λ q. q) exact_optional_name refl) (into Here))

level_qualifier : IsLevel g.qualifier
level_qualifier = level_scoped _

form_association : Form Here p.association g.association (k.Name ∷ []) []
unfolding p.association
form_association = form_node make_association (form_then {W = Here} {es = []} form_identifier
    (λ action. exact_last [] k.Semicolon (λ q. (action, q)) form_qualifier.exact refl)
    (level_carries Here level_identifier))

level_association : IsLevel g.association
level_association = level_node make_association (level_bind level_identifier (λ action.
    level_bind level_qualifier (λ q. level_last k.Semicolon (action, q))))

exact_associations : Exact Here p.associations g.associations (sees_any (k.Name ∷ []))
unfolding p.associations p.more_associations
exact_associations = exact_each (one_kind k.Name) form_association refl level_association

form_step : (kind : TokenKind) → Form Here (p.step_as kind) (g.step_as kind) (kind ∷ []) []
unfolding p.step_as
form_step kind = form_node make_step (form_take {W = Here} {es = []} kind 0 0
    (λ _. (form_then {W = Here} {es = []} form_identifier
    (λ name. (form_take {W = Here} {es = []} k.Colon 0 0
    (λ _. exact_last (k.Name ∷ []) k.EndStep (λ found. (name, found)) exact_associations refl)
    (stays 257)).exact)
    (level_carries Here level_identifier)).exact)
    (stays 257))

level_step : (kind : TokenKind) → IsLevel (g.step_as kind)
level_step kind = level_node make_step (level_then kind (λ _. level_bind level_identifier (λ name.
    level_then k.Colon (λ _. level_bind (level_each level_association) (λ found.
    level_last k.EndStep (name, found))))))

-- ---- transitions

form_several : Form Here p.several g.several (k.OpenParenthesis ∷ []) []
unfolding p.several
form_several = form_node make_several (form_scoped {es = []} (form_take {W = Here} {es = []}
    k.OpenParenthesis 1 1
    (λ _. exact_last (k.Comma ∷ []) k.CloseParenthesis (λ found. found) (exact_names 257) refl)
    (into Here)))

form_step_names : Form Here p.step_names g.step_names (k.OpenParenthesis ∷ k.Name ∷ []) []
unfolding p.step_names
form_step_names = form_or k.OpenParenthesis form_several (form_as steps.One form_identifier) refl

level_step_names : IsLevel g.step_names
level_step_names = level_or (level_node make_several (level_scoped _))
    (level_bind level_identifier (λ i. level_give (steps.One i)))

form_link : Form Here p.link g.link (k.From ∷ []) []
unfolding p.link
form_link = form_take {W = Here} {es = []} k.From 0 0
    (λ _. (form_then {W = Here} {es = []} form_step_names
    (λ from. (form_take {W = Here} {es = []} k.To 0 0
    (λ _. (form_as (λ to. (from, to)) form_step_names).exact)
    (stays 257)).exact)
    (level_carries Here level_step_names)).exact)
    (stays 257)

level_link : IsLevel g.link
level_link = level_then k.From (λ _. level_bind level_step_names (λ from.
    level_then k.To (λ _. level_bind level_step_names (λ to. level_give (from, to)))))

form_condition : Form Here p.condition g.condition (k.Becomes ∷ []) []
unfolding p.condition
form_condition = form_take {W = Here} {es = []} k.Becomes 0 0
    (λ _. exact_last goes_on k.Semicolon (λ x. x) form_expression.exact refl)
    (stays 257)

level_condition : IsLevel g.condition
level_condition =
    level_then k.Becomes (λ _. level_bind level_expression (λ x. level_last k.Semicolon x))

form_transition : Form Here p.transition g.transition (k.Transition ∷ []) []
unfolding p.transition
form_transition = form_node make_transition (form_take {W = Here} {es = []} k.Transition 0 0
    (λ _. bind_starts {W = Here} (k.Name ∷ []) exact_optional_name
    (λ name. (form_then {W = Here} {es = []} form_link
    (λ l. exact_last [] k.EndTransition (λ x. (name, l, x)) form_condition.exact refl)
    (level_carries Here level_link)).exact)
    (level_carries Here level_optional_name)
    (λ name. starts_bind form_link.starts)
    refl)
    (stays 257))

level_transition : IsLevel g.transition
level_transition = level_node make_transition (level_then k.Transition (λ _.
    level_bind level_optional_name (λ name. level_bind level_link (λ l.
    level_bind level_condition (λ x. level_last k.EndTransition (name, l, x))))))

-- ---- actions

form_action : Form Here p.action g.action (k.Action ∷ []) []
unfolding p.action
form_action = form_node make_action (form_take {W = Here} {es = []} k.Action 0 0
    (λ _. (form_then {W = Here} {es = []} form_identifier
    (λ name. (form_take {W = Here} {es = []} k.Colon 0 0
    (λ _. exact_last statement_kinds k.EndAction (λ body. (name, body)) exact_statements refl)
    (stays 257)).exact)
    (level_carries Here level_identifier)).exact)
    (stays 257))

level_action : IsLevel g.action
level_action = level_node make_action (level_then k.Action (λ _. level_bind level_identifier (λ name.
    level_then k.Colon (λ _. level_bind level_statements (λ body.
    level_last k.EndAction (name, body))))))

-- ---- charts

abbrev pub part_kinds : List TokenKind
part_kinds = k.Step ∷ k.Transition ∷ k.Action ∷ []

form_chart_part : Form Here p.chart_part g.chart_part part_kinds []
unfolding p.chart_part
form_chart_part = form_or k.Step (form_as part.Step (form_step k.Step))
    (form_or k.Transition (form_as part.Transition form_transition)
    (form_as part.Action form_action) refl) refl

level_chart_part : IsLevel g.chart_part
level_chart_part = level_or (level_bind (level_step k.Step) (λ s. level_give (part.Step s)))
    (level_or (level_bind level_transition (λ t. level_give (part.Transition t)))
    (level_bind level_action (λ a. level_give (part.Action a))))

sees_parts : (ts : List Lexeme) → p.sees_part ts ≡ sees_any part_kinds ts
unfolding p.sees_part
sees_parts ts =
    or_is (sees_in k.Step ts) _ _ (or_is (sees_in k.Transition ts) _ _ (one_kind k.Action ts))

exact_chart_parts : Exact Here p.chart_parts g.chart_parts (sees_any part_kinds)
unfolding p.chart_parts p.more_parts
exact_chart_parts = exact_each sees_parts form_chart_part refl level_chart_part

pub form_sfc : Form Here p.sfc g.sfc (k.InitialStep ∷ []) part_kinds
unfolding p.sfc
form_sfc = form_node make_sfc (form_then {W = Here} {es = part_kinds} (form_step k.InitialStep)
    (λ initial. bind_give (λ found. (initial, found)) exact_chart_parts)
    (level_carries Here (level_step k.InitialStep)))

pub level_sfc : IsLevel g.sfc
level_sfc = level_node make_sfc (level_bind (level_step k.InitialStep) (λ initial.
    level_bind (level_each level_chart_part) (λ found. level_give (initial, found))))
