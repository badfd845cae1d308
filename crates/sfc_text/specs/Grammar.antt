-- The grammar of sequential function charts. Source: the textual grammar of IEC 61131-3:2013, narrowed to
-- this profile. The code descends by a look at the next token.
use Rattle.std.specs.Prelude.{List, [], ◌∷◌, ◌++◌, Option, Some, None}
use Rattle.token_grammar.specs.declared.token.TokenKind.{TokenKind}
use Rattle.token_grammar.specs.declared.token.TokenKind.TheVariants as k
use Rattle.token_grammar.specs.Grammar.{Rule, ◌>>=◌, ◌or◌, give, token, scoped, node, many}
use Rattle.st_tree.specs.declared.expression.Identifier.{Identifier}
use Rattle.st_tree.specs.declared.expression.Expr.{Expr}
use Rattle.st_tree.specs.declared.chart.Association.{Association}
use Rattle.st_tree.specs.declared.chart.Step.{Step}
use Rattle.st_tree.specs.declared.chart.StepNames.{StepNames}
use Rattle.st_tree.specs.declared.chart.StepNames.TheVariants as steps
use Rattle.st_tree.specs.declared.chart.Transition.{Transition}
use Rattle.st_tree.specs.declared.chart.Action.{Action}
use Rattle.st_tree.specs.declared.chart.SfcPart.{SfcPart}
use Rattle.st_tree.specs.declared.chart.SfcPart.TheVariants as part
use Rattle.st_tree.specs.declared.chart.Sfc.{Sfc}
use Rattle.st_expr.specs.Grammar.{opening, identifier, names, expression}
use Rattle.st_statements.specs.Grammar.{statements}
use Rattle.sfc_text.specs.Trees.{make_association, make_step, make_several, make_transition, make_action, make_sfc}

-- [ name ]
abbrev pub optional_name : Rule (Option Identifier)
optional_name = (identifier >>= λ i. give (Some i)) or give None

-- "(" [ name ] ")"
abbrev pub qualifier : Rule (Option Identifier)
qualifier = scoped (opening k.OpenParenthesis >>= λ _. optional_name >>= λ q.
    token k.CloseParenthesis >>= λ _. give q)

-- name "(" [ name ] ")" ";"
abbrev pub association : Rule Association
association = node make_association (identifier >>= λ action. qualifier >>= λ q.
    token k.Semicolon >>= λ _. give (action, q))

abbrev pub more_associations : List Association → Rule (List Association)
more_associations found = association >>= λ a. give (found ++ a ∷ [])

abbrev pub associations : Rule (List Association)
associations = many more_associations []

-- STEP name ":" { name "(" [ name ] ")" ";" } END_STEP, with that word or INITIAL_STEP
abbrev pub step_as : TokenKind → Rule Step
step_as kind = node make_step (token kind >>= λ _. identifier >>= λ name. token k.Colon >>= λ _.
    associations >>= λ found. token k.EndStep >>= λ _. give (name, found))

-- "(" names ")"
abbrev pub several : Rule StepNames
several = node make_several (scoped (opening k.OpenParenthesis >>= λ _. names >>= λ found.
    token k.CloseParenthesis >>= λ _. give found))

-- from = name | "(" names ")"
abbrev pub step_names : Rule StepNames
step_names = several or (identifier >>= λ i. give (steps.One i))

-- FROM from TO from
abbrev pub link : Rule (StepNames × StepNames)
link = token k.From >>= λ _. step_names >>= λ from. token k.To >>= λ _. step_names >>= λ to.
    give (from, to)

-- ":=" expr ";"
abbrev pub condition : Rule Expr
condition = token k.Becomes >>= λ _. expression >>= λ x. token k.Semicolon >>= λ _. give x

-- TRANSITION [ name ] FROM from TO from ":=" expr ";" END_TRANSITION
abbrev pub transition : Rule Transition
transition = node make_transition (token k.Transition >>= λ _. optional_name >>= λ name.
    link >>= λ l. condition >>= λ x. token k.EndTransition >>= λ _. give (name, l, x))

-- ACTION name ":" statements END_ACTION
abbrev pub action : Rule Action
action = node make_action (token k.Action >>= λ _. identifier >>= λ name. token k.Colon >>= λ _.
    statements >>= λ body. token k.EndAction >>= λ _. give (name, body))

-- step | transition | action
abbrev pub chart_part : Rule SfcPart
chart_part = (step_as k.Step >>= λ s. give (part.Step s))
    or ((transition >>= λ t. give (part.Transition t)) or (action >>= λ a. give (part.Action a)))

abbrev pub more_parts : List SfcPart → Rule (List SfcPart)
more_parts found = chart_part >>= λ p. give (found ++ p ∷ [])

abbrev pub chart_parts : Rule (List SfcPart)
chart_parts = many more_parts []

-- sfc = initial { step | transition | action }
abbrev pub sfc : Rule Sfc
sfc = node make_sfc (step_as k.InitialStep >>= λ initial. chart_parts >>= λ found.
    give (initial, found))
