-- Sequential function charts as functions on lexemes: a step on the way from the code to the grammar.
use Rattle.std.specs.Prelude.{Bool, ◌||◌, List, [], ◌∷◌, ◌++◌, Option, Some, None}
use Rattle.token_grammar.specs.declared.token.TokenKind.{TokenKind}
use Rattle.token_grammar.specs.declared.token.TokenKind.TheVariants as k
use Rattle.token_grammar.specs.Texts.{Lexeme}
use Rattle.token_grammar.specs.steps.Parsers.{Parser, ◌>>=◌, pure, take, enter, scoped, node, choose, repeated, sees_in}
use Rattle.st_tree.specs.declared.expression.Identifier.{Identifier}
use Rattle.st_tree.specs.declared.expression.Expr.{Expr}
use Rattle.st_tree.specs.declared.chart.Association.{Association}
use Rattle.st_tree.specs.declared.chart.Step.{Step}
use Rattle.st_tree.specs.declared.chart.StepNames.{StepNames}
use Rattle.st_tree.specs.declared.chart.StepNames.TheVariants as steps
use Rattle.st_tree.specs.declared.chart.Transition.{Transition}
use Rattle.st_tree.specs.declared.chart.Action.{Action}
use Rattle.st_tree.specs.declared.chart.SfcPart.{SfcPart}
use Rattle.st_tree.specs.declared.chart.SfcPart.TheVariants as part
use Rattle.st_tree.specs.declared.chart.Sfc.{Sfc}
use Rattle.st_expr.specs.steps.Parse.{identifier, names, any_expression as expression}
use Rattle.st_statements.specs.steps.Parse.{statements}
use Rattle.sfc_text.specs.Trees.{make_association, make_step, make_several, make_transition, make_action, make_sfc}

unfoldable pub optional_name : Parser (Option Identifier)
optional_name = choose (sees_in k.Name) (identifier >>= λ i. pure (Some i)) (pure None)

unfoldable pub qualifier : Parser (Option Identifier)
qualifier = scoped (enter k.OpenParenthesis >>= λ _. optional_name >>= λ q.
    take k.CloseParenthesis >>= λ _. pure q)

unfoldable pub association : Parser Association
association = node make_association (identifier >>= λ action. qualifier >>= λ q.
    take k.Semicolon >>= λ _. pure (action, q))

unfoldable pub more_associations : List Association → Parser (List Association)
more_associations found = association >>= λ a. pure (found ++ a ∷ [])

unfoldable pub associations : Parser (List Association)
associations = repeated (sees_in k.Name) more_associations []

unfoldable pub step_as : TokenKind → Parser Step
step_as kind = node make_step (take kind >>= λ _. identifier >>= λ name. take k.Colon >>= λ _.
    associations >>= λ found. take k.EndStep >>= λ _. pure (name, found))

unfoldable pub several : Parser StepNames
several = node make_several (scoped (enter k.OpenParenthesis >>= λ _. names >>= λ found.
    take k.CloseParenthesis >>= λ _. pure found))

unfoldable pub step_names : Parser StepNames
step_names = choose (sees_in k.OpenParenthesis) several (identifier >>= λ i. pure (steps.One i))

unfoldable pub link : Parser (StepNames × StepNames)
link = take k.From >>= λ _. step_names >>= λ from. take k.To >>= λ _. step_names >>= λ to.
    pure (from, to)

unfoldable pub condition : Parser Expr
condition = take k.Becomes >>= λ _. expression >>= λ x. take k.Semicolon >>= λ _. pure x

unfoldable pub transition : Parser Transition
transition = node make_transition (take k.Transition >>= λ _. optional_name >>= λ name.
    link >>= λ l. condition >>= λ x. take k.EndTransition >>= λ _. pure (name, l, x))

unfoldable pub action : Parser Action
action = node make_action (take k.Action >>= λ _. identifier >>= λ name. take k.Colon >>= λ _.
    statements >>= λ body. take k.EndAction >>= λ _. pure (name, body))

unfoldable pub chart_part : Parser SfcPart
chart_part = choose (sees_in k.Step) (step_as k.Step >>= λ s. pure (part.Step s))
    (choose (sees_in k.Transition) (transition >>= λ t. pure (part.Transition t))
    (action >>= λ a. pure (part.Action a)))

unfoldable pub more_parts : List SfcPart → Parser (List SfcPart)
more_parts found = chart_part >>= λ p. pure (found ++ p ∷ [])

-- whether a further part of a chart comes next
unfoldable pub sees_part : List Lexeme → Bool
sees_part ts = sees_in k.Step ts || (sees_in k.Transition ts || sees_in k.Action ts)

unfoldable pub chart_parts : Parser (List SfcPart)
chart_parts = repeated sees_part more_parts []

unfoldable pub sfc : Parser Sfc
sfc = node make_sfc (step_as k.InitialStep >>= λ initial. chart_parts >>= λ found.
    pure (initial, found))
