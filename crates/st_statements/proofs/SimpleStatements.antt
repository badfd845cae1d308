-- The parsers of simple statements read their grammar.
use Rattle.std.proofs.Common.{ℕ, ◌+◌, ◌≤◌, List, [], ◌∷◌, ◌++◌, refl, arith}
use Rattle.token_grammar.specs.declared.token.TokenKind.{TokenKind}
use Rattle.token_grammar.specs.declared.token.TokenKind.TheVariants as k
use Rattle.token_grammar.specs.Grammar.{◌>>=◌, give, token, node, many}
use Rattle.token_grammar.proofs.Laws.{Exact}
use Rattle.token_grammar.proofs.Starts.{sees_any, IsLevel, bind_starts, bind_give}
use Rattle.token_grammar.proofs.Forms.{Form, Body, Inner, Anywhere, anywhere, level_carries, form_token, form_take, form_then, form_join, form_as, form_last, form_or, form_node, form_scoped, form_narrow, form_list, form_many_then, exact_optional, level_bind, level_give, level_or, level_node, level_scoped, level_many, level_then}
use Rattle.st_tree.specs.declared.expression.Identifier.{Identifier}
use Rattle.st_tree.specs.declared.expression.Part.{Part}
use Rattle.st_tree.specs.declared.statement.Stmt.{Stmt}
use Rattle.st_tree.specs.declared.statement.StmtArgument.{StmtArgument}
use Rattle.st_statements.specs.Trees.{argument_ended, input_of, output_of, make_assign, make_return, make_exit, make_continue}
use Rattle.st_statements.specs.steps.ReadTrees.{path_from, assign_from, call_from}
use Rattle.st_expr.specs.Grammar.{expression as expression_rule, located as located_rule, path as path_rule, more_parts as more_parts_rule}
use Rattle.st_expr.specs.steps.Parse as e
use Rattle.st_statements.specs.Grammar as g
use Rattle.st_statements.specs.steps.Reading as reading
use Rattle.st_statements.specs.steps.Parse as p
use Rattle.st_expr.proofs.Leaves.{form_identifier, level_identifier}
use Rattle.st_expr.proofs.Rules as rules
use Rattle.st_expr.proofs.Rules.{part_kinds, sees_parts, one_comma}
use Rattle.st_expr.proofs.Exactness.{firsts, goes_on, form_expression, exact_expression, level_expression, names_expression}

-- how deep a token of a statement may stand
abbrev pub Shallow : ℕ → Type 0
Shallow = Inner 257

pub stays : (d : ℕ) → Shallow d → d + 0 ≤ 256 → Shallow (d + 0)
stays d v le = (omega arith, le)

pub shallow_body : (d : ℕ) → Shallow d → Body 257 d
shallow_body d v = omega arith

-- ---- expressions and paths, to any depth

pub form_path : Form Shallow e.any_path (path_rule expression_rule) (k.Name ∷ k.Address ∷ [])
    part_kinds
form_path = form_narrow (rules.form_path 257 e.any_expression expression_rule goes_on firsts
    exact_expression form_expression.starts level_expression names_expression refl refl refl refl
    refl refl refl) shallow_body

pub form_located : Form Shallow e.any_located (located_rule expression_rule) (k.Address ∷ [])
    part_kinds
form_located = form_narrow (rules.form_located 257 e.any_expression expression_rule goes_on firsts
    exact_expression form_expression.starts level_expression names_expression refl refl refl refl
    refl refl refl) shallow_body

form_more_parts : (ps : List Part)
    → Form Shallow (e.more_parts e.any_expression ps) (more_parts_rule expression_rule ps) part_kinds []
form_more_parts ps = form_narrow (rules.form_more_parts 257 e.any_expression expression_rule goes_on
    firsts exact_expression form_expression.starts level_expression names_expression refl refl refl
    refl refl refl refl ps) shallow_body

level_more_parts : (ps : List Part) → IsLevel (more_parts_rule expression_rule ps)
level_more_parts = rules.level_more_parts 257 e.any_expression expression_rule goes_on firsts
    exact_expression form_expression.starts level_expression names_expression refl refl refl refl
    refl refl refl

level_located : IsLevel (located_rule expression_rule)
level_located = rules.level_located 257 e.any_expression expression_rule goes_on firsts exact_expression
    form_expression.starts level_expression names_expression refl refl refl refl refl refl refl

level_path : IsLevel (path_rule expression_rule)
level_path = rules.level_path 257 e.any_expression expression_rule goes_on firsts exact_expression
    form_expression.starts level_expression names_expression refl refl refl refl refl refl refl

-- ---- arguments

form_input : (name : Identifier)
    → Form Shallow (p.input name) (g.input name) (k.Becomes ∷ []) goes_on
unfolding p.input
form_input name = form_take k.Becomes 0 0 (λ _. bind_give (input_of name) exact_expression) stays

form_output : (name : Identifier)
    → Form Shallow (p.output name) (g.output name) (k.Arrow ∷ []) part_kinds
unfolding p.output
form_output name = form_take k.Arrow 0 0 (λ _. bind_give (output_of name) form_path.exact) stays

abbrev argument_ends : List TokenKind
argument_ends = goes_on ++ part_kinds

form_argument : Form Shallow p.argument g.argument (k.Name ∷ []) argument_ends
unfolding p.argument
form_argument = form_node argument_ended
    (form_then form_identifier (λ name. (form_or k.Becomes (form_input name) (form_output name)
    refl).exact) (level_carries Shallow level_identifier))

level_argument : IsLevel g.argument
level_argument = level_node argument_ended
    (level_bind level_identifier
    (λ name. level_or
    (level_then k.Becomes (λ _. level_bind level_expression (λ x. level_give (input_of name x))))
    (level_then k.Arrow
    (λ _. level_bind level_path (λ target. level_give (output_of name target))))))

form_more_arguments : (found : List StmtArgument)
    → Form Shallow (p.more_arguments found) (g.more_arguments found) (k.Comma ∷ []) argument_ends
unfolding p.more_arguments
form_more_arguments found =
    form_take k.Comma 0 0 (λ _. bind_give (λ a. found ++ a ∷ []) form_argument.exact) stays

level_more_arguments : (found : List StmtArgument) → IsLevel (g.more_arguments found)
level_more_arguments found =
    level_then k.Comma (λ _. level_bind level_argument (λ a. level_give (found ++ a ∷ [])))

form_some_arguments : Form Shallow p.some_arguments (g.argument >>= λ a. many g.more_arguments
    (a ∷ [])) (k.Name ∷ []) (k.Comma ∷ argument_ends)
unfolding p.some_arguments
form_some_arguments = form_list {step = λ _. p.more_arguments} {rule = λ _. g.more_arguments}
    one_comma (λ _. form_more_arguments) refl (λ _ found. level_carries Shallow
    (level_more_arguments found)) (λ a. a ∷ []) form_argument (level_carries Shallow level_argument)

exact_arguments : Exact Shallow p.arguments g.arguments
    (sees_any (k.Name ∷ k.Comma ∷ argument_ends))
unfolding p.arguments
exact_arguments = exact_optional k.Name [] form_some_arguments

form_called : {V : ℕ → Type 0} → Form V p.called g.called (k.OpenParenthesis ∷ []) []
unfolding p.called
form_called = form_scoped (form_take k.OpenParenthesis 1 1 (λ _. bind_starts {W = Anywhere}
    (k.Name ∷ k.Comma ∷ argument_ends) exact_arguments
    (λ found. (form_last k.CloseParenthesis found).exact) (anywhere Shallow g.arguments)
    (λ found. (form_last {V = Anywhere} k.CloseParenthesis found).starts) refl)
    (λ d v le. (omega arith, le)))

-- ---- statements that begin with a name

form_call_behind : {V : ℕ → Type 0} (name : Identifier)
    → Form V (p.call_behind name) (reading.call_behind name) (k.OpenParenthesis ∷ []) []
unfolding p.call_behind
form_call_behind {V} name = form_then {W = Anywhere} form_called
    (λ found. (form_as (λ l. call_from name found l.end) (form_token k.Semicolon 0 0)).exact)
    (anywhere V g.called)

form_assign_behind : (name : Identifier)
    → Form Shallow (p.assign_behind name) (reading.assign_behind name)
    (part_kinds ++ k.Becomes ∷ []) []
unfolding p.assign_behind e.parts
form_assign_behind name = form_many_then [] form_more_parts
    (λ ps. form_take {W = Shallow} k.Becomes 0 0
    (λ _. (form_join {W = Anywhere} form_expression
    (λ x. form_as (λ l. assign_from name (path_from name ps) x l.end)
    (form_token k.Semicolon 0 0)) refl (anywhere Shallow expression_rule)).exact) stays)
    sees_parts refl (λ ps. level_carries Shallow (level_more_parts ps)) refl

abbrev pub behind_kinds : List TokenKind
behind_kinds = k.OpenParenthesis ∷ part_kinds ++ k.Becomes ∷ []

pub form_behind_name : (name : Identifier)
    → Form Shallow (p.behind_name name) (reading.behind_name name) behind_kinds []
unfolding p.behind_name
form_behind_name name =
    form_or k.OpenParenthesis (form_call_behind name) (form_assign_behind name) refl

pub form_named : Form Shallow p.named reading.named (k.Name ∷ []) []
unfolding p.named
form_named = form_then form_identifier (λ name. (form_behind_name name).exact)
    (level_carries Shallow level_identifier)

pub level_behind_name : (name : Identifier) → IsLevel (reading.behind_name name)
level_behind_name name = level_or (level_bind (level_scoped _) (λ found. level_then k.Semicolon
    (λ l. level_give (call_from name found l.end))))
    (level_bind (level_many level_more_parts [])
    (λ ps. level_then k.Becomes (λ _. level_bind level_expression
    (λ x. level_then k.Semicolon
    (λ l. level_give (assign_from name (path_from name ps) x l.end))))))

pub level_named : IsLevel reading.named
level_named = level_bind level_identifier level_behind_name

-- ---- the others

pub form_assign : Form Shallow p.assign reading.assign (k.Address ∷ []) []
unfolding p.assign
form_assign = form_node make_assign (form_join {W = Shallow} form_located
    (λ target. form_take {W = Shallow} k.Becomes 0 0
    (λ _. (form_join {W = Anywhere} form_expression (λ x. form_last k.Semicolon (target, x)) refl
    (anywhere Shallow expression_rule)).exact) stays) refl (level_carries Shallow level_located))

pub level_assign : IsLevel reading.assign
level_assign = level_node make_assign
    (level_bind level_located (λ target. level_then k.Becomes (λ _. level_bind level_expression
    (λ x. level_then k.Semicolon (λ _. level_give (target, x))))))

pub form_return : {V : ℕ → Type 0} → Form V p.return_stmt g.return_stmt (k.Return ∷ []) []
unfolding p.return_stmt
form_return = form_node make_return (form_take {W = Anywhere} k.Return 0 0
    (λ _. (form_last k.Semicolon tt).exact) (λ d v le. tt))

pub form_exit : {V : ℕ → Type 0} → Form V p.exit_stmt g.exit_stmt (k.Exit ∷ []) []
unfolding p.exit_stmt
form_exit = form_node make_exit (form_take {W = Anywhere} k.Exit 0 0
    (λ _. (form_last k.Semicolon tt).exact) (λ d v le. tt))

pub form_continue : {V : ℕ → Type 0} → Form V p.continue_stmt g.continue_stmt (k.Continue ∷ []) []
unfolding p.continue_stmt
form_continue = form_node make_continue (form_take {W = Anywhere} k.Continue 0 0
    (λ _. (form_last k.Semicolon tt).exact) (λ d v le. tt))

pub level_word_stmt : (kind : TokenKind) (make : ℕ → ℕ → Unit {0} → Stmt)
    → IsLevel (node make (token kind >>= λ _. token k.Semicolon >>= λ _. give tt))
level_word_stmt kind make =
    level_node make (level_then kind (λ _. level_then k.Semicolon (λ _. level_give tt)))
