-- The grammar of statements. Source: the textual grammar of IEC 61131-3:2013, narrowed to this
-- profile. The code descends by a look at the next token, and reads a leading name before it knows
-- whether a call, an assignment or a label follows (steps/Reading).
use Rattle.std.specs.Prelude.{ℕ, zero, suc, true, false, List, [], ◌∷◌, ◌++◌, Option, Some, None}
use Rattle.token_grammar.specs.declared.token.TokenKind.TheVariants as k
use Rattle.token_grammar.specs.Grammar.{Rule, ◌>>=◌, ◌or◌, give, token, scoped, node, many}
use Rattle.st_tree.specs.declared.expression.Identifier.{Identifier}
use Rattle.st_tree.specs.declared.expression.Expr.{Expr}
use Rattle.st_tree.specs.declared.statement.Stmt.{Stmt}
use Rattle.st_tree.specs.declared.statement.Branch.{Branch}
use Rattle.st_tree.specs.declared.statement.Case.{Case}
use Rattle.st_tree.specs.declared.statement.Counter.{Counter}
use Rattle.st_tree.specs.declared.statement.Label.{Label}
use Rattle.st_tree.specs.declared.statement.Point.{Point}
use Rattle.st_tree.specs.declared.statement.Point.TheVariants as point
use Rattle.st_tree.specs.declared.statement.StmtArgument.{StmtArgument}
use Rattle.st_expr.specs.Grammar.{word, opening, identifier, path, expression}
use Rattle.st_statements.specs.Trees.{ArgumentEnding, argument_ended, input_of, output_of, make_assign, make_call, make_return, make_exit, make_continue, branch_of, make_if, case_of, make_case, make_for, counter_of, make_while, make_repeat, make_point_number, make_point_typed, point_value, single, range_to}

-- ---- assignments and calls

-- path ":=" expr ";"
abbrev pub assign : Rule Stmt
assign = node make_assign (path expression >>= λ target. token k.Becomes
    >>= λ _. expression >>= λ x. token k.Semicolon >>= λ _. give (target, x))

-- arg = name ":=" expr | name "=>" path
abbrev pub input : Identifier → Rule ArgumentEnding
input name = token k.Becomes >>= λ _. expression >>= λ x. give (input_of name x)

abbrev pub output : Identifier → Rule ArgumentEnding
output name = token k.Arrow >>= λ _. path expression >>= λ target. give (output_of name target)

abbrev pub argument : Rule StmtArgument
argument = node argument_ended (identifier >>= λ name. input name or output name)

abbrev pub more_arguments : List StmtArgument → Rule (List StmtArgument)
more_arguments found = token k.Comma >>= λ _. argument >>= λ a. give (found ++ a ∷ [])

-- [ arg { "," arg } ]
abbrev pub arguments : Rule (List StmtArgument)
arguments = (argument >>= λ a. many more_arguments (a ∷ [])) or give []

abbrev pub called : Rule (List StmtArgument)
called = scoped (opening k.OpenParenthesis >>= λ _. arguments
    >>= λ found. token k.CloseParenthesis >>= λ _. give found)

-- name "(" [ arg { "," arg } ] ")" ";"
abbrev pub call : Rule Stmt
call = node make_call (identifier >>= λ name. called >>= λ found. token k.Semicolon
    >>= λ _. give (name, found))

-- RETURN ";" | EXIT ";" | CONTINUE ";"
abbrev pub return_stmt : Rule Stmt
return_stmt = node make_return (token k.Return >>= λ _. token k.Semicolon >>= λ _. give tt)

abbrev pub exit_stmt : Rule Stmt
exit_stmt = node make_exit (token k.Exit >>= λ _. token k.Semicolon >>= λ _. give tt)

abbrev pub continue_stmt : Rule Stmt
continue_stmt = node make_continue (token k.Continue >>= λ _. token k.Semicolon >>= λ _. give tt)

-- ---- labels

-- point = [ "-" ] number | typed | name [ "#" name ]
abbrev pub negative_point : Rule Point
negative_point = node (make_point_number true) (token k.Minus >>= λ _. word k.Number)

abbrev pub number_point : Rule Point
number_point = node (make_point_number false) (word k.Number)

abbrev pub typed_point : Rule Point
typed_point = node make_point_typed (word k.TypedNumber)

abbrev pub value_point : Rule Point
value_point = negative_point or (number_point or typed_point)

abbrev pub point_behind : Identifier → Rule Point
point_behind name = (token k.Hash >>= λ _. identifier >>= λ v. give (point_value name v))
    or give (point.Name name)

abbrev pub named_point : Rule Point
named_point = identifier >>= point_behind

abbrev pub any_point : Rule Point
any_point = named_point or value_point

-- point [ ".." point ]
abbrev pub label_behind : Point → Rule Label
label_behind first = (token k.DotDot >>= λ _. any_point >>= λ last. give (range_to first last))
    or give (single first)

abbrev pub more_labels : List Label → Rule (List Label)
more_labels ls =
    token k.Comma >>= λ _. any_point >>= λ first. label_behind first >>= λ l. give (ls ++ l ∷ [])

-- a first point, then [ ".." point ] { "," point [ ".." point ] } ":"
abbrev pub labels_behind : Point → Rule (List Label)
labels_behind first =
    label_behind first >>= λ l. many more_labels (l ∷ []) >>= λ ls. token k.Colon >>= λ _. give ls

abbrev pub labels : Rule (List Label)
labels = any_point >>= labels_behind

-- [ BY expr ]
abbrev pub step : Rule (Option Expr)
step = (token k.By >>= λ _. expression >>= λ x. give (Some x)) or give None

-- name ":=" expr
abbrev pub start : Rule (Identifier × Expr)
start = identifier >>= λ name. token k.Becomes >>= λ _. expression >>= λ first. give (name, first)

-- name ":=" expr TO expr [ BY expr ]
abbrev pub counter : Rule Counter
counter = start >>= λ s. token k.To >>= λ _. expression >>= λ last. step
    >>= λ by. give (counter_of s last by)

-- ---- structured statements, over lists of statements

module _ (body : Rule (List Stmt)) where
  -- [ ELSE statements ]
  abbrev pub otherwise : Rule (Option (List Stmt))
  otherwise = (token k.Else >>= λ _. body >>= λ b. give (Some b)) or give None

  -- expr THEN statements
  abbrev pub guarded : Rule Branch
  guarded = expression >>= λ c. token k.Then >>= λ _. body >>= λ b. give (branch_of c b)

  abbrev pub more_branches : List Branch → Rule (List Branch)
  more_branches found = token k.Elsif >>= λ _. guarded >>= λ b. give (found ++ b ∷ [])

  -- expr THEN statements { ELSIF expr THEN statements }
  abbrev pub some_branches : Rule (List Branch)
  some_branches = guarded >>= λ b. many more_branches (b ∷ [])

  -- IF expr THEN statements { ELSIF expr THEN statements } [ ELSE statements ] END_IF
  abbrev pub choice : Rule Stmt
  choice = scoped (node make_if (opening k.If >>= λ _. some_branches
      >>= λ found. otherwise >>= λ last. token k.EndIf >>= λ _. give (found, last)))

  -- FOR name ":=" expr TO expr [ BY expr ] DO statements END_FOR
  abbrev pub counted : Rule Stmt
  counted = scoped (node make_for (opening k.For >>= λ _. counter
      >>= λ c. token k.Do >>= λ _. body >>= λ b. token k.EndFor >>= λ _. give (c, b)))

  -- WHILE expr DO statements END_WHILE
  abbrev pub while_stmt : Rule Stmt
  while_stmt = scoped (node make_while (opening k.While >>= λ _. expression
      >>= λ c. token k.Do >>= λ _. body >>= λ b. token k.EndWhile >>= λ _. give (c, b)))

  -- REPEAT statements UNTIL expr END_REPEAT
  abbrev pub repeat_stmt : Rule Stmt
  repeat_stmt = scoped (node make_repeat (opening k.Repeat >>= λ _. body
      >>= λ b. token k.Until >>= λ _. expression >>= λ c. token k.EndRepeat >>= λ _. give (b, c)))

  -- labels = point [ ".." point ] { "," point [ ".." point ] } ":" statements
  abbrev pub one_case : Rule Case
  one_case = labels >>= λ ls. body >>= λ b. give (case_of ls b)

  abbrev pub more_cases : List Case → Rule (List Case)
  more_cases found = one_case >>= λ c. give (found ++ c ∷ [])

  -- labels { labels }
  abbrev pub cases : Rule (List Case)
  cases = one_case >>= λ c. many more_cases (c ∷ [])

  -- CASE expr OF branches [ ELSE statements ] END_CASE
  abbrev pub selection_of : Rule (List Case) → Rule Stmt
  selection_of branches = scoped (node make_case (opening k.Case >>= λ _. expression
      >>= λ x. token k.Of >>= λ _. branches
      >>= λ found. otherwise >>= λ last. token k.EndCase >>= λ _. give (x, found, last)))

  abbrev pub selection : Rule Stmt
  selection = selection_of cases

  -- a statement, but for an empty one
  abbrev pub statement : Rule Stmt
  statement = assign or (call or (return_stmt or (exit_stmt or (continue_stmt
      or (choice or (selection or (counted or (while_stmt or repeat_stmt))))))))

-- ---- lists of statements

module _ (inner : Rule Stmt) where
  -- An empty statement isn't kept.
  abbrev pub item : List Stmt → Rule (List Stmt)
  item found = (token k.Semicolon >>= λ _. give found) or (inner >>= λ s. give (found ++ s ∷ []))

  abbrev pub body : Rule (List Stmt)
  body = many item []

-- A statement in which statements nest less deep than the number.
unfoldable pub nested : ℕ → Rule Stmt
nested zero d w x e = ⊥
nested (suc n) d w x e = statement (body (nested n)) d w x e

-- Statements, to whatever depth.
abbrev pub statements : Rule (List Stmt)
statements d w x e = (n : ℕ) × body (nested n) d w x e
