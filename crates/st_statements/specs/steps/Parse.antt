-- Statements as functions on lexemes: a step on the way from the code to the grammar.
use Rattle.std.specs.Prelude.{ℕ, zero, suc, Bool, true, false, ◌||◌, List, [], ◌∷◌, ◌++◌, Option, Some, None, Err}
use Rattle.token_grammar.specs.declared.fault.ParseError.TheVariants.{TooDeep}
use Rattle.token_grammar.specs.declared.token.TokenKind.TheVariants as k
use Rattle.token_grammar.specs.Texts.{Lexeme}
use Rattle.token_grammar.specs.steps.Parsers.{Parser, ◌>>=◌, pure, take, enter, scoped, node, choose, repeated, sees_in}
use Rattle.st_tree.specs.declared.expression.Identifier.{Identifier}
use Rattle.st_tree.specs.declared.expression.Expr.{Expr}
use Rattle.st_tree.specs.declared.statement.Stmt.{Stmt}
use Rattle.st_tree.specs.declared.statement.Branch.{Branch}
use Rattle.st_tree.specs.declared.statement.Case.{Case}
use Rattle.st_tree.specs.declared.statement.Counter.{Counter}
use Rattle.st_tree.specs.declared.statement.Label.{Label}
use Rattle.st_tree.specs.declared.statement.Point.{Point}
use Rattle.st_tree.specs.declared.statement.Point.TheVariants as point
use Rattle.st_tree.specs.declared.statement.StmtArgument.{StmtArgument}
use Rattle.st_expr.specs.steps.Parse.{word, identifier, any_expression as expression, any_path as path, any_parts as parts, any_located as located}
use Rattle.st_statements.specs.Trees.{ArgumentEnding, argument_ended, input_of, output_of, make_assign, make_return, make_exit, make_continue, branch_of, make_if, make_case, make_for, counter_of, make_while, make_repeat, make_point_number, make_point_typed, point_value, single, range_to}
use Rattle.st_statements.specs.steps.ReadTrees.{path_from, assign_from, call_from, Branches, labelled, closed, with_stmt, with_labels}

-- ---- statements that begin with a name

unfoldable pub input : Identifier → Parser ArgumentEnding
input name = take k.Becomes >>= λ _. expression >>= λ x. pure (input_of name x)

unfoldable pub output : Identifier → Parser ArgumentEnding
output name = take k.Arrow >>= λ _. path >>= λ target. pure (output_of name target)

unfoldable pub argument : Parser StmtArgument
argument = node argument_ended (identifier >>= λ name. choose (sees_in k.Becomes) (input name)
    (output name))

unfoldable pub more_arguments : List StmtArgument → Parser (List StmtArgument)
more_arguments found = take k.Comma >>= λ _. argument >>= λ a. pure (found ++ a ∷ [])

unfoldable pub some_arguments : Parser (List StmtArgument)
some_arguments = argument >>= λ a. repeated (sees_in k.Comma) more_arguments (a ∷ [])

unfoldable pub arguments : Parser (List StmtArgument)
arguments = choose (sees_in k.Name) some_arguments (pure [])

unfoldable pub called : Parser (List StmtArgument)
called = scoped (enter k.OpenParenthesis >>= λ _. arguments >>= λ found. take k.CloseParenthesis
    >>= λ _. pure found)

unfoldable pub call_behind : Identifier → Parser Stmt
call_behind name = called >>= λ found. take k.Semicolon >>= λ l. pure (call_from name found l.end)

unfoldable pub assign_behind : Identifier → Parser Stmt
assign_behind name = parts >>= λ ps. take k.Becomes >>= λ _. expression >>= λ x. take k.Semicolon
    >>= λ l. pure (assign_from name (path_from name ps) x l.end)

unfoldable pub behind_name : Identifier → Parser Stmt
behind_name name = choose (sees_in k.OpenParenthesis) (call_behind name) (assign_behind name)

unfoldable pub named : Parser Stmt
named = identifier >>= behind_name

-- ---- statements without others within

unfoldable pub assign : Parser Stmt
assign = node make_assign (located >>= λ target. take k.Becomes >>= λ _. expression
    >>= λ x. take k.Semicolon >>= λ _. pure (target, x))

unfoldable pub return_stmt : Parser Stmt
return_stmt = node make_return (take k.Return >>= λ _. take k.Semicolon >>= λ _. pure tt)

unfoldable pub exit_stmt : Parser Stmt
exit_stmt = node make_exit (take k.Exit >>= λ _. take k.Semicolon >>= λ _. pure tt)

unfoldable pub continue_stmt : Parser Stmt
continue_stmt = node make_continue (take k.Continue >>= λ _. take k.Semicolon >>= λ _. pure tt)

-- ---- labels

unfoldable pub negative_point : Parser Point
negative_point = node (make_point_number true) (take k.Minus >>= λ _. word k.Number)

unfoldable pub number_point : Parser Point
number_point = node (make_point_number false) (word k.Number)

unfoldable pub typed_point : Parser Point
typed_point = node make_point_typed (word k.TypedNumber)

unfoldable pub value_point : Parser Point
value_point =
    choose (sees_in k.Minus) negative_point (choose (sees_in k.Number) number_point typed_point)

unfoldable pub point_behind : Identifier → Parser Point
point_behind name = choose (sees_in k.Hash) (take k.Hash >>= λ _. identifier
    >>= λ v. pure (point_value name v)) (pure (point.Name name))

unfoldable pub named_point : Parser Point
named_point = identifier >>= point_behind

unfoldable pub any_point : Parser Point
any_point = choose (sees_in k.Name) named_point value_point

unfoldable pub label_behind : Point → Parser Label
label_behind first = choose (sees_in k.DotDot) (take k.DotDot >>= λ _. any_point
    >>= λ last. pure (range_to first last)) (pure (single first))

unfoldable pub more_labels : List Label → Parser (List Label)
more_labels ls =
    take k.Comma >>= λ _. any_point >>= λ first. label_behind first >>= λ l. pure (ls ++ l ∷ [])

unfoldable pub label_list : Label → Parser (List Label)
label_list l = repeated (sees_in k.Comma) more_labels (l ∷ [])

unfoldable pub labels_behind : Point → Parser (List Label)
labels_behind first =
    label_behind first >>= λ l. label_list l >>= λ ls. take k.Colon >>= λ _. pure ls

unfoldable pub labels : Parser (List Label)
labels = any_point >>= labels_behind

-- whether a label that is no name comes next, and whether behind a name a label goes on
unfoldable pub sees_value : List Lexeme → Bool
sees_value ts = sees_in k.Minus ts || (sees_in k.Number ts || sees_in k.TypedNumber ts)

unfoldable pub sees_label : List Lexeme → Bool
sees_label ts =
    sees_in k.Hash ts || (sees_in k.DotDot ts || (sees_in k.Comma ts || sees_in k.Colon ts))

-- whether a statement comes next
unfoldable pub sees_structured : List Lexeme → Bool
sees_structured ts = sees_in k.If ts ||
    (sees_in k.Case ts || (sees_in k.For ts || (sees_in k.While ts || sees_in k.Repeat ts)))

unfoldable pub sees_unnamed : List Lexeme → Bool
sees_unnamed ts = sees_in k.Return ts ||
    (sees_in k.Exit ts || (sees_in k.Continue ts || (sees_structured ts || sees_in k.Address ts)))

unfoldable pub sees_statement : List Lexeme → Bool
sees_statement ts = sees_in k.Semicolon ts || (sees_in k.Name ts || sees_unnamed ts)

unfoldable pub sees_case_item : List Lexeme → Bool
sees_case_item ts =
    sees_in k.Semicolon ts || (sees_in k.Name ts || (sees_value ts || sees_unnamed ts))

unfoldable pub step : Parser (Option Expr)
step = choose (sees_in k.By) (take k.By >>= λ _. expression >>= λ x. pure (Some x)) (pure None)

unfoldable pub start : Parser (Identifier × Expr)
start = identifier >>= λ name. take k.Becomes >>= λ _. expression >>= λ first. pure (name, first)

unfoldable pub counter : Parser Counter
counter = start >>= λ s. take k.To >>= λ _. expression >>= λ last. step
    >>= λ by. pure (counter_of s last by)

-- ---- lists of statements, over those that don't begin with a name

module _ (inner : Parser Stmt) where
  unfoldable pub item : List Stmt → Parser (List Stmt)
  item found = choose (sees_in k.Semicolon) (take k.Semicolon >>= λ _. pure found)
      (choose (sees_in k.Name) (named >>= λ s. pure (found ++ s ∷ [])) (inner
      >>= λ s. pure (found ++ s ∷ [])))

  unfoldable pub body : Parser (List Stmt)
  body = repeated sees_statement item []

  unfoldable pub otherwise : Parser (Option (List Stmt))
  otherwise = choose (sees_in k.Else) (take k.Else >>= λ _. body >>= λ b. pure (Some b)) (pure None)

  unfoldable pub guarded : Parser Branch
  guarded = expression >>= λ c. take k.Then >>= λ _. body >>= λ b. pure (branch_of c b)

  unfoldable pub more_branches : List Branch → Parser (List Branch)
  more_branches found = take k.Elsif >>= λ _. guarded >>= λ b. pure (found ++ b ∷ [])

  unfoldable pub some_branches : Parser (List Branch)
  some_branches = guarded >>= λ b. repeated (sees_in k.Elsif) more_branches (b ∷ [])

  unfoldable pub choice : Parser Stmt
  choice = scoped (node make_if (enter k.If >>= λ _. some_branches >>= λ found. otherwise
      >>= λ last. take k.EndIf >>= λ _. pure (found, last)))

  unfoldable pub counted : Parser Stmt
  counted = scoped (node make_for (enter k.For >>= λ _. counter >>= λ c. take k.Do >>= λ _. body
      >>= λ b. take k.EndFor >>= λ _. pure (c, b)))

  unfoldable pub while_stmt : Parser Stmt
  while_stmt = scoped (node make_while (enter k.While >>= λ _. expression >>= λ c. take k.Do
      >>= λ _. body >>= λ b. take k.EndWhile >>= λ _. pure (c, b)))

  unfoldable pub repeat_stmt : Parser Stmt
  repeat_stmt = scoped (node make_repeat (enter k.Repeat >>= λ _. body >>= λ b. take k.Until
      >>= λ _. expression >>= λ c. take k.EndRepeat >>= λ _. pure (b, c)))

  unfoldable pub label_case : Branches → Identifier → Parser Branches
  label_case b name =
      point_behind name >>= λ first. labels_behind first >>= λ ls. pure (with_labels b ls)

  unfoldable pub case_behind : Branches → Identifier → Parser Branches
  case_behind b name =
      choose sees_label (label_case b name) (behind_name name >>= λ s. pure (with_stmt b s))

  unfoldable pub value_case : Branches → Parser Branches
  value_case b = value_point >>= λ first. labels_behind first >>= λ ls. pure (with_labels b ls)

  unfoldable pub case_item : Branches → Parser Branches
  case_item b = choose (sees_in k.Semicolon) (take k.Semicolon >>= λ _. pure b)
      (choose (sees_in k.Name) (identifier >>= case_behind b)
      (choose sees_value (value_case b) (inner >>= λ s. pure (with_stmt b s))))

  unfoldable pub case_items : List Label → Parser Branches
  case_items ls = repeated sees_case_item case_item (labelled ls)

  unfoldable pub branches : Parser (List Case)
  branches = labels >>= λ ls. case_items ls >>= λ b. pure (closed b)

  unfoldable pub selection : Parser Stmt
  selection = scoped (node make_case (enter k.Case >>= λ _. expression >>= λ x. take k.Of
      >>= λ _. branches >>= λ found. otherwise >>= λ last. take k.EndCase
      >>= λ _. pure (x, found, last)))

  unfoldable pub looped : Parser Stmt
  looped = choose (sees_in k.For) counted (choose (sees_in k.While) while_stmt
      (choose (sees_in k.Repeat) repeat_stmt assign))

  unfoldable pub structured : Parser Stmt
  structured = choose (sees_in k.If) choice (choose (sees_in k.Case) selection looped)

  unfoldable pub unnamed : Parser Stmt
  unnamed = choose (sees_in k.Return) return_stmt (choose (sees_in k.Exit) exit_stmt
      (choose (sees_in k.Continue) continue_stmt structured))

-- Statements that don't begin with a name, in which such statements nest less deep than the number.
unfoldable pub nested : ℕ → Parser Stmt
nested zero = λ i. Err (record { code = TooDeep; rest = i.rest })
nested (suc n) = unnamed (nested n)

-- statements, to any depth
abbrev pub statements : Parser (List Stmt)
statements = body (nested 257)
