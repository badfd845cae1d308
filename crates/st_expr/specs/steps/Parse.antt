-- Expressions and paths as functions on lexemes: a step on the way from the code to the grammar.
use Rattle.std.specs.Prelude.{ℕ, zero, suc, Bool, true, false, ◌||◌, List, [], ◌∷◌, ◌++◌, Option, Some, None, Err}
use Rattle.token_grammar.specs.declared.fault.ParseError.TheVariants.{TooDeep}
use Rattle.token_grammar.specs.declared.token.TokenKind.{TokenKind}
use Rattle.token_grammar.specs.declared.token.TokenKind.TheVariants as k
use Rattle.token_grammar.specs.Texts.{Lexeme}
use Rattle.token_grammar.specs.steps.Parsers.{Parser, ◌>>=◌, pure, take, enter, operator, scoped, deeper, node, choose, repeated, sees_in, sees_two}
use Rattle.st_tree.specs.declared.expression.Identifier.{Identifier}
use Rattle.st_tree.specs.declared.expression.Address.{Address}
use Rattle.st_tree.specs.declared.expression.Root.{Root}
use Rattle.st_tree.specs.declared.expression.Root.TheVariants as root
use Rattle.st_tree.specs.declared.expression.BinaryOperator.{BinaryOperator}
use Rattle.st_tree.specs.declared.expression.BinaryOperator.TheVariants as op
use Rattle.st_tree.specs.declared.expression.Expr.{Expr}
use Rattle.st_tree.specs.declared.expression.Expr.TheVariants as expr
use Rattle.st_tree.specs.declared.expression.Argument.{Argument}
use Rattle.st_tree.specs.declared.expression.Path.{Path}
use Rattle.st_tree.specs.declared.expression.Part.{Part}
use Rattle.st_tree.specs.declared.expression.Part.TheVariants as part
use Rattle.st_expr.specs.declared.rank.Rank.{Rank}
use Rattle.st_expr.specs.declared.rank.Rank.TheVariants as rank
use Rattle.st_expr.specs.Trees.{Text, rank_of, Ending, ended, make_identifier, make_address, make_path, make_index, make_number, make_typed, make_time, make_truth, make_argument, make_inverted, make_parenthesized, make_binary, value_of, call_of, path_of, literal_of, negated_of, from_start}

unfoldable pub word : TokenKind → Parser Text
word kind = take kind >>= λ l. pure l.bytes

unfoldable pub identifier : Parser Identifier
identifier = node make_identifier (word k.Name)

unfoldable pub address : Parser Address
address = node make_address (word k.Address)

unfoldable pub more_names : List Identifier → Parser (List Identifier)
more_names found = take k.Comma >>= λ _. identifier >>= λ i. pure (found ++ i ∷ [])

unfoldable pub names : Parser (List Identifier)
names = identifier >>= λ i. repeated (sees_in k.Comma) more_names (i ∷ [])

unfoldable pub operator_as : TokenKind → BinaryOperator → Parser BinaryOperator
operator_as kind o = operator kind >>= λ _. pure o

unfoldable pub operators : Rank → Parser BinaryOperator
operators rank.Product = choose (sees_in k.Star) (operator_as k.Star op.Multiply)
    (choose (sees_in k.Slash) (operator_as k.Slash op.Divide) (operator_as k.Mod op.Modulo))
operators rank.Sum =
    choose (sees_in k.Plus) (operator_as k.Plus op.Add) (operator_as k.Minus op.Subtract)
operators rank.Order = choose (sees_in k.Less) (operator_as k.Less op.Less)
    (choose (sees_in k.Greater) (operator_as k.Greater op.Greater)
    (choose (sees_in k.LessEqual) (operator_as k.LessEqual op.LessEqual)
    (operator_as k.GreaterEqual op.GreaterEqual)))
operators rank.Equality =
    choose (sees_in k.Equal) (operator_as k.Equal op.Equal) (operator_as k.NotEqual op.NotEqual)
operators rank.And =
    choose (sees_in k.And) (operator_as k.And op.And) (operator_as k.Ampersand op.And)
operators rank.Xor = operator_as k.Xor op.Xor
operators rank.Or = operator_as k.Or op.Or

-- whether an operator of the rank comes next
unfoldable pub sees_operator : Rank → List Lexeme → Bool
sees_operator rank.Product ts = sees_in k.Star ts || (sees_in k.Slash ts || sees_in k.Mod ts)
sees_operator rank.Sum ts = sees_in k.Plus ts || sees_in k.Minus ts
sees_operator rank.Order ts = sees_in k.Less ts ||
    (sees_in k.Greater ts || (sees_in k.LessEqual ts || sees_in k.GreaterEqual ts))
sees_operator rank.Equality ts = sees_in k.Equal ts || sees_in k.NotEqual ts
sees_operator rank.And ts = sees_in k.And ts || sees_in k.Ampersand ts
sees_operator rank.Xor ts = sees_in k.Xor ts
sees_operator rank.Or ts = sees_in k.Or ts

unfoldable pub step : Parser BinaryOperator → Parser Expr → ℕ → Expr → Parser Expr
step operator operand start left =
    node (λ _ end q. make_binary start end left q) (operator >>= λ o. operand >>= λ x. pure (o, x))

-- whether a part of a path comes next
unfoldable pub sees_part : List Lexeme → Bool
sees_part ts = sees_in k.Dot ts || sees_in k.OpenBracket ts

unfoldable pub field : Parser Part
field = take k.Dot >>= λ _. identifier >>= λ i. pure (part.Field i)

unfoldable pub any_root : Parser Root
any_root = choose (sees_in k.Name) (identifier >>= λ i. pure (root.Name i)) (address
    >>= λ a. pure (root.Address a))

unfoldable pub number : Parser Expr
number = node (make_number false) (word k.Number)

unfoldable pub typed : Parser Expr
typed = node make_typed (word k.TypedNumber)

unfoldable pub time : Parser Expr
time = node make_time (word k.Duration)

unfoldable pub truth : TokenKind → Bool → Parser Expr
truth kind b = node make_truth (take kind >>= λ _. pure b)

-- what stands within brackets is an expression
module _ (inner : Parser Expr) where
  unfoldable pub more_exprs : List Expr → Parser (List Expr)
  more_exprs xs = take k.Comma >>= λ _. inner >>= λ x. pure (xs ++ x ∷ [])

  unfoldable pub exprs : Parser (List Expr)
  exprs = inner >>= λ x. repeated (sees_in k.Comma) more_exprs (x ∷ [])

  unfoldable pub index : Parser Part
  index = node make_index (scoped (enter k.OpenBracket >>= λ _. exprs >>= λ xs. take k.CloseBracket
      >>= λ _. pure xs))

  unfoldable pub one_part : Parser Part
  one_part = choose (sees_in k.Dot) field index

  unfoldable pub more_parts : List Part → Parser (List Part)
  more_parts ps = one_part >>= λ p. pure (ps ++ p ∷ [])

  unfoldable pub parts : Parser (List Part)
  parts = repeated sees_part more_parts []

  unfoldable pub path : Parser Path
  path = node make_path (any_root >>= λ r. parts >>= λ ps. pure (r, ps))

  unfoldable pub located : Parser Path
  located = node make_path (address >>= λ a. parts >>= λ ps. pure (root.Address a, ps))

  unfoldable pub named_argument : Parser (Option Identifier × Expr)
  named_argument = identifier >>= λ i. take k.Becomes >>= λ _. inner >>= λ x. pure (Some i, x)

  unfoldable pub argument : Parser Argument
  argument = node make_argument (choose (sees_two k.Name k.Becomes) named_argument (inner
      >>= λ x. pure (None, x)))

  unfoldable pub more_arguments : List Argument → Parser (List Argument)
  more_arguments found = take k.Comma >>= λ _. argument >>= λ a. pure (found ++ a ∷ [])

  unfoldable pub arguments : Parser (List Argument)
  arguments = choose (sees_in k.CloseParenthesis) (pure []) (argument
      >>= λ a. repeated (sees_in k.Comma) more_arguments (a ∷ []))

  unfoldable pub value_ending : Identifier → Parser Ending
  value_ending name = take k.Hash >>= λ _. identifier >>= λ v. pure (value_of name v)

  unfoldable pub called : Parser (List Argument)
  called = scoped (enter k.OpenParenthesis >>= λ _. arguments >>= λ found. take k.CloseParenthesis
      >>= λ _. pure found)

  unfoldable pub call_ending : Identifier → Parser Ending
  call_ending name = called >>= λ found. pure (call_of name found)

  unfoldable pub path_ending : Identifier → Parser Ending
  path_ending name = parts >>= λ ps. pure (path_of (root.Name name) ps)

  unfoldable pub named : Parser Expr
  named = node ended (identifier >>= λ name. choose (sees_in k.Hash) (value_ending name)
      (choose (sees_in k.OpenParenthesis) (call_ending name) (path_ending name)))

  unfoldable pub group : Parser Expr
  group = node make_parenthesized (scoped (enter k.OpenParenthesis >>= λ _. inner
      >>= λ x. take k.CloseParenthesis >>= λ _. pure x))

  unfoldable pub placed : Parser Expr
  placed = choose (sees_in k.Address) (located >>= λ p. pure (expr.Path p)) named

  unfoldable pub bracketed : Parser Expr
  bracketed = choose (sees_in k.OpenParenthesis) group placed

  unfoldable pub true_or_other : Parser Expr
  true_or_other = choose (sees_in k.True) (truth k.True true)
      (choose (sees_in k.False) (truth k.False false) bracketed)

  unfoldable pub other : Parser Expr
  other = choose (sees_in k.TypedNumber) typed (choose (sees_in k.Duration) time true_or_other)

  unfoldable pub primary : Parser Expr
  primary = choose (sees_in k.Number) number other

  unfoldable pub literal_ending : Parser Ending
  literal_ending = word k.Number >>= λ text. pure (literal_of text)

  unfoldable pub negated_ending : Parser Ending
  negated_ending = deeper other >>= λ x. pure (negated_of x)

  unfoldable pub signed : Parser Expr
  signed = node ended (take k.Minus >>= λ _. choose (sees_in k.Number) literal_ending
      negated_ending)

  unfoldable pub inverted : Parser Expr
  inverted = node make_inverted (operator k.Not >>= λ _. primary)

  unfoldable pub unary : Parser Expr
  unary = choose (sees_in k.Minus) signed (choose (sees_in k.Not) inverted primary)

  unfoldable pub level : ℕ → Parser Expr
  level zero = unary
  level (suc n) = node from_start (level n) >>= λ q. repeated (sees_operator (rank_of n))
      (step (operators (rank_of n)) (level n) q.1) q.0

  -- what a level adds to the one below: operators of its rank, behind a first operand
  unfoldable pub chain : ℕ → ℕ → Expr → Parser Expr
  chain n start left =
      repeated (sees_operator (rank_of n)) (step (operators (rank_of n)) (level n) start) left

  unfoldable pub whole : Parser Expr
  whole = scoped (level 7)

-- Expressions nest less deep than the number.
unfoldable pub nested : ℕ → Parser Expr
nested zero = λ i. Err (record { code = TooDeep; rest = i.rest })
nested (suc nest) = whole (nested nest)

-- ---- expressions and paths, to any depth

abbrev pub any_expression : Parser Expr
any_expression = nested 257

abbrev pub any_path : Parser Path
any_path = path any_expression

abbrev pub any_located : Parser Path
any_located = located any_expression

abbrev pub any_parts : Parser (List Part)
any_parts = parts any_expression
