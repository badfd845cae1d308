-- The grammar of expressions and paths. Source: the textual grammar of IEC 61131-3:2013, narrowed
-- to this profile. A rule that begins with a name is written with the name first and what may
-- follow it behind. The code descends by a look at the next token, or at the next two.
use Rattle.std.specs.Prelude.{ℕ, zero, suc, Bool, true, false, List, [], ◌∷◌, ◌++◌, Option, Some, None}
use Rattle.token_grammar.specs.declared.token.TokenKind.{TokenKind}
use Rattle.token_grammar.specs.declared.token.TokenKind.TheVariants as k
use Rattle.token_grammar.specs.Texts.{Lexeme}
use Rattle.token_grammar.specs.Kinds.{is_kind}
use Rattle.token_grammar.specs.Grammar.{Rule, ◌>>=◌, ◌or◌, give, token, token_as, scoped, deeper, node, many}
use Rattle.st_tree.specs.declared.expression.Identifier.{Identifier}
use Rattle.st_tree.specs.declared.expression.Address.{Address}
use Rattle.st_tree.specs.declared.expression.Root.{Root}
use Rattle.st_tree.specs.declared.expression.Root.TheVariants as root
use Rattle.st_tree.specs.declared.expression.BinaryOperator.{BinaryOperator}
use Rattle.st_tree.specs.declared.expression.BinaryOperator.TheVariants as op
use Rattle.st_tree.specs.declared.expression.Expr.{Expr}
use Rattle.st_tree.specs.declared.expression.Expr.TheVariants as expr
use Rattle.st_tree.specs.declared.expression.Argument.{Argument}
use Rattle.st_tree.specs.declared.expression.Path.{Path}
use Rattle.st_tree.specs.declared.expression.Part.{Part}
use Rattle.st_tree.specs.declared.expression.Part.TheVariants as part
use Rattle.st_expr.specs.declared.rank.Rank.{Rank}
use Rattle.st_expr.specs.declared.rank.Rank.TheVariants as rank
use Rattle.st_expr.specs.Trees.{Text, rank_of, Ending, ended, make_identifier, make_address, make_path, make_index, make_number, make_typed, make_time, make_truth, make_argument, make_inverted, make_parenthesized, make_binary, value_of, call_of, path_of, literal_of, negated_of, from_start}

-- the bytes of a token
abbrev pub word : TokenKind → Rule Text
word kind = token kind >>= λ l. give l.bytes

-- "(" or "[", which stands one deeper itself
abbrev pub opening : TokenKind → Rule Lexeme
opening kind = token_as (is_kind kind) 1 1

-- an operator, behind which it is one deeper
abbrev pub operating : TokenKind → Rule Lexeme
operating kind = token_as (is_kind kind) 0 1

abbrev pub identifier : Rule Identifier
identifier = node make_identifier (word k.Name)

abbrev pub address : Rule Address
address = node make_address (word k.Address)

-- names = name { "," name }
abbrev pub more_names : List Identifier → Rule (List Identifier)
more_names found = token k.Comma >>= λ _. identifier >>= λ i. give (found ++ i ∷ [])

abbrev pub names : Rule (List Identifier)
names = identifier >>= λ i. many more_names (i ∷ [])

-- ---- operators, by rank

abbrev pub operator_as : TokenKind → BinaryOperator → Rule BinaryOperator
operator_as kind o = operating kind >>= λ _. give o

abbrev pub operators : Rank → Rule BinaryOperator
operators rank.Product = operator_as k.Star op.Multiply
    or (operator_as k.Slash op.Divide or operator_as k.Mod op.Modulo)
operators rank.Sum = operator_as k.Plus op.Add or operator_as k.Minus op.Subtract
operators rank.Order = operator_as k.Less op.Less or (operator_as k.Greater op.Greater
    or (operator_as k.LessEqual op.LessEqual or operator_as k.GreaterEqual op.GreaterEqual))
operators rank.Equality = operator_as k.Equal op.Equal or operator_as k.NotEqual op.NotEqual
operators rank.And = operator_as k.And op.And or operator_as k.Ampersand op.And
operators rank.Xor = operator_as k.Xor op.Xor
operators rank.Or = operator_as k.Or op.Or

-- one operator of a rank with what stands behind it
abbrev pub step : Rule BinaryOperator → Rule Expr → ℕ → Expr → Rule Expr
step operator operand start left =
    node (λ _ end q. make_binary start end left q) (operator >>= λ o. operand >>= λ x. give (o, x))

-- "." name
abbrev pub field : Rule Part
field = token k.Dot >>= λ _. identifier >>= λ i. give (part.Field i)

abbrev pub named_root : Rule Root
named_root = identifier >>= λ i. give (root.Name i)

abbrev pub located_root : Rule Root
located_root = address >>= λ a. give (root.Address a)

abbrev pub number : Rule Expr
number = node (make_number false) (word k.Number)

abbrev pub typed : Rule Expr
typed = node make_typed (word k.TypedNumber)

abbrev pub time : Rule Expr
time = node make_time (word k.Duration)

abbrev pub truth : TokenKind → Bool → Rule Expr
truth kind b = node make_truth (token kind >>= λ _. give b)

-- ---- what stands within brackets is an expression

module _ (inner : Rule Expr) where
  -- expr { "," expr }
  abbrev pub more_exprs : List Expr → Rule (List Expr)
  more_exprs xs = token k.Comma >>= λ _. inner >>= λ x. give (xs ++ x ∷ [])

  abbrev pub exprs : Rule (List Expr)
  exprs = inner >>= λ x. many more_exprs (x ∷ [])

  -- "[" expr { "," expr } "]"
  abbrev pub index : Rule Part
  index = node make_index (scoped (opening k.OpenBracket >>= λ _. exprs
      >>= λ xs. token k.CloseBracket >>= λ _. give xs))

  abbrev pub more_parts : List Part → Rule (List Part)
  more_parts ps = (field or index) >>= λ p. give (ps ++ p ∷ [])

  abbrev pub parts : Rule (List Part)
  parts = many more_parts []

  -- path = ( name | address ) { part }
  abbrev pub path : Rule Path
  path = node make_path ((named_root or located_root) >>= λ r. parts >>= λ ps. give (r, ps))

  -- a path that begins with an address
  abbrev pub located : Rule Path
  located = node make_path (address >>= λ a. parts >>= λ ps. give (root.Address a, ps))

  -- argument = [ name ":=" ] expr
  abbrev pub named_argument : Rule (Option Identifier × Expr)
  named_argument = identifier >>= λ i. token k.Becomes >>= λ _. inner >>= λ x. give (Some i, x)

  abbrev pub plain_argument : Rule (Option Identifier × Expr)
  plain_argument = inner >>= λ x. give (None, x)

  abbrev pub argument : Rule Argument
  argument = node make_argument (named_argument or plain_argument)

  abbrev pub more_arguments : List Argument → Rule (List Argument)
  more_arguments found = token k.Comma >>= λ _. argument >>= λ a. give (found ++ a ∷ [])

  -- [ argument { "," argument } ]
  abbrev pub arguments : Rule (List Argument)
  arguments = give [] or (argument >>= λ a. many more_arguments (a ∷ []))

  -- name "#" name | name "(" arguments ")" | name { part }
  abbrev pub value_ending : Identifier → Rule Ending
  value_ending name = token k.Hash >>= λ _. identifier >>= λ v. give (value_of name v)

  abbrev pub called : Rule (List Argument)
  called = scoped (opening k.OpenParenthesis >>= λ _. arguments
      >>= λ found. token k.CloseParenthesis >>= λ _. give found)

  abbrev pub call_ending : Identifier → Rule Ending
  call_ending name = called >>= λ found. give (call_of name found)

  abbrev pub path_ending : Identifier → Rule Ending
  path_ending name = parts >>= λ ps. give (path_of (root.Name name) ps)

  abbrev pub named : Rule Expr
  named = node ended (identifier
      >>= λ name. value_ending name or (call_ending name or path_ending name))

  -- "(" expr ")"
  abbrev pub group : Rule Expr
  group = node make_parenthesized (scoped (opening k.OpenParenthesis >>= λ _. inner
      >>= λ x. token k.CloseParenthesis >>= λ _. give x))

  -- primary, but for a number:
  -- typed | time | TRUE | FALSE | path | name "#" name | "(" expr ")" | name "(" arguments ")"
  abbrev pub other : Rule Expr
  other = typed or (time or (truth k.True true or (truth k.False false
      or (group or ((located >>= λ p. give (expr.Path p)) or named)))))

  abbrev pub primary : Rule Expr
  primary = number or other

  -- unary = [ "-" | NOT ] primary
  -- A minus directly before a number makes one literal, and is an operator elsewhere.
  abbrev pub literal_ending : Rule Ending
  literal_ending = word k.Number >>= λ text. give (literal_of text)

  abbrev pub signed : Rule Expr
  signed = node ended (token k.Minus >>= λ _. literal_ending
      or (deeper other >>= λ x. give (negated_of x)))

  abbrev pub inverted : Rule Expr
  inverted = node make_inverted (operating k.Not >>= λ _. primary)

  abbrev pub unary : Rule Expr
  unary = signed or (inverted or primary)

  -- level 1 is product = unary { ( "*" | "/" | MOD ) unary }, and so on up to level 7,
  -- expr = xor { OR xor }
  unfoldable pub level : ℕ → Rule Expr
  level zero = unary
  level (suc n) =
      node from_start (level n) >>= λ q. many (step (operators (rank_of n)) (level n) q.1) q.0

  -- operators count up to the end of the expression
  abbrev pub whole : Rule Expr
  whole = scoped (level 7)

-- An expression in which expressions nest less deep than the number.
unfoldable pub nested : ℕ → Rule Expr
nested zero d w x e = ⊥
nested (suc n) d w x e = whole (nested n) d w x e

-- An expression, in which expressions nest to whatever depth.
abbrev pub expression : Rule Expr
expression d w x e = (n : ℕ) × nested n d w x e
