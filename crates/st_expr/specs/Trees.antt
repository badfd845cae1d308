-- The trees of expressions, made of the first byte, the byte after the last, and what is spelled
-- between.
use Rattle.std.specs.Prelude.{ℕ, Bool, true, if◌then◌else◌, nat_eq, List, Option}
use Rattle.st_expr.specs.declared.rank.Rank.{Rank}
use Rattle.st_expr.specs.declared.rank.Rank.TheVariants.{Product, Sum, Order, Equality, And, Xor, Or}
use Rattle.st_tree.specs.Places.{node_at}
use Rattle.st_tree.specs.declared.expression.Identifier.{Identifier}
use Rattle.st_tree.specs.declared.expression.Address.{Address}
use Rattle.st_tree.specs.declared.expression.Root.{Root}
use Rattle.st_tree.specs.declared.expression.UnaryOperator.TheVariants.{Negate, Not}
use Rattle.st_tree.specs.declared.expression.BinaryOperator.{BinaryOperator}
use Rattle.st_tree.specs.declared.expression.Expr.{Expr}
use Rattle.st_tree.specs.declared.expression.Expr.TheVariants as expr
use Rattle.st_tree.specs.declared.expression.Argument.{Argument}
use Rattle.st_tree.specs.declared.expression.Path.{Path}
use Rattle.st_tree.specs.declared.expression.Part.{Part}
use Rattle.st_tree.specs.declared.expression.Part.TheVariants as part

abbrev pub Text : Type 0
Text = List ℕ

-- the rank of operators at a level, from 0, the tightest first
unfoldable pub rank_of : ℕ → Rank
rank_of n = if nat_eq n 0 then Product else (if nat_eq n 1 then Sum
    else (if nat_eq n 2 then Order else (if nat_eq n 3 then Equality
    else (if nat_eq n 4 then And else (if nat_eq n 5 then Xor else Or)))))

-- what an expression that begins with a name, or a sign, turns out to be: a tree for each place
abbrev pub Ending : Type 0
Ending = ℕ → ℕ → Expr

abbrev pub ended : ℕ → ℕ → Ending → Expr
ended start end f = f start end

-- what was read, with where it began
abbrev pub from_start : ℕ → ℕ → Expr → Expr × ℕ
from_start start end x = (x, start)

abbrev pub make_identifier : ℕ → ℕ → Text → Identifier
make_identifier start end text = record { node = node_at start end; name = text }

abbrev pub make_address : ℕ → ℕ → Text → Address
make_address start end text = record { node = node_at start end; name = text }

abbrev pub make_path : ℕ → ℕ → Root × List Part → Path
make_path start end p = record { node = node_at start end; root = p.0; parts = p.1 }

abbrev pub make_index : ℕ → ℕ → List Expr → Part
make_index start end xs = part.Index (node_at start end) xs

abbrev pub make_number : Bool → ℕ → ℕ → Text → Expr
make_number negative start end text = expr.Number (node_at start end) negative text

abbrev pub make_typed : ℕ → ℕ → Text → Expr
make_typed start end text = expr.Typed (node_at start end) text

abbrev pub make_time : ℕ → ℕ → Text → Expr
make_time start end text = expr.Time (node_at start end) text

abbrev pub make_truth : ℕ → ℕ → Bool → Expr
make_truth start end truth = expr.Truth (node_at start end) truth

abbrev pub value_of : Identifier → Identifier → Ending
value_of name value start end = expr.Value (node_at start end) name value

abbrev pub make_argument : ℕ → ℕ → Option Identifier × Expr → Argument
make_argument start end p = record { node = node_at start end; name = p.0; value = p.1 }

abbrev pub call_of : Identifier → List Argument → Ending
call_of name found start end = expr.Call (node_at start end) name found

abbrev pub path_of : Root → List Part → Ending
path_of r ps start end = expr.Path (make_path start end (r, ps))

abbrev pub literal_of : Text → Ending
literal_of text start end = make_number true start end text

abbrev pub negated_of : Expr → Ending
negated_of x start end = expr.Unary (node_at start end) Negate x

abbrev pub make_parenthesized : ℕ → ℕ → Expr → Expr
make_parenthesized start end x = expr.Parenthesized (node_at start end) x

abbrev pub make_inverted : ℕ → ℕ → Expr → Expr
make_inverted start end x = expr.Unary (node_at start end) Not x

abbrev pub make_binary : ℕ → ℕ → Expr → BinaryOperator × Expr → Expr
make_binary start end left p = expr.Binary (node_at start end) p.0 left p.1
