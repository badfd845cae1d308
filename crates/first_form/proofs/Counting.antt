-- Nodes numbered one after the other.
use Rattle.std.proofs.Common.{◌≡◌, ℕ, suc, ◌+◌, List, [], ◌∷◌, ◌++◌, length, refl, sym, ap, subst, ◌∙◌, arith}
use Rattle.std.proofs.lemmas.List.{length-append}
use Rattle.st_tree.specs.declared.node.Node.{Node}
use Rattle.st_tree.specs.declared.code.Operator.{Operator}
use Rattle.first_form.specs.declared.tree.Expr.{Expr}
use Rattle.first_form.specs.declared.tree.Expr.TheVariants as expr
use Rattle.first_form.specs.Nodes.{CountsFrom, expr_nodes}
use Rattle.first_form.specs.steps.Numbering.{Counts}

pub counts_none : (n : ℕ) → Counts n [] n
counts_none n = (tt, omega arith)

from_append : (n m : ℕ) (xs ys : List Node) → CountsFrom n xs → m ≡ n + length xs → CountsFrom m ys
    → CountsFrom n (xs ++ ys)
from_append n m [] ys h e k = let same : m ≡ n = omega (arith, e) in
    subst (λ (i : ℕ). CountsFrom i ys) same k
from_append n m (x ∷ xs) ys h e k = (h.0, from_append (suc n) m xs ys h.1 (omega (arith, e)) k)

pub counts_append : (n m k : ℕ) (xs ys : List Node) → Counts n xs m → Counts m ys k
    → Counts n (xs ++ ys) k
counts_append n m k xs ys a b =
    (from_append n m xs ys a.0 a.1 b.0, omega (arith, a.1, b.1, length-append xs ys))

-- a node before those within it
pub counts_cons : (node : Node) (n m k : ℕ) (xs : List Node) → node.number.0 ≡ n → m ≡ n + 1
    → Counts m xs k → Counts n (node ∷ xs) k
counts_cons node n m k xs is next h =
    let one : m ≡ suc n = omega (arith, next) in
    ((is, subst (λ (i : ℕ). CountsFrom i xs) one h.0), omega (arith, h.1, next))

pub counts_same : (n k : ℕ) (xs ys : List Node) → xs ≡ ys → Counts n xs k → Counts n ys k
counts_same n k xs ys e h = subst (λ (zs : List Node). Counts n zs k) e h

pub binary_nodes : (node : Node) (o : Operator) (left right : Expr)
    → expr_nodes (expr.Binary node o left right) ≡ node ∷ (expr_nodes left ++ expr_nodes right)
unfolding Rattle.first_form.specs.declared.tree.Expr.TheBlock.hidden-the_row-Expr-0 denote.Hole.Carrier.hidden
binary_nodes node o left right = refl

-- a sum before its operands
pub counts_joined : (x left right : Expr) (node : Node) (o : Operator) (n a b : ℕ) → x
    ≡ expr.Binary node o left right → node.number.0 ≡ n
    → Counts (suc n) (expr_nodes left) a → Counts a (expr_nodes right) b → Counts n (expr_nodes x) b
counts_joined x left right node o n a b is first h k =
    counts_same n b (node ∷ (expr_nodes left ++ expr_nodes right)) (expr_nodes x)
    (sym (binary_nodes node o left right) ∙ ap expr_nodes (sym is))
    (counts_cons node n (suc n) b (expr_nodes left ++ expr_nodes right) first (omega arith)
    (counts_append (suc n) a b (expr_nodes left) (expr_nodes right) h k))
