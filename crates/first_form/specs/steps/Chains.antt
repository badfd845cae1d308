-- A sum as the list of its operators, the outermost first, each with its right operand, and its
-- leftmost operand.
use Rattle.std.specs.Prelude.{List, [], ◌∷◌, ◌≡◌, Option, Some, None, Result, Ok, Err}
use Rattle.st_tree.specs.declared.node.Node.{Node}
use Rattle.first_form.specs.declared.tree.Expr.{Expr}
use Rattle.first_form.specs.declared.tree.Expr.TheVariants as expr
use Rattle.st_tree.specs.declared.expression.Expr as written
use Rattle.first_form.specs.declared.sums.Link.{Link}
use Rattle.first_form.specs.declared.sums.Chain.{Chain}
use Rattle.first_form.specs.declared.refusal.Refusal.{Refusal}
use Rattle.first_form.specs.declared.refusal.Refusal.TheVariants.{OtherForm, NoMemory}
use Rattle.first_form.specs.Bare.{bare_node}
use Rattle.first_form.specs.FirstForm.{Known, operand, sum, ◌>>=◌}

-- the sum of an operator, of what stands left of it
abbrev pub joined : Known → Link → Option Expr → Option Expr
joined known link left =
    left >>= λ x. operand known link.right.now >>= λ y. Some
    (expr.Binary (bare_node link.node) link.operator x y)

abbrev pub chained : Known → List Link → Option Expr → Option Expr
chained known [] first = first
chained known (link ∷ links) first = joined known link (chained known links first)

abbrev pub link_node : Link → Node
link_node link = link.node

-- The sum of a tree is this one's for any names, or it is of another form.
abbrev pub IsChain : Known → written.Expr → Result Chain Refusal → Type 0
IsChain known source (Ok chain) =
    sum known source ≡ chained known chain.links (operand known chain.first.now)
IsChain known source (Err OtherForm) = sum known source ≡ None
IsChain known source (Err NoMemory) = Unit {0}
