-- A sum is read as the chain of its operators, and made from its leftmost operand on.
use Rattle.std.proofs.Common.{◌≡◌, ℕ, suc, ◌+◌, List, [], ◌∷◌, ◌++◌, length, Option, Some, None, Err, refl, sym, ap, subst, ◌∙◌, arith}
use Rattle.std.specs.Prelude.{map}
use Rattle.std.proofs.lemmas.List.{map-append, length-append, length-map}
use Rattle.st_tree.specs.declared.node.Node.{Node}
use Rattle.st_tree.specs.declared.code.Operator.{Operator}
use Rattle.st_tree.specs.declared.expression.BinaryOperator.{BinaryOperator}
use Rattle.st_tree.specs.declared.expression.Expr as written
use Rattle.st_tree.specs.declared.expression.Expr.TheVariants as source
use Rattle.first_form.specs.declared.tree.Expr.{Expr}
use Rattle.first_form.specs.declared.tree.Expr.TheVariants as expr
use Rattle.first_form.specs.declared.sums.Link.{Link}
use Rattle.first_form.specs.Bare.{bare_node, bare_expr}
use Rattle.first_form.specs.Nodes.{CountsFrom, expr_nodes}
use Rattle.first_form.specs.FirstForm.{Known, operator, operand, sum, ◌>>=◌}
use Rattle.first_form.specs.declared.refusal.Refusal.{Refusal}
use Rattle.first_form.specs.declared.refusal.Refusal.TheVariants.{OtherForm, NoMemory}
use Rattle.first_form.specs.steps.Answers.{Gives}
use Rattle.first_form.specs.steps.Chains.{joined, chained, link_node, IsChain}
use Rattle.first_form.specs.steps.Numbering.{Counts}
use Rattle.first_form.proofs.Counting.{counts_append, counts_same}
use Rattle.first_form.proofs.Parts.{counts_left, counts_right}

sum_binary : (known : Known) (node : Node) (o : BinaryOperator) (left right : written.Expr)
    → sum known (source.Binary node o left right)
    ≡ (operator o >>= λ op. sum known left >>= λ x. operand known right >>= λ y. Some
    (expr.Binary (bare_node node) op x y))
unfolding sum Rattle.st_tree.specs.declared.expression.Expr.TheBlock.hidden-the_row-Expr-1 Rattle.st_tree.specs.declared.expression.Expr.TheBlock.hidden-the_row-Expr-3 denote.Hole.Carrier.hidden
sum_binary known node o left right = refl

chained_push : (known : Known) (links : List Link) (link : Link) (first : Option Expr)
    → chained known (links ++ link ∷ []) first ≡ chained known links (joined known link first)
chained_push known [] link first = refl
chained_push known (l ∷ links) link first =
    ap (joined known l) (chained_push known links link first)

pub chained_none : (known : Known) (links : List Link) → chained known links None ≡ None
chained_none known [] = refl
chained_none known (l ∷ links) = ap (joined known l) (chained_none known links)

-- what is no sum is an operand
pub sum_other : (known : Known) (x : written.Expr)
    → ((node : Node) (o : BinaryOperator) (left right : written.Expr) → x
    ≡ source.Binary node o left right → ⊥) → sum known x ≡ operand known x
unfolding sum Rattle.st_tree.specs.declared.expression.Expr.TheBlock.hidden-the_row-Expr-1 Rattle.st_tree.specs.declared.expression.Expr.TheBlock.hidden-the_row-Expr-3 denote.Hole.Carrier.hidden
sum_other known (source.Binary' node o l (written.more_of-Expr left written.end_of-Expr) r
    (written.more_of-Expr right written.end_of-Expr)) h = absurd (h node o left right refl)
sum_other known other h = refl

pub no_sum : (known : Known) (whole first left right : written.Expr) (links : List Link)
    (node : Node) (o : BinaryOperator) → first ≡ source.Binary node o left right → None ≡ operator o
    → sum known whole ≡ chained known links (sum known first) → sum known whole ≡ None
no_sum known whole first left right links node o is none so_far =
    so_far ∙ ap (λ x. chained known links (sum known x)) is ∙ ap (chained known links)
    (sum_binary known node o left right ∙ ap (λ (op : Option Operator). op >>= λ op.
    sum known left >>= λ x. operand known right >>= λ y. Some (expr.Binary (bare_node node) op x y))
    (sym none)) ∙ chained_none known links

-- one more operator is read, and its left operand is left
pub one_link : (known : Known) (whole first left right : written.Expr) (links more : List Link)
    (link : Link) (node : Node) (o : BinaryOperator) (op : Operator) → first
    ≡ source.Binary node o left right
    → Some op ≡ operator o → bare_node link.node ≡ bare_node node → link.operator ≡ op
    → link.right.now ≡ right → more ≡ links ++ link ∷ []
    → sum known whole ≡ chained known links (sum known first) → sum known whole
    ≡ chained known more (sum known left)
one_link known whole first left right links more link node o op is some place same operand_is pushed
    so_far =
    so_far ∙ ap (λ x. chained known links (sum known x)) is
    ∙ ap (chained known links) (sum_binary known node o left right
    ∙ ap (λ (op : Option Operator). op >>= λ op. sum known left >>= λ x. operand known right
    >>= λ y. Some (expr.Binary (bare_node node) op x y)) (sym some)
    ∙ ap (λ (m : Node). sum known left >>= λ x. operand known right >>= λ y. Some
    (expr.Binary m op x y)) (sym place)
    ∙ ap (λ (k : Operator). sum known left >>= λ x. operand known right >>= λ y. Some
    (expr.Binary (bare_node link.node) k x y)) (sym same)
    ∙ ap (λ (r : written.Expr). sum known left >>= λ x. operand known r >>= λ y. Some
    (expr.Binary (bare_node link.node) link.operator x y)) (sym operand_is))
    ∙ sym (chained_push known links link (sum known left))
    ∙ ap (λ (ls : List Link). chained known ls (sum known left)) (sym pushed)

pub bare_binary : (node : Node) (o : Operator) (left right : Expr)
    → bare_expr (expr.Binary node o left right) ≡ expr.Binary (bare_node node) o (bare_expr left)
    (bare_expr right)
unfolding Rattle.first_form.specs.declared.tree.Expr.TheBlock.hidden-the_row-Expr-0 denote.Hole.Carrier.hidden
bare_binary node o left right = refl

-- ---- the numbers of the operators, and of the nodes behind them

pub linked_more : (from next end : ℕ) (links more : List Link) (link : Link)
    → Counts from (map link_node links) next → link.node.number.0 ≡ next → end ≡ next + 1
    → more ≡ links ++ link ∷ [] → Counts from (map link_node more) end
linked_more from next end links more link h is after pushed =
    counts_same from end (map link_node links ++ link.node ∷ []) (map link_node more)
    (sym (ap (map link_node) pushed ∙ map-append link_node links (link ∷ [])))
    (counts_append from next end (map link_node links) (link.node ∷ []) h ((is, tt), after))

-- ---- the sum is made from its leftmost operand on

pub same_parts : (made left left2 right right2 : Expr) (node : Node) (o : Operator) → left2 ≡ left
    → right2 ≡ right → made ≡ expr.Binary node o left2 right2 → made ≡ expr.Binary node o left right
same_parts made left left2 right right2 node o a b e =
    e ∙ ap (λ (x : Expr). expr.Binary node o x right2) a
    ∙ ap (λ (x : Expr). expr.Binary node o left x) b

pub joined_is : (known : Known) (link : Link) (left right made : Expr)
    → operand known link.right.now ≡ Some (bare_expr right) → made ≡ expr.Binary link.node
    link.operator left right
    → joined known link (Some (bare_expr left)) ≡ Some (bare_expr made)
joined_is known link left right made e is =
    ap (λ (o : Option Expr). o >>= λ y. Some
    (expr.Binary (bare_node link.node) link.operator (bare_expr left) y)) e
    ∙ ap Some (sym (ap bare_expr is ∙ bare_binary link.node link.operator left right))

module _ (known : Known) (x : written.Expr) where
  pub chain_refused : (e : Refusal) → ((known : Known) → IsChain known x (Err e))
      → Gives bare_expr (sum known x) (Err e)
  chain_refused OtherForm h = h known
  chain_refused NoMemory h = tt

  module _ (links : List Link) (first : Option Expr)
      (so_far : sum known x ≡ chained known links first) where
    pub first_refused : (e : Refusal) → Gives bare_expr first (Err e)
        → Gives bare_expr (sum known x) (Err e)
    first_refused OtherForm none = so_far ∙ ap (chained known links) none ∙ chained_none known links
    first_refused NoMemory none = tt

    module _ (rest : List Link) (link : Link) (popped : links ≡ rest ++ link ∷ []) where
      pub one_joined : sum known x ≡ chained known rest (joined known link first)
      one_joined = so_far ∙ ap (λ (ls : List Link). chained known ls first) popped
          ∙ chained_push known rest link first

      pub link_refused : (e : Refusal) → Gives bare_expr (joined known link first) (Err e)
          → Gives bare_expr (sum known x) (Err e)
      link_refused OtherForm none =
          one_joined ∙ ap (chained known rest) none ∙ chained_none known rest
      link_refused NoMemory none = tt

-- ---- their numbers

module _ (from next end : ℕ) (links rest : List Link) (link : Link)
    (popped : links ≡ rest ++ link ∷ []) (linked : CountsFrom from (map link_node links)) where
  split : CountsFrom from (map link_node rest ++ link.node ∷ [])
  split = subst (CountsFrom from) (ap (map link_node) popped ∙ map-append link_node rest
      (link ∷ [])) linked

  pub linked_rest : CountsFrom from (map link_node rest)
  linked_rest = counts_left from (map link_node rest) (link.node ∷ []) split

  number_is : link.node.number.0 ≡ from + length rest
  number_is = (counts_right from (map link_node rest) (link.node ∷ []) split).0
      ∙ ap (λ (n : ℕ). from + n) (length-map rest link_node)

  behind : from + length links ≡ suc (link.node.number.0)
  behind = omega (arith, number_is, ap length popped, length-append rest (link ∷ []))

  pub counted_more : (value made : Expr) → Counts (from + length links) (expr_nodes value) next
      → (Counts (suc link.node.number.0) (expr_nodes value) next → Counts link.node.number.0
      (expr_nodes made) end)
      → Counts (from + length rest) (expr_nodes made) end
  counted_more value made h joined_counts =
      subst (λ (n : ℕ). Counts n (expr_nodes made) end) number_is
      (joined_counts (subst (λ (n : ℕ). Counts n (expr_nodes value) next) behind h))
