-- Each operator of a body is at a node of one of its statements.
use Rattle.std.proofs.Common.{◌≡◌, zero, List, [], ◌∷◌, ◌++◌, refl, sym, subst, arith}
use Rattle.std.specs.Prelude.{map, flat_map}
use Rattle.std.specs.List.{Contains, AllByRecursion}
use Rattle.std.proofs.lemmas.List.{map-append}
use Rattle.std.proofs.lemmas.List.Elements.{Contains-append_left, Contains-append_right}
use Rattle.st_tree.specs.declared.node.Node.{Node}
use Rattle.st_tree.specs.declared.node.NodeNo.{NodeNo}
use Rattle.st_tree.specs.declared.node.Site.{Site}
use Rattle.first_form.specs.declared.tree.Expr.{Expr, more_of-Expr, end_of-Expr}
use Rattle.first_form.specs.declared.tree.Expr.TheVariants as expr
use Rattle.first_form.specs.declared.tree.Stmt.{Stmt}
use Rattle.first_form.specs.declared.tree.Stmt.TheVariants.{Assign}
use Rattle.first_form.specs.Nodes.{expr_nodes, path_nodes, stmt_nodes}
use Rattle.task_config.proofs.Operators.{expr_operators, stmt_operators}
use Rattle.task_config.proofs.Lists.{all_weaker, all_append}

-- a statement of the body holds the node of a site of this file
pub record IsHeld (body : List Stmt) (site : Site) : Type 0 where
  pub file : site.file ≡ 0
  pub stmt : Stmt
  pub there : Contains body stmt
  pub holds : Contains (map (λ (node : Node). node.number) (stmt_nodes stmt)) site.node

pub numbers_more : (xs ys : List Node) (number : NodeNo) → Contains (map (λ (node : Node). node.number) ys) number → Contains (map (λ (node : Node). node.number) (xs ++ ys)) number
numbers_more xs ys number c =
    subst (λ (l : List NodeNo). Contains l number) (sym (map-append (λ (node : Node). node.number) xs ys)) (Contains-append_right (map (λ (node : Node). node.number) xs) _ number c)

pub numbers_less : (xs ys : List Node) (number : NodeNo) → Contains (map (λ (node : Node). node.number) xs) number → Contains (map (λ (node : Node). node.number) (xs ++ ys)) number
numbers_less xs ys number c =
    subst (λ (l : List NodeNo). Contains l number) (sym (map-append (λ (node : Node). node.number) xs ys)) (Contains-append_left _ (map (λ (node : Node). node.number) ys) number c)

-- a site of this file, whose node is one of the expression
record IsOwn (e : Expr) (site : Site) : Type 0 where
  file : site.file ≡ 0
  own : Contains (map (λ (node : Node). node.number) (expr_nodes e)) site.node

expr_held : (e : Expr) → AllByRecursion (IsOwn e) (expr_operators e)
expr_held (expr.Number node numeral) = tt
expr_held (expr.Variable path) = tt
expr_held (expr.Binary' node operator l (more_of-Expr left end_of-Expr) r (more_of-Expr right end_of-Expr)) =
    let whole = expr.Binary' node operator l (more_of-Expr left end_of-Expr) r (more_of-Expr right end_of-Expr) in
    let from_left : AllByRecursion (IsOwn whole) (expr_operators left) = all_weaker (IsOwn left) (IsOwn whole)
    (λ site h. record { file = h.file; own = numbers_more (node ∷ []) _ site.node (numbers_less (expr_nodes left) (expr_nodes right) site.node h.own) }) (expr_operators left) (expr_held left) in
    let from_right : AllByRecursion (IsOwn whole) (expr_operators right) = all_weaker (IsOwn right) (IsOwn whole)
    (λ site h. record { file = h.file; own = numbers_more (node ∷ []) _ site.node (numbers_more (expr_nodes left) (expr_nodes right) site.node h.own) }) (expr_operators right) (expr_held right) in
    all_append (IsOwn whole) (expr_operators left ++ expr_operators right) _ (all_append (IsOwn whole) (expr_operators left) (expr_operators right) from_left from_right)
    (record { file = refl; own = (zero, omega arith, refl) }, tt)

pub operators_held : (body : List Stmt) → AllByRecursion (IsHeld body) (flat_map stmt_operators body)
operators_held [] = tt
operators_held (stmt ∷ body) =
    all_append (IsHeld (stmt ∷ body)) (stmt_operators stmt) (flat_map stmt_operators body) (by_this stmt body)
    (all_weaker (IsHeld body) (IsHeld (stmt ∷ body)) (λ site h. record { file = h.file; stmt = h.stmt; there = Contains-append_right (stmt ∷ []) body h.stmt h.there; holds = h.holds }) (flat_map stmt_operators body) (operators_held body))
  where
    by_this : (stmt : Stmt) (body : List Stmt) → AllByRecursion (IsHeld (stmt ∷ body)) (stmt_operators stmt)
    by_this (Assign node target value) body =
        all_weaker (IsOwn value) (IsHeld (Assign node target value ∷ body)) (λ site h. record {
          file = h.file;
          stmt = Assign node target value;
          there = (zero, omega arith, refl);
          holds = numbers_more (node ∷ path_nodes target) (expr_nodes value) site.node h.own;
        }) (expr_operators value) (expr_held value)
