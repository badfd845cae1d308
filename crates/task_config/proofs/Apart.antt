-- No two operators of a body are at one node.
use Rattle.std.proofs.Common.{◌≡◌, ℕ, suc, ◌+◌, ◌<◌, ◌≤◌, Bool, false, List, [], ◌∷◌, ◌++◌, length, eqb, subst, arith}
use Rattle.std.specs.Prelude.{flat_map}
use Rattle.std.specs.List.{IsDistinct, AllByRecursion}
use Rattle.std.proofs.lemmas.Bool.{eqb-true, false_from_ne_true}
use Rattle.std.proofs.lemmas.List.{length-append}
use Rattle.st_tree.specs.declared.node.Node.{Node}
use Rattle.st_tree.specs.declared.node.Site.{Site}
use Rattle.first_form.specs.declared.tree.Expr.{Expr, more_of-Expr, end_of-Expr}
use Rattle.first_form.specs.declared.tree.Expr.TheVariants as expr
use Rattle.first_form.specs.declared.tree.Stmt.{Stmt}
use Rattle.first_form.specs.declared.tree.Stmt.TheVariants.{Assign}
use Rattle.first_form.specs.Nodes.{expr_nodes, path_nodes, stmt_nodes, CountsFrom}
use Rattle.first_form.proofs.Parts.{counts_left, counts_right}
use Rattle.task_config.proofs.Operators.{expr_operators, stmt_operators}
use Rattle.task_config.proofs.Lists.{all_weaker, all_append}

distinct_append : (eq : Site → Site → Bool) (xs ys : List Site) → IsDistinct eq xs → IsDistinct eq ys
    → AllByRecursion (λ x. AllByRecursion (λ y. eq x y ≡ false) ys) xs → IsDistinct eq (xs ++ ys)
unfolding IsDistinct
distinct_append eq [] ys p q h = q
distinct_append eq (x ∷ xs) ys p q h = (all_append (λ y. eq x y ≡ false) xs ys p.0 h.0, distinct_append eq xs ys p.1 q h.1)

-- ---- sites between two numbers, no two at one node

abbrev pub one_node : Site → Site → Bool
one_node a b = eqb a.node.0 b.node.0

abbrev IsBetween : ℕ → ℕ → Site → Type 0
IsBetween low high site = (low ≤ site.node.0) × (site.node.0 < high)

record AreApart (low high : ℕ) (sites : List Site) : Type 0 where
  between : AllByRecursion (IsBetween low high) sites
  distinct : IsDistinct one_node sites

differ : (a b : Site) → a.node.0 < b.node.0 → one_node a b ≡ false
differ a b h = false_from_ne_true (one_node a b) (λ e. let q = eqb-true a.node.0 b.node.0 e in omega arith)

apart_append : (low middle high : ℕ) (xs ys : List Site) → low ≤ middle → middle ≤ high → AreApart low middle xs → AreApart middle high ys → AreApart low high (xs ++ ys)
apart_append low middle high xs ys l h p q = record {
  between = all_append (IsBetween low high) xs ys (all_weaker (IsBetween low middle) (IsBetween low high) (λ x b. (b.0, omega arith)) xs p.between) (all_weaker (IsBetween middle high) (IsBetween low high) (λ x b. (omega arith, b.1)) ys q.between);
  distinct = distinct_append one_node xs ys p.distinct q.distinct
      (all_weaker (IsBetween low middle) (λ x. AllByRecursion (λ y. one_node x y ≡ false) ys)
      (λ x b. all_weaker (IsBetween middle high) (λ y. one_node x y ≡ false) (λ y d. differ x y (omega arith)) ys q.between) xs p.between);
}

apart_none : (n high : ℕ) → AreApart n high []
unfolding IsDistinct
apart_none n high = record { between = tt; distinct = tt }

apart_push : (n high : ℕ) (xs : List Site) (site : Site) → site.node.0 ≡ n → n < high → AreApart (suc n) high xs → AreApart n high (xs ++ site ∷ [])
unfolding IsDistinct
apart_push n high xs site e h p = record {
  between = all_append (IsBetween n high) xs (site ∷ []) (all_weaker (IsBetween (suc n) high) (IsBetween n high) (λ x b. (omega arith, b.1)) xs p.between) ((omega arith, omega arith), tt);
  distinct = distinct_append one_node xs (site ∷ []) p.distinct (tt, tt)
      (all_weaker (IsBetween (suc n) high) (λ x. AllByRecursion (λ y. one_node x y ≡ false) (site ∷ [])) (λ x b. (differ_back site x (omega arith), tt)) xs p.between);
}
  where
    differ_back : (a b : Site) → a.node.0 < b.node.0 → one_node b a ≡ false
    differ_back a b h = false_from_ne_true (one_node b a) (λ e. let q = eqb-true b.node.0 a.node.0 e in omega arith)

expr_apart : (n : ℕ) (e : Expr) → CountsFrom n (expr_nodes e) → AreApart n (n + length (expr_nodes e)) (expr_operators e)
expr_apart n (expr.Number node numeral) c = apart_none n _
expr_apart n (expr.Variable path) c = apart_none n _
expr_apart n (expr.Binary' node operator l (more_of-Expr left end_of-Expr) r (more_of-Expr right end_of-Expr)) c =
    let a = expr_apart (suc n) left (counts_left (suc n) (expr_nodes left) (expr_nodes right) c.1) in
    let b = expr_apart (suc n + length (expr_nodes left)) right (counts_right (suc n) (expr_nodes left) (expr_nodes right) c.1) in
    let e : (suc n + length (expr_nodes left)) + length (expr_nodes right) ≡ n + suc (length (expr_nodes left ++ expr_nodes right)) = omega (arith, length-append (expr_nodes left) (expr_nodes right)) in
    subst (λ high. AreApart n high ((expr_operators left ++ expr_operators right) ++ record { file = 0; node = node.number } ∷ [])) e
    (apart_push n _ (expr_operators left ++ expr_operators right) (record { file = 0; node = node.number }) c.0 (omega arith)
    (apart_append (suc n) (suc n + length (expr_nodes left)) _ (expr_operators left) (expr_operators right) (omega arith) (omega arith) a b))

stmt_apart : (n : ℕ) (stmt : Stmt) → CountsFrom n (stmt_nodes stmt) → AreApart n (n + length (stmt_nodes stmt)) (stmt_operators stmt)
stmt_apart n (Assign node target value) c =
    let v = expr_apart (suc n + 2) value (counts_right (suc n) (path_nodes target) (expr_nodes value) c.1) in
    let e : (suc n + 2) + length (expr_nodes value) ≡ n + suc (length (path_nodes target ++ expr_nodes value)) = omega arith in
    subst (λ high. AreApart n high (expr_operators value)) e (apart_append n (suc n + 2) _ [] (expr_operators value) (omega arith) (omega arith) (apart_none n _) v)

body_apart : (n : ℕ) (body : List Stmt) → CountsFrom n (flat_map stmt_nodes body) → AreApart n (n + length (flat_map stmt_nodes body)) (flat_map stmt_operators body)
body_apart n [] c = apart_none n _
body_apart n (stmt ∷ body) c =
    let a = stmt_apart n stmt (counts_left n (stmt_nodes stmt) (flat_map stmt_nodes body) c) in
    let b = body_apart (n + length (stmt_nodes stmt)) body (counts_right n (stmt_nodes stmt) (flat_map stmt_nodes body) c) in
    let e : (n + length (stmt_nodes stmt)) + length (flat_map stmt_nodes body) ≡ n + length (stmt_nodes stmt ++ flat_map stmt_nodes body) = omega (arith, length-append (stmt_nodes stmt) (flat_map stmt_nodes body)) in
    subst (λ high. AreApart n high (stmt_operators stmt ++ flat_map stmt_operators body)) e
    (apart_append n (n + length (stmt_nodes stmt)) _ (stmt_operators stmt) (flat_map stmt_operators body) (omega arith) (omega arith) a b)

-- Where the nodes of a body are numbered one after the other, no two operators are at one node.
pub operators_apart : (n : ℕ) (body : List Stmt) → CountsFrom n (flat_map stmt_nodes body) → IsDistinct one_node (flat_map stmt_operators body)
operators_apart n body c = (body_apart n body c).distinct
