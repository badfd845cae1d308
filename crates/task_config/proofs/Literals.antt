-- The literals as they are collected are those of the definitions, in another order.
use Rattle.std.proofs.Common.{List, [], ◌∷◌, sym, subst, ⊎_elim}
use Rattle.std.specs.Prelude.{ℤ, flat_map}
use Rattle.std.specs.List.{Contains}
use Rattle.std.proofs.lemmas.List.Elements.{Contains-append_left, Contains-append_right, Contains-append_cases}
use Rattle.first_form.specs.declared.tree.Expr.{Expr, more_of-Expr, end_of-Expr}
use Rattle.first_form.specs.declared.tree.Expr.TheVariants as expr
use Rattle.first_form.specs.declared.tree.Stmt.{Stmt}
use Rattle.first_form.specs.declared.tree.Stmt.TheVariants.{Assign}
use Rattle.first_form.specs.Names.{Names, ExprUses, BodyUses}
use Rattle.task_config.specs.Plan.{expr_literals, stmt_literals}
use Rattle.task_config.specs.Written.{written_literals, literals_of_stmt}
use Rattle.task_config.proofs.Numerals.{value_same}

module _ (names : Names) (n : ℤ) where
  pub in_value : (e : Expr) → ExprUses names e → Contains (written_literals e) n → Contains (expr_literals e) n
  in_value (expr.Number node numeral) u c = subst (λ (v : ℤ). Contains (v ∷ []) n) (value_same numeral u) c
  in_value (expr.Variable path) u c = c
  in_value (expr.Binary' node operator l (more_of-Expr left end_of-Expr) r (more_of-Expr right end_of-Expr)) u c =
      ⊎_elim (λ a. Contains-append_right (expr_literals left) _ n (in_value right u.1 a)) (λ b. Contains-append_left _ (expr_literals right) n (in_value left u.0 b))
      (Contains-append_cases (written_literals right) (written_literals left) n c)

  pub from_value : (e : Expr) → ExprUses names e → Contains (expr_literals e) n → Contains (written_literals e) n
  from_value (expr.Number node numeral) u c = subst (λ (v : ℤ). Contains (v ∷ []) n) (sym (value_same numeral u)) c
  from_value (expr.Variable path) u c = c
  from_value (expr.Binary' node operator l (more_of-Expr left end_of-Expr) r (more_of-Expr right end_of-Expr)) u c =
      ⊎_elim (λ a. Contains-append_right (written_literals right) _ n (from_value left u.0 a)) (λ b. Contains-append_left _ (written_literals left) n (from_value right u.1 b))
      (Contains-append_cases (expr_literals left) (expr_literals right) n c)

  pub in_body : (body : List Stmt) → BodyUses names body → Contains (flat_map literals_of_stmt body) n → Contains (flat_map stmt_literals body) n
  in_body [] u c = c
  in_body (Assign node target value ∷ body) u c =
      ⊎_elim (λ a. Contains-append_left _ (flat_map stmt_literals body) n (in_value value u.0.1 a)) (λ b. Contains-append_right (expr_literals value) _ n (in_body body u.1 b))
      (Contains-append_cases (written_literals value) (flat_map literals_of_stmt body) n c)

  pub from_body : (body : List Stmt) → BodyUses names body → Contains (flat_map stmt_literals body) n → Contains (flat_map literals_of_stmt body) n
  from_body [] u c = c
  from_body (Assign node target value ∷ body) u c =
      ⊎_elim (λ a. Contains-append_left _ (flat_map literals_of_stmt body) n (from_value value u.0.1 a)) (λ b. Contains-append_right (written_literals value) _ n (from_body body u.1 b))
      (Contains-append_cases (expr_literals value) (flat_map stmt_literals body) n c)
