-- The operators of the planned code are those of the body.
use Rattle.std.proofs.Common.{◌≡◌, ℕ, List, [], ◌∷◌, ◌++◌, Option, Some, None, append_assoc, refl, sym, ap, ◌∙◌}
use Rattle.std.specs.Prelude.{flat_map, option_map, position, bytes_eq}
use Rattle.std.proofs.lemmas.Option.{same_Some, none-some, option_and_then_some}
use Rattle.iec_tables.specs.declared.elem.Elem.TheVariants as elem
use Rattle.st_tree.specs.declared.node.Site.{Site}
use Rattle.first_form.specs.declared.tree.Expr.{Expr, more_of-Expr, end_of-Expr}
use Rattle.first_form.specs.declared.tree.Expr.TheVariants as expr
use Rattle.first_form.specs.declared.tree.Stmt.{Stmt}
use Rattle.first_form.specs.declared.tree.Stmt.TheVariants.{Assign}
use Rattle.st_tree.specs.declared.code.Cell.{Cell}
use Rattle.st_tree.specs.declared.code.Cell.TheVariants.{Own}
use Rattle.st_tree.specs.Code.{Instructions, Read, Operate, Write}
use Rattle.task_config.specs.Plan.{value_code, stmt_code, body_code, at_cell}
use Rattle.task_config.proofs.Operators.{expr_operators, stmt_operators}
use Rattle.cycle_analysis.proofs.Sites.{operators}

at_place : (o : Option ℕ) (go : Cell → Instructions) (sites : List Site) (x : Instructions) → ((cell : Cell) → operators (go cell) ≡ sites) → option_map (λ place. go (Own place)) o ≡ Some x → operators x ≡ sites
at_place None go sites x h e = absurd (none-some x e)
at_place (Some k) go sites x h e = ap operators (sym (same_Some _ x e)) ∙ h (Own k)

three : (xs ys zs : List Site) (z : Site) → xs ++ (ys ++ (z ∷ zs)) ≡ ((xs ++ ys) ++ z ∷ []) ++ zs
three xs ys zs z =
    let a = append_assoc xs ys (z ∷ zs) in
    let b = append_assoc (xs ++ ys) (z ∷ []) zs in
    cc

module _ (names : List (List ℕ)) where
  value_operators : (e : Expr) (rest x : Instructions) → value_code names e rest ≡ Some x → operators x ≡ expr_operators e ++ operators rest
  value_operators (expr.Number node numeral) rest x e = ap operators (sym (same_Some _ x e))
  value_operators (expr.Variable path) rest x e = at_place (position (bytes_eq path.root.name) names) (λ cell. Read cell rest) (operators rest) x (λ cell. refl) e
  value_operators (expr.Binary' node operator l (more_of-Expr left end_of-Expr) r (more_of-Expr right end_of-Expr)) rest x e =
      let op : Instructions = Operate (record { site = record { file = 0; node = node.number }; elem = elem.Int; operator = operator }) rest in
      option_and_then_some (value_code names left) (value_code names right op) x e
      (λ y er el. value_operators left y x el ∙ ap (λ (sites : List Site). expr_operators left ++ sites) (value_operators right op y er)
      ∙ three (expr_operators left) (expr_operators right) (operators rest) (record { file = 0; node = node.number }))

  stmt_is : (stmt : Stmt) (rest x : Instructions) → stmt_code names stmt rest ≡ Some x → operators x ≡ stmt_operators stmt ++ operators rest
  stmt_is (Assign node target value) rest x e =
      option_and_then_some (value_code names value) (at_cell names target (λ cell. Write cell rest)) x e
      (λ y ec ev. value_operators value y x ev
      ∙ ap (λ (sites : List Site). expr_operators value ++ sites) (at_place (position (bytes_eq target.root.name) names) (λ cell. Write cell rest) (operators rest) y (λ cell. refl) ec))

  pub body_operators : (body : List Stmt) (x : Instructions) → body_code names body ≡ Some x → operators x ≡ flat_map stmt_operators body
  body_operators [] x e = ap operators (sym (same_Some _ x e))
  body_operators (stmt ∷ body) x e =
      option_and_then_some (stmt_code names stmt) (body_code names body) x e
      (λ y eb es. stmt_is stmt y x es ∙ ap (λ (sites : List Site). stmt_operators stmt ++ sites) (body_operators body y eb))
