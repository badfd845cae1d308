-- Where a body names declared variables alone and its numerals fit, the code as it is built is that of the definitions.
use Rattle.std.proofs.Common.{◌≡◌, ◌^◌, ◌-◌, ℕ, true, List, [], ◌∷◌, Option, Some, None, refl, sym, ap, ◌∙◌}
use Rattle.std.specs.Prelude.{ℤ, position, bytes_eq, option_map, option_and_then, unwrap_or}
use Rattle.iec_tables.specs.declared.elem.Elem.TheVariants as elem
use Rattle.first_form.specs.declared.tree.Expr.{Expr, more_of-Expr, end_of-Expr}
use Rattle.first_form.specs.declared.tree.Expr.TheVariants as expr
use Rattle.first_form.specs.declared.tree.Stmt.{Stmt}
use Rattle.first_form.specs.declared.tree.Stmt.TheVariants.{Assign}
use Rattle.st_tree.specs.declared.code.Cell.{Cell}
use Rattle.st_tree.specs.declared.code.Cell.TheVariants.{Own}
use Rattle.st_tree.specs.Code.{Instructions, Literal, Read, Operate, Write}
use Rattle.first_form.specs.Names.{Names, has, ExprUses, BodyUses}
use Rattle.first_form.specs.declared.tree.Path.{Path}
use Rattle.task_config.specs.Plan.{value_code, stmt_code, body_code, at_cell}
use Rattle.task_config.specs.Written.{written_cell, written_value, written_body}
use Rattle.task_config.proofs.Named.{place_there}
use Rattle.task_config.proofs.Numerals.{value_same}

cell_is : (o : Option ℕ) (go : Cell → Instructions) (k m : ℕ) → o ≡ Some k → option_map (λ k. go (Own k)) o ≡ Some (go (Own (unwrap_or o m)))
cell_is None go k m e = cc
cell_is (Some j) go k m e = refl

module _ (names : Names) (place : List ℕ → Option ℕ) (h : (q : List ℕ) → place q ≡ position (bytes_eq q) names) where
  at_cell_is : (path : Path) (go : Cell → Instructions) → has names path.root.name ≡ true → at_cell names path go ≡ Some (go (written_cell place path))
  at_cell_is path go u =
      let k = place_there (bytes_eq path.root.name) names u in
      ap (option_map (λ j. go (Own j))) (sym (h path.root.name)) ∙ cell_is (place path.root.name) go k.0 (2 ^ 64 - 1) (h path.root.name ∙ k.1)

  pub value_is : (e : Expr) (rest : Instructions) → ExprUses names e → value_code names e rest ≡ Some (written_value place e rest)
  value_is (expr.Number node numeral) rest u = ap (λ (v : ℤ). Some (Literal v rest)) (sym (value_same numeral u))
  value_is (expr.Variable path) rest u = at_cell_is path (λ cell. Read cell rest) u
  value_is (expr.Binary' node operator l (more_of-Expr left end_of-Expr) r (more_of-Expr right end_of-Expr)) rest u =
      let op : Instructions = Operate (record { site = record { file = 0; node = node.number }; elem = elem.Int; operator = operator }) rest in
      ap (option_and_then (value_code names left)) (value_is right op u.1) ∙ value_is left (written_value place right op) u.0

  pub body_is : (body : List Stmt) → BodyUses names body → body_code names body ≡ Some (written_body place body)
  body_is [] u = refl
  body_is (Assign node target value ∷ body) u =
      ap (option_and_then (stmt_code names (Assign node target value))) (body_is body u.1)
      ∙ ap (option_and_then (value_code names value)) (at_cell_is target (λ cell. Write cell (written_body place body)) u.0.0)
      ∙ value_is value (Write (written_cell place target) (written_body place body)) u.0.1
