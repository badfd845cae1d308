-- Trees of the form use declared names alone, and numbers of the code.
use Rattle.std.proofs.Common.{◌≡◌, ℕ, ◌<◌, ◌^◌, ◌≤◌, Bool, true, false, ◌&&◌, cond, List, [], ◌∷◌, Option, Some, None, refl, sym, subst, ◌∙◌, arith}
use Rattle.std.specs.Prelude.{map, if◌then◌else◌, nat_le}
use Rattle.std.specs.List.{list_all}
use Rattle.std.proofs.lemmas.Bool.{leb-true}
use Rattle.std.proofs.lemmas.Option.{same_Some, none-some, option_and_then_some}
use Rattle.st_tree.specs.declared.node.Node.{Node}
use Rattle.st_tree.specs.declared.expression.Path as written_path
use Rattle.st_tree.specs.declared.expression.Part.{Part}
use Rattle.st_tree.specs.declared.expression.Argument.{Argument}
use Rattle.st_tree.specs.declared.expression.Expr as written
use Rattle.st_tree.specs.declared.expression.Expr.TheVariants as source
use Rattle.st_tree.specs.declared.expression.Expr.TheOpen.{Expr-F}
use Rattle.st_tree.specs.declared.statement.Stmt as written_stmt
use Rattle.st_tree.specs.declared.statement.Stmt.TheVariants as statement
use Rattle.st_tree.specs.declared.file.Body.{Body}
use Rattle.st_tree.specs.declared.file.Body.TheVariants.{Statements, Chart}
use Rattle.st_tree.specs.declared.file.Unit as written_unit
use Rattle.first_form.specs.declared.tree.Path.{Path}
use Rattle.first_form.specs.declared.tree.Expr.{Expr, more_of-Expr, end_of-Expr}
use Rattle.first_form.specs.declared.tree.Expr.TheVariants as expr
use Rattle.first_form.specs.declared.tree.Stmt.{Stmt}
use Rattle.first_form.specs.declared.tree.Stmt.TheVariants.{Assign}
use Rattle.first_form.specs.declared.tree.Unit.{Unit as SourceUnit}
use Rattle.first_form.specs.Bare.{bare_node, bare_expr, bare_stmt, bare_unit}
use Rattle.first_form.specs.Names.{Names, has, ExprUses, StmtUses, BodyUses, declared_in, unit_names}
use Rattle.first_form.specs.FirstForm.{◌>>=◌, each, named, is_empty, path, is_decimal, number_of, is_short, number, operand, operator, sum, stmt, body, is_program, are_apart, sections, identifier, unit_of, only_unit}
use Rattle.first_form.specs.Laws.{OneForm, SoundForm}
use Rattle.first_form.proofs.Units.{declared_in_bare}
use Rattle.first_form.proofs.OneTree.{same_tree}

-- what a test lets through
let_through : {X : Type 0} (b : Bool) (x y : X) → cond b (Some x) None ≡ Some y → (b ≡ true)
    × (x ≡ y)
let_through true x y e = (refl, same_Some x y e)
let_through false x y e = absurd (none-some y e)

passed : {X : Type 0} (b : Bool) (o : Option X) (y : X) → cond b o None ≡ Some y → o ≡ Some y
passed true o y e = e
passed false o y e = absurd (none-some y e)

and_left : (a b : Bool) → (a && b) ≡ true → a ≡ true
and_left true b e = refl
and_left false b e = e

and_right : (a b : Bool) → (a && b) ≡ true → b ≡ true
and_right true b e = e
and_right false b e = cc

-- ---- names without numbers of nodes

uses_bare : (names : Names) (x : Expr) → ExprUses names (bare_expr x) → ExprUses names x
unfolding Rattle.first_form.specs.declared.tree.Expr.TheBlock.hidden-the_row-Expr-0 denote.Hole.Carrier.hidden
uses_bare names (expr.Number node literal) h = h
uses_bare names (expr.Variable p) h = h
uses_bare names (expr.Binary' node o l (more_of-Expr left end_of-Expr) r
    (more_of-Expr right end_of-Expr)) h = (uses_bare names left h.0, uses_bare names right h.1)

body_bare : (names : Names) (stmts : List Stmt) → BodyUses names (map bare_stmt stmts)
    → BodyUses names stmts
body_bare names [] h = tt
body_bare names (Assign node target value ∷ stmts) h =
    ((h.0.0, uses_bare names value h.0.1), body_bare names stmts h.1)

-- ---- what is made

module _ (names : Names) where
  path_uses : (p : written_path.Path) (q : Path) → path (has names) p ≡ Some q
      → has names q.root.name ≡ true
  unfolding path
  path_uses p q e =
      option_and_then_some (λ i. if is_empty p.parts && has names i.name then Some
      (record { node = bare_node p.node; root = i }) else None) (named p.root) q e
      (λ i found is.
      let t = let_through (is_empty p.parts && has names i.name)
      (record { node = bare_node p.node; root = i }) q is in
      subst (λ (x : Path). has names x.root.name ≡ true) t.1
      (and_right (is_empty p.parts) (has names i.name) t.0))

  number_uses : (node : Node) (negative : Bool) (digits : List ℕ) (y : Expr)
      → number node negative digits ≡ Some y → ExprUses names y
  number_uses node negative digits y e =
      let t = let_through (is_short digits)
      (expr.Number (bare_node node) (record { negative = negative; size = number_of digits })) y
      e in
      let small : number_of digits ≤ 32767 =
      leb-true (number_of digits) 32767
      (and_right (list_all is_decimal digits) (nat_le (number_of digits) 32767) t.0) in
      let fits : number_of digits < 2 ^ 127 = omega (arith, small) in
      subst (ExprUses names) t.1 fits

  layer_uses : (x : Expr-F written.Expr Part Argument written_path.Path) (y : Expr) → (elim x [
    | Expr-F.Number node negative digits ↦ number node negative digits
    | Expr-F.Path p ↦ path (has names) p >>= λ q. Some (expr.Variable q)
    | _ ↦ None
  ]) ≡ Some y → ExprUses names y
  layer_uses (Expr-F.Number node negative digits) y e = number_uses node negative digits y e
  layer_uses (Expr-F.Path p) y e =
      option_and_then_some (λ q. Some (expr.Variable q)) (path (has names) p) y e
      (λ q found is. subst (ExprUses names) (same_Some (expr.Variable q) y is)
      (path_uses p q found))
  layer_uses other y e = absurd (none-some y e)

  operand_uses : (x : written.Expr) (y : Expr) → operand (has names) x ≡ Some y → ExprUses names y
  unfolding operand
  operand_uses x y e = layer_uses (written.out-Expr x) y e

  sum_uses : (x : written.Expr) (y : Expr) → sum (has names) x ≡ Some y → ExprUses names y
  unfolding sum Rattle.st_tree.specs.declared.expression.Expr.TheBlock.hidden-the_row-Expr-1 Rattle.st_tree.specs.declared.expression.Expr.TheBlock.hidden-the_row-Expr-3 Rattle.first_form.specs.declared.tree.Expr.TheBlock.hidden-the_row-Expr-0 denote.Hole.Carrier.hidden
  sum_uses (source.Binary' node o l (written.more_of-Expr left written.end_of-Expr) r
      (written.more_of-Expr right written.end_of-Expr)) y e =
      option_and_then_some (λ op. sum (has names) left >>= λ x. operand (has names) right >>= λ z.
      Some (expr.Binary (bare_node node) op x z)) (operator o) y e
      (λ op operator_is made. option_and_then_some
      (λ x. operand (has names) right >>= λ z. Some (expr.Binary (bare_node node) op x z))
      (sum (has names) left) y made
      (λ x left_is more. option_and_then_some (λ z. Some (expr.Binary (bare_node node) op x z))
      (operand (has names) right) y more
      (λ z right_is whole. subst (ExprUses names) (same_Some (expr.Binary (bare_node node) op x z) y
      whole) (sum_uses left x left_is, operand_uses right z right_is))))
  sum_uses other y e = operand_uses other y e

  stmt_uses : (s : written_stmt.Stmt) (t : Stmt) → stmt (has names) s ≡ Some t → StmtUses names t
  unfolding stmt
  stmt_uses (statement.Assign node target value) t e =
      option_and_then_some (λ p. sum (has names) value >>= λ x. Some (Assign (bare_node node) p x))
      (path (has names) target) t e
      (λ p path_is made. option_and_then_some (λ x. Some (Assign (bare_node node) p x))
      (sum (has names) value) t made
      (λ x sum_is whole. subst (StmtUses names) (same_Some (Assign (bare_node node) p x) t whole)
      (path_uses target p path_is, sum_uses value x sum_is)))
  stmt_uses other t e = absurd (none-some t e)

  each_uses : (sources : List written_stmt.Stmt) (made : List Stmt) → each (stmt (has names))
      sources ≡ Some made → BodyUses names made
  each_uses [] made e = subst (BodyUses names) (same_Some [] made e) tt
  each_uses (s ∷ rest) made e =
      option_and_then_some (λ t. each (stmt (has names)) rest >>= λ ts. Some (t ∷ ts))
      (stmt (has names) s) made e
      (λ t first more. option_and_then_some (λ ts. Some (t ∷ ts)) (each (stmt (has names)) rest)
      made more
      (λ ts others whole. subst (BodyUses names) (same_Some (t ∷ ts) made whole)
      (stmt_uses s t first, each_uses rest ts others)))

  body_uses : (b : Body) (made : List Stmt) → body (has names) b ≡ Some made → BodyUses names made
  body_uses (Statements stmts) made e = each_uses stmts made e
  body_uses (Chart chart) made e = absurd (none-some made e)

-- ---- the unit

abbrev UnitUses : SourceUnit → Type 0
UnitUses u = BodyUses (declared_in u.sections) u.body

unit_uses : (source : written_unit.Unit) (made : SourceUnit) → unit_of source ≡ Some made
    → UnitUses made
unfolding unit_of
unit_uses source made e =
    option_and_then_some (λ ss. if is_program source.kind && are_apart (declared_in ss)
    then (body (has (declared_in ss)) source.body >>= λ stmts. Some
    (record {
      node = bare_node source.node;
      name = identifier source.name;
      sections = ss;
      body =
          stmts;
    }))
    else None) (sections source.sections) made e
    (λ ss sections_are more. option_and_then_some
    (λ stmts. Some (record {
      node = bare_node source.node;
      name =
          identifier source.name;
      sections = ss;
      body = stmts;
    }))
    (body (has (declared_in ss)) source.body) made
    (passed (is_program source.kind && are_apart (declared_in ss))
    (body (has (declared_in ss)) source.body >>= λ stmts. Some
    (record {
      node = bare_node source.node;
      name = identifier source.name;
      sections = ss;
      body =
          stmts;
    })) made more)
    (λ stmts body_is whole. subst UnitUses
    (same_Some (record {
      node = bare_node source.node;
      name = identifier source.name;
      sections =
          ss;
      body = stmts;
    }) made whole)
    (body_uses (declared_in ss) source.body stmts body_is)))

pub sound : SoundForm
sound file tree is = option_and_then_some unit_of (only_unit file) (bare_unit is.unit) is.form
    (λ source only made. body_bare (unit_names is.unit) is.unit.body
    (subst (λ (names : Names). BodyUses names (map bare_stmt is.unit.body))
    (declared_in_bare is.unit.sections)
    (unit_uses source (bare_unit is.unit) made)))

pub one_form : OneForm
one_form file tree other a b =
    same_tree tree other a.unit b.unit a.units b.units (a.feeds ∙ sym b.feeds)
    (same_Some (bare_unit a.unit) (bare_unit b.unit) (sym a.form ∙ b.form)) a.numbered
    b.numbered
