-- Planned code is steady: each path has a cell, and a statement takes from the stack what its value puts there.
use Rattle.std.proofs.Common.{◌≡◌, ◌<◌, ℕ, zero, suc, List, [], ◌∷◌, length, Option, Some, None, refl, subst}
use Rattle.std.specs.Prelude.{position, bytes_eq, option_map}
use Rattle.std.proofs.lemmas.Option.{same_Some, none-some, option_and_then_some}
use Rattle.iec_tables.specs.declared.elem.Elem.TheVariants as elem
use Rattle.first_form.specs.declared.tree.Path.{Path}
use Rattle.first_form.specs.declared.tree.Expr.{Expr, more_of-Expr, end_of-Expr}
use Rattle.first_form.specs.declared.tree.Expr.TheVariants as expr
use Rattle.first_form.specs.declared.tree.Stmt.{Stmt}
use Rattle.first_form.specs.declared.tree.Stmt.TheVariants.{Assign}
use Rattle.st_tree.specs.declared.code.Cell.{Cell}
use Rattle.st_tree.specs.declared.code.Cell.TheVariants.{Own, Shared}
use Rattle.st_tree.specs.Code.{Instructions, Done, Literal, Read, Operate, Write}
use Rattle.first_form.specs.Names.{Names}
use Rattle.st_tree.specs.Writes.{HasWritten}
use Rattle.st_tree.specs.Steady.{IsSteady}
use Rattle.task_config.specs.Plan.{numeral_value, at_cell, value_code, stmt_code, body_code}
use Rattle.task_config.proofs.Named.{place_within}

-- steady code writes cells that are there
pub steady_writes : (n m depth : ℕ) (code : Instructions) → IsSteady n m depth code → HasWritten n m code
steady_writes n m depth Done h = tt
steady_writes n m depth (Literal value rest) h = steady_writes n m (suc depth) rest h
steady_writes n m depth (Read cell rest) h = steady_writes n m (suc depth) rest h.1
steady_writes n m zero (Operate operation rest) h = absurd h
steady_writes n m (suc zero) (Operate operation rest) h = absurd h
steady_writes n m (suc (suc depth)) (Operate operation rest) h = steady_writes n m (suc depth) rest h
steady_writes n m zero (Write cell rest) h = absurd h
steady_writes n m (suc depth) (Write (Own k) rest) h = (h.0, steady_writes n m depth rest h.1)
steady_writes n m (suc depth) (Write (Shared k) rest) h = (h.0, steady_writes n m depth rest h.1)

-- a mapped option is there where the option is
mapped : {X Y : Type 0} (f : X → Y) (o : Option X) (y : Y) → option_map f o ≡ Some y → (x : X) × (o ≡ Some x) × (f x ≡ y)
mapped f None y e = absurd (none-some y e)
mapped f (Some x) y e = (x, refl, same_Some (f x) y e)

module _ (names : Names) (m : ℕ) where
  -- the cell of a path is one of the cells of the names
  cell_found : (path : Path) (go : Cell → Instructions) (code : Instructions) → at_cell names path go ≡ Some code → (k : ℕ) × (k < length names) × (go (Own k) ≡ code)
  cell_found path go code e =
      let k = mapped (λ place. go (Own place)) (position (bytes_eq path.root.name) names) code e in
      (k.0, place_within (bytes_eq path.root.name) names k.0 k.1, k.2)

  -- an expression puts one number on the stack
  value_steady : (depth : ℕ) (e : Expr) (rest code : Instructions) → value_code names e rest ≡ Some code → IsSteady (length names) m (suc depth) rest → IsSteady (length names) m depth code
  value_steady depth (expr.Number node numeral) rest code e h =
      subst (IsSteady (length names) m depth) (same_Some (Literal (numeral_value numeral) rest) code e) h
  value_steady depth (expr.Variable path) rest code e h =
      let k = cell_found path (λ cell. Read cell rest) code e in
      subst (IsSteady (length names) m depth) k.2 (k.1, h)
  value_steady depth (expr.Binary' node operator l (more_of-Expr left end_of-Expr) r (more_of-Expr right end_of-Expr)) rest code e h =
      let op : Instructions = Operate (record { site = record { file = 0; node = node.number }; elem = elem.Int; operator = operator }) rest in
      option_and_then_some (value_code names left) (value_code names right op) code e
      (λ middle right_is left_is. value_steady depth left middle code left_is (value_steady (suc depth) right op middle right_is h))

  -- a statement takes that number
  stmt_steady : (stmt : Stmt) (rest code : Instructions) → stmt_code names stmt rest ≡ Some code → IsSteady (length names) m 0 rest → IsSteady (length names) m 0 code
  stmt_steady (Assign node target value) rest code e h =
      option_and_then_some (value_code names value) (at_cell names target (λ cell. Write cell rest)) code e
      (λ write write_is value_is.
      let k = cell_found target (λ cell. Write cell rest) write write_is in
      value_steady 0 value write code value_is (subst (IsSteady (length names) m 1) k.2 (k.1, h)))

  pub body_steady : (body : List Stmt) (code : Instructions) → body_code names body ≡ Some code → IsSteady (length names) m 0 code
  body_steady [] code e = subst (IsSteady (length names) m 0) (same_Some Done code e) tt
  body_steady (stmt ∷ body) code e =
      option_and_then_some (stmt_code names stmt) (body_code names body) code e
      (λ rest rest_is stmt_is. stmt_steady stmt rest code stmt_is (body_steady body rest rest_is))
