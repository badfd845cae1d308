-- What holds of a tree where it holds of the trees directly within it holds of all trees.
use Rattle.std.proofs.Common.{List, [], ◌∷◌, ◌++◌, map, Option, Some, None, sym, subst, inl, inr}
use Rattle.st_tree.specs.declared.expression.Identifier.{Identifier}
use Rattle.st_tree.specs.declared.expression.Root.{Root}
use Rattle.st_tree.specs.declared.expression.Root.TheVariants as roots
use Rattle.st_tree.specs.declared.expression.Expr.{Expr, roll-Expr, out-roll-Expr, map-Expr}
use Rattle.st_tree.specs.declared.expression.Expr.{ind-Expr}
use Rattle.st_tree.specs.declared.expression.Expr.TheOpen.{Expr-F, Part-F, Argument-F, Path-F}
use Rattle.st_tree.specs.declared.expression.Part.{Part, roll-Part, out-roll-Part, map-Part}
use Rattle.st_tree.specs.declared.expression.Part.{ind-Part}
use Rattle.st_tree.specs.declared.expression.Argument.{Argument, roll-Argument, out-roll-Argument}
use Rattle.st_tree.specs.declared.expression.Argument.{map-Argument, ind-Argument}
use Rattle.st_tree.specs.declared.expression.Path.{Path, roll-Path, out-roll-Path, map-Path}
use Rattle.st_tree.specs.declared.expression.Path.{ind-Path}
use Rattle.st_tree.specs.declared.statement.Point.{Point}
use Rattle.st_tree.specs.declared.statement.Point.TheVariants as points
use Rattle.st_tree.specs.declared.statement.Label.{Label}
use Rattle.st_tree.specs.declared.statement.StmtArgument.{StmtArgument}
use Rattle.st_tree.specs.declared.statement.StmtArgument.TheVariants as args
use Rattle.st_tree.specs.declared.statement.Counter.{Counter}
use Rattle.st_tree.specs.declared.statement.Stmt.{Stmt, roll-Stmt, out-roll-Stmt, map-Stmt}
use Rattle.st_tree.specs.declared.statement.Stmt.{ind-Stmt}
use Rattle.st_tree.specs.declared.statement.Stmt.TheOpen.{Stmt-F, Branch-F, Case-F}
use Rattle.st_tree.specs.declared.statement.Branch.{Branch, roll-Branch, out-roll-Branch}
use Rattle.st_tree.specs.declared.statement.Branch.{map-Branch, ind-Branch}
use Rattle.st_tree.specs.declared.statement.Case.{Case, roll-Case, out-roll-Case, map-Case}
use Rattle.st_tree.specs.declared.statement.Case.{ind-Case}
use Rattle.st_tree.specs.declared.declaration.TypeName.{TypeName}
use Rattle.st_tree.specs.declared.declaration.TypeName.TheVariants as type
use Rattle.st_tree.specs.declared.declaration.Spec.{Spec, roll-Spec, out-roll-Spec, map-Spec}
use Rattle.st_tree.specs.declared.declaration.Spec.{ind-Spec}
use Rattle.st_tree.specs.declared.declaration.Spec.TheOpen.{Spec-F}
use Rattle.st_tree.specs.declared.declaration.Init.{Init, roll-Init, out-roll-Init, map-Init}
use Rattle.st_tree.specs.declared.declaration.Init.{ind-Init}
use Rattle.st_tree.specs.declared.declaration.Init.TheOpen.{Init-F, Item-F, FieldInit-F}
use Rattle.st_tree.specs.declared.declaration.Item.{Item, roll-Item, out-roll-Item, map-Item}
use Rattle.st_tree.specs.declared.declaration.Item.{ind-Item}
use Rattle.st_tree.specs.declared.declaration.FieldInit.{FieldInit, roll-FieldInit}
use Rattle.st_tree.specs.declared.declaration.FieldInit.{out-roll-FieldInit, map-FieldInit}
use Rattle.st_tree.specs.declared.declaration.FieldInit.{ind-FieldInit}
use Rattle.st_tree.specs.declared.declaration.Decl.{Decl}
use Rattle.st_tree.specs.declared.declaration.Section.{Section}
use Rattle.st_tree.specs.declared.chart.Association.{Association}
use Rattle.st_tree.specs.declared.chart.Step.{Step}
use Rattle.st_tree.specs.declared.chart.StepNames.{StepNames}
use Rattle.st_tree.specs.declared.chart.StepNames.TheVariants as steps
use Rattle.st_tree.specs.declared.chart.Transition.{Transition}
use Rattle.st_tree.specs.declared.chart.Action.{Action}
use Rattle.st_tree.specs.declared.chart.SfcPart.{SfcPart}
use Rattle.st_tree.specs.declared.chart.SfcPart.TheVariants as chart
use Rattle.st_tree.specs.declared.chart.Sfc.{Sfc}
use Rattle.st_tree.specs.declared.file.Body.{Body}
use Rattle.st_tree.specs.declared.file.Body.TheVariants as bodies
use Rattle.st_tree.specs.declared.file.UnitKind.{UnitKind}
use Rattle.st_tree.specs.declared.file.UnitKind.TheVariants as kinds
use Rattle.st_tree.specs.declared.file.Unit.{Unit as UnitTree}
use Rattle.st_tree.specs.declared.file.Fields.{Fields}
use Rattle.st_tree.specs.declared.file.Shape.{Shape}
use Rattle.st_tree.specs.declared.file.Shape.TheVariants as shapes
use Rattle.st_tree.specs.declared.file.TypeDecl.{TypeDecl}
use Rattle.st_tree.specs.declared.file.Types.{Types}
use Rattle.st_tree.specs.declared.file.Globals.{Globals}
use Rattle.st_tree.specs.declared.file.Parameter.{Parameter}
use Rattle.st_tree.specs.declared.file.Task.{Task}
use Rattle.st_tree.specs.declared.file.ProgramLine.{ProgramLine}
use Rattle.st_tree.specs.declared.file.Tasks.{Tasks}
use Rattle.st_tree.specs.declared.file.Resource.{Resource}
use Rattle.st_tree.specs.declared.file.Config.{Config}
use Rattle.st_tree.specs.declared.file.FilePart.{FilePart}
use Rattle.st_tree.specs.declared.file.FilePart.TheVariants as file_part
use Rattle.tree_order.specs.Subtrees.{Tree, layer_of, expr_layer, part_layer}
use Rattle.tree_order.specs.Subtrees as t
use Rattle.tree_order.proofs.Lists.{Among}

abbrev HoldsOfAll : (Tree → Type 0) → List Tree → Type 0
HoldsOfAll Q [] = Unit {0}
HoldsOfAll Q (x ∷ xs) = Q x × HoldsOfAll Q xs

holds_among : (Q : Tree → Type 0) (u : Tree) (xs : List Tree) → HoldsOfAll Q xs → Among u xs → Q u
holds_among Q u [] h there = absurd there
holds_among Q u (x ∷ xs) h (inl is) = subst Q (sym is) h.0
holds_among Q u (x ∷ xs) h (inr there) = holds_among Q u xs h.1 there

module _ (Q : Tree → Type 0) (from : (x : Tree) → ((u : Tree) → Among u (layer_of x).parts → Q u) →
    Q x) where
  by_parts : (x : Tree) → HoldsOfAll Q (layer_of x).parts → Q x
  by_parts x h = from x (λ u there. holds_among Q u (layer_of x).parts h there)

  -- ---- lists

  both : (xs ys : List Tree) → HoldsOfAll Q xs → HoldsOfAll Q ys → HoldsOfAll Q (xs ++ ys)
  both [] ys h k = k
  both (x ∷ xs) ys h k = (h.0, both xs ys h.1 k)

  these : {A : Type 0} (make : A → Tree) → ((x : A) → Q (make x)) → (xs : List A) →
      HoldsOfAll Q (map make xs)
  these make h [] = tt
  these make h (x ∷ xs) = (h x, these make h xs)

  if_there : {A : Type 0} (make : A → Tree) → ((x : A) → Q (make x)) → (o : Option A) →
      HoldsOfAll Q (t.if_there make o)
  if_there make h None = tt
  if_there make h (Some x) = (h x, tt)

  -- those of which it is known
  abbrev Known : {A : Type 0} → (A → Tree) → Type 0
  Known {A} make = (x : A) × Q (make x)

  known : {A : Type 0} (make : A → Tree) (ys : List (Known make)) →
      HoldsOfAll Q (map make (map (λ y. y.0) ys))
  known make [] = tt
  known make (y ∷ ys) = (y.1, known make ys)

  -- ---- expressions

  identifier : (x : Identifier) → Q (t.identifier x)
  identifier x = by_parts (t.identifier x) tt

  address : (x : _) → Q (t.address x)
  address x = by_parts (t.address x) tt

  root : (x : Root) → Q (t.root x)
  root (roots.Name i) = by_parts (t.root (roots.Name i)) (identifier i, tt)
  root (roots.Address a) = by_parts (t.root (roots.Address a)) (address a, tt)

  abbrev KnownExpr : Type 0
  KnownExpr = Expr-F (Known t.expr) (Known t.part) (Known t.argument) (Known t.path)

  abbrev plain_expr : KnownExpr → Expr-F Expr Part Argument Path
  plain_expr y =
      map-Expr (Known t.expr) (Known t.part) (Known t.argument) (Known t.path) Expr Part Argument
      Path (λ e. e.0) (λ e. e.0) (λ e. e.0) (λ e. e.0) y

  expr_parts : (y : KnownExpr) → HoldsOfAll Q (expr_layer (plain_expr y)).parts
  expr_parts (Expr-F.Number node minus text) = tt
  expr_parts (Expr-F.Typed node text) = tt
  expr_parts (Expr-F.Time node text) = tt
  expr_parts (Expr-F.Truth node truth) = tt
  expr_parts (Expr-F.Path p) = (p.1, tt)
  expr_parts (Expr-F.Value node name value) = (identifier name, (identifier value, tt))
  expr_parts (Expr-F.Parenthesized node inner) = (inner.1, tt)
  expr_parts (Expr-F.Unary node operator operand) = (operand.1, tt)
  expr_parts (Expr-F.Binary node operator left right) = (left.1, (right.1, tt))
  expr_parts (Expr-F.Call node name arguments) = (identifier name, known t.argument arguments)

  expr_from : (y : KnownExpr) → Q (t.expr (roll-Expr (plain_expr y)))
  expr_from y =
      by_parts (t.expr (roll-Expr (plain_expr y))) (subst (λ z. HoldsOfAll Q (expr_layer z).parts)
      (sym (out-roll-Expr (plain_expr y))) (expr_parts y))

  abbrev KnownPart : Type 0
  KnownPart = Part-F (Known t.expr) (Known t.part) (Known t.argument) (Known t.path)

  abbrev plain_part : KnownPart → Part-F Expr Part Argument Path
  plain_part y =
      map-Part (Known t.expr) (Known t.part) (Known t.argument) (Known t.path) Expr Part Argument
      Path (λ e. e.0) (λ e. e.0) (λ e. e.0) (λ e. e.0) y

  part_parts : (y : KnownPart) → HoldsOfAll Q (part_layer (plain_part y)).parts
  part_parts (Part-F.Field name) = (identifier name, tt)
  part_parts (Part-F.Index node indices) = known t.expr indices

  part_from : (y : KnownPart) → Q (t.part (roll-Part (plain_part y)))
  part_from y =
      by_parts (t.part (roll-Part (plain_part y))) (subst (λ z. HoldsOfAll Q (part_layer z).parts)
      (sym (out-roll-Part (plain_part y))) (part_parts y))

  abbrev KnownArgument : Type 0
  KnownArgument = Argument-F (Known t.expr) (Known t.part) (Known t.argument) (Known t.path)

  abbrev plain_argument : KnownArgument → Argument-F Expr Part Argument Path
  plain_argument y =
      map-Argument (Known t.expr) (Known t.part) (Known t.argument) (Known t.path) Expr Part
      Argument Path (λ e. e.0) (λ e. e.0) (λ e. e.0) (λ e. e.0) y

  argument_from : (y : KnownArgument) → Q (t.argument (roll-Argument (plain_argument y)))
  argument_from y = by_parts (t.argument (roll-Argument (plain_argument y)))
      (subst (λ (z : Argument-F Expr Part Argument Path). HoldsOfAll Q
      (t.if_there t.identifier z.name ++ t.expr z.value ∷ []))
      (sym (out-roll-Argument (plain_argument y)))
      (both (t.if_there t.identifier y.name) (t.expr y.value.0 ∷ [])
      (if_there t.identifier identifier y.name) (y.value.1, tt)))

  abbrev KnownPath : Type 0
  KnownPath = Path-F (Known t.expr) (Known t.part) (Known t.argument) (Known t.path)

  abbrev plain_path : KnownPath → Path-F Expr Part Argument Path
  plain_path y =
      map-Path (Known t.expr) (Known t.part) (Known t.argument) (Known t.path) Expr Part Argument
      Path (λ e. e.0) (λ e. e.0) (λ e. e.0) (λ e. e.0) y

  path_from : (y : KnownPath) → Q (t.path (roll-Path (plain_path y)))
  path_from y = by_parts (t.path (roll-Path (plain_path y)))
      (subst (λ (z : Path-F Expr Part Argument Path). HoldsOfAll Q
      (t.root z.root ∷ map t.part z.parts)) (sym (out-roll-Path (plain_path y)))
      (root y.root, known t.part y.parts))

  expr : (x : Expr) → Q (t.expr x)
  expr =
      ind-Expr (λ x. Q (t.expr x)) (λ x. Q (t.part x)) (λ x. Q (t.argument x)) (λ x. Q (t.path x))
      (λ x y is. subst (λ z. Q (t.expr (roll-Expr z))) is (expr_from y))
      (λ x y is. subst (λ z. Q (t.part (roll-Part z))) is (part_from y))
      (λ x y is. subst (λ z. Q (t.argument (roll-Argument z))) is (argument_from y))
      (λ x y is. subst (λ z. Q (t.path (roll-Path z))) is (path_from y))

  part : (x : Part) → Q (t.part x)
  part =
      ind-Part (λ x. Q (t.expr x)) (λ x. Q (t.part x)) (λ x. Q (t.argument x)) (λ x. Q (t.path x))
      (λ x y is. subst (λ z. Q (t.expr (roll-Expr z))) is (expr_from y))
      (λ x y is. subst (λ z. Q (t.part (roll-Part z))) is (part_from y))
      (λ x y is. subst (λ z. Q (t.argument (roll-Argument z))) is (argument_from y))
      (λ x y is. subst (λ z. Q (t.path (roll-Path z))) is (path_from y))

  argument : (x : Argument) → Q (t.argument x)
  argument =
      ind-Argument (λ x. Q (t.expr x)) (λ x. Q (t.part x)) (λ x. Q (t.argument x))
      (λ x. Q (t.path x))
      (λ x y is. subst (λ z. Q (t.expr (roll-Expr z))) is (expr_from y))
      (λ x y is. subst (λ z. Q (t.part (roll-Part z))) is (part_from y))
      (λ x y is. subst (λ z. Q (t.argument (roll-Argument z))) is (argument_from y))
      (λ x y is. subst (λ z. Q (t.path (roll-Path z))) is (path_from y))

  path : (x : Path) → Q (t.path x)
  path =
      ind-Path (λ x. Q (t.expr x)) (λ x. Q (t.part x)) (λ x. Q (t.argument x)) (λ x. Q (t.path x))
      (λ x y is. subst (λ z. Q (t.expr (roll-Expr z))) is (expr_from y))
      (λ x y is. subst (λ z. Q (t.part (roll-Part z))) is (part_from y))
      (λ x y is. subst (λ z. Q (t.argument (roll-Argument z))) is (argument_from y))
      (λ x y is. subst (λ z. Q (t.path (roll-Path z))) is (path_from y))

  -- ---- statements

  point : (x : Point) → Q (t.point x)
  point (points.Number node minus text) = by_parts (t.point (points.Number node minus text)) tt
  point (points.Typed node text) = by_parts (t.point (points.Typed node text)) tt
  point (points.Name name) = by_parts (t.point (points.Name name)) (identifier name, tt)
  point (points.Value node name value) =
      by_parts (t.point (points.Value node name value)) (identifier name, (identifier value, tt))

  label : (x : Label) → Q (t.label x)
  label x = by_parts (t.label x) (point x.first, if_there t.point point x.last)

  stmt_argument : (x : StmtArgument) → Q (t.stmt_argument x)
  stmt_argument (args.Input node name value) =
      by_parts (t.stmt_argument (args.Input node name value)) (identifier name, (expr value, tt))
  stmt_argument (args.Output node name target) =
      by_parts (t.stmt_argument (args.Output node name target)) (identifier name, (path target, tt))

  counter : (x : Counter) → Q (t.counter x)
  counter x =
      by_parts (t.counter x) (
        identifier x.variable,
        (expr x.first, (expr x.last, if_there t.expr expr x.step)),
      )

  abbrev KnownStmt : Type 0
  KnownStmt = Stmt-F (Known t.stmt) (Known t.branch) (Known t.one_case)

  abbrev plain_stmt : KnownStmt → Stmt-F Stmt Branch Case
  plain_stmt y =
      map-Stmt (Known t.stmt) (Known t.branch) (Known t.one_case) Stmt Branch Case (λ e. e.0)
      (λ e. e.0) (λ e. e.0) y

  stmt_parts : (y : KnownStmt) → HoldsOfAll Q (t.stmt_layer (plain_stmt y)).parts
  stmt_parts (Stmt-F.Assign node target value) = (path target, (expr value, tt))
  stmt_parts (Stmt-F.Call node name arguments) =
      (identifier name, these t.stmt_argument stmt_argument arguments)
  stmt_parts (Stmt-F.Return node) = tt
  stmt_parts (Stmt-F.Exit node) = tt
  stmt_parts (Stmt-F.Continue node) = tt
  stmt_parts (Stmt-F.If node branches None) =
      both (map t.branch (map (λ e. e.0) branches)) [] (known t.branch branches) tt
  stmt_parts (Stmt-F.If node branches (Some found)) =
      both (map t.branch (map (λ e. e.0) branches)) (map t.stmt (map (λ e. e.0) found))
      (known t.branch branches) (known t.stmt found)
  stmt_parts (Stmt-F.Case node selector cases None) =
      (expr selector, both (map t.one_case (map (λ e. e.0) cases)) [] (known t.one_case cases) tt)
  stmt_parts (Stmt-F.Case node selector cases (Some found)) = (
    expr selector,
    both (map t.one_case (map (λ e. e.0) cases))
        (map t.stmt (map (λ e. e.0) found)) (known t.one_case cases) (known t.stmt found),
  )
  stmt_parts (Stmt-F.For node counts found) = (counter counts, known t.stmt found)
  stmt_parts (Stmt-F.While node condition found) = (expr condition, known t.stmt found)
  stmt_parts (Stmt-F.Repeat node found condition) =
      both (map t.stmt (map (λ e. e.0) found)) (t.expr condition ∷ []) (known t.stmt found)
      (expr condition, tt)

  stmt_from : (y : KnownStmt) → Q (t.stmt (roll-Stmt (plain_stmt y)))
  stmt_from y =
      by_parts (t.stmt (roll-Stmt (plain_stmt y))) (subst (λ z. HoldsOfAll Q (t.stmt_layer z).parts)
      (sym (out-roll-Stmt (plain_stmt y))) (stmt_parts y))

  abbrev KnownBranch : Type 0
  KnownBranch = Branch-F (Known t.stmt) (Known t.branch) (Known t.one_case)

  abbrev plain_branch : KnownBranch → Branch-F Stmt Branch Case
  plain_branch y =
      map-Branch (Known t.stmt) (Known t.branch) (Known t.one_case) Stmt Branch Case (λ e. e.0)
      (λ e. e.0) (λ e. e.0) y

  branch_from : (y : KnownBranch) → Q (t.branch (roll-Branch (plain_branch y)))
  branch_from y = by_parts (t.branch (roll-Branch (plain_branch y)))
      (subst (λ (z : Branch-F Stmt Branch Case). HoldsOfAll Q
      (t.expr z.condition ∷ map t.stmt z.body)) (sym (out-roll-Branch (plain_branch y)))
      (expr y.condition, known t.stmt y.body))

  abbrev KnownCase : Type 0
  KnownCase = Case-F (Known t.stmt) (Known t.branch) (Known t.one_case)

  abbrev plain_case : KnownCase → Case-F Stmt Branch Case
  plain_case y =
      map-Case (Known t.stmt) (Known t.branch) (Known t.one_case) Stmt Branch Case (λ e. e.0)
      (λ e. e.0) (λ e. e.0) y

  case_from : (y : KnownCase) → Q (t.one_case (roll-Case (plain_case y)))
  case_from y = by_parts (t.one_case (roll-Case (plain_case y)))
      (subst (λ (z : Case-F Stmt Branch Case). HoldsOfAll Q (map t.label z.labels
      ++ map t.stmt z.body)) (sym (out-roll-Case (plain_case y)))
      (both (map t.label y.labels) (map t.stmt (map (λ e. e.0) y.body))
      (these t.label label y.labels) (known t.stmt y.body)))

  stmt : (x : Stmt) → Q (t.stmt x)
  stmt =
      ind-Stmt (λ x. Q (t.stmt x)) (λ x. Q (t.branch x)) (λ x. Q (t.one_case x))
      (λ x y is. subst (λ z. Q (t.stmt (roll-Stmt z))) is (stmt_from y))
      (λ x y is. subst (λ z. Q (t.branch (roll-Branch z))) is (branch_from y))
      (λ x y is. subst (λ z. Q (t.one_case (roll-Case z))) is (case_from y))

  branch : (x : Branch) → Q (t.branch x)
  branch =
      ind-Branch (λ x. Q (t.stmt x)) (λ x. Q (t.branch x)) (λ x. Q (t.one_case x))
      (λ x y is. subst (λ z. Q (t.stmt (roll-Stmt z))) is (stmt_from y))
      (λ x y is. subst (λ z. Q (t.branch (roll-Branch z))) is (branch_from y))
      (λ x y is. subst (λ z. Q (t.one_case (roll-Case z))) is (case_from y))

  one_case : (x : Case) → Q (t.one_case x)
  one_case =
      ind-Case (λ x. Q (t.stmt x)) (λ x. Q (t.branch x)) (λ x. Q (t.one_case x))
      (λ x y is. subst (λ z. Q (t.stmt (roll-Stmt z))) is (stmt_from y))
      (λ x y is. subst (λ z. Q (t.branch (roll-Branch z))) is (branch_from y))
      (λ x y is. subst (λ z. Q (t.one_case (roll-Case z))) is (case_from y))

  -- ---- declarations

  type_name : (x : TypeName) → Q (t.type_name x)
  type_name (type.Elementary node elem) = by_parts (t.type_name (type.Elementary node elem)) tt
  type_name (type.Named name) = by_parts (t.type_name (type.Named name)) (identifier name, tt)

  range : (x : _) → Q (t.range x)
  range x = by_parts (t.range x) (expr x.lower, (expr x.upper, tt))

  spec_parts : (y : Spec-F (Known t.spec)) →
      HoldsOfAll Q (t.spec_layer (map-Spec (Known t.spec) Spec (λ e. e.0) y)).parts
  spec_parts (Spec-F.«Type» node name limits) = (type_name name, if_there t.range range limits)
  spec_parts (Spec-F.Enumeration node values) = these t.identifier identifier values
  spec_parts (Spec-F.Array node ranges element) =
      both (map t.range ranges) (t.spec element.0 ∷ []) (these t.range range ranges) (element.1, tt)

  spec_from : (y : Spec-F (Known t.spec)) →
      Q (t.spec (roll-Spec (map-Spec (Known t.spec) Spec (λ e. e.0) y)))
  spec_from y = by_parts (t.spec (roll-Spec (map-Spec (Known t.spec) Spec (λ e. e.0) y)))
      (subst (λ z. HoldsOfAll Q (t.spec_layer z).parts)
      (sym (out-roll-Spec (map-Spec (Known t.spec) Spec (λ e. e.0) y))) (spec_parts y))

  spec : (x : Spec) → Q (t.spec x)
  spec =
      ind-Spec (λ x. Q (t.spec x)) (λ x y is. subst (λ z. Q (t.spec (roll-Spec z))) is
      (spec_from y))

  abbrev KnownInit : Type 0
  KnownInit = Init-F (Known t.init) (Known t.item) (Known t.field_init)

  abbrev plain_init : KnownInit → Init-F Init Item FieldInit
  plain_init y =
      map-Init (Known t.init) (Known t.item) (Known t.field_init) Init Item FieldInit (λ e. e.0)
      (λ e. e.0) (λ e. e.0) y

  init_parts : (y : KnownInit) → HoldsOfAll Q (t.init_layer (plain_init y)).parts
  init_parts (Init-F.Value value) = (expr value, tt)
  init_parts (Init-F.Array node xs) = known t.item xs
  init_parts (Init-F.Structure node xs) = known t.field_init xs

  init_from : (y : KnownInit) → Q (t.init (roll-Init (plain_init y)))
  init_from y =
      by_parts (t.init (roll-Init (plain_init y))) (subst (λ z. HoldsOfAll Q (t.init_layer z).parts)
      (sym (out-roll-Init (plain_init y))) (init_parts y))

  abbrev KnownItem : Type 0
  KnownItem = Item-F (Known t.init) (Known t.item) (Known t.field_init)

  abbrev plain_item : KnownItem → Item-F Init Item FieldInit
  plain_item y =
      map-Item (Known t.init) (Known t.item) (Known t.field_init) Init Item FieldInit (λ e. e.0)
      (λ e. e.0) (λ e. e.0) y

  item_parts : (y : KnownItem) → HoldsOfAll Q (t.item_layer (plain_item y)).parts
  item_parts (Item-F.One value) = (value.1, tt)
  item_parts (Item-F.Repeated node count value) = (value.1, tt)

  item_from : (y : KnownItem) → Q (t.item (roll-Item (plain_item y)))
  item_from y =
      by_parts (t.item (roll-Item (plain_item y))) (subst (λ z. HoldsOfAll Q (t.item_layer z).parts)
      (sym (out-roll-Item (plain_item y))) (item_parts y))

  abbrev KnownField : Type 0
  KnownField = FieldInit-F (Known t.init) (Known t.item) (Known t.field_init)

  abbrev plain_field : KnownField → FieldInit-F Init Item FieldInit
  plain_field y =
      map-FieldInit (Known t.init) (Known t.item) (Known t.field_init) Init Item FieldInit
      (λ e. e.0) (λ e. e.0) (λ e. e.0) y

  field_from : (y : KnownField) → Q (t.field_init (roll-FieldInit (plain_field y)))
  field_from y = by_parts (t.field_init (roll-FieldInit (plain_field y)))
      (subst (λ (z : FieldInit-F Init Item FieldInit). HoldsOfAll Q
      (t.identifier z.name ∷ t.init z.value ∷ [])) (sym (out-roll-FieldInit (plain_field y)))
      (identifier y.name, (y.value.1, tt)))

  init : (x : Init) → Q (t.init x)
  init =
      ind-Init (λ x. Q (t.init x)) (λ x. Q (t.item x)) (λ x. Q (t.field_init x))
      (λ x y is. subst (λ z. Q (t.init (roll-Init z))) is (init_from y))
      (λ x y is. subst (λ z. Q (t.item (roll-Item z))) is (item_from y))
      (λ x y is. subst (λ z. Q (t.field_init (roll-FieldInit z))) is (field_from y))

  item : (x : Item) → Q (t.item x)
  item =
      ind-Item (λ x. Q (t.init x)) (λ x. Q (t.item x)) (λ x. Q (t.field_init x))
      (λ x y is. subst (λ z. Q (t.init (roll-Init z))) is (init_from y))
      (λ x y is. subst (λ z. Q (t.item (roll-Item z))) is (item_from y))
      (λ x y is. subst (λ z. Q (t.field_init (roll-FieldInit z))) is (field_from y))

  field_init : (x : FieldInit) → Q (t.field_init x)
  field_init =
      ind-FieldInit (λ x. Q (t.init x)) (λ x. Q (t.item x)) (λ x. Q (t.field_init x))
      (λ x y is. subst (λ z. Q (t.init (roll-Init z))) is (init_from y))
      (λ x y is. subst (λ z. Q (t.item (roll-Item z))) is (item_from y))
      (λ x y is. subst (λ z. Q (t.field_init (roll-FieldInit z))) is (field_from y))

  decl : (x : Decl) → Q (t.decl x)
  decl x =
      by_parts (t.decl x) (both (map t.identifier x.names) (t.if_there t.address x.address
      ++ (t.spec x.spec ∷ t.if_there t.init x.init)) (these t.identifier identifier x.names)
      (both (t.if_there t.address x.address) (t.spec x.spec ∷ t.if_there t.init x.init)
      (if_there t.address address x.address) (spec x.spec, if_there t.init init x.init)))

  section : (x : Section) → Q (t.section x)
  section x = by_parts (t.section x) (these t.decl decl x.decls)

  fields : (x : Fields) → Q (t.fields x)
  fields x =
      by_parts (t.fields x)
      (both (map t.identifier x.names) (t.spec x.spec ∷ t.if_there t.init x.init)
      (these t.identifier identifier x.names) (spec x.spec, if_there t.init init x.init))

  shape : (x : Shape) → Q (t.shape x)
  shape (shapes.Spec s) = by_parts (t.shape (shapes.Spec s)) (spec s, tt)
  shape (shapes.Structure node members) =
      by_parts (t.shape (shapes.Structure node members)) (these t.fields fields members)

  type_decl : (x : TypeDecl) → Q (t.type_decl x)
  type_decl x =
      by_parts (t.type_decl x) (identifier x.name, (shape x.shape, if_there t.init init x.init))

  types : (x : Types) → Q (t.types x)
  types x = by_parts (t.types x) (these t.type_decl type_decl x.decls)

  globals : (x : Globals) → Q (t.globals x)
  globals x = by_parts (t.globals x) (these t.decl decl x.decls)

  -- ---- charts

  association : (x : Association) → Q (t.association x)
  association x =
      by_parts (t.association x) (identifier x.action, if_there t.identifier identifier x.qualifier)

  step : (x : Step) → Q (t.step x)
  step x = by_parts (t.step x) (identifier x.name, these t.association association x.associations)

  step_names : (x : StepNames) → Q (t.step_names x)
  step_names (steps.One name) = by_parts (t.step_names (steps.One name)) (identifier name, tt)
  step_names (steps.Several node names) =
      by_parts (t.step_names (steps.Several node names)) (these t.identifier identifier names)

  transition : (x : Transition) → Q (t.transition x)
  transition x =
      by_parts (t.transition x) (both (t.if_there t.identifier x.name)
      (t.step_names x.from ∷ t.step_names x.to ∷ t.expr x.condition ∷ [])
      (if_there t.identifier identifier x.name)
      (step_names x.from, (step_names x.to, (expr x.condition, tt))))

  action : (x : Action) → Q (t.action x)
  action x = by_parts (t.action x) (identifier x.name, these t.stmt stmt x.body)

  sfc_part : (x : SfcPart) → Q (t.sfc_part x)
  sfc_part (chart.Step x) = by_parts (t.sfc_part (chart.Step x)) (step x, tt)
  sfc_part (chart.Transition x) = by_parts (t.sfc_part (chart.Transition x)) (transition x, tt)
  sfc_part (chart.Action x) = by_parts (t.sfc_part (chart.Action x)) (action x, tt)

  sfc : (x : Sfc) → Q (t.sfc x)
  sfc x = by_parts (t.sfc x) (step x.initial, these t.sfc_part sfc_part x.parts)

  -- ---- files

  body : (x : Body) → Q (t.body x)
  body (bodies.Statements found) =
      by_parts (t.body (bodies.Statements found)) (these t.stmt stmt found)
  body (bodies.Chart c) = by_parts (t.body (bodies.Chart c)) (sfc c, tt)

  unit_kind : (x : UnitKind) → Q (t.unit_kind x)
  unit_kind (kinds.Function name) =
      by_parts (t.unit_kind (kinds.Function name)) (type_name name, tt)
  unit_kind kinds.Block = by_parts (t.unit_kind kinds.Block) tt
  unit_kind kinds.Program = by_parts (t.unit_kind kinds.Program) tt

  unit : (x : UnitTree) → Q (t.unit x)
  unit x =
      by_parts (t.unit x) (
        identifier x.name,
        (
          unit_kind x.kind,
          both (map t.section x.sections)
              (t.body x.body ∷ []) (these t.section section x.sections) (body x.body, tt),
        ),
      )

  parameter : (x : Parameter) → Q (t.parameter x)
  parameter x = by_parts (t.parameter x) (identifier x.name, (expr x.value, tt))

  task : (x : Task) → Q (t.task x)
  task x = by_parts (t.task x) (identifier x.name, these t.parameter parameter x.parameters)

  program_line : (x : ProgramLine) → Q (t.program_line x)
  program_line x =
      by_parts (t.program_line x) (
        identifier x.name,
        both (t.if_there t.identifier x.task)
            (t.identifier x.program ∷ []) (if_there t.identifier identifier x.task) (
              identifier x.program,
              tt,
            ),
      )

  tasks : (x : Tasks) → Q (t.tasks x)
  tasks x =
      by_parts (t.tasks x) (both (map t.task x.tasks) (map t.program_line x.lines)
      (these t.task task x.tasks) (these t.program_line program_line x.lines))

  resource : (x : Resource) → Q (t.resource x)
  resource x =
      by_parts (t.resource x) (
        identifier x.name,
        (
          identifier x.kind,
          both (map t.globals x.globals)
              (t.tasks x.tasks ∷ []) (these t.globals globals x.globals) (tasks x.tasks, tt),
        ),
      )

  config : (x : Config) → Q (t.config x)
  config x =
      by_parts (t.config x) (
        identifier x.name,
        both (map t.globals x.globals)
            (map t.resource x.resources ++ t.tasks x.tasks ∷ []) (these t.globals globals x.globals)
            (both (map t.resource x.resources) (t.tasks x.tasks ∷ [])
            (these t.resource resource x.resources) (tasks x.tasks, tt)),
      )

  file_part_holds : (x : FilePart) → Q (t.file_part x)
  file_part_holds (file_part.Unit x) = by_parts (t.file_part (file_part.Unit x)) (unit x, tt)
  file_part_holds (file_part.Types x) = by_parts (t.file_part (file_part.Types x)) (types x, tt)
  file_part_holds (file_part.Globals x) =
      by_parts (t.file_part (file_part.Globals x)) (globals x, tt)
  file_part_holds (file_part.Config x) = by_parts (t.file_part (file_part.Config x)) (config x, tt)

  pub each_tree : (x : Tree) → Q x
  each_tree (t.identifier x) = identifier x
  each_tree (t.address x) = address x
  each_tree (t.root x) = root x
  each_tree (t.expr x) = expr x
  each_tree (t.part x) = part x
  each_tree (t.argument x) = argument x
  each_tree (t.path x) = path x
  each_tree (t.point x) = point x
  each_tree (t.label x) = label x
  each_tree (t.stmt_argument x) = stmt_argument x
  each_tree (t.counter x) = counter x
  each_tree (t.stmt x) = stmt x
  each_tree (t.branch x) = branch x
  each_tree (t.one_case x) = one_case x
  each_tree (t.type_name x) = type_name x
  each_tree (t.range x) = range x
  each_tree (t.spec x) = spec x
  each_tree (t.init x) = init x
  each_tree (t.item x) = item x
  each_tree (t.field_init x) = field_init x
  each_tree (t.decl x) = decl x
  each_tree (t.section x) = section x
  each_tree (t.association x) = association x
  each_tree (t.step x) = step x
  each_tree (t.step_names x) = step_names x
  each_tree (t.transition x) = transition x
  each_tree (t.action x) = action x
  each_tree (t.sfc_part x) = sfc_part x
  each_tree (t.sfc x) = sfc x
  each_tree (t.body x) = body x
  each_tree (t.unit_kind x) = unit_kind x
  each_tree (t.unit x) = unit x
  each_tree (t.fields x) = fields x
  each_tree (t.shape x) = shape x
  each_tree (t.type_decl x) = type_decl x
  each_tree (t.types x) = types x
  each_tree (t.globals x) = globals x
  each_tree (t.parameter x) = parameter x
  each_tree (t.task x) = task x
  each_tree (t.program_line x) = program_line x
  each_tree (t.tasks x) = tasks x
  each_tree (t.resource x) = resource x
  each_tree (t.config x) = config x
  each_tree (t.file_part x) = file_part_holds x
