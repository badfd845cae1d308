-- Counting through each form of a tree that holds trees of its own kind: the turns that its
-- definition gives.
use Rattle.std.proofs.Common.{◌≡◌, sym, ap, ◌∙◌}
use Rattle.st_tree.specs.declared.expression.Expr.{Expr, roll-Expr, fold-roll-Expr, map-Expr}
use Rattle.st_tree.specs.declared.expression.Expr.TheOpen.{Expr-F, Part-F, Argument-F, Path-F}
use Rattle.st_tree.specs.declared.expression.Part.{Part, roll-Part, fold-roll-Part, map-Part}
use Rattle.st_tree.specs.declared.expression.Argument.{Argument, rolls-Argument', fold-roll-Argument, map-Argument}
use Rattle.st_tree.specs.declared.expression.Path.{Path, rolls-Path', fold-roll-Path, map-Path}
use Rattle.st_tree.specs.declared.statement.Stmt.{Stmt, roll-Stmt, fold-roll-Stmt, map-Stmt}
use Rattle.st_tree.specs.declared.statement.Stmt.TheOpen.{Stmt-F, Branch-F, Case-F}
use Rattle.st_tree.specs.declared.statement.Branch.{Branch, rolls-Branch', fold-roll-Branch, map-Branch}
use Rattle.st_tree.specs.declared.statement.Case.{Case, rolls-Case', fold-roll-Case, map-Case}
use Rattle.st_tree.specs.declared.declaration.Spec.{Spec, roll-Spec, fold-roll-Spec, map-Spec}
use Rattle.st_tree.specs.declared.declaration.Spec.TheOpen.{Spec-F}
use Rattle.st_tree.specs.declared.declaration.Init.{Init, roll-Init, fold-roll-Init, map-Init}
use Rattle.st_tree.specs.declared.declaration.Init.TheOpen.{Init-F, Item-F, FieldInit-F}
use Rattle.st_tree.specs.declared.declaration.Item.{Item, roll-Item, fold-roll-Item, map-Item}
use Rattle.st_tree.specs.declared.declaration.FieldInit.{FieldInit, rolls-FieldInit', fold-roll-FieldInit, map-FieldInit}
use Rattle.tree_numbers.specs.declared.numbers.Counting.{Counting}
use Rattle.tree_numbers.specs.steps.Turns.{Turn}
use Rattle.tree_numbers.specs.steps.Counted.{expr_counted, counted_expr, part_counted, counted_part, argument_counted, counted_argument, path_counted, counted_path, stmt_counted, counted_stmt, branch_counted, counted_branch, case_counted, counted_case, spec_counted, counted_spec, init_counted, counted_init, item_counted, counted_item, field_counted, counted_field}

pub rolled_expr : (y : Expr-F Expr Part Argument Path) (c : Counting) → counted_expr (roll-Expr y) c
    ≡ expr_counted
    (map-Expr Expr Part Argument Path (Turn Expr) (Turn Part) (Turn Argument) (Turn Path)
    counted_expr counted_part counted_argument counted_path y)
    c
unfolding counted_expr counted_part counted_argument counted_path
rolled_expr y c =
    ap (λ (f : Turn Expr). f c)
    (fold-roll-Expr (Turn Expr) (Turn Part) (Turn Argument) (Turn Path) expr_counted
    part_counted argument_counted path_counted y)

pub rolled_part : (y : Part-F Expr Part Argument Path) (c : Counting) → counted_part (roll-Part y) c
    ≡ part_counted
    (map-Part Expr Part Argument Path (Turn Expr) (Turn Part) (Turn Argument) (Turn Path)
    counted_expr counted_part counted_argument counted_path y)
    c
unfolding counted_expr counted_part counted_argument counted_path
rolled_part y c =
    ap (λ (f : Turn Part). f c)
    (fold-roll-Part (Turn Expr) (Turn Part) (Turn Argument) (Turn Path) expr_counted
    part_counted argument_counted path_counted y)

pub rolled_argument : (y : Argument-F Expr Part Argument Path) (c : Counting) →
    counted_argument (record { node = y.node; name = y.name; value = y.value }) c
    ≡ argument_counted
    (map-Argument Expr Part Argument Path (Turn Expr) (Turn Part) (Turn Argument) (Turn Path)
    counted_expr counted_part counted_argument counted_path y)
    c
unfolding counted_expr counted_part counted_argument counted_path
rolled_argument y c =
    ap (λ (z : Argument). counted_argument z c) (sym (rolls-Argument' y))
    ∙ ap (λ (f : Turn Argument). f c)
    (fold-roll-Argument (Turn Expr) (Turn Part) (Turn Argument) (Turn Path) expr_counted
    part_counted argument_counted path_counted y)

pub rolled_path : (y : Path-F Expr Part Argument Path) (c : Counting) →
    counted_path (record { node = y.node; root = y.root; parts = y.parts }) c
    ≡ path_counted
    (map-Path Expr Part Argument Path (Turn Expr) (Turn Part) (Turn Argument) (Turn Path)
    counted_expr counted_part counted_argument counted_path y)
    c
unfolding counted_expr counted_part counted_argument counted_path
rolled_path y c =
    ap (λ (z : Path). counted_path z c) (sym (rolls-Path' y))
    ∙ ap (λ (f : Turn Path). f c)
    (fold-roll-Path (Turn Expr) (Turn Part) (Turn Argument) (Turn Path) expr_counted
    part_counted argument_counted path_counted y)

pub rolled_stmt : (y : Stmt-F Stmt Branch Case) (c : Counting) → counted_stmt (roll-Stmt y) c
    ≡ stmt_counted
    (map-Stmt Stmt Branch Case (Turn Stmt) (Turn Branch) (Turn Case) counted_stmt counted_branch
    counted_case y)
    c
unfolding counted_stmt counted_branch counted_case
rolled_stmt y c =
    ap (λ (f : Turn Stmt). f c)
    (fold-roll-Stmt (Turn Stmt) (Turn Branch) (Turn Case) stmt_counted branch_counted
    case_counted y)

pub rolled_branch : (y : Branch-F Stmt Branch Case) (c : Counting) →
    counted_branch (record { condition = y.condition; body = y.body }) c
    ≡ branch_counted
    (map-Branch Stmt Branch Case (Turn Stmt) (Turn Branch) (Turn Case) counted_stmt
    counted_branch counted_case y)
    c
unfolding counted_stmt counted_branch counted_case
rolled_branch y c =
    ap (λ (z : Branch). counted_branch z c) (sym (rolls-Branch' y))
    ∙ ap (λ (f : Turn Branch). f c)
    (fold-roll-Branch (Turn Stmt) (Turn Branch) (Turn Case) stmt_counted branch_counted
    case_counted y)

pub rolled_case : (y : Case-F Stmt Branch Case) (c : Counting) →
    counted_case (record { labels = y.labels; body = y.body }) c
    ≡ case_counted
    (map-Case Stmt Branch Case (Turn Stmt) (Turn Branch) (Turn Case) counted_stmt counted_branch
    counted_case y)
    c
unfolding counted_stmt counted_branch counted_case
rolled_case y c =
    ap (λ (z : Case). counted_case z c) (sym (rolls-Case' y))
    ∙ ap (λ (f : Turn Case). f c)
    (fold-roll-Case (Turn Stmt) (Turn Branch) (Turn Case) stmt_counted branch_counted
    case_counted y)

pub rolled_spec : (y : Spec-F Spec) (c : Counting) → counted_spec (roll-Spec y) c
    ≡ spec_counted (map-Spec Spec (Turn Spec) counted_spec y) c
unfolding counted_spec
rolled_spec y c =
    ap (λ (f : Turn Spec). f c) (fold-roll-Spec (Turn Spec) spec_counted y)

pub rolled_init : (y : Init-F Init Item FieldInit) (c : Counting) → counted_init (roll-Init y) c
    ≡ init_counted
    (map-Init Init Item FieldInit (Turn Init) (Turn Item) (Turn FieldInit) counted_init
    counted_item counted_field y)
    c
unfolding counted_init counted_item counted_field
rolled_init y c =
    ap (λ (f : Turn Init). f c)
    (fold-roll-Init (Turn Init) (Turn Item) (Turn FieldInit) init_counted item_counted
    field_counted y)

pub rolled_item : (y : Item-F Init Item FieldInit) (c : Counting) → counted_item (roll-Item y) c
    ≡ item_counted
    (map-Item Init Item FieldInit (Turn Init) (Turn Item) (Turn FieldInit) counted_init
    counted_item counted_field y)
    c
unfolding counted_init counted_item counted_field
rolled_item y c =
    ap (λ (f : Turn Item). f c)
    (fold-roll-Item (Turn Init) (Turn Item) (Turn FieldInit) init_counted item_counted
    field_counted y)

pub rolled_field : (y : FieldInit-F Init Item FieldInit) (c : Counting) →
    counted_field (record { node = y.node; name = y.name; value = y.value }) c
    ≡ field_counted
    (map-FieldInit Init Item FieldInit (Turn Init) (Turn Item) (Turn FieldInit) counted_init
    counted_item counted_field y)
    c
unfolding counted_init counted_item counted_field
rolled_field y c =
    ap (λ (z : FieldInit). counted_field z c) (sym (rolls-FieldInit' y))
    ∙ ap (λ (f : Turn FieldInit). f c)
    (fold-roll-FieldInit (Turn Init) (Turn Item) (Turn FieldInit) init_counted item_counted
    field_counted y)
