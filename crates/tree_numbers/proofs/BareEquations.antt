-- A tree that holds trees of its own kind with all numbers 0: what its definition gives for each of
-- its forms.
use Rattle.std.proofs.Common.{◌≡◌, sym, ap, ◌∙◌}
use Rattle.st_tree.specs.declared.expression.Expr.{Expr, roll-Expr, fold-roll-Expr, map-Expr}
use Rattle.st_tree.specs.declared.expression.Expr.TheOpen.{Expr-F, Part-F, Argument-F, Path-F}
use Rattle.st_tree.specs.declared.expression.Part.{Part, roll-Part, fold-roll-Part, map-Part}
use Rattle.st_tree.specs.declared.expression.Argument.{Argument, rolls-Argument', fold-roll-Argument, map-Argument}
use Rattle.st_tree.specs.declared.expression.Path.{Path, rolls-Path', fold-roll-Path, map-Path}
use Rattle.st_tree.specs.declared.statement.Stmt.{Stmt, roll-Stmt, fold-roll-Stmt, map-Stmt}
use Rattle.st_tree.specs.declared.statement.Stmt.TheOpen.{Stmt-F, Branch-F, Case-F}
use Rattle.st_tree.specs.declared.statement.Branch.{Branch, rolls-Branch', fold-roll-Branch, map-Branch}
use Rattle.st_tree.specs.declared.statement.Case.{Case, rolls-Case', fold-roll-Case, map-Case}
use Rattle.st_tree.specs.declared.declaration.Spec.{Spec, roll-Spec, fold-roll-Spec, map-Spec}
use Rattle.st_tree.specs.declared.declaration.Spec.TheOpen.{Spec-F}
use Rattle.st_tree.specs.declared.declaration.Init.{Init, roll-Init, fold-roll-Init, map-Init}
use Rattle.st_tree.specs.declared.declaration.Init.TheOpen.{Init-F, Item-F, FieldInit-F}
use Rattle.st_tree.specs.declared.declaration.Item.{Item, roll-Item, fold-roll-Item, map-Item}
use Rattle.st_tree.specs.declared.declaration.FieldInit.{FieldInit, rolls-FieldInit', fold-roll-FieldInit, map-FieldInit}
use Rattle.tree_numbers.specs.Bare.{expr_bare, bare_expr, part_bare, bare_part, argument_bare, bare_argument, path_bare, bare_path, stmt_bare, bare_stmt, branch_bare, bare_branch, case_bare, bare_case, spec_bare, bare_spec, init_bare, bare_init, item_bare, bare_item, field_bare, bare_field}

pub rolled_bare_expr : (y : Expr-F Expr Part Argument Path) → bare_expr (roll-Expr y)
    ≡ expr_bare
    (map-Expr Expr Part Argument Path Expr Part Argument Path bare_expr bare_part bare_argument
    bare_path y)
unfolding bare_expr bare_part bare_argument bare_path
rolled_bare_expr y =
    fold-roll-Expr Expr Part Argument Path expr_bare part_bare argument_bare path_bare y

pub rolled_bare_part : (y : Part-F Expr Part Argument Path) → bare_part (roll-Part y)
    ≡ part_bare
    (map-Part Expr Part Argument Path Expr Part Argument Path bare_expr bare_part bare_argument
    bare_path y)
unfolding bare_expr bare_part bare_argument bare_path
rolled_bare_part y =
    fold-roll-Part Expr Part Argument Path expr_bare part_bare argument_bare path_bare y

pub rolled_bare_argument : (y : Argument-F Expr Part Argument Path) →
    bare_argument (record { node = y.node; name = y.name; value = y.value })
    ≡ argument_bare
    (map-Argument Expr Part Argument Path Expr Part Argument Path bare_expr bare_part
    bare_argument bare_path y)
unfolding bare_expr bare_part bare_argument bare_path
rolled_bare_argument y =
    ap (λ (z : Argument). bare_argument z) (sym (rolls-Argument' y))
    ∙ fold-roll-Argument Expr Part Argument Path expr_bare part_bare argument_bare path_bare y

pub rolled_bare_path : (y : Path-F Expr Part Argument Path) →
    bare_path (record { node = y.node; root = y.root; parts = y.parts })
    ≡ path_bare
    (map-Path Expr Part Argument Path Expr Part Argument Path bare_expr bare_part bare_argument
    bare_path y)
unfolding bare_expr bare_part bare_argument bare_path
rolled_bare_path y =
    ap (λ (z : Path). bare_path z) (sym (rolls-Path' y))
    ∙ fold-roll-Path Expr Part Argument Path expr_bare part_bare argument_bare path_bare y

pub rolled_bare_stmt : (y : Stmt-F Stmt Branch Case) → bare_stmt (roll-Stmt y)
    ≡ stmt_bare (map-Stmt Stmt Branch Case Stmt Branch Case bare_stmt bare_branch bare_case y)
unfolding bare_stmt bare_branch bare_case
rolled_bare_stmt y =
    fold-roll-Stmt Stmt Branch Case stmt_bare branch_bare case_bare y

pub rolled_bare_branch : (y : Branch-F Stmt Branch Case) →
    bare_branch (record { condition = y.condition; body = y.body })
    ≡ branch_bare (map-Branch Stmt Branch Case Stmt Branch Case bare_stmt bare_branch bare_case y)
unfolding bare_stmt bare_branch bare_case
rolled_bare_branch y =
    ap (λ (z : Branch). bare_branch z) (sym (rolls-Branch' y))
    ∙ fold-roll-Branch Stmt Branch Case stmt_bare branch_bare case_bare y

pub rolled_bare_case : (y : Case-F Stmt Branch Case) →
    bare_case (record { labels = y.labels; body = y.body })
    ≡ case_bare (map-Case Stmt Branch Case Stmt Branch Case bare_stmt bare_branch bare_case y)
unfolding bare_stmt bare_branch bare_case
rolled_bare_case y =
    ap (λ (z : Case). bare_case z) (sym (rolls-Case' y))
    ∙ fold-roll-Case Stmt Branch Case stmt_bare branch_bare case_bare y

pub rolled_bare_spec : (y : Spec-F Spec) → bare_spec (roll-Spec y)
    ≡ spec_bare (map-Spec Spec Spec bare_spec y)
unfolding bare_spec
rolled_bare_spec y =
    fold-roll-Spec Spec spec_bare y

pub rolled_bare_init : (y : Init-F Init Item FieldInit) → bare_init (roll-Init y)
    ≡ init_bare (map-Init Init Item FieldInit Init Item FieldInit bare_init bare_item bare_field y)
unfolding bare_init bare_item bare_field
rolled_bare_init y =
    fold-roll-Init Init Item FieldInit init_bare item_bare field_bare y

pub rolled_bare_item : (y : Item-F Init Item FieldInit) → bare_item (roll-Item y)
    ≡ item_bare (map-Item Init Item FieldInit Init Item FieldInit bare_init bare_item bare_field y)
unfolding bare_init bare_item bare_field
rolled_bare_item y =
    fold-roll-Item Init Item FieldInit init_bare item_bare field_bare y

pub rolled_bare_field : (y : FieldInit-F Init Item FieldInit) →
    bare_field (record { node = y.node; name = y.name; value = y.value })
    ≡ field_bare
    (map-FieldInit Init Item FieldInit Init Item FieldInit bare_init bare_item bare_field y)
unfolding bare_init bare_item bare_field
rolled_bare_field y =
    ap (λ (z : FieldInit). bare_field z) (sym (rolls-FieldInit' y))
    ∙ fold-roll-FieldInit Init Item FieldInit init_bare item_bare field_bare y
