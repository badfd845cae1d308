-- The lists of the nodes of expressions and statements as what is gathered from their words.
use Rattle.std.proofs.Common.{◌≡◌, List, [], ◌∷◌, ◌++◌, Option, Some, None, refl, ap, ◌∙◌}
use Rattle.std.specs.Prelude.{flat_map}
use Rattle.tree_numbers.specs.NodeLists.{nodes_of_expr, nodes_of_part, nodes_of_argument}
use Rattle.tree_numbers.specs.NodeLists.{nodes_of_path, nodes_if, nodes_of_identifier}
use Rattle.tree_numbers.specs.NodeLists.{nodes_of_root, nodes_of_point, nodes_of_label}
use Rattle.tree_numbers.specs.NodeLists.{nodes_of_stmt_argument, nodes_of_counter, nodes_of_stmt}
use Rattle.tree_numbers.specs.NodeLists.{nodes_of_stmts, nodes_of_branch, nodes_of_case}
use Rattle.tree_numbers.proofs.NodeEquations as n
use Rattle.st_tree.specs.declared.node.Node.{Node}
use Rattle.st_tree.specs.declared.expression.Root.{Root}
use Rattle.st_tree.specs.declared.expression.Root.TheVariants as root
use Rattle.tree_order.proofs.NodesOfWords.{node_gathering}
use Rattle.tree_order.proofs.ExpressionLists.{ExprLists, of_root, list_if}
use Rattle.st_tree.specs.declared.statement.Stmt.{Stmt}
use Rattle.st_tree.specs.declared.statement.Counter.{Counter}
use Rattle.st_tree.specs.declared.statement.Label.{Label}
use Rattle.st_tree.specs.declared.statement.Point.{Point}
use Rattle.st_tree.specs.declared.statement.Point.TheVariants as point
use Rattle.st_tree.specs.declared.statement.StmtArgument.{StmtArgument}
use Rattle.st_tree.specs.declared.statement.StmtArgument.TheVariants as arg
use Rattle.tree_order.proofs.StatementLists.{StmtLists, of_point, of_label, of_stmt_argument}
use Rattle.tree_order.proofs.StatementLists.{of_counter}

-- ---- the same list by other words

pub same_flat : {A : Type 0} (f h : A → List Node) → ((x : A) → f x ≡ h x) → (xs : List A) →
    flat_map f xs ≡ flat_map h xs
same_flat f h same [] = refl
same_flat f h same (x ∷ xs) = rw (same x, same_flat f h same xs) refl

pub same_if : {A : Type 0} (f h : A → List Node) → ((x : A) → f x ≡ h x) → (o : Option A) →
    nodes_if f o ≡ list_if h o
same_if f h same None = refl
same_if f h same (Some x) = same x

pub same_root : (r : Root) → nodes_of_root r ≡ of_root node_gathering r
same_root (root.Name x) = refl
same_root (root.Address x) = refl

-- ---- expressions

abbrev pub expr_nodes : ExprLists node_gathering
expr_nodes = record {
  of_expr = nodes_of_expr;
  of_part = nodes_of_part;
  of_argument = nodes_of_argument;
  of_path = nodes_of_path;
  number = n.of_number;
  typed = n.of_typed;
  time = n.of_time;
  truth = n.of_truth;
  path = n.of_path;
  value = n.of_value;
  parenthesized = n.of_parenthesized;
  unary = n.of_unary;
  binary = n.of_binary;
  call = n.of_call;
  field = n.of_field_part;
  index = n.of_index;
  argument =
      λ node name value. n.of_argument node name value
      ∙ ap (λ ns. node ∷ (ns ++ nodes_of_expr value))
      (same_if nodes_of_identifier nodes_of_identifier (λ i. refl) name);
  whole_path =
      λ node r parts. n.of_whole_path node r parts
      ∙ ap (λ ns. node ∷ (ns ++ flat_map nodes_of_part parts)) (same_root r);
}

-- ---- statements

pub same_point : (x : Point) → nodes_of_point x ≡ of_point expr_nodes x
same_point (point.Number node minus text) = refl
same_point (point.Typed node text) = refl
same_point (point.Name name) = refl
same_point (point.Value node name value) = refl

pub same_label : (x : Label) → nodes_of_label x ≡ of_label expr_nodes x
same_label x =
    ap (λ ns. x.node ∷ ns) (rw (
      same_point x.first,
      same_if nodes_of_point (of_point expr_nodes)
          same_point x.last,
    ) refl)

pub same_argument : (x : StmtArgument) → nodes_of_stmt_argument x ≡ of_stmt_argument expr_nodes x
same_argument (arg.Input node name value) = refl
same_argument (arg.Output node name target) = refl

pub same_counter : (x : Counter) → nodes_of_counter x ≡ of_counter expr_nodes x
same_counter x = rw (same_if nodes_of_expr nodes_of_expr (λ y. refl) x.step) refl

pub same_body : (o : Option (List Stmt)) → nodes_if nodes_of_stmts o
    ≡ list_if (flat_map nodes_of_stmt) o
same_body o = same_if nodes_of_stmts (flat_map nodes_of_stmt) (λ y. refl) o

abbrev pub stmt_nodes : StmtLists expr_nodes
stmt_nodes = record {
  of_stmt = nodes_of_stmt;
  of_branch = nodes_of_branch;
  of_case = nodes_of_case;
  assign = n.of_assign;
  call =
      λ node name arguments. n.of_call_stmt node name arguments ∙ ap (λ ns. node ∷ (name.node ∷ ns))
      (same_flat nodes_of_stmt_argument (of_stmt_argument expr_nodes) same_argument arguments);
  return_ = n.of_return;
  exit = n.of_exit;
  continue = n.of_continue;
  if_ =
      λ node branches otherwise. n.of_if node branches otherwise
      ∙ ap (λ ns. node ∷ (flat_map nodes_of_branch branches ++ ns)) (same_body otherwise);
  case_ =
      λ node selector cases otherwise. n.of_case_stmt node selector cases otherwise
      ∙ ap (λ ns. node ∷ (nodes_of_expr selector ++ (flat_map nodes_of_case cases ++ ns)))
      (same_body otherwise);
  for_ =
      λ node counter body. n.of_for node counter body
      ∙ ap (λ ns. node ∷ (ns ++ nodes_of_stmts body)) (same_counter counter);
  while_ = n.of_while;
  repeat_ = n.of_repeat;
  branch = n.of_branch;
  one_case =
      λ labels body. n.of_case labels body ∙ ap (λ ns. ns ++ nodes_of_stmts body)
      (same_flat nodes_of_label (of_label expr_nodes) same_label labels);
}
