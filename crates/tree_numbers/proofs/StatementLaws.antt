-- What numbering does to statements.
use Rattle.std.proofs.Common.{◌≡◌, List, Option, None, Some, map, refl, subst}
use Rattle.std.specs.Option.{option_map}
use denote.Hole.Carrier
use Rattle.st_tree.specs.declared.node.Node.{Node}
use Rattle.st_tree.specs.declared.expression.Expr.{Expr}
use Rattle.st_tree.specs.declared.statement.Point.{Point}
use Rattle.st_tree.specs.declared.statement.Point.TheVariants as point
use Rattle.st_tree.specs.declared.statement.Label.{Label}
use Rattle.st_tree.specs.declared.statement.StmtArgument.{StmtArgument}
use Rattle.st_tree.specs.declared.statement.StmtArgument.TheVariants as stmt_argument
use Rattle.st_tree.specs.declared.statement.Counter.{Counter}
use Rattle.st_tree.specs.declared.statement.Stmt.{Stmt, roll-Stmt, map-Stmt, ind-Stmt}
use Rattle.st_tree.specs.declared.statement.Stmt.TheVariants as stmt
use Rattle.st_tree.specs.declared.statement.Stmt.TheOpen.{Stmt-F, Branch-F, Case-F}
use Rattle.st_tree.specs.declared.statement.Branch.{Branch, roll-Branch, rolls-Branch', map-Branch}
use Rattle.st_tree.specs.declared.statement.Case.{Case, roll-Case, rolls-Case', map-Case}
use Rattle.tree_numbers.specs.declared.numbers.Counting.{Counting}
use Rattle.tree_numbers.specs.NodeLists.{nodes_of_point, nodes_of_label, nodes_of_stmt_argument, nodes_of_counter, nodes_of_stmt, nodes_of_branch, nodes_of_case}
use Rattle.tree_numbers.specs.Bare.{bare_node, bare_expr, bare_point, bare_label, bare_stmt_argument, bare_counter, bare_stmt, bare_branch, bare_case}
use Rattle.tree_numbers.specs.steps.Turns.{turn3, turn4, each}
use Rattle.tree_numbers.specs.steps.Counted.{counted, counted_expr, counted_point, counted_label, counted_stmt_argument, counted_counter, counted_stmt, counted_branch, counted_case}
use Rattle.tree_numbers.proofs.NodeEquations.{of_assign, of_branch, of_call_stmt, of_case, of_case_stmt, of_continue, of_exit, of_for, of_if, of_repeat, of_return, of_while}
use Rattle.tree_numbers.proofs.CountedEquations.{rolled_stmt, rolled_branch, rolled_case}
use Rattle.tree_numbers.proofs.BareEquations.{rolled_bare_stmt, rolled_bare_branch, rolled_bare_case}
use Rattle.tree_numbers.proofs.Numbering.{Way, IsCounted, Held, node_is, at1, at2, at3, at4, each_way, option_way, each_is, option_is, each_held, option_held}
use Rattle.tree_numbers.proofs.ExpressionLaws.{identifier_is, expr_way, expr_is, path_is}

abbrev pub point_way : Way Point
point_way = record { counts = counted_point; nodes = nodes_of_point; bare = bare_point }

pub point_is : (x : Point) → IsCounted point_way x
point_is (Point.Number node minus text) =
    at1 point_way (λ node. point.Number node minus text)
    (λ node c. refl) (λ node. refl) (λ node. refl)
    (node_is node)
point_is (Point.Typed node text) =
    at1 point_way (λ node. point.Typed node text)
    (λ node c. refl) (λ node. refl) (λ node. refl)
    (node_is node)
point_is (Point.Name name) =
    at1 point_way point.Name
    (λ name c. refl) (λ name. refl) (λ name. refl)
    (identifier_is name)
point_is (Point.Value node name value) =
    at3 point_way point.Value
    (λ node name value c. refl) (λ node name value. refl) (λ node name value. refl)
    (node_is node) (identifier_is name) (identifier_is value)

abbrev pub label_way : Way Label
label_way = record { counts = counted_label; nodes = nodes_of_label; bare = bare_label }

pub label_is : (x : Label) → IsCounted label_way x
label_is x =
    at3 label_way (λ node first last. record { node = node; first = first; last = last })
    (λ node first last c. refl) (λ node first last. refl) (λ node first last. refl)
    (node_is x.node) (point_is x.first) (option_is point_way point_is x.last)

abbrev pub stmt_argument_way : Way StmtArgument
stmt_argument_way =
    record
    { counts = counted_stmt_argument; nodes = nodes_of_stmt_argument; bare = bare_stmt_argument }

pub stmt_argument_is : (x : StmtArgument) → IsCounted stmt_argument_way x
stmt_argument_is (StmtArgument.Input node name value) =
    at3 stmt_argument_way stmt_argument.Input
    (λ node name value c. refl) (λ node name value. refl) (λ node name value. refl)
    (node_is node) (identifier_is name) (expr_is value)
stmt_argument_is (StmtArgument.Output node name target) =
    at3 stmt_argument_way stmt_argument.Output
    (λ node name target c. refl) (λ node name target. refl) (λ node name target. refl)
    (node_is node) (identifier_is name) (path_is target)

abbrev pub counter_way : Way Counter
counter_way = record { counts = counted_counter; nodes = nodes_of_counter; bare = bare_counter }

pub counter_is : (x : Counter) → IsCounted counter_way x
counter_is x =
    at4 counter_way
    (λ variable first last step. record
    { variable = variable; first = first; last = last; step = step })
    (λ variable first last step c. refl) (λ variable first last step. refl)
    (λ variable first last step. refl)
    (identifier_is x.variable) (expr_is x.first) (expr_is x.last)
    (option_is expr_way expr_is x.step)

abbrev pub stmt_way : Way Stmt
stmt_way = record { counts = counted_stmt; nodes = nodes_of_stmt; bare = bare_stmt }

abbrev pub branch_way : Way Branch
branch_way = record { counts = counted_branch; nodes = nodes_of_branch; bare = bare_branch }

abbrev pub case_way : Way Case
case_way = record { counts = counted_case; nodes = nodes_of_case; bare = bare_case }

-- statements with an ELSE or without
rolled_if_form : (node : Node) (branches : List Branch) (otherwise : Option (List Stmt))
    (c : Counting) →
    counted_stmt (stmt.If node branches otherwise) c
    ≡ turn3 stmt.If (counted node) (each (map counted_branch branches))
    ((option_way (each_way stmt_way)).counts otherwise) c
unfolding roll-Stmt Carrier.roll
rolled_if_form node branches None c = rolled_stmt (Stmt-F.If node branches None) c
rolled_if_form node branches (Some body) c = rolled_stmt (Stmt-F.If node branches (Some body)) c

rolled_bare_if_form : (node : Node) (branches : List Branch) (otherwise : Option (List Stmt)) →
    bare_stmt (stmt.If node branches otherwise)
    ≡ stmt.If (bare_node node) (map bare_branch branches) (option_map (map bare_stmt) otherwise)
unfolding roll-Stmt Carrier.roll
rolled_bare_if_form node branches None = rolled_bare_stmt (Stmt-F.If node branches None)
rolled_bare_if_form node branches (Some body) =
    rolled_bare_stmt (Stmt-F.If node branches (Some body))

rolled_case_form : (node : Node) (selector : Expr) (cases : List Case)
    (otherwise : Option (List Stmt)) (c : Counting) →
    counted_stmt (stmt.Case node selector cases otherwise) c
    ≡ turn4 stmt.Case (counted node) (counted_expr selector) (each (map counted_case cases))
    ((option_way (each_way stmt_way)).counts otherwise) c
unfolding roll-Stmt Carrier.roll
rolled_case_form node selector cases None c = rolled_stmt (Stmt-F.Case node selector cases None) c
rolled_case_form node selector cases (Some body) c =
    rolled_stmt (Stmt-F.Case node selector cases (Some body)) c

rolled_bare_case_form : (node : Node) (selector : Expr) (cases : List Case)
    (otherwise : Option (List Stmt)) →
    bare_stmt (stmt.Case node selector cases otherwise)
    ≡ stmt.Case (bare_node node) (bare_expr selector) (map bare_case cases)
    (option_map (map bare_stmt) otherwise)
unfolding roll-Stmt Carrier.roll
rolled_bare_case_form node selector cases None =
    rolled_bare_stmt (Stmt-F.Case node selector cases None)
rolled_bare_case_form node selector cases (Some body) =
    rolled_bare_stmt (Stmt-F.Case node selector cases (Some body))

-- layers of trees with what numbering does to them, and the same layers without it
abbrev HeldStmt : Type 0
HeldStmt = Stmt-F (Held stmt_way) (Held branch_way) (Held case_way)

abbrev plain_stmt : HeldStmt → Stmt-F Stmt Branch Case
plain_stmt y =
    map-Stmt (Held stmt_way) (Held branch_way) (Held case_way) Stmt Branch Case (λ e. e.0)
    (λ e. e.0) (λ e. e.0) y

abbrev HeldBranch : Type 0
HeldBranch = Branch-F (Held stmt_way) (Held branch_way) (Held case_way)

abbrev plain_branch : HeldBranch → Branch-F Stmt Branch Case
plain_branch y =
    map-Branch (Held stmt_way) (Held branch_way) (Held case_way) Stmt Branch Case (λ e. e.0)
    (λ e. e.0) (λ e. e.0) y

abbrev HeldCase : Type 0
HeldCase = Case-F (Held stmt_way) (Held branch_way) (Held case_way)

abbrev plain_case : HeldCase → Case-F Stmt Branch Case
plain_case y =
    map-Case (Held stmt_way) (Held branch_way) (Held case_way) Stmt Branch Case (λ e. e.0)
    (λ e. e.0) (λ e. e.0) y

stmt_layer_is : (y : HeldStmt) → IsCounted stmt_way (roll-Stmt (plain_stmt y))
unfolding roll-Stmt Carrier.roll
stmt_layer_is (Stmt-F.Assign node target value) =
    at3 stmt_way stmt.Assign
    (λ node target value c. rolled_stmt (Stmt-F.Assign node target value) c)
    (λ node target value. of_assign node target value)
    (λ node target value. rolled_bare_stmt (Stmt-F.Assign node target value))
    (node_is node) (path_is target) (expr_is value)
stmt_layer_is (Stmt-F.Call node name arguments) =
    at3 stmt_way stmt.Call
    (λ node name arguments c. rolled_stmt (Stmt-F.Call node name arguments) c)
    (λ node name arguments. of_call_stmt node name arguments)
    (λ node name arguments. rolled_bare_stmt (Stmt-F.Call node name arguments))
    (node_is node) (identifier_is name) (each_is stmt_argument_way stmt_argument_is arguments)
stmt_layer_is (Stmt-F.Return node) =
    at1 stmt_way stmt.Return
    (λ node c. rolled_stmt (Stmt-F.Return node) c) (λ node. of_return node)
    (λ node. rolled_bare_stmt (Stmt-F.Return node))
    (node_is node)
stmt_layer_is (Stmt-F.Exit node) =
    at1 stmt_way stmt.Exit
    (λ node c. rolled_stmt (Stmt-F.Exit node) c) (λ node. of_exit node)
    (λ node. rolled_bare_stmt (Stmt-F.Exit node))
    (node_is node)
stmt_layer_is (Stmt-F.Continue node) =
    at1 stmt_way stmt.Continue
    (λ node c. rolled_stmt (Stmt-F.Continue node) c) (λ node. of_continue node)
    (λ node. rolled_bare_stmt (Stmt-F.Continue node))
    (node_is node)
stmt_layer_is (Stmt-F.If node branches None) =
    at3 stmt_way stmt.If
    (λ node branches otherwise c. rolled_if_form node branches otherwise c)
    (λ node branches otherwise. of_if node branches otherwise)
    (λ node branches otherwise. rolled_bare_if_form node branches otherwise)
    (node_is node) (each_held branch_way branches) (option_held stmt_way None)
stmt_layer_is (Stmt-F.If node branches (Some body)) =
    at3 stmt_way stmt.If
    (λ node branches otherwise c. rolled_if_form node branches otherwise c)
    (λ node branches otherwise. of_if node branches otherwise)
    (λ node branches otherwise. rolled_bare_if_form node branches otherwise)
    (node_is node) (each_held branch_way branches) (option_held stmt_way (Some body))
stmt_layer_is (Stmt-F.Case node selector cases None) =
    at4 stmt_way stmt.Case
    (λ node selector cases otherwise c. rolled_case_form node selector cases otherwise c)
    (λ node selector cases otherwise. of_case_stmt node selector cases otherwise)
    (λ node selector cases otherwise. rolled_bare_case_form node selector cases otherwise)
    (node_is node) (expr_is selector) (each_held case_way cases) (option_held stmt_way None)
stmt_layer_is (Stmt-F.Case node selector cases (Some body)) =
    at4 stmt_way stmt.Case
    (λ node selector cases otherwise c. rolled_case_form node selector cases otherwise c)
    (λ node selector cases otherwise. of_case_stmt node selector cases otherwise)
    (λ node selector cases otherwise. rolled_bare_case_form node selector cases otherwise)
    (node_is node) (expr_is selector) (each_held case_way cases) (option_held stmt_way (Some body))
stmt_layer_is (Stmt-F.For node counter body) =
    at3 stmt_way stmt.For
    (λ node counter body c. rolled_stmt (Stmt-F.For node counter body) c)
    (λ node counter body. of_for node counter body)
    (λ node counter body. rolled_bare_stmt (Stmt-F.For node counter body))
    (node_is node) (counter_is counter) (each_held stmt_way body)
stmt_layer_is (Stmt-F.While node condition body) =
    at3 stmt_way stmt.While
    (λ node condition body c. rolled_stmt (Stmt-F.While node condition body) c)
    (λ node condition body. of_while node condition body)
    (λ node condition body. rolled_bare_stmt (Stmt-F.While node condition body))
    (node_is node) (expr_is condition) (each_held stmt_way body)
stmt_layer_is (Stmt-F.Repeat node body condition) =
    at3 stmt_way stmt.Repeat
    (λ node body condition c. rolled_stmt (Stmt-F.Repeat node body condition) c)
    (λ node body condition. of_repeat node body condition)
    (λ node body condition. rolled_bare_stmt (Stmt-F.Repeat node body condition))
    (node_is node) (each_held stmt_way body) (expr_is condition)

branch_layer_is : (y : HeldBranch) → IsCounted branch_way (roll-Branch (plain_branch y))
branch_layer_is y = rw (rolls-Branch' (plain_branch y))
    (at2 branch_way (λ condition body. record { condition = condition; body = body })
    (λ condition body c. rolled_branch (record { condition = condition; body = body }) c)
    (λ condition body. of_branch condition body)
    (λ condition body. rolled_bare_branch (record { condition = condition; body = body }))
    (expr_is y.condition) (each_held stmt_way y.body))

case_layer_is : (y : HeldCase) → IsCounted case_way (roll-Case (plain_case y))
case_layer_is y = rw (rolls-Case' (plain_case y))
    (at2 case_way (λ labels body. record { labels = labels; body = body })
    (λ labels body c. rolled_case (record { labels = labels; body = body }) c)
    (λ labels body. of_case labels body)
    (λ labels body. rolled_bare_case (record { labels = labels; body = body }))
    (each_is label_way label_is y.labels) (each_held stmt_way y.body))

pub stmt_is : (x : Stmt) → IsCounted stmt_way x
stmt_is = ind-Stmt (IsCounted stmt_way) (IsCounted branch_way) (IsCounted case_way)
    (λ x y is. subst (λ z. IsCounted stmt_way (roll-Stmt z)) is (stmt_layer_is y))
    (λ x y is. subst (λ z. IsCounted branch_way (roll-Branch z)) is (branch_layer_is y))
    (λ x y is. subst (λ z. IsCounted case_way (roll-Case z)) is (case_layer_is y))
