-- The list of nodes of each kind of tree that holds trees of its own kind: what its definition
-- gives for each of its forms. For the other trees these equations hold by the definitions.
use Rattle.std.proofs.Common.{◌≡◌, List, [], ◌∷◌, ◌++◌, map, Option, Some, None, Bool, ℕ, sym, ap, ◌∙◌}
use Rattle.std.specs.Prelude.{flat_map}
use Rattle.std.proofs.lemmas.List.Folds.{flat_map-map}
use denote.Hole.Carrier
use Rattle.st_tree.specs.declared.node.Node.{Node}
use Rattle.st_tree.specs.declared.expression.Identifier.{Identifier}
use Rattle.st_tree.specs.declared.expression.Root.{Root}
use Rattle.st_tree.specs.declared.expression.UnaryOperator.{UnaryOperator}
use Rattle.st_tree.specs.declared.expression.BinaryOperator.{BinaryOperator}
use Rattle.st_tree.specs.declared.expression.Expr.{Expr, roll-Expr, fold-roll-Expr, map-Expr}
use Rattle.st_tree.specs.declared.expression.Expr.TheVariants as expr
use Rattle.st_tree.specs.declared.expression.Expr.TheOpen.{Expr-F, Part-F, Argument-F, Path-F}
use Rattle.st_tree.specs.declared.expression.Argument.{Argument, rolls-Argument', fold-roll-Argument, map-Argument}
use Rattle.st_tree.specs.declared.expression.Path.{Path, rolls-Path', fold-roll-Path, map-Path}
use Rattle.st_tree.specs.declared.expression.Part.{Part, roll-Part, fold-roll-Part, map-Part}
use Rattle.st_tree.specs.declared.expression.Part.TheVariants as part
use Rattle.st_tree.specs.declared.statement.Stmt.{Stmt, roll-Stmt, fold-roll-Stmt, map-Stmt}
use Rattle.st_tree.specs.declared.statement.Stmt.TheVariants as stmt
use Rattle.st_tree.specs.declared.statement.Stmt.TheOpen.{Stmt-F, Branch-F, Case-F}
use Rattle.st_tree.specs.declared.statement.Branch.{Branch, rolls-Branch', fold-roll-Branch, map-Branch}
use Rattle.st_tree.specs.declared.statement.Case.{Case, rolls-Case', fold-roll-Case, map-Case}
use Rattle.st_tree.specs.declared.statement.Counter.{Counter}
use Rattle.st_tree.specs.declared.statement.Label.{Label}
use Rattle.st_tree.specs.declared.statement.StmtArgument.{StmtArgument}
use Rattle.st_tree.specs.declared.declaration.TypeName.{TypeName}
use Rattle.st_tree.specs.declared.declaration.Range.{Range}
use Rattle.st_tree.specs.declared.declaration.Spec.{Spec, roll-Spec, fold-roll-Spec, map-Spec}
use Rattle.st_tree.specs.declared.declaration.Spec.TheVariants as specs
use Rattle.st_tree.specs.declared.declaration.Spec.TheOpen.{Spec-F}
use Rattle.st_tree.specs.declared.declaration.Init.{Init, roll-Init, fold-roll-Init, map-Init}
use Rattle.st_tree.specs.declared.declaration.Init.TheVariants as inits
use Rattle.st_tree.specs.declared.declaration.Init.TheOpen.{Init-F, Item-F, FieldInit-F}
use Rattle.st_tree.specs.declared.declaration.Item.{Item, roll-Item, fold-roll-Item, map-Item}
use Rattle.st_tree.specs.declared.declaration.Item.TheVariants as items
use Rattle.st_tree.specs.declared.declaration.FieldInit.{FieldInit, rolls-FieldInit', fold-roll-FieldInit, map-FieldInit}
use Rattle.tree_numbers.specs.NodeLists.{nodes_if, joined, nodes_of_identifier, nodes_of_root, expr_nodes, part_nodes, argument_nodes, path_nodes, nodes_of_expr, nodes_of_part, nodes_of_argument, nodes_of_path, nodes_of_label, nodes_of_stmt_argument, nodes_of_counter, stmt_nodes, branch_nodes, case_nodes, nodes_of_stmt, nodes_of_branch, nodes_of_case, nodes_of_stmts, nodes_of_type_name, nodes_of_range, spec_nodes, nodes_of_spec, init_nodes, item_nodes, field_nodes, nodes_of_init, nodes_of_item, nodes_of_field}

-- the lists of the parts, one behind the other
joins : {A : Type 0} (nodes : A → List Node) (xs : List A) → joined (map nodes xs)
    ≡ flat_map nodes xs
joins nodes xs = flat_map-map (λ (ns : List Node). ns) nodes xs

-- Expressions
rolled_expr : (y : Expr-F Expr Part Argument Path) → nodes_of_expr (roll-Expr y)
    ≡ expr_nodes
    (map-Expr Expr Part Argument Path (List Node) (List Node) (List Node) (List Node) nodes_of_expr
    nodes_of_part nodes_of_argument nodes_of_path y)
unfolding nodes_of_expr nodes_of_part nodes_of_argument nodes_of_path
rolled_expr y =
    fold-roll-Expr (List Node) (List Node) (List Node) (List Node) expr_nodes part_nodes
    argument_nodes path_nodes y

rolled_part : (y : Part-F Expr Part Argument Path) → nodes_of_part (roll-Part y)
    ≡ part_nodes
    (map-Part Expr Part Argument Path (List Node) (List Node) (List Node) (List Node) nodes_of_expr
    nodes_of_part nodes_of_argument nodes_of_path y)
unfolding nodes_of_expr nodes_of_part nodes_of_argument nodes_of_path
rolled_part y =
    fold-roll-Part (List Node) (List Node) (List Node) (List Node) expr_nodes part_nodes
    argument_nodes path_nodes y

rolled_argument : (y : Argument-F Expr Part Argument Path) →
    nodes_of_argument (record { node = y.node; name = y.name; value = y.value })
    ≡ argument_nodes
    (map-Argument Expr Part Argument Path (List Node) (List Node) (List Node) (List Node)
    nodes_of_expr nodes_of_part nodes_of_argument nodes_of_path y)
unfolding nodes_of_expr nodes_of_part nodes_of_argument nodes_of_path
rolled_argument y = ap nodes_of_argument (sym (rolls-Argument' y))
    ∙ fold-roll-Argument (List Node) (List Node) (List Node) (List Node) expr_nodes part_nodes
    argument_nodes path_nodes y

rolled_path : (y : Path-F Expr Part Argument Path) →
    nodes_of_path (record { node = y.node; root = y.root; parts = y.parts })
    ≡ path_nodes
    (map-Path Expr Part Argument Path (List Node) (List Node) (List Node) (List Node) nodes_of_expr
    nodes_of_part nodes_of_argument nodes_of_path y)
unfolding nodes_of_expr nodes_of_part nodes_of_argument nodes_of_path
rolled_path y = ap nodes_of_path (sym (rolls-Path' y))
    ∙ fold-roll-Path (List Node) (List Node) (List Node) (List Node) expr_nodes part_nodes
    argument_nodes path_nodes y

pub of_number : (node : Node) (minus : Bool) (text : List ℕ) →
    nodes_of_expr (expr.Number node minus text) ≡ node ∷ []
unfolding roll-Expr Carrier.roll
of_number node minus text = rolled_expr (Expr-F.Number node minus text)

pub of_typed : (node : Node) (text : List ℕ) → nodes_of_expr (expr.Typed node text) ≡ node ∷ []
unfolding roll-Expr Carrier.roll
of_typed node text = rolled_expr (Expr-F.Typed node text)

pub of_time : (node : Node) (text : List ℕ) → nodes_of_expr (expr.Time node text) ≡ node ∷ []
unfolding roll-Expr Carrier.roll
of_time node text = rolled_expr (Expr-F.Time node text)

pub of_truth : (node : Node) (truth : Bool) → nodes_of_expr (expr.Truth node truth) ≡ node ∷ []
unfolding roll-Expr Carrier.roll
of_truth node truth = rolled_expr (Expr-F.Truth node truth)

pub of_path : (path : Path) → nodes_of_expr (expr.Path path) ≡ nodes_of_path path
unfolding roll-Expr Carrier.roll
of_path path = rolled_expr (Expr-F.Path path)

pub of_value : (node : Node) (name value : Identifier) → nodes_of_expr (expr.Value node name value)
    ≡ node ∷ (nodes_of_identifier name ++ nodes_of_identifier value)
unfolding roll-Expr Carrier.roll
of_value node name value = rolled_expr (Expr-F.Value node name value)

pub of_parenthesized : (node : Node) (inner : Expr) → nodes_of_expr (expr.Parenthesized node inner)
    ≡ node ∷ nodes_of_expr inner
unfolding roll-Expr Carrier.roll
of_parenthesized node inner = rolled_expr (Expr-F.Parenthesized node inner)

pub of_unary : (node : Node) (operator : UnaryOperator) (operand : Expr) →
    nodes_of_expr (expr.Unary node operator operand) ≡ node ∷ nodes_of_expr operand
unfolding roll-Expr Carrier.roll
of_unary node operator operand = rolled_expr (Expr-F.Unary node operator operand)

pub of_binary : (node : Node) (operator : BinaryOperator) (left right : Expr) →
    nodes_of_expr (expr.Binary node operator left right)
    ≡ node ∷ (nodes_of_expr left ++ nodes_of_expr right)
unfolding roll-Expr Carrier.roll
of_binary node operator left right = rolled_expr (Expr-F.Binary node operator left right)

pub of_call : (node : Node) (name : Identifier) (arguments : List Argument) →
    nodes_of_expr (expr.Call node name arguments)
    ≡ node ∷ (nodes_of_identifier name ++ flat_map nodes_of_argument arguments)
unfolding roll-Expr Carrier.roll
of_call node name arguments = rolled_expr (Expr-F.Call node name arguments)
    ∙ ap (λ (ns : List Node). node ∷ (nodes_of_identifier name ++ ns))
    (joins nodes_of_argument arguments)

pub of_field_part : (name : Identifier) → nodes_of_part (part.Field name) ≡ nodes_of_identifier name
unfolding roll-Part Carrier.roll
of_field_part name = rolled_part (Part-F.Field name)

pub of_index : (node : Node) (indices : List Expr) → nodes_of_part (part.Index node indices)
    ≡ node ∷ flat_map nodes_of_expr indices
unfolding roll-Part Carrier.roll
of_index node indices = rolled_part (Part-F.Index node indices)
    ∙ ap (λ (ns : List Node). node ∷ ns) (joins nodes_of_expr indices)

pub of_argument : (node : Node) (name : Option Identifier) (value : Expr) →
    nodes_of_argument (record { node = node; name = name; value = value })
    ≡ node ∷ (nodes_if nodes_of_identifier name ++ nodes_of_expr value)
of_argument node name value = rolled_argument (record { node = node; name = name; value = value })

pub of_whole_path : (node : Node) (root : Root) (parts : List Part) →
    nodes_of_path (record { node = node; root = root; parts = parts })
    ≡ node ∷ (nodes_of_root root ++ flat_map nodes_of_part parts)
of_whole_path node root parts = rolled_path (record { node = node; root = root; parts = parts })
    ∙ ap (λ (ns : List Node). node ∷ (nodes_of_root root ++ ns)) (joins nodes_of_part parts)

-- Statements
rolled_stmt : (y : Stmt-F Stmt Branch Case) → nodes_of_stmt (roll-Stmt y)
    ≡ stmt_nodes
    (map-Stmt Stmt Branch Case (List Node) (List Node) (List Node) nodes_of_stmt nodes_of_branch
    nodes_of_case y)
unfolding nodes_of_stmt nodes_of_branch nodes_of_case
rolled_stmt y =
    fold-roll-Stmt (List Node) (List Node) (List Node) stmt_nodes branch_nodes case_nodes y

rolled_branch : (y : Branch-F Stmt Branch Case) →
    nodes_of_branch (record { condition = y.condition; body = y.body })
    ≡ branch_nodes
    (map-Branch Stmt Branch Case (List Node) (List Node) (List Node) nodes_of_stmt nodes_of_branch
    nodes_of_case y)
unfolding nodes_of_stmt nodes_of_branch nodes_of_case
rolled_branch y = ap nodes_of_branch (sym (rolls-Branch' y))
    ∙ fold-roll-Branch (List Node) (List Node) (List Node) stmt_nodes branch_nodes case_nodes y

rolled_case : (y : Case-F Stmt Branch Case) →
    nodes_of_case (record { labels = y.labels; body = y.body })
    ≡ case_nodes
    (map-Case Stmt Branch Case (List Node) (List Node) (List Node) nodes_of_stmt nodes_of_branch
    nodes_of_case y)
unfolding nodes_of_stmt nodes_of_branch nodes_of_case
rolled_case y = ap nodes_of_case (sym (rolls-Case' y))
    ∙ fold-roll-Case (List Node) (List Node) (List Node) stmt_nodes branch_nodes case_nodes y

pub of_assign : (node : Node) (target : Path) (value : Expr) →
    nodes_of_stmt (stmt.Assign node target value)
    ≡ node ∷ (nodes_of_path target ++ nodes_of_expr value)
unfolding roll-Stmt Carrier.roll
of_assign node target value = rolled_stmt (Stmt-F.Assign node target value)

pub of_call_stmt : (node : Node) (name : Identifier) (arguments : List StmtArgument) →
    nodes_of_stmt (stmt.Call node name arguments)
    ≡ node ∷ (nodes_of_identifier name ++ flat_map nodes_of_stmt_argument arguments)
unfolding roll-Stmt Carrier.roll
of_call_stmt node name arguments = rolled_stmt (Stmt-F.Call node name arguments)

pub of_return : (node : Node) → nodes_of_stmt (stmt.Return node) ≡ node ∷ []
unfolding roll-Stmt Carrier.roll
of_return node = rolled_stmt (Stmt-F.Return node)

pub of_exit : (node : Node) → nodes_of_stmt (stmt.Exit node) ≡ node ∷ []
unfolding roll-Stmt Carrier.roll
of_exit node = rolled_stmt (Stmt-F.Exit node)

pub of_continue : (node : Node) → nodes_of_stmt (stmt.Continue node) ≡ node ∷ []
unfolding roll-Stmt Carrier.roll
of_continue node = rolled_stmt (Stmt-F.Continue node)

pub of_if : (node : Node) (branches : List Branch) (otherwise : Option (List Stmt)) →
    nodes_of_stmt (stmt.If node branches otherwise)
    ≡ node ∷ (flat_map nodes_of_branch branches ++ nodes_if nodes_of_stmts otherwise)
unfolding roll-Stmt Carrier.roll
of_if node branches None =
    rolled_stmt (Stmt-F.If node branches None)
    ∙ ap (λ (ns : List Node). node ∷ (ns ++ [])) (joins nodes_of_branch branches)
of_if node branches (Some body) =
    rolled_stmt (Stmt-F.If node branches (Some body))
    ∙ ap (λ (ns : List Node). node ∷ (ns ++ joined (map nodes_of_stmt body)))
    (joins nodes_of_branch branches)
    ∙ ap (λ (ns : List Node). node ∷ (flat_map nodes_of_branch branches ++ ns))
    (joins nodes_of_stmt body)

pub of_case_stmt : (node : Node) (selector : Expr) (cases : List Case)
    (otherwise : Option (List Stmt)) → nodes_of_stmt (stmt.Case node selector cases otherwise)
    ≡ node ∷ (nodes_of_expr selector
    ++ (flat_map nodes_of_case cases ++ nodes_if nodes_of_stmts otherwise))
unfolding roll-Stmt Carrier.roll
of_case_stmt node selector cases None =
    rolled_stmt (Stmt-F.Case node selector cases None)
    ∙ ap (λ (ns : List Node). node ∷ (nodes_of_expr selector ++ (ns ++ [])))
    (joins nodes_of_case cases)
of_case_stmt node selector cases (Some body) =
    rolled_stmt (Stmt-F.Case node selector cases (Some body))
    ∙ ap
    (λ (ns : List Node).
    node ∷ (nodes_of_expr selector ++ (ns ++ joined (map nodes_of_stmt body))))
    (joins nodes_of_case cases)
    ∙ ap
    (λ (ns : List Node). node ∷ (nodes_of_expr selector ++ (flat_map nodes_of_case cases ++ ns)))
    (joins nodes_of_stmt body)

pub of_for : (node : Node) (counter : Counter) (body : List Stmt) →
    nodes_of_stmt (stmt.For node counter body)
    ≡ node ∷ (nodes_of_counter counter ++ nodes_of_stmts body)
unfolding roll-Stmt Carrier.roll
of_for node counter body = rolled_stmt (Stmt-F.For node counter body)
    ∙ ap (λ (ns : List Node). node ∷ (nodes_of_counter counter ++ ns)) (joins nodes_of_stmt body)

pub of_while : (node : Node) (condition : Expr) (body : List Stmt) →
    nodes_of_stmt (stmt.While node condition body)
    ≡ node ∷ (nodes_of_expr condition ++ nodes_of_stmts body)
unfolding roll-Stmt Carrier.roll
of_while node condition body = rolled_stmt (Stmt-F.While node condition body)
    ∙ ap (λ (ns : List Node). node ∷ (nodes_of_expr condition ++ ns)) (joins nodes_of_stmt body)

pub of_repeat : (node : Node) (body : List Stmt) (condition : Expr) →
    nodes_of_stmt (stmt.Repeat node body condition)
    ≡ node ∷ (nodes_of_stmts body ++ nodes_of_expr condition)
unfolding roll-Stmt Carrier.roll
of_repeat node body condition = rolled_stmt (Stmt-F.Repeat node body condition)
    ∙ ap (λ (ns : List Node). node ∷ (ns ++ nodes_of_expr condition)) (joins nodes_of_stmt body)

pub of_branch : (condition : Expr) (body : List Stmt) →
    nodes_of_branch (record { condition = condition; body = body }) ≡ nodes_of_expr condition
    ++ nodes_of_stmts body
of_branch condition body = rolled_branch (record { condition = condition; body = body })
    ∙ ap (λ (ns : List Node). nodes_of_expr condition ++ ns) (joins nodes_of_stmt body)

pub of_case : (labels : List Label) (body : List Stmt) →
    nodes_of_case (record { labels = labels; body = body }) ≡ flat_map nodes_of_label labels
    ++ nodes_of_stmts body
of_case labels body = rolled_case (record { labels = labels; body = body })
    ∙ ap (λ (ns : List Node). flat_map nodes_of_label labels ++ ns) (joins nodes_of_stmt body)

-- Declarations
rolled_spec : (y : Spec-F Spec) → nodes_of_spec (roll-Spec y)
    ≡ spec_nodes (map-Spec Spec (List Node) nodes_of_spec y)
unfolding nodes_of_spec
rolled_spec y = fold-roll-Spec (List Node) spec_nodes y

pub of_type : (node : Node) (name : TypeName) (limits : Option Range) →
    nodes_of_spec (specs.«Type» node name limits)
    ≡ node ∷ (nodes_of_type_name name ++ nodes_if nodes_of_range limits)
unfolding roll-Spec Carrier.roll
of_type node name limits = rolled_spec (Spec-F.«Type» node name limits)

pub of_enumeration : (node : Node) (values : List Identifier) →
    nodes_of_spec (specs.Enumeration node values) ≡ node ∷ flat_map nodes_of_identifier values
unfolding roll-Spec Carrier.roll
of_enumeration node values = rolled_spec (Spec-F.Enumeration node values)

pub of_array : (node : Node) (ranges : List Range) (element : Spec) →
    nodes_of_spec (specs.Array node ranges element)
    ≡ node ∷ (flat_map nodes_of_range ranges ++ nodes_of_spec element)
unfolding roll-Spec Carrier.roll
of_array node ranges element = rolled_spec (Spec-F.Array node ranges element)

rolled_init : (y : Init-F Init Item FieldInit) → nodes_of_init (roll-Init y)
    ≡ init_nodes
    (map-Init Init Item FieldInit (List Node) (List Node) (List Node) nodes_of_init nodes_of_item
    nodes_of_field y)
unfolding nodes_of_init nodes_of_item nodes_of_field
rolled_init y =
    fold-roll-Init (List Node) (List Node) (List Node) init_nodes item_nodes field_nodes y

rolled_item : (y : Item-F Init Item FieldInit) → nodes_of_item (roll-Item y)
    ≡ item_nodes
    (map-Item Init Item FieldInit (List Node) (List Node) (List Node) nodes_of_init nodes_of_item
    nodes_of_field y)
unfolding nodes_of_init nodes_of_item nodes_of_field
rolled_item y =
    fold-roll-Item (List Node) (List Node) (List Node) init_nodes item_nodes field_nodes y

rolled_field : (y : FieldInit-F Init Item FieldInit) →
    nodes_of_field (record { node = y.node; name = y.name; value = y.value })
    ≡ field_nodes
    (map-FieldInit Init Item FieldInit (List Node) (List Node) (List Node) nodes_of_init
    nodes_of_item nodes_of_field y)
unfolding nodes_of_init nodes_of_item nodes_of_field
rolled_field y = ap nodes_of_field (sym (rolls-FieldInit' y))
    ∙ fold-roll-FieldInit (List Node) (List Node) (List Node) init_nodes item_nodes field_nodes y

pub of_plain_value : (value : Expr) → nodes_of_init (inits.Value value) ≡ nodes_of_expr value
unfolding roll-Init Carrier.roll
of_plain_value value = rolled_init (Init-F.Value value)

pub of_elements : (node : Node) (elements : List Item) → nodes_of_init (inits.Array node elements)
    ≡ node ∷ flat_map nodes_of_item elements
unfolding roll-Init Carrier.roll
of_elements node elements = rolled_init (Init-F.Array node elements)
    ∙ ap (λ (ns : List Node). node ∷ ns) (joins nodes_of_item elements)

pub of_structure : (node : Node) (fields : List FieldInit) →
    nodes_of_init (inits.Structure node fields) ≡ node ∷ flat_map nodes_of_field fields
unfolding roll-Init Carrier.roll
of_structure node fields = rolled_init (Init-F.Structure node fields)
    ∙ ap (λ (ns : List Node). node ∷ ns) (joins nodes_of_field fields)

pub of_one : (value : Init) → nodes_of_item (items.One value) ≡ nodes_of_init value
unfolding roll-Item Carrier.roll
of_one value = rolled_item (Item-F.One value)

pub of_repeated : (node : Node) (count : List ℕ) (value : Init) →
    nodes_of_item (items.Repeated node count value) ≡ node ∷ nodes_of_init value
unfolding roll-Item Carrier.roll
of_repeated node count value = rolled_item (Item-F.Repeated node count value)

pub of_field : (node : Node) (name : Identifier) (value : Init) →
    nodes_of_field (record { node = node; name = name; value = value })
    ≡ node ∷ (nodes_of_identifier name ++ nodes_of_init value)
of_field node name value = rolled_field (record { node = node; name = name; value = value })
