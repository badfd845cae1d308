-- What numbering does to expressions.
use Rattle.std.proofs.Common.{refl, subst}
use denote.Hole.Carrier
use Rattle.st_tree.specs.declared.expression.Identifier.{Identifier}
use Rattle.st_tree.specs.declared.expression.Address.{Address}
use Rattle.st_tree.specs.declared.expression.Root.{Root}
use Rattle.st_tree.specs.declared.expression.Root.TheVariants as root
use Rattle.st_tree.specs.declared.expression.Expr.{Expr, roll-Expr, map-Expr, ind-Expr}
use Rattle.st_tree.specs.declared.expression.Expr.TheVariants as expr
use Rattle.st_tree.specs.declared.expression.Expr.TheOpen.{Expr-F, Part-F, Argument-F, Path-F}
use Rattle.st_tree.specs.declared.expression.Part.{Part, roll-Part, map-Part}
use Rattle.st_tree.specs.declared.expression.Part.TheVariants as part
use Rattle.st_tree.specs.declared.expression.Argument.{Argument, roll-Argument, rolls-Argument', map-Argument}
use Rattle.st_tree.specs.declared.expression.Path.{Path, roll-Path, rolls-Path', map-Path, ind-Path}
use Rattle.tree_numbers.specs.NodeLists.{nodes_of_identifier, nodes_of_address, nodes_of_root, nodes_of_expr, nodes_of_part, nodes_of_argument, nodes_of_path}
use Rattle.tree_numbers.specs.Bare.{bare_identifier, bare_address, bare_root, bare_expr, bare_part, bare_argument, bare_path}
use Rattle.tree_numbers.specs.steps.Counted.{counted_identifier, counted_address, counted_root, counted_expr, counted_part, counted_argument, counted_path}
use Rattle.tree_numbers.proofs.NodeEquations.{of_argument, of_binary, of_call, of_field_part, of_index, of_number, of_parenthesized, of_path, of_time, of_truth, of_typed, of_unary, of_value, of_whole_path}
use Rattle.tree_numbers.proofs.CountedEquations.{rolled_expr, rolled_part, rolled_argument, rolled_path}
use Rattle.tree_numbers.proofs.BareEquations.{rolled_bare_expr, rolled_bare_part, rolled_bare_argument, rolled_bare_path}
use Rattle.tree_numbers.proofs.Numbering.{Way, IsCounted, Held, node_is, at1, at2, at3, option_is, each_held}

abbrev pub identifier_way : Way Identifier
identifier_way =
    record { counts = counted_identifier; nodes = nodes_of_identifier; bare = bare_identifier }

pub identifier_is : (x : Identifier) → IsCounted identifier_way x
identifier_is x =
    at1 identifier_way (λ node. record { node = node; name = x.name })
    (λ node c. refl) (λ node. refl) (λ node. refl)
    (node_is x.node)

abbrev pub address_way : Way Address
address_way = record { counts = counted_address; nodes = nodes_of_address; bare = bare_address }

pub address_is : (x : Address) → IsCounted address_way x
address_is x =
    at1 address_way (λ node. record { node = node; name = x.name })
    (λ node c. refl) (λ node. refl) (λ node. refl)
    (node_is x.node)

abbrev pub root_way : Way Root
root_way = record { counts = counted_root; nodes = nodes_of_root; bare = bare_root }

pub root_is : (x : Root) → IsCounted root_way x
root_is (Root.Name name) =
    at1 root_way root.Name
    (λ name c. refl) (λ name. refl) (λ name. refl)
    (identifier_is name)
root_is (Root.Address address) =
    at1 root_way root.Address
    (λ address c. refl) (λ address. refl) (λ address. refl)
    (address_is address)

abbrev pub expr_way : Way Expr
expr_way = record { counts = counted_expr; nodes = nodes_of_expr; bare = bare_expr }

abbrev pub part_way : Way Part
part_way = record { counts = counted_part; nodes = nodes_of_part; bare = bare_part }

abbrev pub argument_way : Way Argument
argument_way = record { counts = counted_argument; nodes = nodes_of_argument; bare = bare_argument }

abbrev pub path_way : Way Path
path_way = record { counts = counted_path; nodes = nodes_of_path; bare = bare_path }

-- layers of trees with what numbering does to them, and the same layers without it
abbrev HeldExpr : Type 0
HeldExpr = Expr-F (Held expr_way) (Held part_way) (Held argument_way) (Held path_way)

abbrev plain_expr : HeldExpr → Expr-F Expr Part Argument Path
plain_expr y =
    map-Expr (Held expr_way) (Held part_way) (Held argument_way) (Held path_way) Expr Part Argument
    Path (λ e. e.0) (λ e. e.0) (λ e. e.0) (λ e. e.0) y

abbrev HeldPart : Type 0
HeldPart = Part-F (Held expr_way) (Held part_way) (Held argument_way) (Held path_way)

abbrev plain_part : HeldPart → Part-F Expr Part Argument Path
plain_part y =
    map-Part (Held expr_way) (Held part_way) (Held argument_way) (Held path_way) Expr Part Argument
    Path (λ e. e.0) (λ e. e.0) (λ e. e.0) (λ e. e.0) y

abbrev HeldArgument : Type 0
HeldArgument = Argument-F (Held expr_way) (Held part_way) (Held argument_way) (Held path_way)

abbrev plain_argument : HeldArgument → Argument-F Expr Part Argument Path
plain_argument y =
    map-Argument (Held expr_way) (Held part_way) (Held argument_way) (Held path_way) Expr Part
    Argument Path (λ e. e.0) (λ e. e.0) (λ e. e.0) (λ e. e.0) y

abbrev HeldPath : Type 0
HeldPath = Path-F (Held expr_way) (Held part_way) (Held argument_way) (Held path_way)

abbrev plain_path : HeldPath → Path-F Expr Part Argument Path
plain_path y =
    map-Path (Held expr_way) (Held part_way) (Held argument_way) (Held path_way) Expr Part Argument
    Path (λ e. e.0) (λ e. e.0) (λ e. e.0) (λ e. e.0) y

expr_layer_is : (y : HeldExpr) → IsCounted expr_way (roll-Expr (plain_expr y))
unfolding roll-Expr Carrier.roll
expr_layer_is (Expr-F.Number node minus text) =
    at1 expr_way (λ node. expr.Number node minus text)
    (λ node c. rolled_expr (Expr-F.Number node minus text) c) (λ node. of_number node minus text)
    (λ node. rolled_bare_expr (Expr-F.Number node minus text))
    (node_is node)
expr_layer_is (Expr-F.Typed node text) =
    at1 expr_way (λ node. expr.Typed node text)
    (λ node c. rolled_expr (Expr-F.Typed node text) c) (λ node. of_typed node text)
    (λ node. rolled_bare_expr (Expr-F.Typed node text))
    (node_is node)
expr_layer_is (Expr-F.Time node text) =
    at1 expr_way (λ node. expr.Time node text)
    (λ node c. rolled_expr (Expr-F.Time node text) c) (λ node. of_time node text)
    (λ node. rolled_bare_expr (Expr-F.Time node text))
    (node_is node)
expr_layer_is (Expr-F.Truth node truth) =
    at1 expr_way (λ node. expr.Truth node truth)
    (λ node c. rolled_expr (Expr-F.Truth node truth) c) (λ node. of_truth node truth)
    (λ node. rolled_bare_expr (Expr-F.Truth node truth))
    (node_is node)
expr_layer_is (Expr-F.Path path) =
    at1 expr_way expr.Path
    (λ path c. rolled_expr (Expr-F.Path path) c) (λ path. of_path path)
    (λ path. rolled_bare_expr (Expr-F.Path path))
    path.1
expr_layer_is (Expr-F.Value node name value) =
    at3 expr_way expr.Value
    (λ node name value c. rolled_expr (Expr-F.Value node name value) c)
    (λ node name value. of_value node name value)
    (λ node name value. rolled_bare_expr (Expr-F.Value node name value))
    (node_is node) (identifier_is name) (identifier_is value)
expr_layer_is (Expr-F.Parenthesized node inner) =
    at2 expr_way expr.Parenthesized
    (λ node inner c. rolled_expr (Expr-F.Parenthesized node inner) c)
    (λ node inner. of_parenthesized node inner)
    (λ node inner. rolled_bare_expr (Expr-F.Parenthesized node inner))
    (node_is node) inner.1
expr_layer_is (Expr-F.Unary node operator operand) =
    at2 expr_way (λ node operand. expr.Unary node operator operand)
    (λ node operand c. rolled_expr (Expr-F.Unary node operator operand) c)
    (λ node operand. of_unary node operator operand)
    (λ node operand. rolled_bare_expr (Expr-F.Unary node operator operand))
    (node_is node) operand.1
expr_layer_is (Expr-F.Binary node operator left right) =
    at3 expr_way (λ node left right. expr.Binary node operator left right)
    (λ node left right c. rolled_expr (Expr-F.Binary node operator left right) c)
    (λ node left right. of_binary node operator left right)
    (λ node left right. rolled_bare_expr (Expr-F.Binary node operator left right))
    (node_is node) left.1 right.1
expr_layer_is (Expr-F.Call node name arguments) =
    at3 expr_way expr.Call
    (λ node name arguments c. rolled_expr (Expr-F.Call node name arguments) c)
    (λ node name arguments. of_call node name arguments)
    (λ node name arguments. rolled_bare_expr (Expr-F.Call node name arguments))
    (node_is node) (identifier_is name) (each_held argument_way arguments)

part_layer_is : (y : HeldPart) → IsCounted part_way (roll-Part (plain_part y))
unfolding roll-Part Carrier.roll
part_layer_is (Part-F.Field name) =
    at1 part_way part.Field
    (λ name c. rolled_part (Part-F.Field name) c) (λ name. of_field_part name)
    (λ name. rolled_bare_part (Part-F.Field name))
    (identifier_is name)
part_layer_is (Part-F.Index node indices) =
    at2 part_way part.Index
    (λ node indices c. rolled_part (Part-F.Index node indices) c)
    (λ node indices. of_index node indices)
    (λ node indices. rolled_bare_part (Part-F.Index node indices))
    (node_is node) (each_held expr_way indices)

argument_layer_is : (y : HeldArgument) → IsCounted argument_way (roll-Argument (plain_argument y))
argument_layer_is y = rw (rolls-Argument' (plain_argument y))
    (at3 argument_way (λ node name value. record { node = node; name = name; value = value })
    (λ node name value c. rolled_argument (record { node = node; name = name; value = value }) c)
    (λ node name value. of_argument node name value)
    (λ node name value. rolled_bare_argument
    (record { node = node; name = name; value = value }))
    (node_is y.node) (option_is identifier_way identifier_is y.name) y.value.1)

path_layer_is : (y : HeldPath) → IsCounted path_way (roll-Path (plain_path y))
path_layer_is y = rw (rolls-Path' (plain_path y))
    (at3 path_way (λ node root parts. record { node = node; root = root; parts = parts })
    (λ node root parts c. rolled_path (record { node = node; root = root; parts = parts }) c)
    (λ node root parts. of_whole_path node root parts)
    (λ node root parts. rolled_bare_path (record { node = node; root = root; parts = parts }))
    (node_is y.node) (root_is y.root) (each_held part_way y.parts))

pub expr_is : (x : Expr) → IsCounted expr_way x
expr_is =
    ind-Expr (IsCounted expr_way) (IsCounted part_way) (IsCounted argument_way) (IsCounted path_way)
    (λ x y is. subst (λ z. IsCounted expr_way (roll-Expr z)) is (expr_layer_is y))
    (λ x y is. subst (λ z. IsCounted part_way (roll-Part z)) is (part_layer_is y))
    (λ x y is. subst (λ z. IsCounted argument_way (roll-Argument z)) is (argument_layer_is y))
    (λ x y is. subst (λ z. IsCounted path_way (roll-Path z)) is (path_layer_is y))

pub path_is : (x : Path) → IsCounted path_way x
path_is =
    ind-Path (IsCounted expr_way) (IsCounted part_way) (IsCounted argument_way) (IsCounted path_way)
    (λ x y is. subst (λ z. IsCounted expr_way (roll-Expr z)) is (expr_layer_is y))
    (λ x y is. subst (λ z. IsCounted part_way (roll-Part z)) is (part_layer_is y))
    (λ x y is. subst (λ z. IsCounted argument_way (roll-Argument z)) is (argument_layer_is y))
    (λ x y is. subst (λ z. IsCounted path_way (roll-Path z)) is (path_layer_is y))
