-- A tree with all numbers 0 has the same text, and the same trees directly within it with all
-- numbers 0.
use Rattle.std.proofs.Common.{◌≡◌, List, [], ◌∷◌, ◌++◌, map, Option, Some, None, refl, sym, ap}
use Rattle.std.proofs.Common.{subst, ◌∙◌}
use Rattle.std.specs.Option.{option_map}
use Rattle.std.proofs.lemmas.List.{map-append}
use Rattle.st_tree.specs.declared.expression.Root.{Root}
use Rattle.st_tree.specs.declared.expression.Root.TheVariants as roots
use Rattle.st_tree.specs.declared.expression.Expr.{Expr, out-Expr, roll-out-Expr, map-Expr}
use Rattle.st_tree.specs.declared.expression.Expr.TheVariants as expr
use Rattle.st_tree.specs.declared.expression.Expr.TheOpen.{Expr-F, Part-F, Argument-F, Path-F}
use Rattle.st_tree.specs.declared.expression.Part.{Part, out-Part, roll-out-Part, map-Part}
use Rattle.st_tree.specs.declared.expression.Part.TheVariants as part
use Rattle.st_tree.specs.declared.expression.Argument.{Argument, out-Argument, out-roll-Argument}
use Rattle.st_tree.specs.declared.expression.Argument.{rolls-Argument', is-Argument'}
use Rattle.st_tree.specs.declared.expression.Path.{Path, out-Path, out-roll-Path, rolls-Path'}
use Rattle.st_tree.specs.declared.expression.Path.{is-Path'}
use Rattle.st_tree.specs.declared.statement.Point.{Point}
use Rattle.st_tree.specs.declared.statement.Point.TheVariants as points
use Rattle.st_tree.specs.declared.statement.StmtArgument.{StmtArgument}
use Rattle.st_tree.specs.declared.statement.StmtArgument.TheVariants as args
use Rattle.st_tree.specs.declared.statement.Stmt.{Stmt, out-Stmt, roll-out-Stmt, map-Stmt}
use Rattle.st_tree.specs.declared.statement.Stmt.TheVariants as stmt
use Rattle.st_tree.specs.declared.statement.Stmt.TheOpen.{Stmt-F, Branch-F, Case-F}
use Rattle.st_tree.specs.declared.statement.Branch.{Branch, out-Branch, out-roll-Branch}
use Rattle.st_tree.specs.declared.statement.Branch.{rolls-Branch', is-Branch'}
use Rattle.st_tree.specs.declared.statement.Case.{Case, out-Case, out-roll-Case, rolls-Case'}
use Rattle.st_tree.specs.declared.statement.Case.{is-Case'}
use Rattle.st_tree.specs.declared.declaration.TypeName.{TypeName}
use Rattle.st_tree.specs.declared.declaration.TypeName.TheVariants as type
use Rattle.st_tree.specs.declared.declaration.Spec.{Spec, out-Spec, roll-out-Spec, map-Spec}
use Rattle.st_tree.specs.declared.declaration.Spec.TheVariants as specs
use Rattle.st_tree.specs.declared.declaration.Spec.TheOpen.{Spec-F}
use Rattle.st_tree.specs.declared.declaration.Init.{Init, out-Init, roll-out-Init, map-Init}
use Rattle.st_tree.specs.declared.declaration.Init.TheVariants as inits
use Rattle.st_tree.specs.declared.declaration.Init.TheOpen.{Init-F, Item-F, FieldInit-F}
use Rattle.st_tree.specs.declared.declaration.Item.{Item, out-Item, roll-out-Item, map-Item}
use Rattle.st_tree.specs.declared.declaration.Item.TheVariants as items
use Rattle.st_tree.specs.declared.declaration.FieldInit.{FieldInit, out-FieldInit}
use Rattle.st_tree.specs.declared.declaration.FieldInit.{out-roll-FieldInit, rolls-FieldInit'}
use Rattle.st_tree.specs.declared.declaration.FieldInit.{is-FieldInit'}
use Rattle.st_tree.specs.declared.declaration.Decl.{Decl}
use Rattle.st_tree.specs.declared.chart.StepNames.{StepNames}
use Rattle.st_tree.specs.declared.chart.StepNames.TheVariants as steps
use Rattle.st_tree.specs.declared.chart.Transition.{Transition}
use Rattle.st_tree.specs.declared.chart.SfcPart.{SfcPart}
use Rattle.st_tree.specs.declared.chart.SfcPart.TheVariants as chart
use Rattle.st_tree.specs.declared.file.Body.{Body}
use Rattle.st_tree.specs.declared.file.Body.TheVariants as bodies
use Rattle.st_tree.specs.declared.file.UnitKind.{UnitKind}
use Rattle.st_tree.specs.declared.file.UnitKind.TheVariants as kinds
use Rattle.st_tree.specs.declared.file.Unit.{Unit as UnitTree}
use Rattle.st_tree.specs.declared.file.Fields.{Fields}
use Rattle.st_tree.specs.declared.file.Shape.{Shape}
use Rattle.st_tree.specs.declared.file.Shape.TheVariants as shapes
use Rattle.st_tree.specs.declared.file.ProgramLine.{ProgramLine}
use Rattle.st_tree.specs.declared.file.Resource.{Resource}
use Rattle.st_tree.specs.declared.file.Config.{Config}
use Rattle.st_tree.specs.declared.file.FilePart.{FilePart}
use Rattle.st_tree.specs.declared.file.FilePart.TheVariants as file_part
use Rattle.tree_numbers.specs.Bare.{bare_node, bare_identifier, bare_address, bare_root, expr_bare}
use Rattle.tree_numbers.specs.Bare.{part_bare, bare_expr, bare_part, bare_argument, bare_path}
use Rattle.tree_numbers.specs.Bare.{bare_point, bare_label, bare_stmt_argument, bare_counter}
use Rattle.tree_numbers.specs.Bare.{stmt_bare, bare_stmt, bare_branch, bare_case, bare_type_name}
use Rattle.tree_numbers.specs.Bare.{bare_range, spec_bare, bare_spec, init_bare, item_bare}
use Rattle.tree_numbers.specs.Bare.{bare_init, bare_item, bare_field, bare_decl, bare_section}
use Rattle.tree_numbers.specs.Bare.{bare_association, bare_step, bare_step_names, bare_transition}
use Rattle.tree_numbers.specs.Bare.{bare_action, bare_sfc_part, bare_sfc, bare_body, bare_unit_kind}
use Rattle.tree_numbers.specs.Bare.{bare_unit, bare_fields, bare_shape, bare_type_decl, bare_types}
use Rattle.tree_numbers.specs.Bare.{bare_globals, bare_parameter, bare_task, bare_program_line}
use Rattle.tree_numbers.specs.Bare.{bare_tasks, bare_resource, bare_config, bare_file_part}
use Rattle.tree_numbers.proofs.BareEquations.{rolled_bare_expr, rolled_bare_part}
use Rattle.tree_numbers.proofs.BareEquations.{rolled_bare_argument, rolled_bare_path}
use Rattle.tree_numbers.proofs.BareEquations.{rolled_bare_stmt, rolled_bare_branch}
use Rattle.tree_numbers.proofs.BareEquations.{rolled_bare_case, rolled_bare_spec, rolled_bare_init}
use Rattle.tree_numbers.proofs.BareEquations.{rolled_bare_item, rolled_bare_field}
use Rattle.tree_order.specs.Subtrees.{Tree, Layer, layer_of, expr_layer, part_layer}
use Rattle.tree_order.specs.Subtrees as t

-- the tree with all numbers 0
abbrev pub bare_tree : Tree → Tree
bare_tree (t.identifier x) = t.identifier (bare_identifier x)
bare_tree (t.address x) = t.address (bare_address x)
bare_tree (t.root x) = t.root (bare_root x)
bare_tree (t.expr x) = t.expr (bare_expr x)
bare_tree (t.part x) = t.part (bare_part x)
bare_tree (t.argument x) = t.argument (bare_argument x)
bare_tree (t.path x) = t.path (bare_path x)
bare_tree (t.point x) = t.point (bare_point x)
bare_tree (t.label x) = t.label (bare_label x)
bare_tree (t.stmt_argument x) = t.stmt_argument (bare_stmt_argument x)
bare_tree (t.counter x) = t.counter (bare_counter x)
bare_tree (t.stmt x) = t.stmt (bare_stmt x)
bare_tree (t.branch x) = t.branch (bare_branch x)
bare_tree (t.one_case x) = t.one_case (bare_case x)
bare_tree (t.type_name x) = t.type_name (bare_type_name x)
bare_tree (t.range x) = t.range (bare_range x)
bare_tree (t.spec x) = t.spec (bare_spec x)
bare_tree (t.init x) = t.init (bare_init x)
bare_tree (t.item x) = t.item (bare_item x)
bare_tree (t.field_init x) = t.field_init (bare_field x)
bare_tree (t.decl x) = t.decl (bare_decl x)
bare_tree (t.section x) = t.section (bare_section x)
bare_tree (t.association x) = t.association (bare_association x)
bare_tree (t.step x) = t.step (bare_step x)
bare_tree (t.step_names x) = t.step_names (bare_step_names x)
bare_tree (t.transition x) = t.transition (bare_transition x)
bare_tree (t.action x) = t.action (bare_action x)
bare_tree (t.sfc_part x) = t.sfc_part (bare_sfc_part x)
bare_tree (t.sfc x) = t.sfc (bare_sfc x)
bare_tree (t.body x) = t.body (bare_body x)
bare_tree (t.unit_kind x) = t.unit_kind (bare_unit_kind x)
bare_tree (t.unit x) = t.unit (bare_unit x)
bare_tree (t.fields x) = t.fields (bare_fields x)
bare_tree (t.shape x) = t.shape (bare_shape x)
bare_tree (t.type_decl x) = t.type_decl (bare_type_decl x)
bare_tree (t.types x) = t.types (bare_types x)
bare_tree (t.globals x) = t.globals (bare_globals x)
bare_tree (t.parameter x) = t.parameter (bare_parameter x)
bare_tree (t.task x) = t.task (bare_task x)
bare_tree (t.program_line x) = t.program_line (bare_program_line x)
bare_tree (t.tasks x) = t.tasks (bare_tasks x)
bare_tree (t.resource x) = t.resource (bare_resource x)
bare_tree (t.config x) = t.config (bare_config x)
bare_tree (t.file_part x) = t.file_part (bare_file_part x)

-- The second layer is the first one of a tree with all numbers 0.
pub record IsBareLayer (l m : Layer) : Type 0 where
  pub text : m.text ≡ l.text
  pub parts : m.parts ≡ map bare_tree l.parts

-- ---- lists

bare_list : {A : Type 0} (make : A → Tree) (bare : A → A) →
    ((x : A) → make (bare x) ≡ bare_tree (make x)) → (xs : List A) → map make (map bare xs)
    ≡ map bare_tree (map make xs)
bare_list make bare same [] = refl
bare_list make bare same (x ∷ xs) = rw (same x, bare_list make bare same xs) refl

bare_if : {A : Type 0} (make : A → Tree) (bare : A → A) →
    ((x : A) → make (bare x) ≡ bare_tree (make x)) → (o : Option A) →
    t.if_there make (option_map bare o) ≡ map bare_tree (t.if_there make o)
bare_if make bare same None = refl
bare_if make bare same (Some x) = ap (λ y. y ∷ []) (same x)

two : (xs ys us vs : List Tree) → us ≡ map bare_tree xs → vs ≡ map bare_tree ys →
    us ++ vs ≡ map bare_tree (xs ++ ys)
two xs ys us vs one other = rw (one, other) (sym (map-append bare_tree xs ys))

-- ---- expressions

root_bare : (x : Root) → IsBareLayer (t.root_layer x) (t.root_layer (bare_root x))
root_bare (roots.Name i) = record { text = refl; parts = refl }
root_bare (roots.Address a) = record { text = refl; parts = refl }

-- a layer with its node's number 0
abbrev expr_node : Expr-F Expr Part Argument Path → Expr-F Expr Part Argument Path
expr_node (Expr-F.Number node minus text) = Expr-F.Number (bare_node node) minus text
expr_node (Expr-F.Typed node text) = Expr-F.Typed (bare_node node) text
expr_node (Expr-F.Time node text) = Expr-F.Time (bare_node node) text
expr_node (Expr-F.Truth node truth) = Expr-F.Truth (bare_node node) truth
expr_node (Expr-F.Path p) = Expr-F.Path p
expr_node (Expr-F.Value node name value) =
    Expr-F.Value (bare_node node) (bare_identifier name) (bare_identifier value)
expr_node (Expr-F.Parenthesized node inner) = Expr-F.Parenthesized (bare_node node) inner
expr_node (Expr-F.Unary node operator operand) = Expr-F.Unary (bare_node node) operator operand
expr_node (Expr-F.Binary node operator left right) =
    Expr-F.Binary (bare_node node) operator left right
expr_node (Expr-F.Call node name arguments) =
    Expr-F.Call (bare_node node) (bare_identifier name) arguments

expr_out : (z : Expr-F Expr Part Argument Path) → out-Expr (expr_bare z) ≡ expr_node z
expr_out (Expr-F.Number node minus text) = expr.outs-Number (bare_node node) minus text
expr_out (Expr-F.Typed node text) = expr.outs-Typed (bare_node node) text
expr_out (Expr-F.Time node text) = expr.outs-Time (bare_node node) text
expr_out (Expr-F.Truth node truth) = expr.outs-Truth (bare_node node) truth
expr_out (Expr-F.Path p) = expr.outs-Path p
expr_out (Expr-F.Value node name value) =
    expr.outs-Value (bare_node node) (bare_identifier name) (bare_identifier value)
expr_out (Expr-F.Parenthesized node inner) = expr.outs-Parenthesized (bare_node node) inner
expr_out (Expr-F.Unary node operator operand) = expr.outs-Unary (bare_node node) operator operand
expr_out (Expr-F.Binary node operator left right) =
    expr.outs-Binary (bare_node node) operator left right
expr_out (Expr-F.Call node name arguments) =
    expr.outs-Call (bare_node node) (bare_identifier name) arguments

abbrev bare_expr_layer : Expr-F Expr Part Argument Path → Expr-F Expr Part Argument Path
bare_expr_layer y =
    expr_node (map-Expr Expr Part Argument Path Expr Part Argument Path bare_expr bare_part
    bare_argument bare_path y)

expr_layers : (y : Expr-F Expr Part Argument Path) →
    IsBareLayer (expr_layer y) (expr_layer (bare_expr_layer y))
expr_layers (Expr-F.Number node minus text) = record { text = refl; parts = refl }
expr_layers (Expr-F.Typed node text) = record { text = refl; parts = refl }
expr_layers (Expr-F.Time node text) = record { text = refl; parts = refl }
expr_layers (Expr-F.Truth node truth) = record { text = refl; parts = refl }
expr_layers (Expr-F.Path p) = record { text = refl; parts = refl }
expr_layers (Expr-F.Value node name value) = record { text = refl; parts = refl }
expr_layers (Expr-F.Parenthesized node inner) = record { text = refl; parts = refl }
expr_layers (Expr-F.Unary node operator operand) = record { text = refl; parts = refl }
expr_layers (Expr-F.Binary node operator left right) = record { text = refl; parts = refl }
expr_layers (Expr-F.Call node name arguments) =
    record {
      text = refl;
      parts = ap (λ xs. t.identifier (bare_identifier name) ∷ xs)
          (bare_list t.argument bare_argument (λ x. refl) arguments);
    }

expr_is : (x : Expr) → IsBareLayer (expr_layer (out-Expr x)) (expr_layer (out-Expr (bare_expr x)))
expr_is x = subst (λ z. IsBareLayer (expr_layer (out-Expr x)) (expr_layer z))
    (sym (ap out-Expr (ap bare_expr (sym (roll-out-Expr x)) ∙ rolled_bare_expr (out-Expr x))
    ∙ expr_out (map-Expr Expr Part Argument Path Expr Part Argument Path bare_expr bare_part
    bare_argument bare_path (out-Expr x))))
    (expr_layers (out-Expr x))

abbrev path_of : Path-F Expr Part Argument Path → Layer
path_of y = t.around y.node (t.root y.root ∷ map t.part y.parts)

path_is : (x : Path) → IsBareLayer (t.path_layer x) (t.path_layer (bare_path x))
path_is x =
    let z : Path-F Expr Part Argument Path = record {
      node = bare_node x.node;
      root = bare_root
          x.root;
      parts = map bare_part x.parts;
    } in
    subst (λ y. IsBareLayer (t.path_layer x) (path_of y))
    (sym (ap out-Path (ap bare_path (is-Path' x) ∙ rolled_bare_path (out-Path x)
    ∙ sym (rolls-Path' z)) ∙ out-roll-Path z))
    (record {
      text = refl;
      parts = ap (λ xs. t.root (bare_root x.root) ∷ xs)
          (bare_list t.part bare_part (λ y. refl) x.parts);
    })

abbrev part_node : Part-F Expr Part Argument Path → Part-F Expr Part Argument Path
part_node (Part-F.Field name) = Part-F.Field (bare_identifier name)
part_node (Part-F.Index node indices) = Part-F.Index (bare_node node) indices

part_out : (z : Part-F Expr Part Argument Path) → out-Part (part_bare z) ≡ part_node z
part_out (Part-F.Field name) = part.outs-Field (bare_identifier name)
part_out (Part-F.Index node indices) = part.outs-Index (bare_node node) indices

abbrev bare_part_layer : Part-F Expr Part Argument Path → Part-F Expr Part Argument Path
bare_part_layer y =
    part_node (map-Part Expr Part Argument Path Expr Part Argument Path bare_expr bare_part
    bare_argument bare_path y)

part_layers : (y : Part-F Expr Part Argument Path) →
    IsBareLayer (part_layer y) (part_layer (bare_part_layer y))
part_layers (Part-F.Field name) = record { text = refl; parts = refl }
part_layers (Part-F.Index node indices) =
    record { text = refl; parts = bare_list t.expr bare_expr (λ y. refl) indices }

part_is : (x : Part) → IsBareLayer (part_layer (out-Part x)) (part_layer (out-Part (bare_part x)))
part_is x = subst (λ z. IsBareLayer (part_layer (out-Part x)) (part_layer z))
    (sym (ap out-Part (ap bare_part (sym (roll-out-Part x)) ∙ rolled_bare_part (out-Part x))
    ∙ part_out (map-Part Expr Part Argument Path Expr Part Argument Path bare_expr bare_part
    bare_argument bare_path (out-Part x))))
    (part_layers (out-Part x))

abbrev argument_of : Argument-F Expr Part Argument Path → Layer
argument_of y = t.around y.node (t.if_there t.identifier y.name ++ t.expr y.value ∷ [])

argument_is : (x : Argument) → IsBareLayer (t.argument_layer x) (t.argument_layer (bare_argument x))
argument_is x =
    let z : Argument-F Expr Part Argument Path = record {
      node = bare_node x.node;
      name = option_map
          bare_identifier x.name;
      value = bare_expr x.value;
    } in
    subst (λ y. IsBareLayer (t.argument_layer x) (argument_of y))
    (sym (ap out-Argument (ap bare_argument (is-Argument' x) ∙ rolled_bare_argument (out-Argument x)
    ∙ sym (rolls-Argument' z)) ∙ out-roll-Argument z))
    (record {
      text = refl;
      parts = two (t.if_there t.identifier x.name) (t.expr x.value ∷ [])
          (t.if_there t.identifier (option_map bare_identifier x.name))
          (t.expr (bare_expr x.value) ∷ []) (bare_if t.identifier bare_identifier (λ y. refl)
          x.name)
          refl;
    })

-- ---- statements

point_bare : (x : Point) → IsBareLayer (t.point_layer x) (t.point_layer (bare_point x))
point_bare (points.Number node minus text) = record { text = refl; parts = refl }
point_bare (points.Typed node text) = record { text = refl; parts = refl }
point_bare (points.Name name) = record { text = refl; parts = refl }
point_bare (points.Value node name value) = record { text = refl; parts = refl }

stmt_argument_bare : (x : StmtArgument) →
    IsBareLayer (t.stmt_argument_layer x) (t.stmt_argument_layer (bare_stmt_argument x))
stmt_argument_bare (args.Input node name value) = record { text = refl; parts = refl }
stmt_argument_bare (args.Output node name target) = record { text = refl; parts = refl }

bare_stmts_if : (o : Option (List Stmt)) → t.stmts_if (option_map (λ xs. map bare_stmt xs) o)
    ≡ map bare_tree (t.stmts_if o)
bare_stmts_if None = refl
bare_stmts_if (Some found) = bare_list t.stmt bare_stmt (λ y. refl) found

abbrev stmt_node : Stmt-F Stmt Branch Case → Stmt-F Stmt Branch Case
stmt_node (Stmt-F.Assign node target value) =
    Stmt-F.Assign (bare_node node) (bare_path target) (bare_expr value)
stmt_node (Stmt-F.Call node name arguments) =
    Stmt-F.Call (bare_node node) (bare_identifier name) (map bare_stmt_argument arguments)
stmt_node (Stmt-F.Return node) = Stmt-F.Return (bare_node node)
stmt_node (Stmt-F.Exit node) = Stmt-F.Exit (bare_node node)
stmt_node (Stmt-F.Continue node) = Stmt-F.Continue (bare_node node)
stmt_node (Stmt-F.If node branches otherwise) = Stmt-F.If (bare_node node) branches otherwise
stmt_node (Stmt-F.Case node selector cases otherwise) =
    Stmt-F.Case (bare_node node) (bare_expr selector) cases otherwise
stmt_node (Stmt-F.For node counts found) = Stmt-F.For (bare_node node) (bare_counter counts) found
stmt_node (Stmt-F.While node condition found) =
    Stmt-F.While (bare_node node) (bare_expr condition) found
stmt_node (Stmt-F.Repeat node found condition) =
    Stmt-F.Repeat (bare_node node) found (bare_expr condition)

stmt_out : (z : Stmt-F Stmt Branch Case) → out-Stmt (stmt_bare z) ≡ stmt_node z
stmt_out (Stmt-F.Assign node target value) =
    stmt.outs-Assign (bare_node node) (bare_path target) (bare_expr value)
stmt_out (Stmt-F.Call node name arguments) =
    stmt.outs-Call (bare_node node) (bare_identifier name) (map bare_stmt_argument arguments)
stmt_out (Stmt-F.Return node) = stmt.outs-Return (bare_node node)
stmt_out (Stmt-F.Exit node) = stmt.outs-Exit (bare_node node)
stmt_out (Stmt-F.Continue node) = stmt.outs-Continue (bare_node node)
stmt_out (Stmt-F.If node branches otherwise) = stmt.outs-If (bare_node node) branches otherwise
stmt_out (Stmt-F.Case node selector cases otherwise) =
    stmt.outs-Case (bare_node node) (bare_expr selector) cases otherwise
stmt_out (Stmt-F.For node counts found) = stmt.outs-For (bare_node node) (bare_counter counts) found
stmt_out (Stmt-F.While node condition found) =
    stmt.outs-While (bare_node node) (bare_expr condition) found
stmt_out (Stmt-F.Repeat node found condition) =
    stmt.outs-Repeat (bare_node node) found (bare_expr condition)

abbrev bare_stmt_layer : Stmt-F Stmt Branch Case → Stmt-F Stmt Branch Case
bare_stmt_layer y =
    stmt_node (map-Stmt Stmt Branch Case Stmt Branch Case bare_stmt bare_branch bare_case y)

stmt_layers : (y : Stmt-F Stmt Branch Case) →
    IsBareLayer (t.stmt_layer y) (t.stmt_layer (bare_stmt_layer y))
stmt_layers (Stmt-F.Assign node target value) = record { text = refl; parts = refl }
stmt_layers (Stmt-F.Call node name arguments) =
    record {
      text = refl;
      parts = ap (λ xs. t.identifier (bare_identifier name) ∷ xs)
          (bare_list t.stmt_argument bare_stmt_argument (λ y. refl) arguments);
    }
stmt_layers (Stmt-F.Return node) = record { text = refl; parts = refl }
stmt_layers (Stmt-F.Exit node) = record { text = refl; parts = refl }
stmt_layers (Stmt-F.Continue node) = record { text = refl; parts = refl }
stmt_layers (Stmt-F.If node branches None) =
    record {
      text = refl;
      parts = two (map t.branch branches) []
          (map t.branch (map bare_branch branches)) [] (bare_list t.branch bare_branch (λ y. refl)
          branches) refl;
    }
stmt_layers (Stmt-F.If node branches (Some found)) =
    record {
      text = refl;
      parts = two (map t.branch branches) (map t.stmt found)
          (map t.branch (map bare_branch branches)) (map t.stmt (map bare_stmt found))
          (bare_list t.branch bare_branch (λ y. refl) branches)
          (bare_list t.stmt bare_stmt (λ y. refl)
          found);
    }
stmt_layers (Stmt-F.Case node selector cases None) =
    record {
      text = refl;
      parts = ap (λ xs. t.expr (bare_expr selector) ∷ xs)
          (two (map t.one_case cases) [] (map t.one_case (map bare_case cases)) []
          (bare_list t.one_case bare_case (λ y. refl) cases) refl);
    }
stmt_layers (Stmt-F.Case node selector cases (Some found)) =
    record {
      text = refl;
      parts = ap (λ xs. t.expr (bare_expr selector) ∷ xs)
          (two (map t.one_case cases) (map t.stmt found) (map t.one_case (map bare_case cases))
          (map t.stmt (map bare_stmt found)) (bare_list t.one_case bare_case (λ y. refl) cases)
          (bare_list t.stmt bare_stmt (λ y. refl) found));
    }
stmt_layers (Stmt-F.For node counts found) =
    record {
      text = refl;
      parts = ap (λ xs. t.counter (bare_counter counts) ∷ xs)
          (bare_list t.stmt bare_stmt (λ y. refl) found);
    }
stmt_layers (Stmt-F.While node condition found) =
    record {
      text = refl;
      parts = ap (λ xs. t.expr (bare_expr condition) ∷ xs)
          (bare_list t.stmt bare_stmt (λ y. refl) found);
    }
stmt_layers (Stmt-F.Repeat node found condition) =
    record {
      text = refl;
      parts = two (map t.stmt found) (t.expr condition ∷ [])
          (map t.stmt (map bare_stmt found)) (t.expr (bare_expr condition) ∷ [])
          (bare_list t.stmt bare_stmt (λ y. refl) found) refl;
    }

stmt_is : (x : Stmt) →
    IsBareLayer (t.stmt_layer (out-Stmt x)) (t.stmt_layer (out-Stmt (bare_stmt x)))
stmt_is x = subst (λ z. IsBareLayer (t.stmt_layer (out-Stmt x)) (t.stmt_layer z))
    (sym (ap out-Stmt (ap bare_stmt (sym (roll-out-Stmt x)) ∙ rolled_bare_stmt (out-Stmt x))
    ∙ stmt_out (map-Stmt Stmt Branch Case Stmt Branch Case bare_stmt bare_branch bare_case
    (out-Stmt x))))
    (stmt_layers (out-Stmt x))

abbrev branch_of : Branch-F Stmt Branch Case → Layer
branch_of y = t.only (t.expr y.condition ∷ map t.stmt y.body)

branch_is : (x : Branch) → IsBareLayer (t.branch_layer x) (t.branch_layer (bare_branch x))
branch_is x =
    let z : Branch-F Stmt Branch Case = record {
      condition = bare_expr x.condition;
      body = map bare_stmt x.body;
    } in
    subst (λ y. IsBareLayer (t.branch_layer x) (branch_of y))
    (sym (ap out-Branch (ap bare_branch (is-Branch' x) ∙ rolled_bare_branch (out-Branch x)
    ∙ sym (rolls-Branch' z)) ∙ out-roll-Branch z))
    (record {
      text = refl;
      parts = ap (λ xs. t.expr (bare_expr x.condition) ∷ xs)
          (bare_list t.stmt bare_stmt (λ y. refl) x.body);
    })

abbrev case_of : Case-F Stmt Branch Case → Layer
case_of y = t.only (map t.label y.labels ++ map t.stmt y.body)

case_is : (x : Case) → IsBareLayer (t.case_layer x) (t.case_layer (bare_case x))
case_is x =
    let z : Case-F Stmt Branch Case = record {
      labels = map bare_label x.labels;
      body = map bare_stmt x.body;
    } in
    subst (λ y. IsBareLayer (t.case_layer x) (case_of y))
    (sym (ap out-Case (ap bare_case (is-Case' x) ∙ rolled_bare_case (out-Case x)
    ∙ sym (rolls-Case' z)) ∙ out-roll-Case z))
    (record {
      text = refl;
      parts = two (map t.label x.labels) (map t.stmt x.body)
          (map t.label (map bare_label x.labels)) (map t.stmt (map bare_stmt x.body))
          (bare_list t.label bare_label (λ y. refl) x.labels)
          (bare_list t.stmt bare_stmt (λ y. refl)
          x.body);
    })

-- ---- declarations

type_name_bare : (x : TypeName) →
    IsBareLayer (t.type_name_layer x) (t.type_name_layer (bare_type_name x))
type_name_bare (type.Elementary node elem) = record { text = refl; parts = refl }
type_name_bare (type.Named name) = record { text = refl; parts = refl }

abbrev spec_node : Spec-F Spec → Spec-F Spec
spec_node (Spec-F.«Type» node name limits) =
    Spec-F.«Type» (bare_node node) (bare_type_name name) (option_map bare_range limits)
spec_node (Spec-F.Enumeration node values) =
    Spec-F.Enumeration (bare_node node) (map bare_identifier values)
spec_node (Spec-F.Array node ranges element) =
    Spec-F.Array (bare_node node) (map bare_range ranges) element

spec_out : (z : Spec-F Spec) → out-Spec (spec_bare z) ≡ spec_node z
spec_out (Spec-F.«Type» node name limits) =
    specs.outs-Type (bare_node node) (bare_type_name name) (option_map bare_range limits)
spec_out (Spec-F.Enumeration node values) =
    specs.outs-Enumeration (bare_node node) (map bare_identifier values)
spec_out (Spec-F.Array node ranges element) =
    specs.outs-Array (bare_node node) (map bare_range ranges) element

spec_layers : (y : Spec-F Spec) →
    IsBareLayer (t.spec_layer y) (t.spec_layer (spec_node (map-Spec Spec Spec bare_spec y)))
spec_layers (Spec-F.«Type» node name limits) =
    record {
      text = refl;
      parts = ap (λ xs. t.type_name (bare_type_name name) ∷ xs)
          (bare_if t.range bare_range (λ y. refl) limits);
    }
spec_layers (Spec-F.Enumeration node values) =
    record { text = refl; parts = bare_list t.identifier bare_identifier (λ y. refl) values }
spec_layers (Spec-F.Array node ranges element) =
    record {
      text = refl;
      parts = two (map t.range ranges) (t.spec element ∷ [])
          (map t.range (map bare_range ranges)) (t.spec (bare_spec element) ∷ [])
          (bare_list t.range bare_range (λ y. refl) ranges) refl;
    }

spec_is : (x : Spec) →
    IsBareLayer (t.spec_layer (out-Spec x)) (t.spec_layer (out-Spec (bare_spec x)))
spec_is x = subst (λ z. IsBareLayer (t.spec_layer (out-Spec x)) (t.spec_layer z))
    (sym (ap out-Spec (ap bare_spec (sym (roll-out-Spec x)) ∙ rolled_bare_spec (out-Spec x))
    ∙ spec_out (map-Spec Spec Spec bare_spec (out-Spec x))))
    (spec_layers (out-Spec x))

abbrev init_node : Init-F Init Item FieldInit → Init-F Init Item FieldInit
init_node (Init-F.Value value) = Init-F.Value (bare_expr value)
init_node (Init-F.Array node xs) = Init-F.Array (bare_node node) xs
init_node (Init-F.Structure node xs) = Init-F.Structure (bare_node node) xs

init_out : (z : Init-F Init Item FieldInit) → out-Init (init_bare z) ≡ init_node z
init_out (Init-F.Value value) = inits.outs-Value (bare_expr value)
init_out (Init-F.Array node xs) = inits.outs-Array (bare_node node) xs
init_out (Init-F.Structure node xs) = inits.outs-Structure (bare_node node) xs

init_layers : (y : Init-F Init Item FieldInit) →
    IsBareLayer (t.init_layer y)
    (t.init_layer (init_node (map-Init Init Item FieldInit Init Item FieldInit bare_init bare_item
    bare_field y)))
init_layers (Init-F.Value value) = record { text = refl; parts = refl }
init_layers (Init-F.Array node xs) =
    record { text = refl; parts = bare_list t.item bare_item (λ y. refl) xs }
init_layers (Init-F.Structure node xs) =
    record { text = refl; parts = bare_list t.field_init bare_field (λ y. refl) xs }

init_is : (x : Init) →
    IsBareLayer (t.init_layer (out-Init x)) (t.init_layer (out-Init (bare_init x)))
init_is x = subst (λ z. IsBareLayer (t.init_layer (out-Init x)) (t.init_layer z))
    (sym (ap out-Init (ap bare_init (sym (roll-out-Init x)) ∙ rolled_bare_init (out-Init x))
    ∙ init_out (map-Init Init Item FieldInit Init Item FieldInit bare_init bare_item bare_field
    (out-Init x))))
    (init_layers (out-Init x))

abbrev item_node : Item-F Init Item FieldInit → Item-F Init Item FieldInit
item_node (Item-F.One value) = Item-F.One value
item_node (Item-F.Repeated node count value) = Item-F.Repeated (bare_node node) count value

item_out : (z : Item-F Init Item FieldInit) → out-Item (item_bare z) ≡ item_node z
item_out (Item-F.One value) = items.outs-One value
item_out (Item-F.Repeated node count value) = items.outs-Repeated (bare_node node) count value

item_layers : (y : Item-F Init Item FieldInit) →
    IsBareLayer (t.item_layer y)
    (t.item_layer (item_node (map-Item Init Item FieldInit Init Item FieldInit bare_init bare_item
    bare_field y)))
item_layers (Item-F.One value) = record { text = refl; parts = refl }
item_layers (Item-F.Repeated node count value) = record { text = refl; parts = refl }

item_is : (x : Item) →
    IsBareLayer (t.item_layer (out-Item x)) (t.item_layer (out-Item (bare_item x)))
item_is x = subst (λ z. IsBareLayer (t.item_layer (out-Item x)) (t.item_layer z))
    (sym (ap out-Item (ap bare_item (sym (roll-out-Item x)) ∙ rolled_bare_item (out-Item x))
    ∙ item_out (map-Item Init Item FieldInit Init Item FieldInit bare_init bare_item bare_field
    (out-Item x))))
    (item_layers (out-Item x))

abbrev field_of : FieldInit-F Init Item FieldInit → Layer
field_of y = t.around y.node (t.identifier y.name ∷ t.init y.value ∷ [])

field_is : (x : FieldInit) → IsBareLayer (t.field_init_layer x) (t.field_init_layer (bare_field x))
field_is x =
    let z : FieldInit-F Init Item FieldInit = record {
      node = bare_node x.node;
      name = bare_identifier x.name;
      value = bare_init x.value;
    } in
    subst (λ y. IsBareLayer (t.field_init_layer x) (field_of y))
    (sym (ap out-FieldInit (ap bare_field (is-FieldInit' x) ∙ rolled_bare_field (out-FieldInit x)
    ∙ sym (rolls-FieldInit' z)) ∙ out-roll-FieldInit z))
    (record { text = refl; parts = refl })

decl_parts : (x : Decl) → (t.decl_layer (bare_decl x)).parts ≡ map bare_tree (t.decl_layer x).parts
decl_parts x =
    two (map t.identifier x.names) (t.if_there t.address x.address
    ++ (t.spec x.spec ∷ t.if_there t.init x.init)) (map t.identifier (map bare_identifier x.names))
    (t.if_there t.address (option_map bare_address x.address)
    ++ (t.spec (bare_spec x.spec) ∷ t.if_there t.init (option_map bare_init x.init)))
    (bare_list t.identifier bare_identifier (λ y. refl) x.names)
    (two (t.if_there t.address x.address) (t.spec x.spec ∷ t.if_there t.init x.init)
    (t.if_there t.address (option_map bare_address x.address))
    (t.spec (bare_spec x.spec) ∷ t.if_there t.init (option_map bare_init x.init))
    (bare_if t.address bare_address (λ y. refl) x.address)
    (ap (λ xs. t.spec (bare_spec x.spec) ∷ xs) (bare_if t.init bare_init (λ y. refl)
    x.init)))

fields_parts : (x : Fields) → (t.fields_layer (bare_fields x)).parts
    ≡ map bare_tree (t.fields_layer x).parts
fields_parts x =
    two (map t.identifier x.names) (t.spec x.spec ∷ t.if_there t.init x.init)
    (map t.identifier (map bare_identifier x.names)) (t.spec (bare_spec x.spec) ∷ t.if_there t.init
    (option_map bare_init x.init))
    (bare_list t.identifier bare_identifier (λ y. refl) x.names)
    (ap (λ xs. t.spec (bare_spec x.spec) ∷ xs) (bare_if t.init bare_init (λ y. refl) x.init))

shape_bare : (x : Shape) → IsBareLayer (t.shape_layer x) (t.shape_layer (bare_shape x))
shape_bare (shapes.Spec s) = record { text = refl; parts = refl }
shape_bare (shapes.Structure node members) =
    record { text = refl; parts = bare_list t.fields bare_fields (λ y. refl) members }

-- ---- charts

step_names_bare : (x : StepNames) →
    IsBareLayer (t.step_names_layer x) (t.step_names_layer (bare_step_names x))
step_names_bare (steps.One name) = record { text = refl; parts = refl }
step_names_bare (steps.Several node names) =
    record { text = refl; parts = bare_list t.identifier bare_identifier (λ y. refl) names }

transition_parts : (x : Transition) → (t.transition_layer (bare_transition x)).parts
    ≡ map bare_tree (t.transition_layer x).parts
transition_parts x =
    two (t.if_there t.identifier x.name) (t.step_names x.from ∷ t.step_names x.to ∷ t.expr
    x.condition ∷ []) (t.if_there t.identifier (option_map bare_identifier x.name))
    (t.step_names (bare_step_names x.from) ∷ t.step_names (bare_step_names x.to) ∷ t.expr
    (bare_expr x.condition) ∷ []) (bare_if t.identifier bare_identifier (λ y. refl) x.name) refl

sfc_part_bare : (x : SfcPart) →
    IsBareLayer (t.sfc_part_layer x) (t.sfc_part_layer (bare_sfc_part x))
sfc_part_bare (chart.Step x) = record { text = refl; parts = refl }
sfc_part_bare (chart.Transition x) = record { text = refl; parts = refl }
sfc_part_bare (chart.Action x) = record { text = refl; parts = refl }

-- ---- files

body_bare : (x : Body) → IsBareLayer (t.body_layer x) (t.body_layer (bare_body x))
body_bare (bodies.Statements found) =
    record { text = refl; parts = bare_list t.stmt bare_stmt (λ y. refl) found }
body_bare (bodies.Chart c) = record { text = refl; parts = refl }

unit_kind_bare : (x : UnitKind) →
    IsBareLayer (t.unit_kind_layer x) (t.unit_kind_layer (bare_unit_kind x))
unit_kind_bare (kinds.Function name) = record { text = refl; parts = refl }
unit_kind_bare kinds.Block = record { text = refl; parts = refl }
unit_kind_bare kinds.Program = record { text = refl; parts = refl }

line_parts : (x : ProgramLine) → (t.program_line_layer (bare_program_line x)).parts
    ≡ map bare_tree (t.program_line_layer x).parts
line_parts x =
    ap (λ xs. t.identifier (bare_identifier x.name) ∷ xs) (two (t.if_there t.identifier x.task)
    (t.identifier x.program ∷ []) (t.if_there t.identifier (option_map bare_identifier x.task))
    (t.identifier (bare_identifier x.program) ∷ []) (bare_if t.identifier bare_identifier
    (λ y. refl) x.task) refl)

resource_parts : (x : Resource) → (t.resource_layer (bare_resource x)).parts
    ≡ map bare_tree (t.resource_layer x).parts
resource_parts x =
    ap (λ xs. t.identifier (bare_identifier x.name) ∷ t.identifier (bare_identifier x.kind) ∷ xs)
    (two (map t.globals x.globals) (t.tasks x.tasks ∷ [])
    (map t.globals (map bare_globals x.globals)) (t.tasks (bare_tasks x.tasks) ∷ [])
    (bare_list t.globals bare_globals (λ y. refl) x.globals) refl)

config_parts : (x : Config) → (t.config_layer (bare_config x)).parts
    ≡ map bare_tree (t.config_layer x).parts
config_parts x =
    ap (λ xs. t.identifier (bare_identifier x.name) ∷ xs)
    (two (map t.globals x.globals) (map t.resource x.resources ++ t.tasks x.tasks ∷ [])
    (map t.globals (map bare_globals x.globals)) (map t.resource (map bare_resource x.resources)
    ++ t.tasks (bare_tasks x.tasks) ∷ []) (bare_list t.globals bare_globals (λ y. refl) x.globals)
    (two (map t.resource x.resources) (t.tasks x.tasks ∷ [])
    (map t.resource (map bare_resource x.resources)) (t.tasks (bare_tasks x.tasks) ∷ [])
    (bare_list t.resource bare_resource (λ y. refl) x.resources) refl))

unit_parts : (x : UnitTree) → (layer_of (t.unit (bare_unit x))).parts
    ≡ map bare_tree (layer_of (t.unit x)).parts
unit_parts x =
    ap (λ xs. t.identifier (bare_identifier x.name) ∷ t.unit_kind (bare_unit_kind x.kind) ∷ xs)
    (two (map t.section x.sections) (t.body x.body ∷ [])
    (map t.section (map bare_section x.sections)) (t.body (bare_body x.body) ∷ [])
    (bare_list t.section bare_section (λ y. refl) x.sections) refl)

file_part_bare : (x : FilePart) →
    IsBareLayer (t.file_part_layer x) (t.file_part_layer (bare_file_part x))
file_part_bare (file_part.Unit x) = record { text = refl; parts = refl }
file_part_bare (file_part.Types x) = record { text = refl; parts = refl }
file_part_bare (file_part.Globals x) = record { text = refl; parts = refl }
file_part_bare (file_part.Config x) = record { text = refl; parts = refl }

-- ---- all of them

pub bare_layer : (x : Tree) → IsBareLayer (layer_of x) (layer_of (bare_tree x))
bare_layer (t.identifier x) = record { text = refl; parts = refl }
bare_layer (t.address x) = record { text = refl; parts = refl }
bare_layer (t.root x) = root_bare x
bare_layer (t.expr x) = expr_is x
bare_layer (t.part x) = part_is x
bare_layer (t.argument x) = argument_is x
bare_layer (t.path x) = path_is x
bare_layer (t.point x) = point_bare x
bare_layer (t.label x) =
    record {
      text = refl;
      parts = ap (λ xs. t.point (bare_point x.first) ∷ xs)
          (bare_if t.point bare_point (λ y. refl) x.last);
    }
bare_layer (t.stmt_argument x) = stmt_argument_bare x
bare_layer (t.counter x) =
    record {
      text = refl;
      parts = ap (λ xs. t.identifier (bare_identifier x.variable) ∷ t.expr
          (bare_expr x.first) ∷ t.expr (bare_expr x.last) ∷ xs)
          (bare_if t.expr bare_expr (λ y. refl)
          x.step);
    }
bare_layer (t.stmt x) = stmt_is x
bare_layer (t.branch x) = branch_is x
bare_layer (t.one_case x) = case_is x
bare_layer (t.type_name x) = type_name_bare x
bare_layer (t.range x) = record { text = refl; parts = refl }
bare_layer (t.spec x) = spec_is x
bare_layer (t.init x) = init_is x
bare_layer (t.item x) = item_is x
bare_layer (t.field_init x) = field_is x
bare_layer (t.decl x) = record { text = refl; parts = decl_parts x }
bare_layer (t.section x) =
    record { text = refl; parts = bare_list t.decl bare_decl (λ y. refl) x.decls }
bare_layer (t.association x) =
    record {
      text = refl;
      parts = ap (λ xs. t.identifier (bare_identifier x.action) ∷ xs)
          (bare_if t.identifier bare_identifier (λ y. refl) x.qualifier);
    }
bare_layer (t.step x) =
    record {
      text = refl;
      parts = ap (λ xs. t.identifier (bare_identifier x.name) ∷ xs)
          (bare_list t.association bare_association (λ y. refl) x.associations);
    }
bare_layer (t.step_names x) = step_names_bare x
bare_layer (t.transition x) = record { text = refl; parts = transition_parts x }
bare_layer (t.action x) =
    record {
      text = refl;
      parts = ap (λ xs. t.identifier (bare_identifier x.name) ∷ xs)
          (bare_list t.stmt bare_stmt (λ y. refl) x.body);
    }
bare_layer (t.sfc_part x) = sfc_part_bare x
bare_layer (t.sfc x) =
    record {
      text = refl;
      parts = ap (λ xs. t.step (bare_step x.initial) ∷ xs)
          (bare_list t.sfc_part bare_sfc_part (λ y. refl) x.parts);
    }
bare_layer (t.body x) = body_bare x
bare_layer (t.unit_kind x) = unit_kind_bare x
bare_layer (t.unit x) = record { text = refl; parts = unit_parts x }
bare_layer (t.fields x) = record { text = refl; parts = fields_parts x }
bare_layer (t.shape x) = shape_bare x
bare_layer (t.type_decl x) =
    record {
      text = refl;
      parts = ap (λ xs. t.identifier (bare_identifier x.name) ∷ t.shape
          (bare_shape x.shape) ∷ xs) (bare_if t.init bare_init (λ y. refl) x.init);
    }
bare_layer (t.types x) =
    record { text = refl; parts = bare_list t.type_decl bare_type_decl (λ y. refl) x.decls }
bare_layer (t.globals x) =
    record { text = refl; parts = bare_list t.decl bare_decl (λ y. refl) x.decls }
bare_layer (t.parameter x) = record { text = refl; parts = refl }
bare_layer (t.task x) =
    record {
      text = refl;
      parts = ap (λ xs. t.identifier (bare_identifier x.name) ∷ xs)
          (bare_list t.parameter bare_parameter (λ y. refl) x.parameters);
    }
bare_layer (t.program_line x) = record { text = refl; parts = line_parts x }
bare_layer (t.tasks x) =
    record {
      text = refl;
      parts = two (map t.task x.tasks) (map t.program_line x.lines)
          (map t.task (map bare_task x.tasks)) (map t.program_line (map bare_program_line x.lines))
          (bare_list t.task bare_task (λ y. refl) x.tasks)
          (bare_list t.program_line bare_program_line
          (λ y. refl) x.lines);
    }
bare_layer (t.resource x) = record { text = refl; parts = resource_parts x }
bare_layer (t.config x) = record { text = refl; parts = config_parts x }
bare_layer (t.file_part x) = file_part_bare x
