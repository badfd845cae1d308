-- What is gathered of a tree is what is gathered of its node, of the text of its token, and of the
-- trees directly within it.
use Rattle.std.proofs.Common.{◌≡◌, ℕ, List, [], ◌∷◌, ◌++◌, map, Option, Some, None}
use Rattle.std.proofs.Common.{refl, sym, ap, ◌∙◌}
use Rattle.std.proofs.Common.{subst}
use Rattle.std.specs.Prelude.{flat_map}
use Rattle.std.proofs.lemmas.List.{append-nil}
use Rattle.std.proofs.lemmas.List.Folds.{flat_map-map}
use Rattle.std.proofs.lemmas.Grind.{flat_map-append}
use denote.Hole.Carrier
use Rattle.token_grammar.specs.declared.token.TokenKind.{TokenKind}
use Rattle.token_grammar.specs.declared.token.TokenKind.TheVariants as k
use Rattle.token_grammar.specs.Grammar.{Word}
use Rattle.st_tree.specs.declared.expression.Root.{Root}
use Rattle.st_tree.specs.declared.expression.Root.TheVariants as roots
use Rattle.st_tree.specs.declared.statement.Point.{Point}
use Rattle.st_tree.specs.declared.statement.Point.TheVariants as points
use Rattle.st_tree.specs.declared.statement.Label.{Label}
use Rattle.st_tree.specs.declared.statement.StmtArgument.{StmtArgument}
use Rattle.st_tree.specs.declared.statement.StmtArgument.TheVariants as args
use Rattle.st_tree.specs.declared.statement.Counter.{Counter}
use Rattle.st_tree.specs.declared.statement.Stmt.{Stmt, out-Stmt, roll-Stmt, roll-out-Stmt}
use Rattle.st_tree.specs.declared.statement.Stmt.TheOpen.{Stmt-F}
use Rattle.st_tree.specs.declared.statement.Branch.{Branch, is-Branch'}
use Rattle.st_tree.specs.declared.statement.Case.{Case, is-Case'}
use Rattle.st_tree.specs.declared.declaration.TypeName.{TypeName}
use Rattle.st_tree.specs.declared.declaration.TypeName.TheVariants as type
use Rattle.st_tree.specs.declared.declaration.Spec.{Spec, out-Spec, roll-Spec, roll-out-Spec}
use Rattle.st_tree.specs.declared.declaration.Spec.TheOpen.{Spec-F}
use Rattle.st_tree.specs.declared.declaration.Init.{Init, out-Init, roll-Init, roll-out-Init}
use Rattle.st_tree.specs.declared.declaration.Init.TheOpen.{Init-F, Item-F}
use Rattle.st_tree.specs.declared.declaration.Item.{Item, out-Item, roll-Item, roll-out-Item}
use Rattle.st_tree.specs.declared.declaration.FieldInit.{FieldInit, is-FieldInit'}
use Rattle.st_tree.specs.declared.declaration.Decl.{Decl}
use Rattle.st_tree.specs.declared.chart.StepNames.{StepNames}
use Rattle.st_tree.specs.declared.chart.StepNames.TheVariants as steps
use Rattle.st_tree.specs.declared.chart.Transition.{Transition}
use Rattle.st_tree.specs.declared.chart.SfcPart.{SfcPart}
use Rattle.st_tree.specs.declared.chart.SfcPart.TheVariants as chart
use Rattle.st_tree.specs.declared.file.Body.{Body}
use Rattle.st_tree.specs.declared.file.Body.TheVariants as bodies
use Rattle.st_tree.specs.declared.file.UnitKind.{UnitKind}
use Rattle.st_tree.specs.declared.file.UnitKind.TheVariants as kinds
use Rattle.st_tree.specs.declared.file.Unit.{Unit as UnitTree}
use Rattle.st_tree.specs.declared.file.Fields.{Fields}
use Rattle.st_tree.specs.declared.file.Shape.{Shape}
use Rattle.st_tree.specs.declared.file.Shape.TheVariants as shapes
use Rattle.st_tree.specs.declared.file.ProgramLine.{ProgramLine}
use Rattle.st_tree.specs.declared.file.Resource.{Resource}
use Rattle.st_tree.specs.declared.file.Config.{Config}
use Rattle.st_tree.specs.declared.file.FilePart.{FilePart}
use Rattle.st_tree.specs.declared.file.FilePart.TheVariants as part
use Rattle.st_tree.specs.declared.expression.Expr.{Expr, out-Expr, roll-Expr, roll-out-Expr}
use Rattle.st_tree.specs.declared.expression.Expr.TheOpen.{Expr-F, Part-F}
use Rattle.st_tree.specs.declared.expression.Part.{Part, out-Part, roll-Part, roll-out-Part}
use Rattle.st_tree.specs.declared.expression.Argument.{Argument, is-Argument'}
use Rattle.st_tree.specs.declared.expression.Path.{Path, is-Path'}
use Rattle.tree_order.specs.Subtrees.{Encloses, directly, further}
use Rattle.tree_order.specs.Subtrees.{Tree, Layer, layer_of, expr_layer, part_layer}
use Rattle.tree_order.specs.Subtrees as t
use Rattle.tree_order.proofs.Lists.{Among, among_contained, among_right, among_one}
use Rattle.tree_order.proofs.Gathering.{Gathering}
use Rattle.tree_order.proofs.ExpressionLists.{ExprLists, of_identifier, of_address, of_root}
use Rattle.tree_order.proofs.ExpressionLists.{list_if}
use Rattle.tree_order.proofs.StatementLists.{StmtLists, of_point, of_label, of_stmt_argument}
use Rattle.tree_order.proofs.StatementLists.{of_counter}
use Rattle.tree_order.proofs.DeclarationLists.{DeclLists, of_type_name, of_range, of_decl}
use Rattle.tree_order.proofs.DeclarationLists.{of_section, of_globals, of_fields, of_shape}
use Rattle.tree_order.proofs.DeclarationLists.{of_type_decl, of_types, of_parameter, of_task}
use Rattle.tree_order.proofs.DeclarationLists.{of_program_line, of_tasks, of_resource, of_config}
use Rattle.tree_order.proofs.ChartLists.{of_association, of_step, of_step_names, of_transition}
use Rattle.tree_order.proofs.ChartLists.{of_action, of_sfc_part, of_sfc}
use Rattle.tree_order.proofs.UnitLists.{of_unit_kind, of_body, of_unit, of_file_part}

module _ {M : Type 0} {P : Word → List M → Type 0} {G : Gathering P} {E : ExprLists G}
    (S : StmtLists E) (D : DeclLists E) where
  abbrev pub of_any : Tree → List M
  of_any (t.identifier x) = of_identifier G x
  of_any (t.address x) = of_address G x
  of_any (t.root x) = of_root G x
  of_any (t.expr x) = E.of_expr x
  of_any (t.part x) = E.of_part x
  of_any (t.argument x) = E.of_argument x
  of_any (t.path x) = E.of_path x
  of_any (t.point x) = of_point E x
  of_any (t.label x) = of_label E x
  of_any (t.stmt_argument x) = of_stmt_argument E x
  of_any (t.counter x) = of_counter E x
  of_any (t.stmt x) = S.of_stmt x
  of_any (t.branch x) = S.of_branch x
  of_any (t.one_case x) = S.of_case x
  of_any (t.type_name x) = of_type_name G x
  of_any (t.range x) = of_range E x
  of_any (t.spec x) = D.of_spec x
  of_any (t.init x) = D.of_init x
  of_any (t.item x) = D.of_item x
  of_any (t.field_init x) = D.of_field x
  of_any (t.decl x) = of_decl D x
  of_any (t.section x) = of_section D x
  of_any (t.association x) = of_association G x
  of_any (t.step x) = of_step G x
  of_any (t.step_names x) = of_step_names G x
  of_any (t.transition x) = of_transition S x
  of_any (t.action x) = of_action S x
  of_any (t.sfc_part x) = of_sfc_part S x
  of_any (t.sfc x) = of_sfc S x
  of_any (t.body x) = of_body S x
  of_any (t.unit_kind x) = of_unit_kind G x
  of_any (t.unit x) = of_unit S D x
  of_any (t.fields x) = of_fields D x
  of_any (t.shape x) = of_shape D x
  of_any (t.type_decl x) = of_type_decl D x
  of_any (t.types x) = of_types D x
  of_any (t.globals x) = of_globals D x
  of_any (t.parameter x) = of_parameter E x
  of_any (t.task x) = of_task E x
  of_any (t.program_line x) = of_program_line G x
  of_any (t.tasks x) = of_tasks D x
  of_any (t.resource x) = of_resource D x
  of_any (t.config x) = of_config D x
  of_any (t.file_part x) = of_file_part S D x

  abbrev pub of_text : Option (TokenKind × List ℕ) → List M
  of_text None = []
  of_text (Some p) = G.spelled p.0 p.1

  abbrev pub of_layer : Layer → List M
  of_layer l = list_if G.own l.node ++ (of_text l.text ++ flat_map of_any l.parts)

  -- the trees of a list
  these : {A : Type 0} (make : A → Tree) (xs : List A) → flat_map of_any (map make xs)
      ≡ flat_map (λ x. of_any (make x)) xs
  these make xs = flat_map-map of_any make xs

  expr_rolled : (y : Expr-F Expr Part Argument Path) → E.of_expr (roll-Expr y)
      ≡ of_layer (expr_layer y)
  unfolding roll-Expr Carrier.roll
  expr_rolled (Expr-F.Number node minus text) = E.number node minus text ∙ simp append-nil refl
  expr_rolled (Expr-F.Typed node text) = E.typed node text ∙ simp append-nil refl
  expr_rolled (Expr-F.Time node text) = E.time node text ∙ simp append-nil refl
  expr_rolled (Expr-F.Truth node truth) = E.truth node truth
  expr_rolled (Expr-F.Path p) = E.path p ∙ sym (append-nil (E.of_path p))
  expr_rolled (Expr-F.Value node name value) = E.value node name value ∙ simp append-nil refl
  expr_rolled (Expr-F.Parenthesized node inner) = E.parenthesized node inner ∙ simp append-nil refl
  expr_rolled (Expr-F.Unary node operator operand) =
      E.unary node operator operand ∙ simp append-nil refl
  expr_rolled (Expr-F.Binary node operator left right) =
      E.binary node operator left right ∙ simp append-nil refl
  expr_rolled (Expr-F.Call node name arguments) =
      E.call node name arguments ∙ rw (these t.argument arguments) refl

  -- what may be there
  there_if : {A : Type 0} (make : A → Tree) (o : Option A) → flat_map of_any (t.if_there make o)
      ≡ list_if (λ x. of_any (make x)) o
  there_if make None = refl
  there_if make (Some x) = append-nil (of_any (make x))

  there_stmts : (o : Option (List Stmt)) → flat_map of_any (t.stmts_if o)
      ≡ list_if (flat_map S.of_stmt) o
  there_stmts None = refl
  there_stmts (Some found) = these t.stmt found

  -- some trees, and others behind them
  two : (xs ys : List Tree) → flat_map of_any (xs ++ ys) ≡ flat_map of_any xs ++ flat_map of_any ys
  two xs ys = flat_map-append of_any xs ys

  root_is : (x : Root) → of_root G x ≡ of_layer (t.root_layer x)
  root_is (roots.Name i) = sym (append-nil (of_identifier G i))
  root_is (roots.Address a) = sym (append-nil (of_address G a))

  part_rolled : (y : Part-F Expr Part Argument Path) → E.of_part (roll-Part y)
      ≡ of_layer (part_layer y)
  unfolding roll-Part Carrier.roll
  part_rolled (Part-F.Field name) = E.field name ∙ sym (append-nil (of_identifier G name))
  part_rolled (Part-F.Index node indices) = E.index node indices ∙ rw (these t.expr indices) refl

  argument_is : (x : Argument) → E.of_argument x ≡ of_layer (t.argument_layer x)
  argument_is x = ap E.of_argument (is-Argument' x) ∙ E.argument x.node x.name x.value
      ∙ rw (
        two (t.if_there t.identifier x.name) (t.expr x.value ∷ []),
        there_if t.identifier
            x.name,
        append-nil (E.of_expr x.value),
      ) refl

  path_is : (x : Path) → E.of_path x ≡ of_layer (t.path_layer x)
  path_is x =
      ap E.of_path (is-Path' x) ∙ E.whole_path x.node x.root x.parts ∙ rw (these t.part x.parts)
      refl

  -- ---- statements

  point_is : (x : Point) → of_point E x ≡ of_layer (t.point_layer x)
  point_is (points.Number node minus text) = simp append-nil refl
  point_is (points.Typed node text) = simp append-nil refl
  point_is (points.Name name) = sym (append-nil (of_identifier G name))
  point_is (points.Value node name value) = simp append-nil refl

  label_is : (x : Label) → of_label E x ≡ of_layer (t.label_layer x)
  label_is x = rw (there_if t.point x.last) refl

  stmt_argument_is : (x : StmtArgument) → of_stmt_argument E x ≡ of_layer (t.stmt_argument_layer x)
  stmt_argument_is (args.Input node name value) = simp append-nil refl
  stmt_argument_is (args.Output node name target) = simp append-nil refl

  counter_is : (x : Counter) → of_counter E x ≡ of_layer (t.counter_layer x)
  counter_is x = rw (there_if t.expr x.step) refl

  stmt_rolled : (y : Stmt-F Stmt Branch Case) → S.of_stmt (roll-Stmt y) ≡ of_layer (t.stmt_layer y)
  unfolding roll-Stmt Carrier.roll
  stmt_rolled (Stmt-F.Assign node target value) = S.assign node target value ∙ simp append-nil refl
  stmt_rolled (Stmt-F.Call node name arguments) =
      S.call node name arguments ∙ rw (these t.stmt_argument arguments) refl
  stmt_rolled (Stmt-F.Return node) = S.return_ node
  stmt_rolled (Stmt-F.Exit node) = S.exit node
  stmt_rolled (Stmt-F.Continue node) = S.continue node
  stmt_rolled (Stmt-F.If node branches otherwise) =
      S.if_ node branches otherwise ∙ rw (
        two (map t.branch branches) (t.stmts_if otherwise),
        these t.branch branches,
        there_stmts otherwise,
      ) refl
  stmt_rolled (Stmt-F.Case node selector cases otherwise) =
      S.case_ node selector cases otherwise ∙ rw (
        two (map t.one_case cases) (t.stmts_if otherwise),
        these t.one_case cases,
        there_stmts otherwise,
      ) refl
  stmt_rolled (Stmt-F.For node counts found) =
      S.for_ node counts found ∙ rw (these t.stmt found) refl
  stmt_rolled (Stmt-F.While node condition found) =
      S.while_ node condition found ∙ rw (these t.stmt found) refl
  stmt_rolled (Stmt-F.Repeat node found condition) =
      S.repeat_ node found condition ∙ rw (
        two (map t.stmt found) (t.expr condition ∷ []),
        these t.stmt found,
        append-nil (E.of_expr condition),
      ) refl

  branch_is : (x : Branch) → S.of_branch x ≡ of_layer (t.branch_layer x)
  branch_is x =
      ap S.of_branch (is-Branch' x) ∙ S.branch x.condition x.body ∙ rw (these t.stmt x.body) refl

  case_is : (x : Case) → S.of_case x ≡ of_layer (t.case_layer x)
  case_is x =
      ap S.of_case (is-Case' x) ∙ S.one_case x.labels x.body
      ∙ rw (
        two (map t.label x.labels) (map t.stmt x.body),
        these t.label x.labels,
        these t.stmt
            x.body,
      ) refl

  -- ---- declarations

  type_name_is : (x : TypeName) → of_type_name G x ≡ of_layer (t.type_name_layer x)
  type_name_is (type.Elementary node elem) = refl
  type_name_is (type.Named name) = sym (append-nil (of_identifier G name))

  spec_rolled : (y : Spec-F Spec) → D.of_spec (roll-Spec y) ≡ of_layer (t.spec_layer y)
  unfolding roll-Spec Carrier.roll
  spec_rolled (Spec-F.«Type» node name limits) =
      D.type_ node name limits ∙ rw (there_if t.range limits) refl
  spec_rolled (Spec-F.Enumeration node values) =
      D.enumeration node values ∙ rw (these t.identifier values) refl
  spec_rolled (Spec-F.Array node ranges element) =
      D.array node ranges element ∙ rw (
        two (map t.range ranges) (t.spec element ∷ []),
        these t.range ranges,
        append-nil (D.of_spec element),
      ) refl

  init_rolled : (y : Init-F Init Item FieldInit) → D.of_init (roll-Init y)
      ≡ of_layer (t.init_layer y)
  unfolding roll-Init Carrier.roll
  init_rolled (Init-F.Value v) = D.value v ∙ sym (append-nil (E.of_expr v))
  init_rolled (Init-F.Array node xs) = D.elements node xs ∙ rw (these t.item xs) refl
  init_rolled (Init-F.Structure node xs) = D.structure node xs ∙ rw (these t.field_init xs) refl

  item_rolled : (y : Item-F Init Item FieldInit) → D.of_item (roll-Item y)
      ≡ of_layer (t.item_layer y)
  unfolding roll-Item Carrier.roll
  item_rolled (Item-F.One v) = D.one v ∙ sym (append-nil (D.of_init v))
  item_rolled (Item-F.Repeated node count v) = D.repeated node count v ∙ simp append-nil refl

  field_init_is : (x : FieldInit) → D.of_field x ≡ of_layer (t.field_init_layer x)
  field_init_is x =
      ap D.of_field (is-FieldInit' x) ∙ D.field x.node x.name x.value ∙ simp append-nil refl

  decl_is : (x : Decl) → of_decl D x ≡ of_layer (t.decl_layer x)
  decl_is x =
      rw (
        two (map t.identifier x.names) (t.if_there t.address x.address
            ++ (t.spec x.spec ∷ t.if_there t.init x.init)),
        these t.identifier x.names,
        two (t.if_there t.address x.address) (t.spec x.spec ∷ t.if_there t.init x.init),
        there_if t.address x.address,
        there_if t.init x.init,
      ) refl

  fields_is : (x : Fields) → of_fields D x ≡ of_layer (t.fields_layer x)
  fields_is x =
      rw (
        two (map t.identifier x.names) (t.spec x.spec ∷ t.if_there t.init x.init),
        these t.identifier x.names,
        there_if t.init x.init,
      ) refl

  shape_is : (x : Shape) → of_shape D x ≡ of_layer (t.shape_layer x)
  shape_is (shapes.Spec s) = sym (append-nil (D.of_spec s))
  shape_is (shapes.Structure node members) = rw (these t.fields members) refl

  -- ---- charts

  step_names_is : (x : StepNames) → of_step_names G x ≡ of_layer (t.step_names_layer x)
  step_names_is (steps.One name) = sym (append-nil (of_identifier G name))
  step_names_is (steps.Several node names) = rw (these t.identifier names) refl

  transition_is : (x : Transition) → of_transition S x ≡ of_layer (t.transition_layer x)
  transition_is x =
      rw (
        two (t.if_there t.identifier x.name) (t.step_names x.from ∷ t.step_names x.to ∷ t.expr
            x.condition ∷ []),
        there_if t.identifier x.name,
        append-nil (E.of_expr x.condition),
      ) refl

  sfc_part_is : (x : SfcPart) → of_sfc_part S x ≡ of_layer (t.sfc_part_layer x)
  sfc_part_is (chart.Step x) = sym (append-nil (of_step G x))
  sfc_part_is (chart.Transition x) = sym (append-nil (of_transition S x))
  sfc_part_is (chart.Action x) = sym (append-nil (of_action S x))

  -- ---- files

  body_is : (x : Body) → of_body S x ≡ of_layer (t.body_layer x)
  body_is (bodies.Statements found) = sym (these t.stmt found)
  body_is (bodies.Chart c) = sym (append-nil (of_sfc S c))

  unit_kind_is : (x : UnitKind) → of_unit_kind G x ≡ of_layer (t.unit_kind_layer x)
  unit_kind_is (kinds.Function name) = sym (append-nil (of_type_name G name))
  unit_kind_is kinds.Block = refl
  unit_kind_is kinds.Program = refl

  line_is : (x : ProgramLine) → of_program_line G x ≡ of_layer (t.program_line_layer x)
  line_is x =
      rw (
        two (t.if_there t.identifier x.task) (t.identifier x.program ∷ []),
        there_if t.identifier
            x.task,
        append-nil (of_identifier G x.program),
      ) refl

  resource_is : (x : Resource) → of_resource D x ≡ of_layer (t.resource_layer x)
  resource_is x =
      rw (
        two (map t.globals x.globals) (t.tasks x.tasks ∷ []),
        these t.globals x.globals,
        append-nil (of_tasks D x.tasks),
      ) refl

  config_is : (x : Config) → of_config D x ≡ of_layer (t.config_layer x)
  config_is x =
      rw (
        two (map t.globals x.globals) (map t.resource x.resources ++ t.tasks x.tasks ∷ []),
        these t.globals x.globals,
        two (map t.resource x.resources) (t.tasks x.tasks ∷ []),
        these t.resource x.resources,
        append-nil (of_tasks D x.tasks),
      ) refl

  unit_is : (x : UnitTree) → of_unit S D x ≡ of_layer (layer_of (t.unit x))
  unit_is x =
      rw (
        two (map t.section x.sections) (t.body x.body ∷ []),
        these t.section x.sections,
        append-nil (of_body S x.body),
      ) refl

  file_part_is : (x : FilePart) → of_file_part S D x ≡ of_layer (t.file_part_layer x)
  file_part_is (part.Unit x) = sym (append-nil (of_unit S D x))
  file_part_is (part.Types x) = sym (append-nil (of_types D x))
  file_part_is (part.Globals x) = sym (append-nil (of_globals D x))
  file_part_is (part.Config x) = sym (append-nil (of_config D x))

  -- ---- all of them

  pub layer_is : (x : Tree) → of_any x ≡ of_layer (layer_of x)
  layer_is (t.identifier x) =
      ap (λ ms. G.own x.node ++ ms) (sym (append-nil (G.spelled k.Name x.name)))
  layer_is (t.address x) =
      ap (λ ms. G.own x.node ++ ms) (sym (append-nil (G.spelled k.Address x.name)))
  layer_is (t.root x) = root_is x
  layer_is (t.expr x) = ap E.of_expr (sym (roll-out-Expr x)) ∙ expr_rolled (out-Expr x)
  layer_is (t.part x) = ap E.of_part (sym (roll-out-Part x)) ∙ part_rolled (out-Part x)
  layer_is (t.argument x) = argument_is x
  layer_is (t.path x) = path_is x
  layer_is (t.point x) = point_is x
  layer_is (t.label x) = label_is x
  layer_is (t.stmt_argument x) = stmt_argument_is x
  layer_is (t.counter x) = counter_is x
  layer_is (t.stmt x) = ap S.of_stmt (sym (roll-out-Stmt x)) ∙ stmt_rolled (out-Stmt x)
  layer_is (t.branch x) = branch_is x
  layer_is (t.one_case x) = case_is x
  layer_is (t.type_name x) = type_name_is x
  layer_is (t.range x) = simp append-nil refl
  layer_is (t.spec x) = ap D.of_spec (sym (roll-out-Spec x)) ∙ spec_rolled (out-Spec x)
  layer_is (t.init x) = ap D.of_init (sym (roll-out-Init x)) ∙ init_rolled (out-Init x)
  layer_is (t.item x) = ap D.of_item (sym (roll-out-Item x)) ∙ item_rolled (out-Item x)
  layer_is (t.field_init x) = field_init_is x
  layer_is (t.decl x) = decl_is x
  layer_is (t.section x) = rw (these t.decl x.decls) refl
  layer_is (t.association x) = rw (there_if t.identifier x.qualifier) refl
  layer_is (t.step x) = rw (these t.association x.associations) refl
  layer_is (t.step_names x) = step_names_is x
  layer_is (t.transition x) = transition_is x
  layer_is (t.action x) = rw (these t.stmt x.body) refl
  layer_is (t.sfc_part x) = sfc_part_is x
  layer_is (t.sfc x) = rw (these t.sfc_part x.parts) refl
  layer_is (t.body x) = body_is x
  layer_is (t.unit_kind x) = unit_kind_is x
  layer_is (t.unit x) = unit_is x
  layer_is (t.fields x) = fields_is x
  layer_is (t.shape x) = shape_is x
  layer_is (t.type_decl x) = rw (there_if t.init x.init) refl
  layer_is (t.types x) = rw (these t.type_decl x.decls) refl
  layer_is (t.globals x) = rw (these t.decl x.decls) refl
  layer_is (t.parameter x) = simp append-nil refl
  layer_is (t.task x) = rw (these t.parameter x.parameters) refl
  layer_is (t.program_line x) = line_is x
  layer_is (t.tasks x) =
      rw (
        two (map t.task x.tasks) (map t.program_line x.lines),
        these t.task x.tasks,
        these t.program_line x.lines,
      ) refl
  layer_is (t.resource x) = resource_is x
  layer_is (t.config x) = config_is x
  layer_is (t.file_part x) = file_part_is x

  -- ---- what is gathered of a tree within another

  pub among_layer : (m : M) (x : Tree) → Among m (flat_map of_any (layer_of x).parts) →
      Among m (of_any x)
  among_layer m x h =
      subst (λ ms. Among m ms) (sym (layer_is x))
      (among_right m (list_if G.own (layer_of x).node) (of_text (layer_of x).text
      ++ flat_map of_any (layer_of x).parts)
      (among_right m (of_text (layer_of x).text) (flat_map of_any (layer_of x).parts) h))

  pub enclosed_among : (m : M) {outer inner : Tree} → Encloses outer inner →
      Among m (of_any inner) → Among m (of_any outer)
  enclosed_among m {outer} {inner} (directly there) h =
      among_layer m outer (among_one of_any m inner (layer_of outer).parts
      (among_contained (layer_of outer).parts inner there) h)
  enclosed_among m {outer} {inner} (further {middle} there more) h =
      among_layer m outer (among_one of_any m middle (layer_of outer).parts
      (among_contained (layer_of outer).parts middle there) (enclosed_among m more h))
