-- The nodes of a tree of the first form start where nodes of the file do.
use Rattle.std.proofs.Common.{◌≡◌, ℕ, zero, suc, ◌≤◌, Bool, true, false, ◌&&◌, cond, List, [], ◌∷◌, ◌++◌, Option, Some, None, refl, sym, ap, subst, ◌∙◌, arith, inl, inr}
use Rattle.std.specs.Prelude.{map, flat_map, is_none, if◌then◌else◌}
use Rattle.std.specs.List.{AllByRecursion, Contains}
use Rattle.std.proofs.lemmas.Option.{same_Some, none-some, option_and_then_some}
use Rattle.iec_tables.specs.declared.elem.Elem.TheVariants as elem
use Rattle.st_tree.specs.declared.node.Node.{Node}
use Rattle.st_tree.specs.declared.code.Operator.{Operator}
use Rattle.st_tree.specs.declared.declaration.TypeName.{TypeName}
use Rattle.st_tree.specs.declared.declaration.Range.{Range}
use Rattle.st_tree.specs.declared.declaration.Spec as typed
use Rattle.st_tree.specs.declared.declaration.Spec.TheVariants as type
use Rattle.st_tree.specs.declared.declaration.Decl as written_decl
use Rattle.st_tree.specs.declared.declaration.Section as written_section
use Rattle.st_tree.specs.declared.expression.Identifier as written_identifier
use Rattle.st_tree.specs.declared.expression.Root.{Root}
use Rattle.st_tree.specs.declared.expression.Path as written_path
use Rattle.st_tree.specs.declared.expression.Part.{Part}
use Rattle.st_tree.specs.declared.expression.Argument.{Argument}
use Rattle.st_tree.specs.declared.expression.Expr as written
use Rattle.st_tree.specs.declared.expression.Expr.TheVariants as source
use Rattle.st_tree.specs.declared.expression.Expr.TheOpen.{Expr-F}
use Rattle.st_tree.specs.declared.statement.Stmt as written_stmt
use Rattle.st_tree.specs.declared.statement.Stmt.TheVariants as statement
use Rattle.st_tree.specs.declared.file.Body.{Body}
use Rattle.st_tree.specs.declared.file.Body.TheVariants.{Statements, Chart}
use Rattle.st_tree.specs.declared.file.Unit as written_unit
use Rattle.tree_numbers.specs.NodeLists.{nodes_of_identifier, nodes_of_root, nodes_of_path, nodes_of_expr, nodes_of_part, nodes_of_stmt, nodes_of_spec, nodes_of_decl, nodes_of_section, nodes_of_body, nodes_of_unit, nodes_of_unit_kind, nodes_if, nodes_of_address, nodes_of_init, nodes_of_type_name, nodes_of_range}
use Rattle.tree_numbers.proofs.NodeEquations.{of_number, of_path, of_binary, of_whole_path, of_assign, of_type}
use Rattle.first_form.specs.declared.tree.Identifier.{Identifier}
use Rattle.first_form.specs.declared.tree.Path.{Path}
use Rattle.first_form.specs.declared.tree.Expr.{Expr, more_of-Expr, end_of-Expr}
use Rattle.first_form.specs.declared.tree.Expr.TheVariants as expr
use Rattle.first_form.specs.declared.tree.Stmt.{Stmt}
use Rattle.first_form.specs.declared.tree.Stmt.TheVariants.{Assign}
use Rattle.first_form.specs.declared.tree.Spec.{Spec}
use Rattle.first_form.specs.declared.tree.Decl.{Decl}
use Rattle.first_form.specs.declared.tree.Section.{Section}
use Rattle.first_form.specs.declared.tree.Unit.{Unit as SourceUnit}
use Rattle.first_form.specs.Bare.{bare_node, bare_unit}
use Rattle.first_form.specs.Nodes.{path_nodes, expr_nodes, stmt_nodes, name_node, decl_nodes, section_nodes, unit_nodes}
use Rattle.first_form.specs.Names.{has, declared_in}
use Rattle.first_form.specs.FirstForm.{Known, ◌>>=◌, each, named, is_empty, path, is_short, number_of, number, operand, operator, sum, stmt, body, is_int, spec, decl, is_plain, section, sections, is_program, are_apart, identifier, unit_of}
use Rattle.first_form.proofs.OneTree.{unit}

-- what a test lets through
pub let_through : {X : Type 0} (b : Bool) (o : Option X) (y : X) → cond b o None ≡ Some y → o
    ≡ Some y
let_through true o y e = e
let_through false o y e = absurd (none-some y e)

module _ (most : ℕ) where
  abbrev Starts : List Node → Type 0
  Starts nodes = AllByRecursion (λ (node : Node). node.start ≤ most) nodes

  left_of : (xs ys : List Node) → Starts (xs ++ ys) → Starts xs
  left_of [] ys h = tt
  left_of (x ∷ xs) ys h = (h.0, left_of xs ys h.1)

  right_of : (xs ys : List Node) → Starts (xs ++ ys) → Starts ys
  right_of [] ys h = h
  right_of (x ∷ xs) ys h = right_of xs ys h.1

  both_of : (xs ys : List Node) → Starts xs → Starts ys → Starts (xs ++ ys)
  both_of [] ys g h = h
  both_of (x ∷ xs) ys g h = (g.0, both_of xs ys g.1 h)

  -- ---- names and operands

  named_starts : (r : Root) (i : Identifier) → named r ≡ Some i → Starts (nodes_of_root r)
      → Starts (i.node ∷ [])
  unfolding identifier
  named_starts (Root.Name x) i e h =
      subst (λ (k : Identifier). Starts (k.node ∷ [])) (same_Some (identifier x) i e) h
  named_starts (Root.Address x) i e h = absurd (none-some i e)

  path_starts : (known : Known) (p : written_path.Path) (q : Path) → path known p ≡ Some q
      → Starts (nodes_of_path p) → Starts (path_nodes q)
  unfolding path
  path_starts known p q e h =
      let k : Starts (p.node ∷ (nodes_of_root p.root ++ flat_map nodes_of_part p.parts)) =
      subst Starts (of_whole_path p.node p.root p.parts) h in
      option_and_then_some (λ i. if is_empty p.parts && known i.name then Some
      (record { node = bare_node p.node; root = i }) else None) (named p.root) q e
      (λ i found is. subst (λ (x : Path). Starts (path_nodes x))
      (same_Some (record { node = bare_node p.node; root = i }) q
      (let_through (is_empty p.parts && known i.name)
      (Some (record { node = bare_node p.node; root = i })) q is)) (
        k.0,
        named_starts p.root i found
            (left_of (nodes_of_root p.root) (flat_map nodes_of_part p.parts) k.1),
      ))

  layer_starts : (known : Known) (x : Expr-F written.Expr Part Argument written_path.Path)
      (y : Expr) → (elim x [
        | Expr-F.Number node negative digits ↦ number node negative digits
        | Expr-F.Path p ↦ path known p >>= λ q. Some (expr.Variable q)
        | _ ↦ None
      ]) ≡ Some y → Starts (nodes_of_expr (written.roll-Expr x)) → Starts (expr_nodes y)
  unfolding written.roll-Expr denote.Hole.Carrier.roll
  layer_starts known (Expr-F.Number node negative digits) y e h =
      let literal : Expr =
      expr.Number (bare_node node) (record { negative = negative; size = number_of digits }) in
      let k : Starts (node ∷ []) = subst Starts (of_number node negative digits) h in
      subst (λ (x : Expr). Starts (expr_nodes x))
      (same_Some literal y (let_through (is_short digits) (Some literal) y e)) k
  layer_starts known (Expr-F.Path p) y e h =
      option_and_then_some (λ q. Some (expr.Variable q)) (path known p) y e
      (λ q found is. subst (λ (x : Expr). Starts (expr_nodes x)) (same_Some (expr.Variable q) y is)
      (path_starts known p q found (subst Starts (of_path p) h)))
  layer_starts known other y e h = absurd (none-some y e)

  operand_starts : (known : Known) (x : written.Expr) (y : Expr) → operand known x ≡ Some y
      → Starts (nodes_of_expr x) → Starts (expr_nodes y)
  unfolding operand
  operand_starts known x y e h =
      layer_starts known (written.out-Expr x) y e
      (subst (λ (z : written.Expr). Starts (nodes_of_expr z)) (sym (written.roll-out-Expr x)) h)

  -- ---- sums and statements

  sum_starts : (known : Known) (x : written.Expr) (y : Expr) → sum known x ≡ Some y
      → Starts (nodes_of_expr x) → Starts (expr_nodes y)
  unfolding sum Rattle.st_tree.specs.declared.expression.Expr.TheBlock.hidden-the_row-Expr-1 Rattle.st_tree.specs.declared.expression.Expr.TheBlock.hidden-the_row-Expr-3 Rattle.first_form.specs.declared.tree.Expr.TheBlock.hidden-the_row-Expr-0 denote.Hole.Carrier.hidden
  sum_starts known (source.Binary' node o l (written.more_of-Expr left written.end_of-Expr) r
      (written.more_of-Expr right written.end_of-Expr)) y e h =
      let k : Starts (node ∷ (nodes_of_expr left ++ nodes_of_expr right)) =
      subst Starts (of_binary node o left right) h in
      option_and_then_some (λ op. sum known left >>= λ x. operand known right >>= λ z. Some
      (expr.Binary (bare_node node) op x z)) (operator o) y e
      (λ op operator_is made. option_and_then_some
      (λ x. operand known right >>= λ z. Some (expr.Binary (bare_node node) op x z))
      (sum known left) y made
      (λ x left_is more. option_and_then_some (λ z. Some (expr.Binary (bare_node node) op x z))
      (operand known right) y more
      (λ z right_is whole. subst (λ (t : Expr). Starts (expr_nodes t))
      (same_Some (expr.Binary (bare_node node) op x z) y whole) (
        k.0,
        both_of (expr_nodes x) (expr_nodes z)
            (sum_starts known left x left_is (left_of (nodes_of_expr left) (nodes_of_expr right)
            k.1))
            (operand_starts known right z right_is
            (right_of (nodes_of_expr left) (nodes_of_expr right) k.1)),
      ))))
  sum_starts known other y e h = operand_starts known other y e h

  stmt_starts : (known : Known) (s : written_stmt.Stmt) (t : Stmt) → stmt known s ≡ Some t
      → Starts (nodes_of_stmt s) → Starts (stmt_nodes t)
  unfolding stmt
  stmt_starts known (statement.Assign node target value) t e h =
      let k : Starts (node ∷ (nodes_of_path target ++ nodes_of_expr value)) =
      subst Starts (of_assign node target value) h in
      option_and_then_some (λ p. sum known value >>= λ x. Some (Assign (bare_node node) p x))
      (path known target) t e
      (λ p path_is made. option_and_then_some (λ x. Some (Assign (bare_node node) p x))
      (sum known value) t made
      (λ x sum_is whole. subst (λ (s : Stmt). Starts (stmt_nodes s))
      (same_Some (Assign (bare_node node) p x) t whole) (
        k.0,
        both_of (path_nodes p) (expr_nodes x)
            (path_starts known target p path_is
            (left_of (nodes_of_path target) (nodes_of_expr value) k.1))
            (sum_starts known value x sum_is (right_of (nodes_of_path target) (nodes_of_expr value)
            k.1)),
      )))
  stmt_starts known other t e h = absurd (none-some t e)

  -- ---- lists

  each_starts : {X Y : Type 0} (f : X → Option Y) (written : X → List Node) (nodes : Y → List Node)
      → ((x : X) (y : Y) → f x ≡ Some y → Starts (written x) → Starts (nodes y))
      → (xs : List X) (ys : List Y) → each f xs ≡ Some ys → Starts (flat_map written xs)
      → Starts (flat_map nodes ys)
  each_starts {X} {Y} f written nodes one [] ys e h =
      subst (λ (zs : List Y). Starts (flat_map nodes zs)) (same_Some [] ys e) tt
  each_starts {X} {Y} f written nodes one (x ∷ xs) ys e h =
      option_and_then_some (λ y. each f xs >>= λ zs. Some (y ∷ zs)) (f x) ys e
      (λ y first more. option_and_then_some (λ zs. Some (y ∷ zs)) (each f xs) ys more
      (λ zs others whole. subst (λ (us : List Y). Starts (flat_map nodes us))
      (same_Some (y ∷ zs) ys whole)
      (both_of (nodes y) (flat_map nodes zs)
      (one x y first (left_of (written x) (flat_map written xs) h))
      (each_starts f written nodes one xs zs others
      (right_of (written x) (flat_map written xs) h)))))

  body_starts : (known : Known) (b : Body) (made : List Stmt) → body known b ≡ Some made
      → Starts (nodes_of_body b) → Starts (flat_map stmt_nodes made)
  body_starts known (Statements stmts) made e h =
      each_starts (stmt known) nodes_of_stmt stmt_nodes (stmt_starts known) stmts made e h
  body_starts known (Chart chart) made e h = absurd (none-some made e)

  -- ---- declarations

  names_start : (is : List written_identifier.Identifier) → Starts (flat_map nodes_of_identifier is)
      → Starts (map name_node (map identifier is))
  unfolding identifier
  names_start [] h = tt
  names_start (i ∷ is) h = (h.0, names_start is h.1)

  spec_starts : (s : typed.Spec) (t : Spec) → spec s ≡ Some t → Starts (nodes_of_spec s)
      → Starts (t.node ∷ [])
  unfolding spec
  spec_starts (type.«Type» node name None) t e h =
      let k : Starts (node ∷ (nodes_of_type_name name ++ [])) =
      subst Starts (of_type node name None) h in
      let made : Spec = record { node = bare_node node; elem = elem.Int } in
      subst (λ (x : Spec). Starts (x.node ∷ []))
      (same_Some made t (let_through (is_int name) (Some made) t e)) (k.0, tt)
  spec_starts other t e h = absurd (none-some t e)

  decl_starts : (d : written_decl.Decl) (t : Decl) → decl d ≡ Some t → Starts (nodes_of_decl d)
      → Starts (decl_nodes t)
  unfolding decl
  decl_starts d t e h =
      let named : List Node = flat_map nodes_of_identifier d.names in
      let placed : List Node = nodes_if nodes_of_address d.address in
      let rest : List Node = nodes_of_spec d.spec ++ nodes_if nodes_of_init d.init in
      option_and_then_some (λ s. if is_none d.address && is_none d.init then Some
      (record { node = bare_node d.node; names = map identifier d.names; spec = s }) else None)
      (spec d.spec) t e
      (λ s found is.
      let made : Decl = record {
        node = bare_node d.node;
        names = map identifier d.names;
        spec =
            s;
      } in
      subst (λ (x : Decl). Starts (decl_nodes x))
      (same_Some made t (let_through (is_none d.address && is_none d.init) (Some made) t is)) (
        h.0,
        both_of (map name_node (map identifier d.names)) (s.node ∷ [])
            (names_start d.names (left_of named (placed ++ rest) h.1))
            (spec_starts d.spec s found
            (left_of (nodes_of_spec d.spec) (nodes_if nodes_of_init d.init)
            (right_of placed rest (right_of named (placed ++ rest) h.1)))),
      ))

  section_starts : (s : written_section.Section) (t : Section) → section s ≡ Some t
      → Starts (nodes_of_section s) → Starts (section_nodes t)
  unfolding section
  section_starts s t e h =
      option_and_then_some
      (λ ds. if is_plain s.kind s.keep then Some (record { node = bare_node s.node; decls = ds })
      else None) (each decl s.decls) t e
      (λ ds found is.
      let made : Section = record { node = bare_node s.node; decls = ds } in
      subst (λ (x : Section). Starts (section_nodes x))
      (same_Some made t (let_through (is_plain s.kind s.keep) (Some made) t is))
      (h.0, each_starts decl nodes_of_decl decl_nodes decl_starts s.decls ds found h.1))

  sections_start : (ss : List written_section.Section) (made : List Section) → sections ss
      ≡ Some made → Starts (flat_map nodes_of_section ss) → Starts (flat_map section_nodes made)
  unfolding sections
  sections_start [] made e h =
      subst (λ (ts : List Section). Starts (flat_map section_nodes ts)) (same_Some [] made e) tt
  sections_start (s ∷ []) made e h =
      option_and_then_some (λ one. Some (one ∷ [])) (section s) made e
      (λ one found is. subst (λ (ts : List Section). Starts (flat_map section_nodes ts))
      (same_Some (one ∷ []) made is)
      (both_of (section_nodes one) []
      (section_starts s one found (left_of (nodes_of_section s) [] h)) tt))
  sections_start (s ∷ t ∷ more) made e h = absurd (none-some made e)

  -- ---- units

  unit_starts : (u : written_unit.Unit) (made : SourceUnit) → unit_of u ≡ Some made
      → Starts (nodes_of_unit u) → Starts (unit_nodes made)
  unfolding unit_of identifier
  unit_starts u made e h =
      let kinds : List Node = nodes_of_unit_kind u.kind in
      let declared : List Node = flat_map nodes_of_section u.sections in
      let stated : List Node = nodes_of_body u.body in
      let inner : Starts (declared ++ stated) = right_of kinds (declared ++ stated) h.1.1 in
      option_and_then_some (λ ss. if is_program u.kind && are_apart (declared_in ss)
      then (body (has (declared_in ss)) u.body >>= λ stmts. Some
      (record {
        node = bare_node u.node;
        name = identifier u.name;
        sections = ss;
        body =
            stmts;
      }))
      else None) (sections u.sections) made e
      (λ ss sections_are more. option_and_then_some
      (λ stmts. Some (record {
        node = bare_node u.node;
        name = identifier u.name;
        sections =
            ss;
        body = stmts;
      })) (body (has (declared_in ss)) u.body) made
      (let_through (is_program u.kind && are_apart (declared_in ss))
      (body (has (declared_in ss)) u.body >>= λ stmts. Some
      (record {
        node = bare_node u.node;
        name = identifier u.name;
        sections = ss;
        body =
            stmts;
      })) made more)
      (λ stmts body_is whole. subst (λ (x : SourceUnit). Starts (unit_nodes x))
      (same_Some (record {
        node = bare_node u.node;
        name = identifier u.name;
        sections = ss;
        body =
            stmts;
      }) made whole) (
        h.0,
        (
          h.1.0,
          both_of (flat_map section_nodes ss) (flat_map stmt_nodes stmts)
              (sections_start u.sections ss sections_are (left_of declared stated inner))
              (body_starts (has (declared_in ss)) u.body stmts body_is
              (right_of declared stated inner)),
        ),
      )))

  unbare : (nodes : List Node) → Starts (map bare_node nodes) → Starts nodes
  unbare [] h = tt
  unbare (node ∷ nodes) h = (h.0, unbare nodes h.1)

  -- where the nodes of the program start up to there, the nodes of its tree do
  pub unit_within : (u : written_unit.Unit) (made : SourceUnit) → unit_of u ≡ Some (bare_unit made)
      → Starts (nodes_of_unit u) → Starts (unit_nodes made)
  unit_within u made e h =
      unbare (unit_nodes made)
      (subst Starts (unit.bare_nodes made) (unit_starts u (bare_unit made) e h))
