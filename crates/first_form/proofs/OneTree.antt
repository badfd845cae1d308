-- The numbers of the nodes determine a tree: two trees with one bare form whose nodes count from
-- the same number are the same.
use Rattle.std.proofs.Common.{◌≡◌, ℕ, suc, ◌+◌, List, [], ◌∷◌, ◌++◌, length, refl, sym, ap, subst, ◌∙◌, arith}
use Rattle.std.specs.Prelude.{map, flat_map}
use Rattle.std.proofs.lemmas.List.{map-append, length-map}
use Rattle.st_tree.specs.declared.node.Node.{Node}
use Rattle.first_form.specs.declared.tree.Identifier.{Identifier}
use Rattle.first_form.specs.declared.tree.Path.{Path}
use Rattle.first_form.specs.declared.tree.Literal.{Literal}
use Rattle.st_tree.specs.declared.code.Operator.{Operator}
use Rattle.st_tree.specs.declared.code.Operator.TheVariants.{Add}
use Rattle.first_form.specs.declared.tree.Expr.{Expr, more_of-Expr, end_of-Expr}
use Rattle.first_form.specs.declared.tree.Expr.TheVariants as expr
use Rattle.first_form.specs.declared.tree.Stmt.{Stmt}
use Rattle.first_form.specs.declared.tree.Stmt.TheVariants.{Assign}
use Rattle.first_form.specs.declared.tree.Spec.{Spec}
use Rattle.first_form.specs.declared.tree.Decl.{Decl}
use Rattle.first_form.specs.declared.tree.Section.{Section}
use Rattle.first_form.specs.declared.tree.Unit.{Unit as SourceUnit}
use Rattle.first_form.specs.declared.tree.SourceTree.{SourceTree}
use Rattle.first_form.specs.Nodes.{CountsFrom, IsNumbered, place_of, path_nodes, expr_nodes, stmt_nodes, name_node, decl_nodes, section_nodes, unit_nodes}
use Rattle.first_form.specs.Bare.{bare_node, bare_identifier, bare_path, bare_expr, bare_stmt, bare_spec, bare_decl, bare_section, bare_unit}

-- What holds of each type: the nodes of a bare value are the bare nodes, and no two values that
-- count from one number have one bare form.
pub record Determines {A : Type 0} (bare : A → A) (nodes : A → List Node) : Type 0 where
  pub bare_nodes : (x : A) → nodes (bare x) ≡ map bare_node (nodes x)
  pub same : (x y : A) (n : ℕ) → bare x ≡ bare y → CountsFrom n (nodes x) → CountsFrom n (nodes y)
      → x ≡ y

same_node : (x y : Node) (n : ℕ) → bare_node x ≡ bare_node y → x.number.0 ≡ n → y.number.0 ≡ n → x
    ≡ y
same_node x y n e a b =
    ap (λ (k : ℕ). record { number = record { 0 = k }; start = x.start; end = x.end }) (a ∙ sym b)
    ∙ ap (λ (m : Node). record { number = y.number; start = m.start; end = m.end }) e

-- ---- one value after the other

counts_split : (n : ℕ) (xs ys : List Node) → CountsFrom n (xs ++ ys) → CountsFrom n xs
    × CountsFrom (n + length xs) ys
counts_split n [] ys h = let e : n ≡ n + 0 = omega arith in
    (tt, subst (λ (k : ℕ). CountsFrom k ys) e h)
counts_split n (x ∷ xs) ys h =
    let rest = counts_split (suc n) xs ys h.1 in
    let e : suc n + length xs ≡ n + suc (length xs) = omega arith in
    ((h.0, rest.0), subst (λ (k : ℕ). CountsFrom k ys) e rest.1)

counts_after : (n k : ℕ) (xs ys : List Node) → length xs ≡ k → CountsFrom n (xs ++ ys)
    → CountsFrom (n + k) ys
counts_after n k xs ys e h = subst (λ (m : ℕ). CountsFrom (n + m) ys) e (counts_split n xs ys h).1

-- one bare form has one number of nodes
same_length : {A : Type 0} (bare : A → A) (nodes : A → List Node)
    → ((x : A) → nodes (bare x) ≡ map bare_node (nodes x)) → (x y : A) → bare x ≡ bare y
    → length (nodes y) ≡ length (nodes x)
same_length bare nodes bare_nodes x y e =
    sym (length-map (nodes y) bare_node) ∙ ap length (sym (bare_nodes y) ∙ ap nodes (sym e)
    ∙ bare_nodes x) ∙ length-map (nodes x) bare_node

module _ {A : Type 0} {bare : A → A} {nodes : A → List Node} (one : Determines bare nodes) where
  both : {B : Type 0} {bare2 : B → B} {nodes2 : B → List Node} → Determines bare2 nodes2
      → (x y : A) (x2 y2 : B) (n : ℕ) → bare x ≡ bare y → bare2 x2 ≡ bare2 y2
      → CountsFrom n (nodes x ++ nodes2 x2) → CountsFrom n (nodes y ++ nodes2 y2) → (x ≡ y)
      × (x2 ≡ y2)
  both {B} {bare2} {nodes2} other x y x2 y2 n e e2 a b =
      let c = counts_split n (nodes x) (nodes2 x2) a in
      let d = counts_split n (nodes y) (nodes2 y2) b in
      let after = counts_after n (length (nodes x)) (nodes y) (nodes2 y2)
      (same_length bare nodes one.bare_nodes x y e) b in
      (one.same x y n e c.0 d.0, other.same x2 y2 (n + length (nodes x)) e2 c.1 after)

  list_nodes : (xs : List A) → flat_map nodes (map bare xs) ≡ map bare_node (flat_map nodes xs)
  list_nodes [] = refl
  list_nodes (x ∷ xs) =
      ap (λ (ns : List Node). ns ++ flat_map nodes (map bare xs)) (one.bare_nodes x)
      ∙ ap (λ (ns : List Node). map bare_node (nodes x) ++ ns) (list_nodes xs)
      ∙ sym (map-append bare_node (nodes x) (flat_map nodes xs))

  same_list : (xs ys : List A) (n : ℕ) → map bare xs ≡ map bare ys
      → CountsFrom n (flat_map nodes xs) → CountsFrom n (flat_map nodes ys) → xs ≡ ys
  same_list [] [] n e a b = refl
  same_list [] (y ∷ ys) n e a b = absurd cc
  same_list (x ∷ xs) [] n e a b = absurd cc
  same_list (x ∷ xs) (y ∷ ys) n e a b =
      let first : bare x ≡ bare y = cc in
      let others : map bare xs ≡ map bare ys = cc in
      let c = counts_split n (nodes x) (flat_map nodes xs) a in
      let d = counts_split n (nodes y) (flat_map nodes ys) b in
      let after = counts_after n (length (nodes x)) (nodes y) (flat_map nodes ys)
      (same_length bare nodes one.bare_nodes x y first) b in
      ap (λ (z : A). z ∷ xs) (one.same x y n first c.0 d.0) ∙ ap (λ (zs : List A). y ∷ zs)
      (same_list xs ys (n + length (nodes x)) others c.1 after)

  of_list : Determines (map bare) (flat_map nodes)
  of_list = record { bare_nodes = list_nodes; same = same_list }

-- ---- names and paths

abbrev nodes_of_name : Identifier → List Node
nodes_of_name i = i.node ∷ []

same_identifier : (x y : Identifier) (n : ℕ) → bare_identifier x ≡ bare_identifier y
    → CountsFrom n (nodes_of_name x) → CountsFrom n (nodes_of_name y) → x ≡ y
same_identifier x y n e a b =
    ap (λ (m : Node). record { node = m; name = x.name })
    (same_node x.node y.node n (ap (λ (i : Identifier). i.node) e) a.0 b.0)
    ∙ ap (λ (i : Identifier). record { node = y.node; name = i.name }) e

identifier : Determines bare_identifier nodes_of_name
identifier = record { bare_nodes = λ x. refl; same = same_identifier }

name_nodes : (is : List Identifier) → flat_map nodes_of_name is ≡ map name_node is
name_nodes [] = refl
name_nodes (i ∷ is) = ap (λ (ns : List Node). i.node ∷ ns) (name_nodes is)

identifiers : Determines (map bare_identifier) (map name_node)
identifiers =
    let flat : Determines (map bare_identifier) (flat_map nodes_of_name) = of_list identifier in
    record {
      bare_nodes = λ is. sym (name_nodes (map bare_identifier is)) ∙ flat.bare_nodes is
          ∙ ap (map bare_node) (name_nodes is);
      same = λ is js n e a b. flat.same is js n e (subst (CountsFrom n) (sym (name_nodes is)) a)
          (subst (CountsFrom n) (sym (name_nodes js)) b);
    }

same_path : (x y : Path) (n : ℕ) → bare_path x ≡ bare_path y → CountsFrom n (path_nodes x)
    → CountsFrom n (path_nodes y) → x ≡ y
same_path x y n e a b =
    ap (λ (m : Node). record { node = m; root = x.root })
    (same_node x.node y.node n (ap (λ (p : Path). p.node) e) a.0 b.0)
    ∙ ap (λ (i : Identifier). record { node = y.node; root = i })
    (same_identifier x.root y.root (suc n) (ap (λ (p : Path). p.root) e) a.1 b.1)

path : Determines bare_path path_nodes
path = record { bare_nodes = λ x. refl; same = same_path }

-- ---- expressions

abbrev left_of : Expr → Expr
left_of (expr.Binary' node o l (more_of-Expr left end_of-Expr) r right) = left
left_of x = x

abbrev right_of : Expr → Expr
right_of (expr.Binary' node o l left r (more_of-Expr right end_of-Expr)) = right
right_of x = x

abbrev operator_of : Expr → Operator
operator_of (expr.Binary' node o l left r right) = o
operator_of x = Add

expr_bare_nodes : (x : Expr) → expr_nodes (bare_expr x) ≡ map bare_node (expr_nodes x)
unfolding Rattle.first_form.specs.declared.tree.Expr.TheBlock.hidden-the_row-Expr-0 denote.Hole.Carrier.hidden
expr_bare_nodes (expr.Number node literal) = refl
expr_bare_nodes (expr.Variable p) = refl
expr_bare_nodes (expr.Binary' node o l (more_of-Expr left end_of-Expr) r
    (more_of-Expr right end_of-Expr)) =
    ap (λ (ns : List Node). bare_node node ∷ (ns ++ expr_nodes (bare_expr right)))
    (expr_bare_nodes left)
    ∙ ap (λ (ns : List Node). bare_node node ∷ (map bare_node (expr_nodes left) ++ ns))
    (expr_bare_nodes right)
    ∙ ap (λ (ns : List Node). bare_node node ∷ ns)
    (sym (map-append bare_node (expr_nodes left) (expr_nodes right)))

same_number : (node node2 : Node) (literal literal2 : Literal) (n : ℕ)
    → expr.Number (bare_node node) literal ≡ expr.Number (bare_node node2) literal2 → node.number.0
    ≡ n → node2.number.0 ≡ n → expr.Number node literal ≡ expr.Number node2 literal2
same_number node node2 literal literal2 n e a b =
    let nodes : bare_node node ≡ bare_node node2 = cc in
    let here = same_node node node2 n nodes a b in
    let literals : literal ≡ literal2 = cc in
    ap (λ (m : Node). expr.Number m literal) here ∙ ap (λ (k : Literal). expr.Number node2 k)
    literals

same_binary : (node node2 : Node) (o o2 : Operator) (left left2 right right2 : Expr) → node ≡ node2
    → o ≡ o2 → left ≡ left2 → right ≡ right2 → expr.Binary node o left right
    ≡ expr.Binary node2 o2 left2 right2
same_binary node node2 o o2 left left2 right right2 e1 e2 e3 e4 =
    ap (λ (m : Node). expr.Binary m o left right) e1
    ∙ ap (λ (k : Operator). expr.Binary node2 k left right) e2
    ∙ ap (λ (x : Expr). expr.Binary node2 o2 x right) e3
    ∙ ap (λ (x : Expr). expr.Binary node2 o2 left2 x) e4

same_expr : (x y : Expr) (n : ℕ) → bare_expr x ≡ bare_expr y → CountsFrom n (expr_nodes x)
    → CountsFrom n (expr_nodes y) → x ≡ y
unfolding Rattle.first_form.specs.declared.tree.Expr.TheBlock.hidden-the_row-Expr-0 denote.Hole.Carrier.hidden
same_expr (expr.Number node literal) (expr.Number node2 literal2) n e a b =
    same_number node node2 literal literal2 n e a.0 b.0
same_expr (expr.Number node literal) (expr.Variable q) n e a b = absurd cc
same_expr (expr.Number node literal) (expr.Binary' node2 o2 l2 (more_of-Expr left2 end_of-Expr) r2
    (more_of-Expr right2 end_of-Expr)) n e a b = absurd cc
same_expr (expr.Variable p) (expr.Number node2 literal2) n e a b = absurd cc
same_expr (expr.Variable p) (expr.Variable q) n e a b = let paths : bare_path p ≡ bare_path q =
    cc in ap expr.Variable (same_path p q n paths a b)
same_expr (expr.Variable p) (expr.Binary' node2 o2 l2 (more_of-Expr left2 end_of-Expr) r2
    (more_of-Expr right2 end_of-Expr)) n e a b = absurd cc
same_expr (expr.Binary' node o l (more_of-Expr left end_of-Expr) r (more_of-Expr right end_of-Expr))
    (expr.Number node2 literal2) n e a b = absurd cc
same_expr (expr.Binary' node o l (more_of-Expr left end_of-Expr) r (more_of-Expr right end_of-Expr))
    (expr.Variable q) n e a b = absurd cc
same_expr (expr.Binary' node o l (more_of-Expr left end_of-Expr) r (more_of-Expr right end_of-Expr))
    (expr.Binary' node2 o2 l2 (more_of-Expr left2 end_of-Expr) r2 (more_of-Expr right2 end_of-Expr))
    n e a b =
    let lefts : bare_expr left ≡ bare_expr left2 = ap left_of e in
    let rights : bare_expr right ≡ bare_expr right2 = ap right_of e in
    let c = counts_split (suc n) (expr_nodes left) (expr_nodes right) a.1 in
    let d = counts_split (suc n) (expr_nodes left2) (expr_nodes right2) b.1 in
    let after = counts_after (suc n) (length (expr_nodes left)) (expr_nodes left2)
    (expr_nodes right2) (same_length bare_expr expr_nodes expr_bare_nodes left left2 lefts)
    b.1 in
    same_binary node node2 o o2 left left2 right right2
    (same_node node node2 n (ap place_of e) a.0 b.0) (ap operator_of e)
    (same_expr left left2 (suc n) lefts c.0 d.0)
    (same_expr right right2 (suc n + length (expr_nodes left)) rights c.1 after)

expression : Determines bare_expr expr_nodes
expression = record { bare_nodes = expr_bare_nodes; same = same_expr }

-- ---- statements

stmt_bare_nodes : (x : Stmt) → stmt_nodes (bare_stmt x) ≡ map bare_node (stmt_nodes x)
stmt_bare_nodes (Assign node target value) =
    ap (λ (ns : List Node). bare_node node ∷ (path_nodes (bare_path target) ++ ns))
    (expr_bare_nodes value)

same_stmt : (x y : Stmt) (n : ℕ) → bare_stmt x ≡ bare_stmt y → CountsFrom n (stmt_nodes x)
    → CountsFrom n (stmt_nodes y) → x ≡ y
same_stmt (Assign node target value) (Assign node2 target2 value2) n e a b =
    let nodes : bare_node node ≡ bare_node node2 = cc in
    let targets : bare_path target ≡ bare_path target2 = cc in
    let values : bare_expr value ≡ bare_expr value2 = cc in
    let here = same_node node node2 n nodes a.0 b.0 in
    let parts = both path expression target target2 value value2 (suc n) targets values a.1 b.1 in
    ap (λ (m : Node). Assign m target value) here ∙ ap (λ (p : Path). Assign node2 p value) parts.0
    ∙ ap (λ (x : Expr). Assign node2 target2 x) parts.1

statement : Determines bare_stmt stmt_nodes
statement = record { bare_nodes = stmt_bare_nodes; same = same_stmt }

-- ---- declarations

abbrev nodes_of_spec : Spec → List Node
nodes_of_spec s = s.node ∷ []

same_spec : (x y : Spec) (n : ℕ) → bare_spec x ≡ bare_spec y → CountsFrom n (nodes_of_spec x)
    → CountsFrom n (nodes_of_spec y) → x ≡ y
same_spec x y n e a b =
    ap (λ (m : Node). record { node = m; elem = x.elem })
    (same_node x.node y.node n (ap (λ (s : Spec). s.node) e) a.0 b.0)
    ∙ ap (λ (s : Spec). record { node = y.node; elem = s.elem }) e

spec : Determines bare_spec nodes_of_spec
spec = record { bare_nodes = λ x. refl; same = same_spec }

decl_bare_nodes : (x : Decl) → decl_nodes (bare_decl x) ≡ map bare_node (decl_nodes x)
decl_bare_nodes x =
    ap (λ (ns : List Node). bare_node x.node ∷ (ns ++ bare_node x.spec.node ∷ []))
    (identifiers.bare_nodes x.names)
    ∙ ap (λ (ns : List Node). bare_node x.node ∷ ns)
    (sym (map-append bare_node (map name_node x.names) (x.spec.node ∷ [])))

same_decl : (x y : Decl) (n : ℕ) → bare_decl x ≡ bare_decl y → CountsFrom n (decl_nodes x)
    → CountsFrom n (decl_nodes y) → x ≡ y
same_decl x y n e a b =
    let here = same_node x.node y.node n (ap (λ (d : Decl). d.node) e) a.0 b.0 in
    let parts = both identifiers spec x.names y.names x.spec y.spec (suc n)
    (ap (λ (d : Decl). d.names) e) (ap (λ (d : Decl). d.spec) e) a.1 b.1 in
    ap (λ (m : Node). record { node = m; names = x.names; spec = x.spec }) here
    ∙ ap (λ (is : List Identifier). record { node = y.node; names = is; spec = x.spec }) parts.0
    ∙ ap (λ (s : Spec). record { node = y.node; names = y.names; spec = s }) parts.1

declaration : Determines bare_decl decl_nodes
declaration = record { bare_nodes = decl_bare_nodes; same = same_decl }

declarations : Determines (map bare_decl) (flat_map decl_nodes)
declarations = of_list declaration

same_section : (x y : Section) (n : ℕ) → bare_section x ≡ bare_section y
    → CountsFrom n (section_nodes x) → CountsFrom n (section_nodes y) → x ≡ y
same_section x y n e a b =
    ap (λ (m : Node). record { node = m; decls = x.decls })
    (same_node x.node y.node n (ap (λ (s : Section). s.node) e) a.0 b.0)
    ∙ ap (λ (ds : List Decl). record { node = y.node; decls = ds })
    (declarations.same x.decls y.decls (suc n) (ap (λ (s : Section). s.decls) e) a.1 b.1)

section : Determines bare_section section_nodes
section = record {
  bare_nodes =
      λ x. ap (λ (ns : List Node). bare_node x.node ∷ ns) (declarations.bare_nodes x.decls);
  same =
      same_section;
}

-- ---- units

sections : Determines (map bare_section) (flat_map section_nodes)
sections = of_list section

body : Determines (map bare_stmt) (flat_map stmt_nodes)
body = of_list statement

unit_bare_nodes : (u : SourceUnit) → unit_nodes (bare_unit u) ≡ map bare_node (unit_nodes u)
unit_bare_nodes u =
    ap (λ (ns : List Node). bare_node u.node
    ∷ (bare_node u.name.node ∷ (ns ++ flat_map stmt_nodes (map bare_stmt u.body))))
    (sections.bare_nodes u.sections)
    ∙ ap (λ (ns : List Node). bare_node u.node
    ∷ (bare_node u.name.node ∷ (map bare_node (flat_map section_nodes u.sections) ++ ns)))
    (body.bare_nodes u.body)
    ∙ ap (λ (ns : List Node). bare_node u.node ∷ (bare_node u.name.node ∷ ns))
    (sym (map-append bare_node (flat_map section_nodes u.sections)
    (flat_map stmt_nodes u.body)))

pub same_unit : (u v : SourceUnit) (n : ℕ) → bare_unit u ≡ bare_unit v → CountsFrom n (unit_nodes u)
    → CountsFrom n (unit_nodes v) → u ≡ v
same_unit u v n e a b =
    let here = same_node u.node v.node n (ap (λ (x : SourceUnit). x.node) e) a.0 b.0 in
    let names = same_identifier u.name v.name (suc n) (ap (λ (x : SourceUnit). x.name) e)
    (a.1.0, tt) (b.1.0, tt) in
    let parts = both sections body u.sections v.sections u.body v.body (suc (suc n))
    (ap (λ (x : SourceUnit). x.sections) e) (ap (λ (x : SourceUnit). x.body) e) a.1.1 b.1.1 in
    ap (λ (m : Node). record { node = m; name = u.name; sections = u.sections; body = u.body }) here
    ∙ ap (λ (i : Identifier). record {
      node = v.node;
      name = i;
      sections = u.sections;
      body =
          u.body;
    }) names
    ∙ ap (λ (ss : List Section). record {
      node = v.node;
      name = v.name;
      sections = ss;
      body =
          u.body;
    }) parts.0
    ∙ ap (λ (b : List Stmt). record {
      node = v.node;
      name = v.name;
      sections = v.sections;
      body =
          b;
    }) parts.1

pub unit : Determines bare_unit unit_nodes
unit = record { bare_nodes = unit_bare_nodes; same = same_unit }

-- ---- trees of one unit

units : Determines (map bare_unit) (flat_map unit_nodes)
units = of_list unit

pub same_tree : (s t : SourceTree) (u v : SourceUnit) → s.units ≡ u ∷ [] → t.units ≡ v ∷ []
    → s.feeds ≡ t.feeds → bare_unit u ≡ bare_unit v → IsNumbered s → IsNumbered t → s ≡ t
same_tree s t u v su tv feeds e a b =
    let bare : map bare_unit s.units ≡ map bare_unit t.units =
    ap (map bare_unit) su ∙ ap (λ (x : SourceUnit). x ∷ []) e ∙ sym (ap (map bare_unit) tv) in
    ap (λ (us : List SourceUnit). record { units = us; feeds = s.feeds })
    (units.same s.units t.units 0 bare a b)
    ∙ ap (λ (fs : List ℕ). record { units = t.units; feeds = fs }) feeds
