-- The node that a node is reported at is a node of the tree.
use Rattle.std.proofs.Common.{◌≡◌, ℕ, zero, ◌≤◌, Bool, true, false, cond, List, [], ◌∷◌, ◌++◌, Some, refl, sym, subst, arith}
use Rattle.std.specs.Prelude.{map, flat_map}
use Rattle.std.specs.List.{Contains, AllByRecursion, filter}
use Rattle.std.proofs.lemmas.Option.{same_Some, none-some}
use Rattle.std.proofs.lemmas.List.Elements.{Contains-append_left, Contains-append_right}
use Rattle.st_tree.specs.declared.node.Node.{Node}
use Rattle.st_tree.specs.declared.node.NodeNo.{NodeNo}
use Rattle.first_form.specs.declared.tree.Stmt.{Stmt}
use Rattle.first_form.specs.declared.tree.Stmt.TheVariants.{Assign}
use Rattle.first_form.specs.declared.tree.Decl.{Decl}
use Rattle.first_form.specs.declared.tree.Section.{Section}
use Rattle.first_form.specs.declared.tree.Unit.{Unit as SourceUnit}
use Rattle.first_form.specs.declared.tree.SourceTree.{SourceTree}
use Rattle.first_form.specs.Nodes.{stmt_nodes, name_node, decl_nodes, section_nodes, unit_nodes, nodes_of}
use Rattle.finding_spans.specs.Places.{Holder, alone, name_holders, decl_holders, stmt_holder, unit_holders, holds, last_of, holder_of, IsReportedAt}
use Rattle.task_config.proofs.Lists.{all_weaker, all_append}
use Rattle.cycle_analysis.proofs.Lists.{later_in}

abbrev AreIn : List Node → List Holder → Type 0
AreIn nodes holders = AllByRecursion (λ holder. Contains nodes holder.node) holders

more_nodes : (xs ys : List Node) → ((node : Node) → Contains xs node → Contains ys node) → (holders : List Holder) → AreIn xs holders → AreIn ys holders
more_nodes xs ys f holders h = all_weaker (λ (holder : Holder). Contains xs holder.node) (λ (holder : Holder). Contains ys holder.node) (λ holder c. f holder.node c) holders h

both_in : (nodes : List Node) (xs ys : List Holder) → AreIn nodes xs → AreIn nodes ys → AreIn nodes (xs ++ ys)
both_in nodes xs ys p q = all_append (λ (holder : Holder). Contains nodes holder.node) xs ys p q

each_in : {X : Type 0} (f : X → List Node) (g : X → List Holder) → ((x : X) → AreIn (f x) (g x)) → (xs : List X) → AreIn (flat_map f xs) (flat_map g xs)
each_in f g h [] = tt
each_in f g h (x ∷ xs) =
    both_in (f x ++ flat_map f xs) (g x) (flat_map g xs) (more_nodes (f x) _ (λ node c. Contains-append_left (f x) (flat_map f xs) node c) (g x) (h x))
    (more_nodes (flat_map f xs) _ (λ node c. Contains-append_right (f x) (flat_map f xs) node c) (flat_map g xs) (each_in f g h xs))

alone_in : (nodes : List Node) → AreIn nodes (map alone nodes)
alone_in [] = tt
alone_in (node ∷ nodes) = ((zero, omega arith, refl), more_nodes nodes (node ∷ nodes) (λ n c. later_in node n nodes c) (map alone nodes) (alone_in nodes))

names_in : (nodes held : List Node) → AreIn nodes (name_holders nodes held)
names_in [] held = tt
names_in (node ∷ nodes) held = ((zero, omega arith, refl), more_nodes nodes (node ∷ nodes) (λ n c. later_in node n nodes c) (map alone nodes) (alone_in nodes))

decl_in : (decl : Decl) → AreIn (decl_nodes decl) (decl_holders decl)
decl_in decl =
    more_nodes (map name_node decl.names) (decl_nodes decl) (λ n c. later_in decl.node n _ (Contains-append_left (map name_node decl.names) (decl.spec.node ∷ []) n c)) (decl_holders decl)
    (names_in (map name_node decl.names) (decl_nodes decl))

section_in : (section : Section) → AreIn (section_nodes section) (flat_map decl_holders section.decls)
section_in section =
    more_nodes (flat_map decl_nodes section.decls) (section_nodes section) (λ n c. later_in section.node n _ c) (flat_map decl_holders section.decls) (each_in decl_nodes decl_holders decl_in section.decls)

body_in : (body : List Stmt) → AreIn (flat_map stmt_nodes body) (map stmt_holder body)
body_in [] = tt
body_in (Assign node target value ∷ body) = (
  (zero, omega arith, refl),
  more_nodes (flat_map stmt_nodes body) (flat_map stmt_nodes (Assign node target value ∷ body))
      (λ n c. Contains-append_right (stmt_nodes (Assign node target value)) (flat_map stmt_nodes body) n c) (map stmt_holder body) (body_in body),
)

unit_in : (unit : SourceUnit) → AreIn (unit_nodes unit) (unit_holders unit)
unit_in unit =
    let declared = flat_map section_nodes unit.sections in
    let stated = flat_map stmt_nodes unit.body in
    let inner : (n : Node) → Contains (declared ++ stated) n → Contains (unit_nodes unit) n = λ n c. later_in unit.node n (unit.name.node ∷ (declared ++ stated)) (later_in unit.name.node n (declared ++ stated) c) in
    let in_declared : (n : Node) → Contains declared n → Contains (unit_nodes unit) n = λ n c. inner n (Contains-append_left declared stated n c) in
    let in_stated : (n : Node) → Contains stated n → Contains (unit_nodes unit) n = λ n c. inner n (Contains-append_right declared stated n c) in (
      (zero, omega arith, refl),
      both_in (unit_nodes unit) (flat_map (λ section. flat_map decl_holders section.decls) unit.sections) (map stmt_holder unit.body)
          (more_nodes declared (unit_nodes unit) in_declared (flat_map (λ section. flat_map decl_holders section.decls) unit.sections) (each_in section_nodes (λ section. flat_map decl_holders section.decls) section_in unit.sections))
          (more_nodes stated (unit_nodes unit) in_stated (map stmt_holder unit.body) (body_in unit.body)),
    )

filtered_in : (nodes : List Node) (p : Holder → Bool) (holders : List Holder) → AreIn nodes holders → AreIn nodes (filter p holders)
filtered_in nodes p [] h = tt
filtered_in nodes p (holder ∷ holders) h =
    elim (p holder) as (λ b. AreIn nodes (cond b (holder ∷ filter p holders) (filter p holders))) [
      | true ↦ (h.0, filtered_in nodes p holders h.1)
      | false ↦ filtered_in nodes p holders h.1
    ]

last_in : (nodes : List Node) (holders : List Holder) (node : Node) → AreIn nodes holders → last_of holders ≡ Some node → Contains nodes node
last_in nodes [] node h e = absurd (none-some node e)
last_in nodes (holder ∷ []) node h e = subst (Contains nodes) (same_Some holder.node node e) h.0
last_in nodes (holder ∷ next ∷ more) node h e = last_in nodes (next ∷ more) node h.1 e

-- The node that a node is reported at is a node of the tree.
pub holder_in : (tree : SourceTree) (number : NodeNo) (node : Node) → holder_of tree number ≡ Some node → Contains (nodes_of tree) node
holder_in tree number node e =
    last_in (nodes_of tree) (filter (holds number) (flat_map unit_holders tree.units)) node
    (filtered_in (nodes_of tree) (holds number) (flat_map unit_holders tree.units) (each_in unit_nodes unit_holders unit_in tree.units)) e

pub reported_within : (tree : SourceTree) (number : NodeNo) (at most : ℕ) → IsReportedAt tree number at → ((node : Node) → Contains (nodes_of tree) node → node.start ≤ most) → at ≤ most
reported_within tree number at most (node, e, s) within = subst (λ k. k ≤ most) (sym s) (within node (holder_in tree number node e))
