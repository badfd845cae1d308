-- The nodes of a file are those of the trees that stand in it and of its comments; that of a tree
-- comes
-- before those of the trees within it.
use Rattle.std.proofs.Common.{◌⊎◌, ◌≡◌, ℕ, suc, ◌<◌, List, [], ◌∷◌, ◌++◌, map, Option}
use Rattle.std.proofs.Common.{Some, None, refl, sym, ap, subst, ◌∙◌, arith, inl, inr}
use Rattle.std.specs.Prelude.{Contains, flat_map, filter_map}
use Rattle.std.specs.List.{cons_option}
use Rattle.st_lexer.specs.Laws.{TokensIn}
use Rattle.token_grammar.specs.declared.token.TokenKind.{TokenKind}
use Rattle.st_tree.specs.declared.node.Node.{Node}
use Rattle.st_tree.specs.declared.file.Comment.{Comment}
use Rattle.st_tree.specs.declared.file.FilePart.{FilePart}
use Rattle.st_tree.specs.declared.file.SourceTree.{SourceTree}
use Rattle.tree_numbers.specs.NodeLists.{nodes_of_parts, nodes_of_file_part, nodes_of_unit}
use Rattle.tree_numbers.specs.NodeLists.{nodes_of_types, nodes_of_globals, nodes_of_config}
use Rattle.tree_numbers.specs.Numbers.{numbered_parts}
use Rattle.tree_numbers.specs.Laws.{RightNumbers}
use Rattle.st_units.specs.Parts.{unit_of, types_of, globals_of, config_of, file_of}
use Rattle.st_units.specs.SourceTrees.{comments_among, starts_of, tree_of}
use Rattle.tree_order.specs.Order.{nodes_of_tree, number_of, NodesOfParts, PartsOfNodes}
use Rattle.tree_order.specs.Order.{PartsInOrder}
use Rattle.tree_order.specs.Subtrees.{Tree, layer_of, Encloses, directly, further, tops_of}
use Rattle.tree_order.specs.Subtrees.{IsPartOf}
use Rattle.tree_order.specs.Subtrees as t
use Rattle.tree_order.proofs.Lists.{Among, among_contained, contained_among, among_either}
use Rattle.tree_order.proofs.Lists.{among_left, among_right, among_one, among_map, map_among}
use Rattle.tree_order.proofs.Lists.{among_flat}
use Rattle.tree_order.proofs.TreeInduction.{each_tree}
use Rattle.tree_order.proofs.ExpressionLists.{list_if}
use Rattle.tree_order.proofs.Merging.{Shuffled, neither, left, right, CountFrom}
use Rattle.tree_order.proofs.InOrder.{numbered_nodes, unit_fits, types_fit, globals_fit}
use Rattle.tree_order.proofs.InOrder.{config_fits, merged}
use Rattle.tree_order.proofs.NodesOfWords.{node_gathering}
use Rattle.tree_order.proofs.NodeInstances.{stmt_nodes}
use Rattle.tree_order.proofs.FileInstances.{decl_nodes, same_unit, same_types, same_globals}
use Rattle.tree_order.proofs.FileInstances.{same_config}
use Rattle.tree_order.proofs.LayerLists.{of_any, of_text, layer_is, enclosed_among}

-- the nodes of a tree of any kind
abbrev nodes_of : Tree → List Node
nodes_of x = of_any stmt_nodes decl_nodes x

-- the node comes before each of these
abbrev IsBefore : Node → List Node → Type 0
IsBefore a [] = Unit {0}
IsBefore a (n ∷ ns) = (number_of a < number_of n) × IsBefore a ns

-- the numbers rise
abbrev InTurn : List Node → Type 0
InTurn [] = Unit {0}
InTurn (n ∷ ns) = IsBefore n ns × InTurn ns

-- ---- lists

before_counted : (a : Node) (number : ℕ) (ns : List Node) → number_of a < number →
    CountFrom number ns → IsBefore a ns
before_counted a number [] less count = tt
before_counted a number (n ∷ ns) less count =
    (omega (arith, less, count.0), before_counted a (suc number) ns (omega (arith, less)) count.1)

counted_in_turn : (number : ℕ) (ns : List Node) → CountFrom number ns → InTurn ns
counted_in_turn number [] count = tt
counted_in_turn number (n ∷ ns) count = (
  before_counted n (suc number) ns (omega (arith, count.0)) count.1,
  counted_in_turn (suc number)
      ns count.1,
)

before_left : (a : Node) {all ns cs : List Node} → Shuffled all ns cs → IsBefore a all →
    IsBefore a ns
before_left a neither h = tt
before_left a (left n s) h = (h.0, before_left a s h.1)
before_left a (right c s) h = before_left a s h.1

turn_left : {all ns cs : List Node} → Shuffled all ns cs → InTurn all → InTurn ns
turn_left neither h = tt
turn_left (left n s) h = (before_left n s h.0, turn_left s h.1)
turn_left (right c s) h = turn_left s h.1

before_front : (a : Node) (ns ms : List Node) → IsBefore a (ns ++ ms) → IsBefore a ns
before_front a [] ms h = tt
before_front a (n ∷ ns) ms h = (h.0, before_front a ns ms h.1)

before_back : (a : Node) (ns ms : List Node) → IsBefore a (ns ++ ms) → IsBefore a ms
before_back a [] ms h = h
before_back a (n ∷ ns) ms h = before_back a ns ms h.1

turn_front : (ns ms : List Node) → InTurn (ns ++ ms) → InTurn ns
turn_front [] ms h = tt
turn_front (n ∷ ns) ms h = (before_front n ns ms h.0, turn_front ns ms h.1)

turn_back : (ns ms : List Node) → InTurn (ns ++ ms) → InTurn ms
turn_back [] ms h = h
turn_back (n ∷ ns) ms h = turn_back ns ms h.1

before_one : {A : Type 0} (nodes : A → List Node) (a : Node) (x : A) (xs : List A) → Among x xs →
    IsBefore a (flat_map nodes xs) → IsBefore a (nodes x)
before_one nodes a x [] there h = absurd there
before_one nodes a x (y ∷ ys) (inl is) h =
    subst (λ z. IsBefore a (nodes z)) (sym is) (before_front a (nodes y) (flat_map nodes ys) h)
before_one nodes a x (y ∷ ys) (inr there) h =
    before_one nodes a x ys there (before_back a (nodes y) (flat_map nodes ys) h)

turn_one : {A : Type 0} (nodes : A → List Node) (x : A) (xs : List A) → Among x xs →
    InTurn (flat_map nodes xs) → InTurn (nodes x)
turn_one nodes x [] there h = absurd there
turn_one nodes x (y ∷ ys) (inl is) h =
    subst (λ z. InTurn (nodes z)) (sym is) (turn_front (nodes y) (flat_map nodes ys) h)
turn_one nodes x (y ∷ ys) (inr there) h =
    turn_one nodes x ys there (turn_back (nodes y) (flat_map nodes ys) h)

-- ---- a tree and those within it

abbrev inner_nodes : Tree → List Node
inner_nodes x = flat_map nodes_of (layer_of x).parts

within_turn : (x : Tree) → InTurn (nodes_of x) → InTurn (inner_nodes x)
within_turn x h =
    turn_back (of_text stmt_nodes decl_nodes (layer_of x).text) (inner_nodes x)
    (turn_back (list_if node_gathering.own (layer_of x).node)
    (of_text stmt_nodes decl_nodes (layer_of x).text ++ inner_nodes x)
    (subst InTurn (layer_is stmt_nodes decl_nodes x) h))

within_before : (a : Node) (x : Tree) → IsBefore a (nodes_of x) → IsBefore a (inner_nodes x)
within_before a x h =
    before_back a (of_text stmt_nodes decl_nodes (layer_of x).text) (inner_nodes x)
    (before_back a (list_if node_gathering.own (layer_of x).node)
    (of_text stmt_nodes decl_nodes (layer_of x).text ++ inner_nodes x)
    (subst (IsBefore a) (layer_is stmt_nodes decl_nodes x) h))

with_node : (x : Tree) (a : Node) → (layer_of x).node ≡ Some a →
    nodes_of x ≡ a ∷ (of_text stmt_nodes decl_nodes (layer_of x).text ++ inner_nodes x)
with_node x a is =
    layer_is stmt_nodes decl_nodes x ∙ ap (λ o. list_if node_gathering.own o
    ++ (of_text stmt_nodes decl_nodes (layer_of x).text ++ inner_nodes x)) is

own_before : (x : Tree) (a : Node) → (layer_of x).node ≡ Some a → InTurn (nodes_of x) →
    IsBefore a (inner_nodes x)
own_before x a is h =
    before_back a (of_text stmt_nodes decl_nodes (layer_of x).text) (inner_nodes x)
    (subst InTurn (with_node x a is) h).0

held_turn : {outer inner : Tree} → Encloses outer inner → InTurn (nodes_of outer) →
    InTurn (nodes_of inner)
held_turn {outer} {inner} (directly there) h =
    turn_one nodes_of inner (layer_of outer).parts (among_contained (layer_of outer).parts inner
    there) (within_turn outer h)
held_turn {outer} {inner} (further {middle} there more) h =
    held_turn more (turn_one nodes_of middle (layer_of outer).parts
    (among_contained (layer_of outer).parts middle there) (within_turn outer h))

held_before : (a : Node) {outer inner : Tree} → Encloses outer inner →
    IsBefore a (inner_nodes outer) →
    IsBefore a (nodes_of inner)
held_before a {outer} {inner} (directly there) h =
    before_one nodes_of a inner (layer_of outer).parts (among_contained (layer_of outer).parts inner
    there) h
held_before a {outer} {inner} (further {middle} there more) h =
    held_before a more (within_before a middle (before_one nodes_of a middle (layer_of outer).parts
    (among_contained (layer_of outer).parts middle there) h))

-- ---- the trees that stand within no other

-- what is said of each of the four kinds is said of each top
module _ (Q : Tree → Type 0) (tree : SourceTree)
    (unit : (x : _) → Among x tree.units → Q (t.unit x)) (types : (x : _) → Among x tree.types →
    Q (t.types x))
    (globals : (x : _) → Among x tree.globals → Q (t.globals x)) (config : (x : _) →
    Among x tree.config → Q (t.config x)) where
  pub each_top : (top : Tree) → Contains (tops_of tree) top → Q top
  each_top top there =
      elim (among_either top (map t.unit tree.units) (map t.types tree.types
      ++ (map t.globals tree.globals ++ map t.config tree.config))
      (among_contained (tops_of tree) top there)) [
        | inl h ↦ let r = among_map t.unit top tree.units h in subst Q (sym r.2) (unit r.0 r.1)
        | inr h ↦
            elim (among_either top (map t.types tree.types) (map t.globals tree.globals
            ++ map t.config tree.config) h) [
              | inl h ↦
                  let r = among_map t.types top tree.types h in subst Q (sym r.2) (types r.0 r.1)
              | inr h ↦
                  elim (among_either top (map t.globals tree.globals)
                  (map t.config tree.config) h) [
                    | inl h ↦
                        let r = among_map t.globals top tree.globals h in subst Q (sym r.2)
                        (globals r.0 r.1)
                    | inr h ↦
                        let r = among_map t.config top tree.config h in subst Q (sym r.2)
                        (config r.0 r.1)
                  ]
            ]
      ]

-- ---- the nodes of trees in a file

tops_among : (tree : SourceTree) (a : Node) (top : Tree) → Contains (tops_of tree) top →
    Among a (nodes_of top) → Among a (nodes_of_tree tree)
tops_among tree a = each_top (λ top. Among a (nodes_of top) → Among a (nodes_of_tree tree)) tree
    (λ x there h. among_left a units behind_units (among_one nodes_of_unit a x tree.units there
    (subst (λ ns. Among a ns) (sym (same_unit x)) h)))
    (λ x there h. among_right a units behind_units
    (among_left a kinds behind_kinds (among_one nodes_of_types a x tree.types there
    (subst (λ ns. Among a ns) (sym (same_types x)) h))))
    (λ x there h. among_right a units behind_units
    (among_right a kinds behind_kinds (among_left a shared behind_shared
    (among_one nodes_of_globals a x tree.globals there
    (subst (λ ns. Among a ns) (sym (same_globals x)) h)))))
    (λ x there h. among_right a units behind_units
    (among_right a kinds behind_kinds (among_right a shared behind_shared
    (among_left a configs comments (among_one nodes_of_config a x tree.config there
    (subst (λ ns. Among a ns) (sym (same_config x)) h))))))
  where
    units : List Node
    units = flat_map nodes_of_unit tree.units

    kinds : List Node
    kinds = flat_map nodes_of_types tree.types

    shared : List Node
    shared = flat_map nodes_of_globals tree.globals

    configs : List Node
    configs = flat_map nodes_of_config tree.config

    comments : List Node
    comments = map (λ (c : Comment). c.node) tree.comments

    behind_shared : List Node
    behind_shared = configs ++ comments

    behind_kinds : List Node
    behind_kinds = shared ++ behind_shared

    behind_units : List Node
    behind_units = kinds ++ behind_kinds

own_among : (x : Tree) (a : Node) → (layer_of x).node ≡ Some a → Among a (nodes_of x)
own_among x a is = subst (λ ns. Among a ns) (sym (with_node x a is)) (inl refl)

pub nodes_of_all_parts : NodesOfParts
nodes_of_all_parts tree x a (top, there, inl same) is =
    contained_among (nodes_of_tree tree) a
    (tops_among tree a top there (subst (λ y. Among a (nodes_of y)) same (own_among x a is)))
nodes_of_all_parts tree x a (top, there, inr held) is =
    contained_among (nodes_of_tree tree) a
    (tops_among tree a top there (enclosed_among stmt_nodes decl_nodes a held (own_among x a is)))

-- ---- the trees of nodes

-- Each node of the tree is its own, or that of a tree within it.
abbrev IsReached : Tree → Type 0
IsReached x =
    (a : Node) → Among a (nodes_of x) → (y : Tree) × ((y ≡ x) ⊎ Encloses x y)
    × ((layer_of y).node ≡ Some a)

own_node : (a : Node) (o : Option Node) → Among a (list_if node_gathering.own o) → o ≡ Some a
own_node a None h = absurd h
own_node a (Some n) (inl is) = ap Some (sym is)
own_node a (Some n) (inr h) = absurd h

no_node : (a : Node) (o : Option (TokenKind × List ℕ)) → Among a (of_text stmt_nodes decl_nodes o) →
    ⊥
no_node a None h = h
no_node a (Some p) h = h

inner_reached : (x : Tree) → ((u : Tree) → Among u (layer_of x).parts → IsReached u) → (a : Node) →
    Among a (inner_nodes x) → (y : Tree) × ((y ≡ x) ⊎ Encloses x y) × ((layer_of y).node ≡ Some a)
inner_reached x each a h =
    let r = among_flat nodes_of a (layer_of x).parts h in
    let there : Contains (layer_of x).parts r.0 = contained_among (layer_of x).parts r.0 r.1 in
    let s = each r.0 r.1 a r.2 in
    elim s.1 [
      | inl same ↦
          (s.0, inr (directly (subst (λ z. Contains (layer_of x).parts z) (sym same) there)), s.2)
      | inr held ↦ (s.0, inr (further there held), s.2)
    ]

reached_from : (x : Tree) → ((u : Tree) → Among u (layer_of x).parts → IsReached u) → IsReached x
reached_from x each a h =
    elim (among_either a (list_if node_gathering.own (layer_of x).node)
    (of_text stmt_nodes decl_nodes (layer_of x).text ++ inner_nodes x)
    (subst (λ ns. Among a ns) (layer_is stmt_nodes decl_nodes x) h)) [
      | inl own ↦ (x, inl refl, own_node a (layer_of x).node own)
      | inr rest ↦
          elim (among_either a (of_text stmt_nodes decl_nodes (layer_of x).text)
          (inner_nodes x) rest) [
            | inl none ↦ absurd (no_node a (layer_of x).text none)
            | inr inner ↦ inner_reached x each a inner
          ]
    ]

reached : (x : Tree) → IsReached x
reached = each_tree IsReached reached_from

-- a top of the file with this node
of_top : (tree : SourceTree) (top : Tree) (a : Node) → Among top (tops_of tree) →
    Among a (nodes_of top) → (y : Tree) × IsPartOf tree y × ((layer_of y).node ≡ Some a)
of_top tree top a there h =
    let r = reached top a h in (r.0, (top, contained_among (tops_of tree) top there, r.1), r.2)

pub parts_of_nodes : PartsOfNodes
parts_of_nodes tree a there =
    elim (among_either a (flat_map nodes_of_unit tree.units) behind_units
    (among_contained (nodes_of_tree tree) a there)) [
      | inl h ↦ let r = among_flat nodes_of_unit a tree.units h in
          inl (of_top tree (t.unit r.0) a (among_left (t.unit r.0) units other_tops
          (map_among t.unit r.0 tree.units r.1)) (subst (λ ns. Among a ns) (same_unit r.0) r.2))
      | inr h ↦ elim (among_either a (flat_map nodes_of_types tree.types) behind_types h) [
        | inl h ↦ let r = among_flat nodes_of_types a tree.types h in
            inl (of_top tree (t.types r.0) a (among_right (t.types r.0) units other_tops
            (among_left (t.types r.0) types last_tops (map_among t.types r.0 tree.types r.1)))
            (subst (λ ns. Among a ns) (same_types r.0) r.2))
        | inr h ↦ elim (among_either a (flat_map nodes_of_globals tree.globals) behind_globals h) [
          | inl h ↦ let r = among_flat nodes_of_globals a tree.globals h in
              inl (of_top tree (t.globals r.0) a (among_right (t.globals r.0) units other_tops
              (among_right (t.globals r.0) types last_tops (among_left (t.globals r.0) shared
              configs (map_among t.globals r.0 tree.globals r.1))))
              (subst (λ ns. Among a ns) (same_globals r.0) r.2))
          | inr h ↦ elim (among_either a (flat_map nodes_of_config tree.config) comments h) [
            | inl h ↦ let r = among_flat nodes_of_config a tree.config h in
                inl (of_top tree (t.config r.0) a (among_right (t.config r.0) units other_tops
                (among_right (t.config r.0) types last_tops (among_right (t.config r.0) shared
                configs (map_among t.config r.0 tree.config r.1))))
                (subst (λ ns. Among a ns) (same_config r.0) r.2))
            | inr h ↦ inr (contained_among comments a h)
          ]
        ]
      ]
    ]
  where
    comments : List Node
    comments = map (λ (c : Comment). c.node) tree.comments

    behind_globals : List Node
    behind_globals = flat_map nodes_of_config tree.config ++ comments

    behind_types : List Node
    behind_types = flat_map nodes_of_globals tree.globals ++ behind_globals

    behind_units : List Node
    behind_units = flat_map nodes_of_types tree.types ++ behind_types

    units : List Tree
    units = map t.unit tree.units

    types : List Tree
    types = map t.types tree.types

    shared : List Tree
    shared = map t.globals tree.globals

    configs : List Tree
    configs = map t.config tree.config

    last_tops : List Tree
    last_tops = shared ++ configs

    other_tops : List Tree
    other_tops = types ++ last_tops

-- ---- their order

chosen_one : {A : Type 0} (nodes : A → List Node) (x : A) (p : FilePart) (ps : List FilePart)
    (found : List A) (o : Option A) → ((y : A) → o ≡ Some y → nodes_of_file_part p ≡ nodes y)
    → (Among x found → InTurn (nodes x)) → Among x (cons_option o found) →
    InTurn (nodes_of_file_part p ++ nodes_of_parts ps) → InTurn (nodes x)
chosen_one nodes x p ps found None fits later there h = later there
chosen_one nodes x p ps found (Some y) fits later (inl is) h =
    subst (λ z. InTurn (nodes z)) (sym is)
    (subst InTurn (fits y refl) (turn_front (nodes_of_file_part p) (nodes_of_parts ps) h))
chosen_one nodes x p ps found (Some y) fits later (inr there) h = later there

chosen_turn : {A : Type 0} (choose : FilePart → Option A) (nodes : A → List Node) →
    ((p : FilePart) (x : A) → choose p ≡ Some x → nodes_of_file_part p ≡ nodes x)
    → (x : A) (ps : List FilePart) → Among x (filter_map choose ps) → InTurn (nodes_of_parts ps) →
    InTurn (nodes x)
chosen_turn choose nodes fits x [] there h = absurd there
chosen_turn choose nodes fits x (p ∷ ps) there h =
    chosen_one nodes x p ps (filter_map choose ps) (choose p) (fits p)
    (λ later. chosen_turn choose nodes fits x ps later
    (turn_back (nodes_of_file_part p) (nodes_of_parts ps) h)) there h

tops_turn : (ps : List FilePart) (found : List Comment) (feeds : List ℕ) →
    InTurn (nodes_of_parts ps) → (top : Tree) → Contains (tops_of (file_of ps found feeds)) top →
    InTurn (nodes_of top)
tops_turn ps found feeds h = each_top (λ top. InTurn (nodes_of top)) (file_of ps found feeds)
    (λ x there. subst InTurn (same_unit x) (chosen_turn unit_of nodes_of_unit unit_fits x ps there
    h))
    (λ x there. subst InTurn (same_types x) (chosen_turn types_of nodes_of_types types_fit x ps
    there h))
    (λ x there. subst InTurn (same_globals x) (chosen_turn globals_of nodes_of_globals globals_fit x
    ps there h))
    (λ x there. subst InTurn (same_config x) (chosen_turn config_of nodes_of_config config_fits x ps
    there h))

part_turn : (tree : SourceTree) → ((top : Tree) → Contains (tops_of tree) top →
    InTurn (nodes_of top)) → (x : Tree) → IsPartOf tree x → InTurn (nodes_of x)
part_turn tree tops x (top, there, inl same) =
    subst (λ y. InTurn (nodes_of y)) (sym same) (tops top there)
part_turn tree tops x (top, there, inr held) = held_turn held (tops top there)

pub parts_in_order : TokensIn → RightNumbers → PartsInOrder
parts_in_order tokens_in numbers text tree (tokens, cut, is) outer inner a b there held a_is b_is =
    let places = starts_of (comments_among tokens) in
    let m = merged tokens_in numbers text tokens cut is.parts is.spelled in
    let all : InTurn (nodes_of_parts (numbered_parts places is.parts)) = subst InTurn
    (sym (numbered_nodes numbers places is.parts))
    (turn_left m.shuffled (counted_in_turn 0 m.all m.count)) in
    let tops = tops_turn (numbered_parts places is.parts) (tree_of text (comments_among tokens)
    is.parts).comments (tree_of text (comments_among tokens) is.parts).feeds all in
    let turn : InTurn (nodes_of outer) = part_turn tree (subst (λ z. (top : Tree) →
    Contains (tops_of z) top → InTurn (nodes_of top)) (sym is.tree_is) tops) outer there in
    (subst (IsBefore a) (with_node inner b b_is)
    (held_before a held (own_before outer a a_is turn))).0
