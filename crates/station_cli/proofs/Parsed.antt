-- What the parts of the analysis may rely on of a tree.
use Rattle.std.proofs.Common.{◌≡◌, ℕ, ◌<◌, ◌≤◌, List, [], ◌∷◌, ◌++◌, length, Option, Some, zero, refl, sym, ap, subst, ◌∙◌, ⊎_elim, arith}
use Rattle.std.specs.Prelude.{flat_map}
use Rattle.std.specs.List.{AllByRecursion, Contains}
use Rattle.std.proofs.lemmas.List.{append-nil}
use Rattle.std.proofs.lemmas.List.Elements.{Contains-append_left}
use Rattle.std.proofs.lemmas.Option.{same_Some, none-some, option_and_then_some}
use Rattle.st_tree.specs.Feeds.{feeds_from}
use Rattle.st_tree.specs.declared.node.Node.{Node}
use Rattle.st_tree.specs.declared.file.Unit.{Unit as WrittenUnit}
use Rattle.st_tree.specs.declared.file.SourceTree.{SourceTree as SourceFile}
use Rattle.tree_numbers.specs.NodeLists.{nodes_of_unit}
use Rattle.st_units.specs.SourceTrees.{IsTreeOf}
use Rattle.tree_order.specs.Order.{NodesInOrder}
use Rattle.first_form.specs.declared.tree.Unit.{Unit as SourceUnit}
use Rattle.first_form.specs.declared.tree.SourceTree.{SourceTree}
use Rattle.first_form.specs.Bare.{bare_unit}
use Rattle.first_form.specs.FirstForm.{one_of, only_unit, unit_of}
use Rattle.first_form.specs.Laws.{SoundForm}
use Rattle.first_form.specs.Nodes.{unit_nodes, nodes_of}
use Rattle.cycle_analysis.proofs.Lists.{in_cases, later_in}
use Rattle.station_cli.specs.steps.Parsing.{IsAnalysable}
use Rattle.station_cli.specs.Report.{IsFormOf}
use Rattle.station_cli.proofs.Within.{let_through, unit_within}

-- The nodes of the units of a text's tree start within the text.
abbrev pub StartWithin : Type 0
StartWithin = (text : List ℕ) (file : SourceFile) → IsTreeOf text file
    → AllByRecursion (λ (node : Node). node.start ≤ length text) (flat_map nodes_of_unit file.units)

all_of : {X : Type 0} (P : X → Type 0) (xs : List X) → ((x : X) → Contains xs x → P x)
    → AllByRecursion P xs
all_of P [] h = tt
all_of P (x ∷ xs) h = (h x (zero, omega arith, refl), all_of P xs (λ y c. h y (later_in x y xs c)))

-- since all nodes stand in it
pub starts_of_order : NodesInOrder → StartWithin
starts_of_order law text file is =
    all_of (λ (node : Node). node.start ≤ length text) (flat_map nodes_of_unit file.units)
    (λ node c.
    let w = (law text file is).within node
    (Contains-append_left (flat_map nodes_of_unit file.units) _ node c) in
    omega (arith, w.0, w.1))

feeds_are : (text : List ℕ) (file : SourceFile) → IsTreeOf text file → file.feeds ≡ feeds_from 0 text
feeds_are text file (tokens, cut, is) = ap (λ (f : SourceFile). f.feeds) is.tree_is

-- ---- the one unit

one_is : (units : List WrittenUnit) (u : WrittenUnit) → one_of units ≡ Some u → units ≡ u ∷ []
one_is [] u e = absurd (none-some u e)
one_is (x ∷ []) u e = ap (λ (y : WrittenUnit). y ∷ []) (same_Some x u e)
one_is (x ∷ y ∷ more) u e = absurd (none-some u e)

only_is : (file : SourceFile) (u : WrittenUnit) → only_unit file ≡ Some u → file.units ≡ u ∷ []
unfolding only_unit
only_is file u e = one_is file.units u (let_through _ (one_of file.units) u e)

-- ---- its nodes

all_at : {X : Type 0} (P : X → Type 0) (xs : List X) (x : X) → AllByRecursion P xs → Contains xs x → P x
all_at P [] x h c = absurd (omega (arith, c.1))
all_at P (y ∷ ys) x h c =
    ⊎_elim (λ e. subst P e h.0) (λ d. all_at P ys x h.1 d) (in_cases y x ys c)

module _ (law : StartWithin) (text : List ℕ) (tree : SourceTree) (is : IsFormOf text tree) where
  abbrev Starts : List Node → Type 0
  Starts nodes = AllByRecursion (λ (node : Node). node.start ≤ length text) nodes

  written_starts : (u : WrittenUnit) → only_unit is.file ≡ Some u → Starts (nodes_of_unit u)
  written_starts u e =
      subst Starts
      (ap (flat_map nodes_of_unit) (only_is is.file u e) ∙ append-nil (nodes_of_unit u))
      (law text is.file is.parsed)

  unit_starts : Starts (unit_nodes is.form.unit)
  unit_starts =
      option_and_then_some unit_of (only_unit is.file) (bare_unit is.form.unit) is.form.form
      (λ u only made. unit_within (length text) u is.form.unit made (written_starts u only))

  starts_within : (node : Node) → Contains (nodes_of tree) node → node.start ≤ length text
  starts_within node c =
      let e : nodes_of tree ≡ unit_nodes is.form.unit =
      ap (flat_map unit_nodes) is.form.units ∙ append-nil (unit_nodes is.form.unit) in
      all_at (λ (node : Node). node.start ≤ length text) (unit_nodes is.form.unit) node unit_starts
      (subst (λ (nodes : List Node). Contains nodes node) e c)

-- what the parser and the recognition promise of a tree, so that it can be analysed
pub analysable : SoundForm → StartWithin → (text : List ℕ) (tree : SourceTree)
    → length text ≤ 1048576 → IsFormOf text tree → IsAnalysable text tree
analysable sound law text tree short is = record {
  unit = is.form.unit;
  units = is.form.units;
  uses = sound is.file tree is.form;
  numbered = is.form.numbered;
  feeds = is.form.feeds ∙ feeds_are text is.file is.parsed;
  within = starts_within law text tree is;
  short = short;
}
