-- What is told of calls and of their arguments.
use Rattle.std.proofs.Common.{◌≡◌, ℕ, suc, ◌+◌, ◌<◌, ◌≤◌, Bool, List, [], ◌∷◌, length, get_or, drop, map, Option, refl, sym, ap, ◌∙◌, subst, add-one}
use Rattle.std.proofs.lemmas.List.{drop_all}
use Rattle.st_tree.specs.declared.node.Node.{Node}
use Rattle.st_tree.specs.declared.expression.Expr.{Expr}
use Rattle.st_tree.specs.declared.expression.Argument.{Argument, rolls-Argument', fold-roll-Argument}
use Rattle.st_tree.specs.declared.expression.Expr.TheOpen.{Argument-F}
use Rattle.st_tree.specs.declared.expression.Part.{Part}
use Rattle.st_tree.specs.declared.expression.Path.{Path}
use Rattle.link_faults.specs.Checked.{Checked, Tells}
use Rattle.link_faults.specs.declared.fault.Faults.{Faults}
use Rattle.expression_types.specs.Lists.{TellsAll}
use Rattle.expression_types.specs.steps.Several.{still_good, where_all}
use Rattle.expression_types.specs.Meanings.{Meanings, Function}
use Rattle.expression_types.specs.Inputs as inputs
use Rattle.expression_types.specs.Reads.{Read, ReadPart, ReadPath, ReadArgument, names_of, part_in, argument_in, path_in}
use Rattle.expression_types.specs.Calls.{given, all_given, where_fits, function_called, result_of_type}
use Rattle.expression_types.specs.Judge.{read, read_in, read_argument}
use Rattle.expression_types.specs.declared.judged.Judged.{Judged}
use Rattle.expression_types.specs.declared.judged.Standing.{Standing}
use Rattle.expression_types.proofs.Told.{with_all_told}
use Rattle.expression_types.proofs.Loops.{LeftOf, cut, next_told, and_true}

-- ---- arguments of a function of the project, each at its place

step_from : (m : Meanings) (c : Standing) (f : Function) (whole : List (Checked Judged)) (i : ℕ)
    (x : ReadArgument) (xs : List ReadArgument) (old mid new : Faults) (all next : Bool)
    (r : Option Judged) → LeftOf whole (all_given m c f i (x ∷ xs)) old mid all
    → Tells (given m c f i x) mid new r → next ≡ still_good all r
    → LeftOf whole (all_given m c f (suc i) xs) old new next
step_from m c f whole i x xs old mid new all next r left t same =
    let Q : Bool → Type 0 = λ b. LeftOf whole (all_given m c f (suc i) xs) old new b in
    subst Q (sym same)
    (next_told whole (all_given m c f (suc i) xs) (given m c f i x) old mid new all r left t)

pub given_step : {E : Type 0} (m : Meanings) (c : Standing) (f : Function) (g : E → ReadArgument)
    (items : List E) (i : ℕ) (e : E) (old mid new : Faults) (all next : Bool) (r : Option Judged)
    → i < length items → e ≡ get_or items i e
    → LeftOf (all_given m c f 0 (map g items)) (all_given m c f i (map g (drop i items))) old mid all
    → Tells (given m c f i (g e)) mid new r → next ≡ still_good all r
    → LeftOf (all_given m c f 0 (map g items)) (all_given m c f (i + 1) (map g (drop (i + 1) items)))
    old new next
given_step {E = E} m c f g items i e old mid new all next r lt is left t same =
    let W = all_given m c f 0 (map g items) in
    let P : List E → Type 0 = λ ys. LeftOf W (all_given m c f i (map g ys)) old mid all in
    let R : ℕ → Type 0 =
    λ n. LeftOf W (all_given m c f n (map g (drop (i + 1) items))) old new next in
    subst R (sym (add-one i))
    (step_from m c f W i (g e) (map g (drop (i + 1) items)) old mid new all next r
    (subst P (cut items i e lt is) left) t same)

pub given_end : {E : Type 0} (m : Meanings) (c : Standing) (f : Function) (g : E → ReadArgument)
    (items : List E) (i : ℕ) (old new : Faults) (all : Bool) → length items ≤ i
    → LeftOf (all_given m c f 0 (map g items)) (all_given m c f i (map g (drop i items))) old new all
    → TellsAll (all_given m c f 0 (map g items)) old new all
given_end {E = E} m c f g items i old new all le left =
    let W = all_given m c f 0 (map g items) in
    let P : List E → Type 0 = λ ys. LeftOf W (all_given m c f i (map g ys)) old new all in
    let done = subst P (drop_all i items le) left in
    record { first = sym done.first; all = sym (done.all ∙ and_true all) }

-- ---- what is read of arguments

read_of_argument : (m : Meanings) (c : Standing) (y : Argument-F Expr Part Argument Path)
    → read_argument m c (record { node = y.node; name = y.name; value = y.value })
    ≡ argument_in (record { node = y.node; name = y.name; value = read m c y.value })
unfolding read read_argument
read_of_argument m c y =
    ap (λ (z : Argument). read_argument m c z) (sym (rolls-Argument' y))
    ∙ fold-roll-Argument Read ReadPart ReadArgument ReadPath (read_in m c) (part_in m c) argument_in
    (path_in m c) y

pub argument_same : (m : Meanings) (c : Standing) (a : Argument)
    → (read_argument m c a).name ≡ a.name
argument_same m c a =
    ap (λ (r : ReadArgument). r.name)
    (read_of_argument m c (record { node = a.node; name = a.name; value = a.value }))

pub value_same : (m : Meanings) (c : Standing) (a : Argument)
    → (read_argument m c a).value ≡ read m c a.value
value_same m c a =
    ap (λ (r : ReadArgument). r.value)
    (read_of_argument m c (record { node = a.node; name = a.name; value = a.value }))

pub names_same : (m : Meanings) (c : Standing) (items : List Argument)
    → names_of (map (read_argument m c) items) ≡ map (λ (a : Argument). a.name) items
names_same m c [] = refl
names_same m c (a ∷ items) =
    rw (argument_same m c a) (ap (λ ns. a.name ∷ ns) (names_same m c items))

pub function_told : (m : Meanings) (c : Standing) (node : Node) (f : Function)
    (items : List Argument) (old mid new : Faults) (fits all : Bool) (r s : Option Judged)
    → fits ≡ inputs.fits_function f (map (λ (a : Argument). a.name) items)
    → Tells (where_fits c node fits (result_of_type c f.result)) old mid r
    → TellsAll (all_given m c f 0 (map (read_argument m c) items)) mid new all
    → s ≡ where_all all r
    → Tells (function_called m c node f (map (read_argument m c) items)) old new s
function_told m c node f items old mid new fits all r s e t u same =
    let P : Bool → Type 0 = λ b. Tells (where_fits c node b (result_of_type c f.result)) old mid r in
    let there : fits ≡ inputs.fits_function f (names_of (map (read_argument m c) items)) =
    e ∙ ap (inputs.fits_function f) (sym (names_same m c items)) in
    with_all_told (where_fits c node (inputs.fits_function f (names_of (map (read_argument m c) items))) (result_of_type c f.result))
    (all_given m c f 0 (map (read_argument m c) items)) old mid new r s all (subst P there t) u same
