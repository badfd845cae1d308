-- What is told of calls of functions of the standard and of their arguments.
use Rattle.std.proofs.Common.{◌≡◌, ℕ, zero, suc, ◌+◌, ◌<◌, ◌≤◌, Bool, true, false, ◌&&◌, List, [], ◌∷◌, ◌++◌, length, get_or, drop, map, Option, Some, None, refl, sym, ap, ◌∙◌, subst, arith}
use Rattle.std.specs.Prelude.{option_map}
use Rattle.std.proofs.lemmas.List.{drop_all}
use Rattle.iec_tables.specs.declared.elem.Elem.{Elem}
use Rattle.standard_names.specs.declared.function.StandardFunction.{StandardFunction}
use Rattle.standard_names.specs.declared.function.StandardFunction.TheVariants as function
use Rattle.st_tree.specs.declared.node.Node.{Node}
use Rattle.st_tree.specs.declared.expression.Expr.{Expr}
use Rattle.st_tree.specs.declared.expression.Argument.{Argument}
use Rattle.link_faults.specs.First.{after}
use Rattle.link_faults.specs.Checked.{Checked, Good, Bad, faults, bind, Tells}
use Rattle.link_faults.specs.declared.code.LinkCode.TheVariants as code
use Rattle.link_faults.specs.declared.fault.Faults.{Faults}
use Rattle.link_faults.proofs.Tells.{after_append}
use Rattle.expression_types.specs.Lists.{are_good, faults_of, with_all, TellsAll}
use Rattle.expression_types.specs.Meanings.{Meanings}
use Rattle.expression_types.specs.Rules.{varying, wrong_at}
use Rattle.expression_types.specs.Reads.{Read, ReadArgument, argument_value, names_of}
use Rattle.expression_types.specs.Judge.{read, read_argument}
use Rattle.expression_types.specs.StandardInputs.{inputs_of, is_left_out, places_given, value_at, values_at}
use Rattle.expression_types.specs.StandardCalls.{of_its_type, of_type, standard_result, beside, all_beside, called_with, standard_called}
use Rattle.expression_types.specs.steps.Several.{still_good, where_all}
use Rattle.expression_types.specs.steps.Three.{AreIn, listed, places_listed, value_or, its_type, this_type}
use Rattle.expression_types.specs.declared.judged.ExprType.TheVariants as ty
use Rattle.expression_types.specs.declared.judged.Judged.{Judged}
use Rattle.expression_types.specs.declared.judged.Standing.{Standing}
use Rattle.expression_types.specs.declared.standard_inputs.Places.{Places}
use Rattle.expression_types.proofs.Told.{bind_some, bind_none, with_all_told}
use Rattle.expression_types.proofs.Loops.{LeftOf, cut, and_true}
use Rattle.expression_types.proofs.Calls.{names_same, argument_same, value_same}
use Rattle.expression_types.proofs.Sharing.{all_one}

-- ---- what a call is

of_that : (x : Checked Judged) (rule : Judged → Judged) (o n : Faults) (j : Judged)
    → Tells x o n (Some j)
    → Tells (bind x (λ j. Good (rule j))) o n (Some (rule j))
of_that x rule o n j t =
    bind_some x (λ j. Good (rule j)) o n n j (Some (rule j)) t (record { first = refl; answer = refl })

told_of_it : (c : Standing) (x : Checked Judged) (o n : Faults) (a : Option Judged)
    → Tells x o n a → Tells (of_its_type c x) o n (its_type c a)
told_of_it c x o n (Some j) t = of_that x (λ j. varying c j.ty) o n j t
told_of_it c x o n None t = bind_none x (λ j. Good (varying c j.ty)) o n t

pub its_type_told : (c : Standing) (x : Checked Judged) (o n : Faults) (a r : Option Judged)
    → Tells x o n a → r ≡ its_type c a → Tells (of_its_type c x) o n r
its_type_told c x o n a r t same =
    let P : Option Judged → Type 0 = λ s. Tells (of_its_type c x) o n s in
    subst P (sym same) (told_of_it c x o n a t)

told_of_this : (c : Standing) (t : Elem) (x : Checked Judged) (o n : Faults) (a : Option Judged)
    → Tells x o n a → Tells (of_type c t x) o n (this_type c (ty.Elem t) a)
told_of_this c t x o n (Some j) told = of_that x (λ j. varying c (ty.Elem t)) o n j told
told_of_this c t x o n None told = bind_none x (λ j. Good (varying c (ty.Elem t))) o n told

pub this_type_told : (c : Standing) (t : Elem) (x : Checked Judged) (o n : Faults) (a r : Option Judged)
    → Tells x o n a → r ≡ this_type c (ty.Elem t) a → Tells (of_type c t x) o n r
this_type_told c t x o n a r told same =
    let P : Option Judged → Type 0 = λ s. Tells (of_type c t x) o n s in
    subst P (sym same) (told_of_this c t x o n a told)

-- ---- a value beside others

pub one_told : (y : Checked Judged) (o n : Faults) (b : Option Judged) (g : Bool) → Tells y o n b
    → g ≡ still_good true b → TellsAll (y ∷ []) o n g
one_told y o n b g t same =
    let P : Bool → Type 0 = λ x. TellsAll (y ∷ []) o n x in
    subst P (sym same) (all_one y o n b t)

pub with_one : (x y : Checked Judged) (o m n : Faults) (a b s : Option Judged) (g : Bool)
    → Tells x o m a → Tells y m n b → g ≡ still_good true b → s ≡ where_all g a
    → Tells (with_all x (y ∷ [])) o n s
with_one x y o m n a b s g t u e same =
    with_all_told x (y ∷ []) o m n a s g t (one_told y m n b g u e) same

-- ---- arguments beside the inputs

assoc : {A : Type 0} (xs ys zs : List A) → (xs ++ ys) ++ zs ≡ xs ++ (ys ++ zs)
assoc [] ys zs = refl
assoc (x ∷ xs) ys zs = ap (λ r. x ∷ r) (assoc xs ys zs)

faults_append : {A : Type 0} (xs ys : List (Checked A))
    → faults_of (xs ++ ys) ≡ faults_of xs ++ faults_of ys
faults_append [] ys = refl
faults_append (x ∷ xs) ys =
    ap (λ fs. faults x ++ fs) (faults_append xs ys) ∙ sym (assoc (faults x) (faults_of xs) (faults_of ys))

good_append : {A : Type 0} (xs ys : List (Checked A))
    → are_good (xs ++ ys) ≡ (are_good xs && are_good ys)
good_append [] ys = refl
good_append (Good a ∷ xs) ys = good_append xs ys
good_append (Bad fs ∷ xs) ys = refl

and_assoc : (a b c : Bool) → (a && (b && c)) ≡ ((a && b) && c)
and_assoc true b c = refl
and_assoc false b c = refl

some_told : {A : Type 0} (xs ys zs : List (Checked A)) (old mid new : Faults) (all r next : Bool)
    → LeftOf xs (ys ++ zs) old mid all → TellsAll ys mid new r → next ≡ (all && r)
    → LeftOf xs zs old new next
some_told xs ys zs old mid new all r next left t same =
    record {
      first = left.first ∙ ap (after mid) (faults_append ys zs)
          ∙ after_append mid (faults_of ys) (faults_of zs)
          ∙ ap (λ m. after m (faults_of zs)) (sym t.first);
      all = left.all ∙ ap (λ b. all && b) (good_append ys zs)
          ∙ ap (λ b. all && (b && are_good zs)) (sym t.all) ∙ and_assoc all r (are_good zs)
          ∙ ap (λ b. b && are_good zs) (sym same);
    }

pub beside_step : {E : Type 0} (m : Meanings) (c : Standing) (fits : Bool) (g : E → ReadArgument)
    (items : List E) (i : ℕ) (e : E) (old mid new : Faults) (all r next : Bool)
    → i < length items → e ≡ get_or items i e
    → LeftOf (all_beside m c fits (map g items)) (all_beside m c fits (map g (drop i items))) old mid all
    → TellsAll (beside m c fits (g e)) mid new r → next ≡ (all && r)
    → LeftOf (all_beside m c fits (map g items)) (all_beside m c fits (map g (drop (i + 1) items)))
    old new next
beside_step {E = E} m c fits g items i e old mid new all r next lt is left t same =
    let W = all_beside m c fits (map g items) in
    let P : List E → Type 0 = λ ys. LeftOf W (all_beside m c fits (map g ys)) old mid all in
    some_told W (beside m c fits (g e)) (all_beside m c fits (map g (drop (i + 1) items))) old mid new all
    r next (subst P (cut items i e lt is) left) t same

pub beside_end : {E : Type 0} (m : Meanings) (c : Standing) (fits : Bool) (g : E → ReadArgument)
    (items : List E) (i : ℕ) (old new : Faults) (all : Bool) → length items ≤ i
    → LeftOf (all_beside m c fits (map g items)) (all_beside m c fits (map g (drop i items))) old new all
    → TellsAll (all_beside m c fits (map g items)) old new all
beside_end {E = E} m c fits g items i old new all le left =
    let W = all_beside m c fits (map g items) in
    let P : List E → Type 0 = λ ys. LeftOf W (all_beside m c fits (map g ys)) old new all in
    let done = subst P (drop_all i items le) left in
    record { first = sym done.first; all = sym (done.all ∙ and_true all) }

pub beside_told : (m : Meanings) (c : Standing) (fits : Bool) (a : Argument) (o n : Faults)
    (b : Option Judged) (g : Bool) → is_left_out a.name ≡ false → fits ≡ false
    → Tells (argument_value m c (read_argument m c a)) o n b → g ≡ still_good true b
    → TellsAll (beside m c fits (read_argument m c a)) o n g
beside_told m c fits a o n b g left unfit t same =
    let e : is_left_out (read_argument m c a).name ≡ false =
    ap is_left_out (argument_same m c a) ∙ left in
    rw e (rw unfit (one_told (argument_value m c (read_argument m c a)) o n b g t same))

-- ---- the values of the inputs

below_none : (A : Type 0) (p : ℕ) → p < length {A = A} [] → ⊥
below_none A p lt = omega arith

below_next : {E : Type 0} (p : ℕ) (x : E) (items : List E) → suc p < length (x ∷ items)
    → p < length items
below_next p x items lt = omega arith

value_told : {E : Type 0} (g : E → ReadArgument) (items : List E) (p : ℕ) (d : E) → p < length items
    → value_or (map g items) p ≡ (g (get_or items p d)).value
value_told {E = E} g [] p d lt = absurd (below_none E p lt)
value_told g (x ∷ items) zero d lt = refl
value_told g (x ∷ items) (suc p) d lt = value_told g items p d (below_next p x items lt)

pub read_at : (m : Meanings) (c : Standing) (items : List Argument) (p : ℕ) (d : Argument) (x : Expr)
    → p < length items → x ≡ (get_or items p d).value
    → read m c x ≡ value_or (map (read_argument m c) items) p
read_at m c items p d x lt e =
    sym (value_told (read_argument m c) items p d lt ∙ value_same m c (get_or items p d)
    ∙ ap (read m c) (sym e))

-- what is told of the value is told of that of the argument at its place
pub told_at : (rule : Read → Checked Judged) (x y : Read) (o n : Faults) (r : Option Judged)
    → x ≡ y → Tells (rule x) o n r → Tells (rule y) o n r
told_at rule x y o n r e t =
    let P : Read → Type 0 = λ z. Tells (rule z) o n r in
    subst P e t

one_at : {E : Type 0} (g : E → ReadArgument) (items : List E) (p : ℕ) → p < length items
    → value_at (map g items) p ≡ value_or (map g items) p ∷ []
one_at {E = E} g [] p lt = absurd (below_none E p lt)
one_at g (x ∷ items) zero lt = refl
one_at g (x ∷ items) (suc p) lt = one_at g items p (below_next p x items lt)

listed_at : (f : StandardFunction) (arguments : List ReadArgument) (p q r : ℕ) (x y z : Read)
    → value_at arguments p ≡ x ∷ [] → value_at arguments q ≡ y ∷ [] → value_at arguments r ≡ z ∷ []
    → values_at arguments (listed f p q r) ≡ listed f x y z
listed_at function.Abs arguments p q r x y z a b c = rw a refl
listed_at function.Min arguments p q r x y z a b c = rw a (rw b refl)
listed_at function.Max arguments p q r x y z a b c = rw a (rw b refl)
listed_at function.Limit arguments p q r x y z a b c = rw a (rw b (rw c refl))
listed_at function.Sel arguments p q r x y z a b c = rw a (rw b (rw c refl))
listed_at function.Shl arguments p q r x y z a b c = rw a (rw b refl)
listed_at function.Shr arguments p q r x y z a b c = rw a (rw b refl)
listed_at function.Rol arguments p q r x y z a b c = rw a (rw b refl)
listed_at function.Ror arguments p q r x y z a b c = rw a (rw b refl)
listed_at (function.Convert from to) arguments p q r x y z a b c = rw a refl

values_told : (m : Meanings) (c : Standing) (f : StandardFunction) (items : List Argument) (p q r : ℕ)
    → p < length items → q < length items → r < length items
    → values_at (map (read_argument m c) items) (listed f p q r)
    ≡ listed f (value_or (map (read_argument m c) items) p)
    (value_or (map (read_argument m c) items) q) (value_or (map (read_argument m c) items) r)
values_told m c f items p q r l l' l'' =
    let g = read_argument m c in
    listed_at f (map g items) p q r (value_or (map g items) p) (value_or (map g items) q)
    (value_or (map g items) r) (one_at g items p l) (one_at g items q l') (one_at g items r l'')

-- ---- calls

places_same : (m : Meanings) (c : Standing) (f : StandardFunction) (items : List Argument)
    (ps : Option (List ℕ)) → ps ≡ places_given (inputs_of f) (map (λ (a : Argument). a.name) items)
    → ps ≡ places_given (inputs_of f) (names_of (map (read_argument m c) items))
places_same m c f items ps e = e ∙ ap (places_given (inputs_of f)) (sym (names_same m c items))

pub unfit_told : (m : Meanings) (c : Standing) (node : Node) (f : StandardFunction)
    (items : List Argument) (old mid new : Faults) (given : Option Places) (all : Bool)
    (r s : Option Judged) → given ≡ None
    → option_map (places_listed f) given
    ≡ places_given (inputs_of f) (map (λ (a : Argument). a.name) items)
    → Tells {A = Judged} (wrong_at c node code.WrongCall) old mid r
    → TellsAll (all_beside m c false (map (read_argument m c) items)) mid new all
    → s ≡ where_all all r
    → Tells (standard_called m c node f (map (read_argument m c) items)) old new s
unfit_told m c node f items old mid new given all r s none places t u same =
    let args = map (read_argument m c) items in
    let P : Option (List ℕ) → Type 0 = λ ps. Tells (called_with m c node f args ps) old new s in
    subst P (places_same m c f items None (sym (ap (option_map (places_listed f)) none) ∙ places))
    (with_all_told (wrong_at c node code.WrongCall) (all_beside m c false args) old mid new r s all t u
    same)

pub fit_told : (m : Meanings) (c : Standing) (node : Node) (f : StandardFunction)
    (items : List Argument) (old mid new : Faults) (given : Option Places) (p : Places) (all : Bool)
    (r s : Option Judged) → given ≡ Some p
    → option_map (places_listed f) given
    ≡ places_given (inputs_of f) (map (λ (a : Argument). a.name) items)
    → AreIn (length items) given
    → Tells (standard_result m c node f (listed f (value_or (map (read_argument m c) items) p.first)
    (value_or (map (read_argument m c) items) p.second)
    (value_or (map (read_argument m c) items) p.third))) old mid r
    → TellsAll (all_beside m c true (map (read_argument m c) items)) mid new all
    → s ≡ where_all all r
    → Tells (standard_called m c node f (map (read_argument m c) items)) old new s
fit_told m c node f items old mid new given p all r s some places are_in t u same =
    let args = map (read_argument m c) items in
    let I : Option Places → Type 0 = λ o. AreIn (length items) o in
    let there : AreIn (length items) (Some p) = subst I some are_in in
    let R : List Read → Type 0 = λ xs. Tells (standard_result m c node f xs) old mid r in
    let P : Option (List ℕ) → Type 0 = λ ps. Tells (called_with m c node f args ps) old new s in
    subst P (places_same m c f items (Some (places_listed f p))
    (sym (ap (option_map (places_listed f)) some) ∙ places))
    (with_all_told (standard_result m c node f (values_at args (places_listed f p)))
    (all_beside m c true args) old mid new r s all
    (subst R (sym (values_told m c f items p.first p.second p.third there.0 there.1 there.2)) t) u
    same)
