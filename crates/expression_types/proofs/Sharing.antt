-- Operands that share a type, and what is told of them.
use Rattle.std.proofs.Common.{◌≡◌, ◌-◌, ◌≤◌, Bool, true, false, List, [], ◌∷◌, length, get_or, take, drop, Option, Some, None, refl, sym, ap, ◌∙◌, arith}
use Rattle.std.proofs.lemmas.List.{take_rest}
use Rattle.st_tree.specs.declared.node.Node.{Node}
use Rattle.link_faults.specs.Checked.{Checked, Good, bind, Tells}
use Rattle.link_faults.specs.declared.fault.Faults.{Faults}
use Rattle.expression_types.specs.Lists.{with_all, TellsAll}
use Rattle.expression_types.specs.Meanings.{Meanings}
use Rattle.expression_types.specs.Types.{first_that}
use Rattle.expression_types.specs.Reads.{Read}
use Rattle.expression_types.specs.Shared.{Operand, sharing, operands_in, at_shared, shared}
use Rattle.expression_types.specs.steps.Several.{still_good, where_all}
use Rattle.expression_types.specs.steps.Three.{with_operand, of_operands}
use Rattle.expression_types.specs.declared.judged.Judged.{Judged}
use Rattle.expression_types.specs.declared.judged.Standing.{Standing}
use Rattle.expression_types.proofs.Told.{bind_some, bind_none, both_some, both_left, both_right, with_all_told}
use Rattle.expression_types.proofs.Loops.{LeftOf, next_told, and_true}

-- ---- one, two and three parts side by side

first_told : (p : Checked Judged) (ps : List (Checked Judged)) (o m : Faults) (a : Option Judged)
    → Tells p o m a → LeftOf (p ∷ ps) ps o m (still_good true a)
first_told p ps o m a t =
    next_told (p ∷ ps) ps p o o m true a (record { first = refl; all = refl }) t

done : (ps : List (Checked Judged)) (o n : Faults) (all : Bool) → LeftOf ps [] o n all
    → TellsAll ps o n all
done ps o n all left =
    record { first = sym left.first; all = sym (left.all ∙ and_true all) }

pub all_one : (p : Checked Judged) (o n : Faults) (a : Option Judged) → Tells p o n a
    → TellsAll (p ∷ []) o n (still_good true a)
all_one p o n a t = done (p ∷ []) o n (still_good true a) (first_told p [] o n a t)

all_two : (p q : Checked Judged) (o m n : Faults) (a b : Option Judged) → Tells p o m a
    → Tells q m n b → TellsAll (p ∷ q ∷ []) o n (still_good (still_good true a) b)
all_two p q o m n a b t u =
    done (p ∷ q ∷ []) o n (still_good (still_good true a) b)
    (next_told (p ∷ q ∷ []) [] q o m n (still_good true a) b (first_told p (q ∷ []) o m a t) u)

all_three : (p q r : Checked Judged) (o m m' n : Faults) (a b d : Option Judged) → Tells p o m a
    → Tells q m m' b → Tells r m' n d
    → TellsAll (p ∷ q ∷ r ∷ []) o n (still_good (still_good (still_good true a) b) d)
all_three p q r o m m' n a b d t u v =
    let W = p ∷ q ∷ r ∷ [] in
    done W o n (still_good (still_good (still_good true a) b) d)
    (next_told W [] r o m' n (still_good (still_good true a) b) d
    (next_told W (r ∷ []) q o m m' (still_good true a) b (first_told p (q ∷ r ∷ []) o m a t) u) v)

good_with : (v w : Judged) (ps : List (Checked Judged)) (o n : Faults) (s : Option Judged) (all done : Bool)
    → TellsAll ps o n all → done ≡ all → w ≡ v → s ≡ where_all done (Some w)
    → Tells (with_all (Good v) ps) o n s
good_with v w ps o n s all done told d e same =
    let here : Tells (Good v) o o (Some v) = record { first = refl; answer = refl } in
    with_all_told (Good v) ps o o n (Some v) s all here told
    (same ∙ ap (λ x. where_all done (Some x)) e ∙ ap (λ b. where_all b (Some v)) d)

pub two_told : (v w : Judged) (p q : Checked Judged) (o m n : Faults) (a b s : Option Judged)
    (g h : Bool) → Tells p o m a → Tells q m n b → g ≡ still_good true a → h ≡ still_good g b
    → w ≡ v → s ≡ where_all h (Some w) → Tells (with_all (Good v) (p ∷ q ∷ [])) o n s
two_told v w p q o m n a b s g h t u d e f same =
    good_with v w (p ∷ q ∷ []) o n s (still_good (still_good true a) b) h (all_two p q o m n a b t u)
    (e ∙ ap (λ x. still_good x b) d) f same

pub three_told : (v w : Judged) (p q r : Checked Judged) (o m m' n : Faults) (a b d s : Option Judged)
    (g h i : Bool) → Tells p o m a → Tells q m m' b → Tells r m' n d → g ≡ still_good true a
    → h ≡ still_good g b → i ≡ still_good h d → w ≡ v → s ≡ where_all i (Some w)
    → Tells (with_all (Good v) (p ∷ q ∷ r ∷ [])) o n s
three_told v w p q r o m m' n a b d s g h i t u x e f k l same =
    good_with v w (p ∷ q ∷ r ∷ []) o n s (still_good (still_good (still_good true a) b) d) i
    (all_three p q r o m m' n a b d t u x)
    (k ∙ ap (λ y. still_good y d) (f ∙ ap (λ y. still_good y b) e)) l same

-- ---- operands

nothing_told : {A : Type 0} (a : A) (o : Faults) → Tells (Good a) o o (Some a)
nothing_told a o = record { first = refl; answer = refl }

operand_told : (c : Standing) (x : Read) (xs : List Read) (o m n : Faults) (i : Option Judged)
    (os : Option (List Operand)) → Tells (sharing c x) o m i → Tells (operands_in c xs) m n os
    → Tells (operands_in c (x ∷ xs)) o n (with_operand x i os)
operand_told c x xs o m n (Some j) (Some os) t u =
    let all : List Operand = record { read = x; judged = j } ∷ os in
    both_some (sharing c x) (operands_in c xs) (λ j os. Good (record { read = x; judged = j } ∷ os))
    o m n n j os (Some all) t u (nothing_told all n)
operand_told c x xs o m n (Some j) None t u =
    both_right (sharing c x) (operands_in c xs) (λ j os. Good (record { read = x; judged = j } ∷ os))
    o m n j t u
operand_told c x xs o m n None os t u =
    both_left (sharing c x) (operands_in c xs) (λ j os. Good (record { read = x; judged = j } ∷ os))
    o m n os t u

given_told : (x : Checked (List Operand)) (rule : List Operand → Checked Judged) (o m n : Faults)
    (os : Option (List Operand)) (r : Option Judged) → Tells x o m os
    → Tells (of_operands os rule) m n r → Tells (bind x rule) o n r
given_told x rule o m n (Some os) r t u = bind_some x rule o m n os r t u
given_told x rule o m n None r t u =
    let here : Tells (bind x rule) o m None = bind_none x rule o m t in
    record { first = u.first ∙ here.first; answer = u.answer ∙ here.answer }

pub shared_two_told : (m : Meanings) (c : Standing) (node : Node) (x y : Read) (o p q n : Faults)
    (i j r : Option Judged) → Tells (sharing c x) o p i → Tells (sharing c y) p q j
    → Tells (of_operands (with_operand x i (with_operand y j (Some []))) (at_shared m c node)) q n r
    → Tells (shared m c node (x ∷ y ∷ [])) o n r
shared_two_told m c node x y o p q n i j r t u v =
    let none : Tells (operands_in c []) q q (Some []) = nothing_told [] q in
    given_told (operands_in c (x ∷ y ∷ [])) (at_shared m c node) o q n
    (with_operand x i (with_operand y j (Some []))) r
    (operand_told c x (y ∷ []) o p q i (with_operand y j (Some [])) t
    (operand_told c y [] p q q j (Some []) u none)) v

pub shared_three_told : (m : Meanings) (c : Standing) (node : Node) (x y z : Read)
    (o p q q' n : Faults) (i j k r : Option Judged) → Tells (sharing c x) o p i
    → Tells (sharing c y) p q j → Tells (sharing c z) q q' k
    → Tells (of_operands (with_operand x i (with_operand y j (with_operand z k (Some []))))
    (at_shared m c node)) q' n r
    → Tells (shared m c node (x ∷ y ∷ z ∷ [])) o n r
shared_three_told m c node x y z o p q q' n i j k r t u v w =
    let none : Tells (operands_in c []) q' q' (Some []) = nothing_told [] q' in
    given_told (operands_in c (x ∷ y ∷ z ∷ [])) (at_shared m c node) o q' n
    (with_operand x i (with_operand y j (with_operand z k (Some [])))) r
    (operand_told c x (y ∷ z ∷ []) o p q' i (with_operand y j (with_operand z k (Some []))) t
    (operand_told c y (z ∷ []) p q q' j (with_operand z k (Some [])) u
    (operand_told c z [] q q' q' k (Some []) v none))) w

-- ---- their type

no_first : (A : Type 0) → 1 ≤ length {A = A} [] → ⊥
no_first A le = omega arith

pub head_fails : {A : Type 0} (p : A → Bool) (xs : List A) (d : A) (r : Option A) (b : Bool)
    → 1 ≤ length xs → b ≡ p (get_or xs 0 d) → b ≡ false
    → r ≡ first_that p (take (length xs - 1) (drop 1 xs)) → r ≡ first_that p xs
head_fails {A = A} p [] d r b le e f told = absurd (no_first A le)
head_fails p (x ∷ xs) d r b le e f told =
    let q : p x ≡ false = sym e ∙ f in rw q (told ∙ ap (first_that p) (take_rest (x ∷ xs) 1))
