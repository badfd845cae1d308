-- An element and its indices.
use Rattle.std.proofs.Common.{◌≡◌, ℕ, Bool, List, [], ◌∷◌, length, map, Option, refl, ap, subst, suc}
use Rattle.st_tree.specs.declared.node.Node.{Node}
use Rattle.st_tree.specs.declared.expression.Expr.{Expr}
use Rattle.link_faults.specs.Checked.{Tells}
use Rattle.link_faults.specs.declared.fault.Faults.{Faults}
use Rattle.expression_types.specs.Lists.{TellsAll}
use Rattle.expression_types.specs.steps.Several.{where_all}
use Rattle.expression_types.specs.Meanings.{Meanings}
use Rattle.expression_types.specs.Reads.{Read, element_of, indices_in, indexed}
use Rattle.expression_types.specs.declared.judged.Standing.{Standing}
use Rattle.expression_types.specs.declared.meaning.ValueType.{ValueType}
use Rattle.expression_types.proofs.Told.{with_all_told}

as_many : {A B : Type 0} (f : A → B) (xs : List A) → length xs ≡ length (map f xs)
as_many f [] = refl
as_many f (x ∷ xs) = ap suc (as_many f xs)

pub index_told : (m : Meanings) (c : Standing) (node : Node) (f : Expr → Read) (items : List Expr)
    (t : ValueType) (old mid new : Faults) (r s : Option ValueType) (all : Bool)
    → Tells (element_of m c node (length items) t) old mid r
    → TellsAll (indices_in m c (map f items)) mid new all → s ≡ where_all all r
    → Tells (indexed m c node (map f items) t) old new s
index_told m c node f items t old mid new r s all one told same =
    let P : ℕ → Type 0 = λ n. Tells (element_of m c node n t) old mid r in
    with_all_told (element_of m c node (length (map f items)) t) (indices_in m c (map f items)) old mid
    new r s all (subst P (as_many f items) one) told same
