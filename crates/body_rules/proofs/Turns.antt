-- Faults that are noted one after the other: the turns of loops.
use Rattle.std.proofs.Common.{◌≡◌, refl, ℕ, suc, ◌+◌, ◌<◌, Bool, true, false, ◌&&◌, List, ◌∷◌, ◌++◌, length, get_or, drop, sym, ap, ◌∙◌, add-one, drop-cons}
use Rattle.std.specs.List.{list_all}
use Rattle.link_faults.specs.First.{after}
use Rattle.link_faults.specs.declared.fault.LinkFault.{LinkFault}
use Rattle.link_faults.specs.declared.fault.Faults.{Faults}
use Rattle.link_faults.proofs.Tells as told

pub cut : {E : Type 0} (items : List E) (i : ℕ) (e : E) → i < length items → e ≡ get_or items i e
    → drop i items ≡ e ∷ drop (i + 1) items
cut items i e lt is = rw add-one (drop-cons items i e lt ∙ ap (λ y. y ∷ drop (suc i) items) (sym is))

-- the next turn of a loop that notes what all tell, where an item tells its part first
pub turn : {E : Type 0} (all : List E → List LinkFault) (one : E → List LinkFault)
    → ((e : E) (es : List E) → all (e ∷ es) ≡ one e ++ all es)
    → (items : List E) (i : ℕ) (e : E) (old mid new : Faults) → i < length items
    → e ≡ get_or items i e → after old (all items) ≡ after mid (all (drop i items))
    → new ≡ after mid (one e) → after old (all items) ≡ after new (all (drop (i + 1) items))
turn all one parts items i e old mid new lt is so_far noted =
    so_far ∙ ap (λ ys. after mid (all ys)) (cut items i e lt is)
    ∙ ap (after mid) (parts e (drop (i + 1) items))
    ∙ told.after_append mid (one e) (all (drop (i + 1) items))
    ∙ ap (λ m. after m (all (drop (i + 1) items))) (sym noted)

and_assoc : (a b c : Bool) → (a && (b && c)) ≡ ((a && b) && c)
and_assoc true b c = refl
and_assoc false b c = refl

all_cons : {E : Type 0} (test : E → Bool) (e : E) (es : List E)
    → list_all test (e ∷ es) ≡ (test e && list_all test es)
all_cons test e es = refl

-- the next turn of a loop that tells whether all pass a test
pub all_turn : {E : Type 0} (test : E → Bool) (items : List E) (i : ℕ) (e : E) (all one next : Bool)
    → i < length items → e ≡ get_or items i e
    → list_all test items ≡ (all && list_all test (drop i items)) → one ≡ test e
    → next ≡ (all && one)
    → list_all test items ≡ (next && list_all test (drop (i + 1) items))
all_turn test items i e all one next lt is so_far told same =
    so_far ∙ ap (λ ys. all && list_all test ys) (cut items i e lt is)
    ∙ ap (λ b. all && b) (all_cons test e (drop (i + 1) items))
    ∙ ap (λ b. all && (b && list_all test (drop (i + 1) items))) (sym told)
    ∙ and_assoc all one (list_all test (drop (i + 1) items))
    ∙ ap (λ b. b && list_all test (drop (i + 1) items)) (sym same)
