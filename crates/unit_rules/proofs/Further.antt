-- All but the first of several lists.
use Rattle.std.proofs.Common.{◌≡◌, ◌∙◌, Bool, true, false, List, [], ◌∷◌, ◌++◌}
use Rattle.std.proofs.Common.{ap, sym, refl}
use Rattle.std.specs.Prelude.{drop}
use Rattle.link_faults.specs.First.{after}
use Rattle.link_faults.specs.declared.fault.LinkFault.{LinkFault}
use Rattle.link_faults.specs.declared.fault.Faults.{Faults}
use Rattle.unit_rules.specs.steps.Further.{behind, any_of}
use Rattle.unit_rules.proofs.Noting.{noted_both}

pub behind_more : {A : Type 0} (xs ys : List A)
    → behind false (xs ++ ys) ≡ behind false xs ++ behind (any_of false xs) ys
behind_more [] ys = refl
behind_more (x ∷ xs) ys = refl

pub any_more : {A : Type 0} (xs ys : List A)
    → any_of (any_of false xs) ys ≡ any_of false (xs ++ ys)
any_more [] ys = refl
any_more (x ∷ xs) [] = refl
any_more (x ∷ xs) (y ∷ ys) = refl

pub noted_behind : (xs ys all : List LinkFault) (any : Bool) (old mid new : Faults) → all ≡ xs ++ ys
    → any ≡ any_of false xs → mid ≡ after old (behind false xs) → new ≡ after mid (behind any ys)
    → new ≡ after old (behind false all)
noted_behind xs ys all any old mid new e is h k =
    noted_both (behind false xs) (behind (any_of false xs) ys) old mid new h
    (k ∙ ap (λ (b : Bool). after mid (behind b ys)) is)
    ∙ ap (after old) (sym (behind_more xs ys)) ∙ ap (λ r. after old (behind false r)) (sym e)

pub any_behind : {A : Type 0} (xs ys all : List A) (any new : Bool) → all ≡ xs ++ ys
    → any ≡ any_of false xs → new ≡ any_of any ys → new ≡ any_of false all
any_behind xs ys all any new e is k =
    k ∙ ap (λ (b : Bool). any_of b ys) is ∙ any_more xs ys ∙ ap (any_of false) (sym e)
