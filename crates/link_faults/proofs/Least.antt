-- The fault that is kept is the least, and the only one that is.
use Rattle.std.proofs.Common.{◌≡◌, ℕ, Bool, true, false, cond, List, [], ◌∷◌, Option, Some, None, refl, sym, ap, ◌∙◌, arith, subst, inl, inr, ◌⊎◌, nat_eq, nat_lt}
use Rattle.std.specs.Prelude.{◌↔◌}
use Rattle.std.proofs.lemmas.Option.{none-some, same_Some}
use Rattle.std.proofs.lemmas.Bool.Decides.{nat_tests}
use Rattle.st_tree.specs.declared.node.NodeNo.{NodeNo}
use Rattle.st_tree.specs.declared.node.Site.{Site}
use Rattle.link_faults.specs.Codes.{code_of}
use Rattle.link_faults.specs.First.{node_of, is_before, sooner, noted, no_faults, after}
use Rattle.link_faults.specs.FirstLaws.{IsAmong, IsFirst, KeepsTheFirst, KeepsOne, OrderPlaysNoPart}
use Rattle.link_faults.specs.declared.code.LinkCode.{LinkCode}
use Rattle.link_faults.specs.declared.code.LinkCode.TheVariants as code
use Rattle.link_faults.specs.declared.fault.LinkFault.{LinkFault}
use Rattle.link_faults.specs.declared.fault.Faults.{Faults}

-- by three numbers
abbrev pub lex : (a b c x y z : ℕ) → Bool
lex a b c x y z =
    cond (nat_eq a x) (cond (nat_eq b y) (nat_lt c z) (nat_lt b y)) (nat_lt a x)

lex_down : (a b c x y z u v w : ℕ) → lex a b c x y z ≡ false → lex x y z u v w ≡ false
    → lex a b c u v w ≡ false
lex_down a b c x y z u v w h k = grind (arith, nat_tests)

lex_asym : (a b c x y z : ℕ) → lex a b c x y z ≡ true → lex x y z a b c ≡ false
lex_asym a b c x y z h = grind (arith, nat_tests)

lex_up : (a b c x y z u v w : ℕ) → lex a b c x y z ≡ true → lex a b c u v w ≡ false
    → lex x y z u v w ≡ false
lex_up a b c x y z u v w h k = lex_down x y z a b c u v w (lex_asym a b c x y z h) k

lex_self : (a b c : ℕ) → lex a b c a b c ≡ false
lex_self a b c = grind (arith, nat_tests)

lex_first : (a b c x y z : ℕ) → lex a b c x y z ≡ false → lex x y z a b c ≡ false → a ≡ x
lex_first a b c x y z h k = grind (arith, nat_tests)

lex_second : (a b c x y z : ℕ) → lex a b c x y z ≡ false → lex x y z a b c ≡ false → b ≡ y
lex_second a b c x y z h k = grind (arith, nat_tests)

lex_third : (a b c x y z : ℕ) → lex a b c x y z ≡ false → lex x y z a b c ≡ false → c ≡ z
lex_third a b c x y z h k = grind (arith, nat_tests)

up : (x g f : LinkFault) → is_before x g ≡ true → is_before x f ≡ false → is_before g f ≡ false
up x g f =
    lex_up x.site.file (node_of x) (code_of x.code) g.site.file (node_of g) (code_of g.code)
    f.site.file (node_of f) (code_of f.code)

down : (x g f : LinkFault) → is_before x g ≡ false → is_before g f ≡ false → is_before x f ≡ false
down x g f =
    lex_down x.site.file (node_of x) (code_of x.code) g.site.file (node_of g) (code_of g.code)
    f.site.file (node_of f) (code_of f.code)

self : (f : LinkFault) → is_before f f ≡ false
self f = lex_self f.site.file (node_of f) (code_of f.code)

pub record Kept (g : LinkFault) (fs : List LinkFault) (f : LinkFault) : Type 0 where
  pub there : (f ≡ g) ⊎ IsAmong f fs
  pub under : is_before g f ≡ false
  pub least : (h : LinkFault) → IsAmong h fs → is_before h f ≡ false

-- that no fault of the list comes before f, where none of its head and none of its rest does
behind : (x : LinkFault) (fs : List LinkFault) (f : LinkFault) → is_before x f ≡ false
    → ((h : LinkFault) → IsAmong h fs → is_before h f ≡ false) → (h : LinkFault)
    → IsAmong h (x ∷ fs) → is_before h f ≡ false
behind x fs f under least h a = elim a as (λ _. is_before h f ≡ false) [
  | inl s ↦ (let P : LinkFault → Type 0 = λ y. is_before y f ≡ false in subst P (sym s) under)
  | inr m ↦ least h m
]

chosen : (g x : LinkFault) (fs : List LinkFault) (f : LinkFault) (b : Bool) → is_before x g ≡ b
    → ((y : LinkFault) → (after (record { first = Some y }) fs).first ≡ Some f → Kept y fs f)
    → (after (record { first = cond b (Some x) (Some g) }) fs).first ≡ Some f → Kept g (x ∷ fs) f
chosen g x fs f true t again e =
    let k = again x e in
    record {
      there = inr k.there;
      under = up x g f t k.under;
      least = behind x fs f k.under k.least;
    }
chosen g x fs f false t again e =
    let k = again g e in
    record {
      there = elim k.there as (λ _. (f ≡ g) ⊎ IsAmong f (x ∷ fs)) [
        | inl s ↦ inl s
        | inr m ↦ inr (inr m)
      ];
      under = k.under;
      least = behind x fs f (down x g f t k.under) k.least;
    }

pub kept : (g : LinkFault) (fs : List LinkFault) (f : LinkFault)
    → (after (record { first = Some g }) fs).first ≡ Some f → Kept g fs f
kept g [] f e =
    let s : g ≡ f = same_Some g f e in
    record {
      there = inl (sym s);
      under = let P : LinkFault → Type 0 = λ x. is_before g x ≡ false in subst P s (self g);
      least = λ h a. elim a [ ];
    }
kept g (x ∷ fs) f e = chosen g x fs f (is_before x g) refl (λ y. kept y fs f) e

pub first_is_least : KeepsTheFirst
first_is_least [] f e = absurd (none-some f e)
first_is_least (g ∷ fs) f e =
    let k = kept g fs f e in
    record { among = k.there; least = behind g fs f k.under k.least }

either : (g x : LinkFault) (fs : List LinkFault) (b : Bool)
    → ((y : LinkFault) → (after (record { first = Some y }) fs).first ≡ None → ⊥)
    → (after (record { first = cond b (Some x) (Some g) }) fs).first ≡ None → ⊥
either g x fs true again e = again x e
either g x fs false again e = again g e

some_stays : (g : LinkFault) (fs : List LinkFault)
    → (after (record { first = Some g }) fs).first ≡ None → ⊥
some_stays g [] e = none-some g (sym e)
some_stays g (x ∷ fs) e = either g x fs (is_before x g) (λ y. some_stays y fs) e

pub none_is_none : KeepsOne
none_is_none [] e = refl
none_is_none (g ∷ fs) e = absurd (some_stays g fs e)

-- ---- one at most is the first

abbrev code_by : ℕ → LinkCode
code_by n =
    cond (nat_eq n 20) code.Unknown (cond (nat_eq n 21) code.Twice (cond (nat_eq n 22) code.WrongType
    (cond (nat_eq n 23) code.NotConstant (cond (nat_eq n 24) code.OutOfProfile
    (cond (nat_eq n 25) code.BadBound (cond (nat_eq n 26) code.WrongCall code.NotAssignable))))))

by_code : (c : LinkCode) → code_by (code_of c) ≡ c
by_code code.Unknown = refl
by_code code.Twice = refl
by_code code.WrongType = refl
by_code code.NotConstant = refl
by_code code.OutOfProfile = refl
by_code code.BadBound = refl
by_code code.WrongCall = refl
by_code code.NotAssignable = refl

abbrev fault_of : (file node : ℕ) → LinkCode → LinkFault
fault_of file node c = record { site = record { file = file; node = record { 0 = node } }; code = c }

same_fault : (f g : LinkFault) → is_before f g ≡ false → is_before g f ≡ false → f ≡ g
same_fault f g h k =
    let file : f.site.file ≡ g.site.file =
    lex_first f.site.file (node_of f) (code_of f.code) g.site.file (node_of g) (code_of g.code) h k in
    let node : node_of f ≡ node_of g =
    lex_second f.site.file (node_of f) (code_of f.code) g.site.file (node_of g) (code_of g.code) h k in
    let number : code_of f.code ≡ code_of g.code =
    lex_third f.site.file (node_of f) (code_of f.code) g.site.file (node_of g) (code_of g.code) h k in
    let same : f.code ≡ g.code = sym (by_code f.code) ∙ ap code_by number ∙ by_code g.code in
    ap (λ x. fault_of x (node_of f) f.code) file ∙ ap (λ x. fault_of g.site.file x f.code) node
    ∙ ap (fault_of g.site.file (node_of g)) same

abbrev with_first : Option LinkFault → Faults
with_first first = record { first = first }

by_first : (fs gs : List LinkFault) (x y : Option LinkFault)
    → ((f : LinkFault) → IsAmong f fs ↔ IsAmong f gs)
    → (after no_faults fs).first ≡ x → (after no_faults gs).first ≡ y → x ≡ y
by_first fs gs None None same e d = refl
by_first fs gs None (Some g) same e d =
    let empty : fs ≡ [] = none_is_none fs e in
    let among : IsAmong g fs = (same g).1 (first_is_least gs g d).among in
    absurd (let P : List LinkFault → Type 0 = λ xs. IsAmong g xs in subst P empty among)
by_first fs gs (Some f) None same e d =
    let empty : gs ≡ [] = none_is_none gs d in
    let among : IsAmong f gs = (same f).0 (first_is_least fs f e).among in
    absurd (let P : List LinkFault → Type 0 = λ xs. IsAmong f xs in subst P empty among)
by_first fs gs (Some f) (Some g) same e d =
    let a = first_is_least fs f e in
    let b = first_is_least gs g d in
    ap Some (same_fault f g (b.least f ((same f).0 a.among)) (a.least g ((same g).1 b.among)))

pub order_plays_no_part : OrderPlaysNoPart
order_plays_no_part fs gs same =
    ap with_first (by_first fs gs (after no_faults fs).first (after no_faults gs).first same refl refl)
