-- Steps of loops over the names of arguments.
use Rattle.std.proofs.Common.{◌≡◌, ℕ, ◌+◌, ◌-◌, ◌<◌, Bool, true, false, List, ◌∷◌, length, get_or, take, drop, map, Option, refl, sym, ap, ◌∙◌, subst}
use Rattle.std.specs.List.{list_all}
use Rattle.std.specs.Prelude.{if◌then◌else◌}
use Rattle.std.proofs.lemmas.Bool.{false≢true}
use Rattle.std.proofs.lemmas.List.{take_rest}
use Rattle.st_tree.specs.declared.expression.Identifier.{Identifier}
use Rattle.expression_types.specs.Meanings.{Function}
use Rattle.expression_types.specs.Inputs.{is_enable, is_new, are_new, without_enables, written_place}
use Rattle.expression_types.specs.steps.Apart.{is_apart_from}
use Rattle.expression_types.proofs.Loops.{cut}

pub all_next : {E A : Type 0} (p : A → Bool) (g : E → A) (items : List E) (i : ℕ) (e : E)
    → i < length items → e ≡ get_or items i e → p (g e) ≡ true
    → list_all p (map g (drop i items)) ≡ list_all p (map g (drop (i + 1) items))
all_next p g items i e lt is t = ap (λ ys. list_all p (map g ys)) (cut items i e lt is) ∙ rw t refl

pub all_stop : {E A : Type 0} (p : A → Bool) (g : E → A) (items : List E) (i : ℕ) (e : E)
    → i < length items → e ≡ get_or items i e → p (g e) ≡ false
    → list_all p (map g (drop i items)) ≡ false
all_stop p g items i e lt is t = ap (λ ys. list_all p (map g ys)) (cut items i e lt is) ∙ rw t refl

-- ---- names of inputs, each once

begin_true : (f : Function) (n : Option Identifier) (ns : List (Option Identifier)) (b : Bool)
    → is_enable f.declared n ≡ b
    → is_apart_from f n ns ≡ true
    → are_new f.inputs (without_enables f.declared (n ∷ ns)) ≡ are_new f.inputs (without_enables f.declared ns)
begin_true f n ns true e t = rw e refl
begin_true f n ns false e t =
    rw e (let u : is_new f.inputs (without_enables f.declared ns) (written_place f.inputs n) ≡ true =
    subst (λ (b : Bool). (if b then true else is_new f.inputs (without_enables f.declared ns) (written_place f.inputs n)) ≡ true) e t in
    rw u refl)

begin_false : (f : Function) (n : Option Identifier) (ns : List (Option Identifier)) (b : Bool)
    → is_enable f.declared n ≡ b
    → is_apart_from f n ns ≡ false
    → are_new f.inputs (without_enables f.declared (n ∷ ns)) ≡ false
begin_false f n ns true e t =
    absurd (false≢true (sym (subst (λ (b : Bool). (if b then true else is_new f.inputs (without_enables f.declared ns) (written_place f.inputs n)) ≡ false) e t)))
begin_false f n ns false e t =
    rw e (let u : is_new f.inputs (without_enables f.declared ns) (written_place f.inputs n) ≡ false =
    subst (λ (b : Bool). (if b then true else is_new f.inputs (without_enables f.declared ns) (written_place f.inputs n)) ≡ false) e t in
    rw u refl)

pub apart_next : {E : Type 0} (f : Function) (g : E → Option Identifier) (items : List E) (i : ℕ) (e : E)
    → i < length items → e ≡ get_or items i e
    → is_apart_from f (g e) (map g (drop (i + 1) items)) ≡ true
    → are_new f.inputs (without_enables f.declared (map g (drop i items)))
    ≡ are_new f.inputs (without_enables f.declared (map g (drop (i + 1) items)))
apart_next f g items i e lt is t =
    ap (λ ys. are_new f.inputs (without_enables f.declared (map g ys))) (cut items i e lt is)
    ∙ begin_true f (g e) (map g (drop (i + 1) items)) (is_enable f.declared (g e)) refl t

-- the same as a loop tells it, of the later items as a part of all
pub apart_told : {E : Type 0} (f : Function) (g : E → Option Identifier) (items : List E) (i : ℕ) (e : E)
    (r : Bool) → i < length items → e ≡ get_or items i e
    → r ≡ is_apart_from f (g (get_or items i e)) (map g (take (length items - (i + 1)) (drop (i + 1) items)))
    → r ≡ true
    → are_new f.inputs (without_enables f.declared (map g (drop i items)))
    ≡ are_new f.inputs (without_enables f.declared (map g (drop (i + 1) items)))
apart_told {E = E} f g items i e r lt is told t =
    let P : List E → Type 0 = λ ys. is_apart_from f (g (get_or items i e)) (map g ys) ≡ true in
    let Q : E → Type 0 = λ x. is_apart_from f (g x) (map g (drop (i + 1) items)) ≡ true in
    apart_next f g items i e lt is
    (subst Q (sym is) (subst P (take_rest items (i + 1)) (sym told ∙ t)))

pub apart_stop : {E : Type 0} (f : Function) (g : E → Option Identifier) (items : List E) (i : ℕ) (e : E)
    → i < length items → e ≡ get_or items i e
    → is_apart_from f (g e) (map g (drop (i + 1) items)) ≡ false
    → are_new f.inputs (without_enables f.declared (map g (drop i items))) ≡ false
apart_stop f g items i e lt is t =
    ap (λ ys. are_new f.inputs (without_enables f.declared (map g ys))) (cut items i e lt is)
    ∙ begin_false f (g e) (map g (drop (i + 1) items)) (is_enable f.declared (g e)) refl t
