-- Names are added to those that are known.
use Rattle.std.proofs.Common.{◌≡◌, ℕ, Bool, true, false, cond, ◌&&◌, ◌||◌, not, List, [], ◌∷◌, ◌++◌, Err, refl, sym, ap, ◌∙◌, arith}
use Rattle.std.specs.Prelude.{bytes_eq}
use Rattle.std.specs.List.{list_any}
use Rattle.std.proofs.lemmas.Slice.Eq.{bytes_eq-Decides}
use Rattle.first_form.specs.Names.{Names, has}
use Rattle.first_form.specs.FirstForm.{Known, are_apart}
use Rattle.first_form.specs.steps.Known.{none, knows, are_new, Adds, Declares}
use Rattle.first_form.specs.declared.refusal.Refusal.{Refusal}
use Rattle.first_form.specs.declared.refusal.Refusal.TheVariants.{OtherForm, NoMemory}

bytes_eq_swap : (a b : List ℕ) → bytes_eq a b ≡ bytes_eq b a
bytes_eq_swap a b = let p = bytes_eq-Decides a b in let q = bytes_eq-Decides b a in
    grind (arith, p, q)

cond_or : (a b : Bool) → cond a true b ≡ (b || (a || false))
cond_or true true = refl
cond_or true false = refl
cond_or false true = refl
cond_or false false = refl

pub known_one : (old new : Known) (name : List ℕ)
    → ((q : List ℕ) → new q ≡ cond (bytes_eq name q) true (old q)) → new ≡ knows old (name ∷ [])
known_one old new name h i q =
    (h q ∙ ap (λ (b : Bool). cond b true (old q)) (bytes_eq_swap name q) ∙ cond_or (bytes_eq q name)
    (old q)) i

or_assoc : (a b c : Bool) → ((a || b) || c) ≡ (a || (b || c))
or_assoc true b c = refl
or_assoc false b c = refl

any_append : (p : List ℕ → Bool) (xs ys : Names) → list_any p (xs ++ ys)
    ≡ (list_any p xs || list_any p ys)
any_append p [] ys = refl
any_append p (x ∷ xs) ys = ap (λ (b : Bool). p x || b) (any_append p xs ys)
    ∙ sym (or_assoc (p x) (list_any p xs) (list_any p ys))

pub knows_append : (known : Known) (xs ys : Names) → knows (knows known xs) ys
    ≡ knows known (xs ++ ys)
knows_append known xs ys i q =
    (or_assoc (known q) (has xs q) (has ys q) ∙ ap (λ (b : Bool). known q || b)
    (sym (any_append (bytes_eq q) xs ys))) i

or_none : (b : Bool) → (b || false) ≡ b
or_none true = refl
or_none false = refl

pub knows_none : (known : Known) → knows known [] ≡ known
knows_none known i q = or_none (known q) i

-- ---- one after the other

and_assoc : (a b c : Bool) → ((a && b) && c) ≡ (a && (b && c))
and_assoc true b c = refl
and_assoc false b c = refl

new_append : (known : Known) (xs ys : Names) → are_new known (xs ++ ys)
    ≡ (are_new known xs && are_new (knows known xs) ys)
new_append known [] ys = ap (λ (k : Known). are_new k ys) (sym (knows_none known))
new_append known (x ∷ xs) ys =
    ap (λ (b : Bool). not (known x) && b) (new_append (knows known (x ∷ [])) xs ys)
    ∙ ap (λ (k : Known). not (known x) && (are_new (knows known (x ∷ [])) xs && are_new k ys))
    (knows_append known (x ∷ []) xs)
    ∙ sym (and_assoc (not (known x)) (are_new (knows known (x ∷ [])) xs)
    (are_new (knows known (x ∷ xs)) ys))

-- So far the first of some names are added, and these are left.
pub record IsAdding (old : Known) (all : Names) (new : Known) (left : Names) : Type 0 where
  pub told : are_new old all ≡ are_new new left
  pub known : knows old all ≡ knows new left

pub adding_none : (old : Known) (all : Names) → IsAdding old all old all
adding_none old all = record { told = refl; known = refl }

pub adding_more : (old new next : Known) (all left part rest : Names) → IsAdding old all new left
    → left ≡ part ++ rest → are_new new part ≡ true → next ≡ knows new part → IsAdding old all next
    rest
adding_more old new next all left part rest h e fresh is = record {
  told = h.told ∙ ap (are_new new) e ∙ new_append new part rest
      ∙ ap (λ (b : Bool). b && are_new (knows new part) rest) fresh
      ∙ ap (λ (k : Known). are_new k rest) (sym is);
  known = h.known ∙ ap (knows new) e ∙ sym (knows_append new part rest)
      ∙ ap (λ (k : Known). knows k rest) (sym is);
}

pub adding_refused : (old new : Known) (all left part rest : Names) → IsAdding old all new left
    → left ≡ part ++ rest → are_new new part ≡ false → are_new old all ≡ false
adding_refused old new all left part rest h e twice =
    h.told ∙ ap (are_new new) e ∙ new_append new part rest
    ∙ ap (λ (b : Bool). b && are_new (knows new part) rest) twice

pub adding_told : (old new : Known) (all left : Names) → IsAdding old all new left → left ≡ []
    → are_new old all ≡ true
adding_told old new all left h e = h.told ∙ ap (are_new new) e

pub adding_known : (old new : Known) (all left : Names) → IsAdding old all new left → left ≡ []
    → new ≡ knows old all
adding_known old new all left h e = sym (h.known ∙ ap (knows new) e ∙ knows_none new)

-- ---- from nothing on

or_between : (a b c d : Bool) → ((a || b) || (c || d)) ≡ ((a || c) || (b || d))
or_between true b c d = refl
or_between false true true d = refl
or_between false true false d = refl
or_between false false c d = refl

any_or : (p q : List ℕ → Bool) (names : Names) → list_any (λ name. p name || q name) names
    ≡ (list_any p names || list_any q names)
any_or p q [] = refl
any_or p q (n ∷ ns) = ap (λ (b : Bool). (p n || q n) || b) (any_or p q ns) ∙ or_between (p n) (q n)
    (list_any p ns) (list_any q ns)

any_one : (name : List ℕ) (names : Names) → list_any (has (name ∷ [])) names ≡ has names name
any_one name [] = refl
any_one name (n ∷ ns) =
    ap (λ (b : Bool). b || list_any (has (name ∷ [])) ns) (or_none (bytes_eq n name)
    ∙ bytes_eq_swap n name)
    ∙ ap (λ (b : Bool). bytes_eq name n || b) (any_one name ns)

or_true_and : (b c : Bool) → (c && not (b || true)) ≡ false
or_true_and true true = refl
or_true_and true false = refl
or_true_and false true = refl
or_true_and false false = refl

regroup : (a b c d : Bool) → (not a && (c && not (b || d))) ≡ ((not d && c) && not (a || b))
regroup true b c true = refl
regroup true b true false = refl
regroup true b false false = refl
regroup false b c true = or_true_and b c
regroup false b true false = ap not (or_none b)
regroup false b false false = refl

new_apart : (known : Known) (names : Names) → are_new known names
    ≡ (are_apart names && not (list_any known names))
new_apart known [] = refl
new_apart known (n ∷ ns) =
    ap (λ (b : Bool). not (known n) && b) (new_apart (knows known (n ∷ [])) ns)
    ∙ ap (λ (b : Bool). not (known n) && (are_apart ns && not b)) (any_or known (has (n ∷ [])) ns
    ∙ ap (λ (b : Bool). list_any known ns || b) (any_one n ns))
    ∙ regroup (known n) (list_any known ns) (are_apart ns) (has ns n)

any_none : (names : Names) → list_any none names ≡ false
any_none [] = refl
any_none (n ∷ ns) = any_none ns

and_true : (b : Bool) → (b && true) ≡ b
and_true true = refl
and_true false = refl

pub new_from_none : (names : Names) → are_new none names ≡ are_apart names
new_from_none names = new_apart none names ∙ ap (λ (b : Bool). are_apart names && not b)
    (any_none names) ∙ and_true (are_apart names)

pub knows_from_none : (names : Names) → knows none names ≡ has names
knows_from_none names = refl

-- what refuses a part refuses all
pub adds_refused : (old new next after : Known) (all left part rest : Names) (e : Refusal)
    → IsAdding old all new left → left ≡ part ++ rest → Adds new part next (Err e)
    → Adds old all after (Err e)
adds_refused old new next after all left part rest OtherForm h e twice =
    adding_refused old new all left part rest h e twice
adds_refused old new next after all left part rest NoMemory h e twice = tt

pub declares_refused : (new next : Known) (all left part rest : Names) (e : Refusal)
    → IsAdding none all new left → left ≡ part ++ rest → Adds new part next (Err e)
    → Declares all (Err e)
declares_refused new next all left part rest OtherForm h e twice =
    sym (new_from_none all) ∙ adding_refused none new all left part rest h e twice
declares_refused new next all left part rest NoMemory h e twice = tt
