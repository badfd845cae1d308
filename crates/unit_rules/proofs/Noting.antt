-- Faults that are noted one after the other: the turns of loops.
use Rattle.std.proofs.Common.{◌≡◌, ◌∙◌, ℕ, suc, ◌+◌, ◌<◌, ◌≤◌, List, [], ◌∷◌, ◌++◌, length, take}
use Rattle.std.proofs.Common.{drop, get_or}
use Rattle.std.proofs.Common.{ap, sym, refl, subst, arith, ◌-◌, take_all, length-drop}
use Rattle.std.specs.Prelude.{map, flat_map}
use Rattle.std.proofs.lemmas.List.{append-nil, map-append, append_assoc, drop-map, drop_all}
use Rattle.std.proofs.lemmas.List.{get_or_default}
use Rattle.std.proofs.lemmas.Grind.{common_steps, flat_map-append}
use Rattle.link_faults.specs.First.{after}
use Rattle.link_faults.specs.declared.fault.LinkFault.{LinkFault}
use Rattle.link_faults.specs.declared.fault.Faults.{Faults}
use Rattle.link_faults.proofs.Tells as told
use Rattle.project_declarations.specs.Named.{each_from}
use Rattle.project_declarations.specs.Declarations.{joined}

pub after_append : (old : Faults) (fs gs : List LinkFault)
    → after old (fs ++ gs) ≡ after (after old fs) gs
after_append = told.after_append

-- two lists, one after the other
pub noted_both : (fs gs : List LinkFault) (old mid new : Faults)
    → mid ≡ after old fs → new ≡ after mid gs → new ≡ after old (fs ++ gs)
noted_both fs gs old mid new h k =
    k ∙ ap (λ m. after m gs) h ∙ sym (told.after_append old fs gs)

pub one_more : {X : Type 0} (xs : List X) (k : ℕ) (x : X) → k < length xs → x ≡ get_or xs k x
    → take (k + 1) xs ≡ take k xs ++ x ∷ []
one_more xs k x l e = grind (arith, common_steps)

longer : (fs gs all : List LinkFault) (old mid new : Faults) → all ≡ fs ++ gs
    → mid ≡ after old fs → new ≡ after mid gs → new ≡ after old all
longer fs gs all old mid new e h k =
    noted_both fs gs old mid new h k ∙ ap (after old) (sym e)

-- the next turn of a loop that notes the faults of each of a list
pub noted_next : {X : Type 0} (f : X → List LinkFault) (xs : List X) (k : ℕ) (x : X)
    (old mid new : Faults) → k < length xs → x ≡ get_or xs k x
    → mid ≡ after old (flat_map f (take k xs)) → new ≡ after mid (f x)
    → new ≡ after old (flat_map f (take (k + 1) xs))
noted_next f xs k x old mid new l e h m =
    longer (flat_map f (take k xs)) (f x) (flat_map f (take (k + 1) xs)) old mid new
    (ap (flat_map f) (one_more xs k x l e) ∙ flat_map-append f (take k xs) (x ∷ [])
    ∙ ap (λ r. flat_map f (take k xs) ++ r) (append-nil (f x))) h m

-- the same of one that notes one fault for each
pub noted_one : {X : Type 0} (f : X → LinkFault) (xs : List X) (k : ℕ) (x : X)
    (old mid new : Faults) → k < length xs → x ≡ get_or xs k x
    → mid ≡ after old (map f (take k xs)) → new ≡ after mid (f x ∷ [])
    → new ≡ after old (map f (take (k + 1) xs))
noted_one f xs k x old mid new l e h m =
    longer (map f (take k xs)) (f x ∷ []) (map f (take (k + 1) xs)) old mid new
    (ap (map f) (one_more xs k x l e) ∙ map-append f (take k xs) (x ∷ [])) h m

-- both over what the code's rows say
pub noted_row : {X Y : Type 0} (f : Y → List LinkFault) (g : X → Y) (xs : List X) (k : ℕ) (x : X)
    (old mid new : Faults) → k < length xs → x ≡ get_or xs k x
    → mid ≡ after old (flat_map f (map g (take k xs))) → new ≡ after mid (f (g x))
    → new ≡ after old (flat_map f (map g (take (k + 1) xs)))
noted_row f g xs k x old mid new l e h m =
    longer (flat_map f (map g (take k xs))) (f (g x)) (flat_map f (map g (take (k + 1) xs))) old mid new
    (ap (λ r. flat_map f (map g r)) (one_more xs k x l e)
    ∙ ap (flat_map f) (map-append g (take k xs) (x ∷ []))
    ∙ flat_map-append f (map g (take k xs)) (g x ∷ [])
    ∙ ap (λ r. flat_map f (map g (take k xs)) ++ r) (append-nil (f (g x)))) h m

pub noted_row_one : {X Y : Type 0} (f : Y → LinkFault) (g : X → Y) (xs : List X) (k : ℕ) (x : X)
    (old mid new : Faults) → k < length xs → x ≡ get_or xs k x
    → mid ≡ after old (map f (map g (take k xs))) → new ≡ after mid (f (g x) ∷ [])
    → new ≡ after old (map f (map g (take (k + 1) xs)))
noted_row_one f g xs k x old mid new l e h m =
    longer (map f (map g (take k xs))) (f (g x) ∷ []) (map f (map g (take (k + 1) xs))) old mid new
    (ap (λ r. map f (map g r)) (one_more xs k x l e)
    ∙ ap (map f) (map-append g (take k xs) (x ∷ []))
    ∙ map-append f (map g (take k xs)) (g x ∷ [])) h m

each_more : {A X : Type 0} (f : ℕ → X → List A) (n m : ℕ) (xs ys : List X) → m ≡ n + length xs
    → joined (each_from f n (xs ++ ys)) ≡ joined (each_from f n xs) ++ joined (each_from f m ys)
each_more f n m [] ys e = ap (λ (k : ℕ). joined (each_from f k ys)) (omega arith)
each_more f n m (x ∷ xs) ys e =
    ap (λ r. f n x ++ r) (each_more f (suc n) m xs ys (omega arith))
    ∙ sym (append_assoc (f n x) (joined (each_from f (suc n) xs)) (joined (each_from f m ys)))

length_done : {X : Type 0} (xs : List X) (k : ℕ) → k < length xs → k ≡ 0 + length (take k xs)
length_done xs k l = grind (arith, common_steps)

pub joined_more : {A X : Type 0} (f : ℕ → X → List A) (xs : List X) (k : ℕ) (x : X)
    → k < length xs → x ≡ get_or xs k x
    → joined (each_from f 0 (take (k + 1) xs)) ≡ joined (each_from f 0 (take k xs)) ++ f k x
joined_more f xs k x l e =
    ap (λ r. joined (each_from f 0 r)) (one_more xs k x l e)
    ∙ each_more f 0 k (take k xs) (x ∷ []) (length_done xs k l)
    ∙ ap (λ r. joined (each_from f 0 (take k xs)) ++ r) (append-nil (f k x))

-- the next turn of a loop that notes the faults of each at its place
pub noted_at : {X : Type 0} (f : ℕ → X → List LinkFault) (xs : List X) (k : ℕ) (x : X)
    (old mid new : Faults) → k < length xs → x ≡ get_or xs k x
    → mid ≡ after old (joined (each_from f 0 (take k xs))) → new ≡ after mid (f k x)
    → new ≡ after old (joined (each_from f 0 (take (k + 1) xs)))
noted_at f xs k x old mid new l e h m =
    longer (joined (each_from f 0 (take k xs))) (f k x) (joined (each_from f 0 (take (k + 1) xs)))
    old mid new (joined_more f xs k x l e) h m

kept : {X : Type 0} (n : ℕ) (xs : List X) → take (length xs - n) (drop n xs) ≡ drop n xs
kept n xs = take_all (length xs - n) (drop n xs) (omega (arith, length-drop n xs))

pub dropped : {X Y : Type 0} (g : X → Y) (n : ℕ) (xs : List X)
    → map g (take (length xs - n) (drop n xs)) ≡ drop n (map g xs)
dropped g n xs = ap (map g) (kept n xs) ∙ sym (drop-map g n xs)

pub none_left : {X Y : Type 0} (g : X → Y) (n : ℕ) (xs : List X) → length xs ≤ n
    → drop n (map g xs) ≡ []
none_left g n xs l = drop-map g n xs ∙ ap (map g) (drop_all n xs l)

-- the same where the list is read from another one, which is it
pub noted_in : {X : Type 0} (f : ℕ → X → List LinkFault) (xs ys : List X) (k : ℕ) (d : X)
    (old mid new : Faults) → ys ≡ xs → k < length ys
    → mid ≡ after old (joined (each_from f 0 (take k xs)))
    → new ≡ after mid (f k (get_or ys k d))
    → new ≡ after old (joined (each_from f 0 (take (k + 1) xs)))
noted_in {X = X} f xs ys k d old mid new same l h m =
    let within : k < length xs = subst (λ (zs : List X). k < length zs) same l in
    let item : get_or ys k d ≡ get_or xs k (get_or ys k d) =
    ap (λ (zs : List X). get_or zs k d) same ∙ get_or_default xs k d (get_or ys k d) within in
    noted_at f xs k (get_or ys k d) old mid new within item h m
