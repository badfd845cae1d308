-- Names cut at `_TO_`: a name that is joined of two types' names is cut into these two.
use Rattle.std.proofs.Common.{◌≡◌, ℕ, zero, suc, ◌-◌, ◌<◌, ◌≤◌, Bool, true, false, not, ◌&&◌, ◌⊎◌, inl, inr, List, [], ◌∷◌, ◌++◌, length, take, drop, arith, ap, ◌∙◌, sym, subst, refl, true≢false, take_all, length-drop, length-take-le, take-append-drop, drop_of_length-le}
use Rattle.std.specs.Prelude.{codes}
use Rattle.std.specs.Str.{bytes_eq}
use Rattle.std.proofs.lemmas.Slice.Eq.{bytes_eq-Decides}
use Rattle.std.proofs.lemmas.List.{drop-map, map-append, length-map}
use Rattle.std.proofs.Math.Seq.{drop-append_seam, take-append_seam}
use Rattle.iec_tables.specs.Letters.{raised}
use Rattle.iec_tables.specs.Words.{raised_all}
use Rattle.standard_names.specs.Joints.{JoinsAt, HasNoJoint, IsCut}
use Rattle.standard_names.specs.Functions.{joined}

-- `_TO_` begins nowhere in the name, not even where `_TO_` follows it
abbrev pub clear : List ℕ → Bool
clear [] = true
clear (x ∷ xs) = not (bytes_eq (take 4 ((x ∷ xs) ++ codes "_TO")) (codes "_TO_")) && clear xs

both : (a b : Bool) → (not a && b) ≡ true → (a ≡ false) × (b ≡ true)
both true b h = absurd (true≢false (sym h))
both false b h = (refl, h)

four : (x : ℕ) (xs rest : List ℕ) → take 4 ((x ∷ xs) ++ (codes "_TO_" ++ rest)) ≡ take 4 ((x ∷ xs) ++ codes "_TO")
four x [] rest = refl
four x (y ∷ []) rest = refl
four x (y ∷ z ∷ []) rest = refl
four x (y ∷ z ∷ w ∷ ws) rest = refl

front-clear : (name rest : List ℕ) → clear name ≡ true → (k : ℕ) → k < length name → ¬ (JoinsAt (name ++ (codes "_TO_" ++ rest)) k)
front-clear [] rest h k l j = absurd (omega arith)
front-clear (x ∷ xs) rest h zero l j =
    let parts = both (bytes_eq (take 4 ((x ∷ xs) ++ codes "_TO")) (codes "_TO_")) (clear xs) h in
    true≢false (sym ((bytes_eq-Decides (take 4 ((x ∷ xs) ++ codes "_TO")) (codes "_TO_")).1 (sym (four x xs rest) ∙ j)) ∙ parts.0)
front-clear (x ∷ xs) rest h (suc k) l j =
    let parts = both (bytes_eq (take 4 ((x ∷ xs) ++ codes "_TO")) (codes "_TO_")) (clear xs) h in
    front-clear xs rest parts.1 k (omega arith) j

joins : (before behind : List ℕ) → JoinsAt (before ++ (codes "_TO_" ++ behind)) (length before)
joins before behind = ap (take 4) (drop-append_seam before (codes "_TO_" ++ behind))

joins-of : (name before behind : List ℕ) → name ≡ before ++ (codes "_TO_" ++ behind) → JoinsAt name (length before)
joins-of name before behind e = subst (λ (n : List ℕ). JoinsAt n (length before)) (sym e) (joins before behind)

pub unjoined : (s from to : List ℕ) → HasNoJoint s → ¬ (joined from to ≡ s)
unjoined s from to none e = none (length from) (joins-of s from to (sym e))

pub cut-is : (s before behind from to : List ℕ) → IsCut s before behind → clear from ≡ true → joined from to ≡ s → (before ≡ from) × (behind ≡ to)
cut-is s before behind from to c h e =
    let longer : length from < length before → ⊥ = λ l. c.first (length from) l (joins-of s from to (sym e)) in
    let shorter : length before < length from → ⊥ = λ l. front-clear from to h (length before) l (joins-of (joined from to) before behind (e ∙ c.parts)) in
    let same : length before ≡ length from = grind arith in
    let whole : before ++ (codes "_TO_" ++ behind) ≡ from ++ (codes "_TO_" ++ to) = sym c.parts ∙ sym e in
    let front : before ≡ from =
    sym (take-append_seam before (codes "_TO_" ++ behind)) ∙ ap (take (length before)) whole ∙ ap (λ n. take n (joined from to)) same ∙ take-append_seam from (codes "_TO_" ++ to) in
    let back : codes "_TO_" ++ behind ≡ codes "_TO_" ++ to =
    sym (drop-append_seam before (codes "_TO_" ++ behind)) ∙ ap (drop (length before)) whole ∙ ap (λ n. drop n (joined from to)) same ∙ drop-append_seam from (codes "_TO_" ++ to) in
    (front, ap (drop 4) back)

-- ---- the rest of a name with letters raised

pub raised-rest : (name : List ℕ) (at : ℕ) → raised_all (take (length name - at) (drop at name)) ≡ drop at (raised_all name)
raised-rest name at =
    let long : length (drop at name) ≤ length name - at = omega (arith, length-drop at name) in
    ap raised_all (take_all (length name - at) (drop at name) long) ∙ sym (drop-map raised at name)

pub cut-parts : (name rest : List ℕ) (at : ℕ) → raised_all (take (length name - at) (drop at name)) ≡ codes "_TO_" ++ raised_all rest
    → raised_all name ≡ raised_all (take at name) ++ (codes "_TO_" ++ raised_all rest)
cut-parts name rest at e =
    sym (ap raised_all (take-append-drop at name)) ∙ map-append raised (take at name) (drop at name)
    ∙ ap (λ (t : List ℕ). raised_all (take at name) ++ t) (sym (drop-map raised at name) ∙ sym (raised-rest name at) ∙ e)

pub behind-all : (name : List ℕ) (at : ℕ) → length name ≤ at → ¬ (JoinsAt (raised_all name) at)
behind-all name at h j =
    let none : drop at (raised_all name) ≡ [] = drop_of_length-le (raised_all name) (omega (arith, length-map name raised)) in
    let wrong : take 4 [] ≡ codes "_TO_" = sym (ap (take 4) none) ∙ j in
    cc

pub front-long : (name : List ℕ) (at : ℕ) → at ≤ length name → length (raised_all (take at name)) ≡ at
front-long name at h = length-map (take at name) raised ∙ length-take-le at name h

below_or_not : (k i : ℕ) → (k < i) ⊎ (i ≤ k)
below_or_not k i = grind arith

pub nowhere : (name : List ℕ) (at : ℕ) → ((k : ℕ) → k < at → ¬ (JoinsAt (raised_all name) k)) → length name ≤ at → HasNoJoint (raised_all name)
nowhere name at h l k = elim (below_or_not k at) [ inl b ↦ h k b | inr b ↦ behind-all name k (omega arith) ]

pub cut-of : (from to : List ℕ) → clear from ≡ true → IsCut (joined from to) from to
cut-of from to h = record { parts = refl; first = front-clear from to h }
