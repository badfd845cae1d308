-- Inputs of functions by their places and by their names.
use Rattle.std.proofs.Common.{◌≡◌, ◌∙◌, ℕ, zero, suc, ◌+◌, ◌<◌, ◌≤◌, true, false, List, [], ◌∷◌, length, get_or, drop, map, cond, Option, Some, None, refl, sym, ap, arith, add-one, drop-cons}
use Rattle.std.specs.Prelude.{bytes_eq}
use Rattle.std.specs.Option.{option_map}
use Rattle.std.proofs.lemmas.List.{drop_all}
use Rattle.iec_tables.specs.Words.{raised_all}
use Rattle.expression_types.specs.Inputs as inputs
use Rattle.expression_types.specs.steps.Three.{further}
use Rattle.expression_types.specs.declared.meaning.Taken.{Taken}
use Rattle.declared_types.specs.declared.given.Given.{Given}
use Rattle.declared_names.specs.Project.{Known}
use Rattle.declared_names.specs.Seen.{given_there}
use Rattle.project_meanings.specs.Signatures.{DeclaredInput}
use Rattle.project_meanings.specs.Functions.{input_of, taken_of}
use Rattle.project_meanings.specs.Rows.{bare_inputs}
use Rattle.project_meanings.specs.steps.Named.{place_named}
use Rattle.project_meanings.specs.declared.rows.InputRow.{InputRow}

taken_by_place : (k : Known) (rows : List InputRow) (n : ℕ) (d : InputRow) → n < length rows
    → Some (taken_of (given_there k (get_or rows n d).number))
    ≡ inputs.taken_at (map (input_of k) (bare_inputs rows)) n
taken_by_place k [] n d l = absurd (omega arith)
taken_by_place k (x ∷ xs) zero d l = refl
taken_by_place k (x ∷ xs) (suc n) d l = taken_by_place k xs n d (omega arith)

pub taken_there : (k : Known) (rows : List InputRow) (n : ℕ) (d : InputRow) (g : Option Given)
    (t : Taken) → n < length rows → g ≡ given_there k (get_or rows n d).number → t ≡ taken_of g
    → Some t ≡ inputs.taken_at (map (input_of k) (bare_inputs rows)) n
taken_there k rows n d g t l given takes =
    ap Some (takes ∙ ap taken_of given) ∙ taken_by_place k rows n d l

pub taken_past : (k : Known) (rows : List InputRow) (n : ℕ) → length rows ≤ n
    → None ≡ inputs.taken_at (map (input_of k) (bare_inputs rows)) n
taken_past k [] n l = refl
taken_past k (x ∷ xs) zero l = absurd (omega arith)
taken_past k (x ∷ xs) (suc n) l = taken_past k xs n (omega arith)

pub places_agree : (k : Known) (xs : List DeclaredInput) (name : List ℕ)
    → inputs.place_of (map (input_of k) xs) (raised_all name) ≡ place_named xs name
places_agree k [] name = refl
places_agree k (x ∷ xs) name =
    ap (λ o. cond (bytes_eq (raised_all x.name) (raised_all name)) (Some 0) (option_map suc o))
    (places_agree k xs name)

-- ---- the place of a name, in a loop

cut : (rows : List InputRow) (i : ℕ) (e : InputRow) → i < length rows → e ≡ get_or rows i e
    → drop i rows ≡ e ∷ drop (i + 1) rows
cut rows i e lt is = rw add-one (drop-cons rows i e lt ∙ ap (λ y. y ∷ drop (suc i) rows) (sym is))

next_place : (i p : ℕ) → i + suc p ≡ (i + 1) + p
next_place i p = omega arith

same_place : (i : ℕ) → i + 0 ≡ i
same_place i = omega arith

further_next : (i : ℕ) (o : Option ℕ) → further i (option_map suc o) ≡ further (i + 1) o
further_next i None = refl
further_next i (Some p) = ap Some (next_place i p)

pub place_next : (rows : List InputRow) (name : List ℕ) (i : ℕ) (e : InputRow) (whole : Option ℕ)
    → i < length rows → e ≡ get_or rows i e
    → bytes_eq (raised_all e.name.now) (raised_all name) ≡ false
    → whole ≡ further i (place_named (bare_inputs (drop i rows)) name)
    → whole ≡ further (i + 1) (place_named (bare_inputs (drop (i + 1) rows)) name)
place_next rows name i e whole lt is t left =
    left ∙ ap (λ xs. further i (place_named (bare_inputs xs) name)) (cut rows i e lt is)
    ∙ rw t (further_next i (place_named (bare_inputs (drop (i + 1) rows)) name))

pub place_stop : (rows : List InputRow) (name : List ℕ) (i : ℕ) (e : InputRow) (whole : Option ℕ)
    → i < length rows → e ≡ get_or rows i e
    → bytes_eq (raised_all e.name.now) (raised_all name) ≡ true
    → whole ≡ further i (place_named (bare_inputs (drop i rows)) name) → Some i ≡ whole
place_stop rows name i e whole lt is t left =
    sym (left ∙ ap (λ xs. further i (place_named (bare_inputs xs) name)) (cut rows i e lt is)
    ∙ rw t (ap Some (same_place i)))

pub place_end : (rows : List InputRow) (name : List ℕ) (i : ℕ) (whole : Option ℕ) → length rows ≤ i
    → whole ≡ further i (place_named (bare_inputs (drop i rows)) name) → None ≡ whole
place_end rows name i whole le left =
    sym (left ∙ ap (λ xs. further i (place_named (bare_inputs xs) name)) (drop_all i rows le))
