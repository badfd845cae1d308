-- The kind of a reserved word, found in the table.
use Rattle.std.proofs.Common.{◌≡◌, ℕ, zero, suc, ◌<◌, Bool, true, false, not, ◌&&◌, List, [], ◌∷◌, length, map, get_or, Some, None, refl, sym, ap, ◌∙◌, arith}
use Rattle.std.specs.Prelude.{bytes_eq, slice_get}
use Rattle.std.specs.Option.{option_map}
use Rattle.std.specs.List.{list_any, range_with_len, zip}
use Rattle.std.proofs.lemmas.Option.{slice_get-map, slice_get_within}
use Rattle.std.proofs.lemmas.List.FromFn.{get_or-range_with_len, length-range_with_len}
use Rattle.iec_tables.specs.declared.words.Word.{Word}
use Rattle.iec_tables.specs.Words.{HasRow, HasNoRow, keyword_texts, first_numbers}
use Rattle.token_grammar.specs.declared.token.TokenKind.{TokenKind}
use Rattle.token_grammar.specs.declared.token.TokenKind.TheVariants as kind
use Rattle.st_lexer.specs.Texts.{keyword_kinds, keywords}
use Rattle.st_lexer.specs.Front.{found_in}
use Rattle.st_lexer.proofs.Tests.{same, equal, false_by, clash, both, or_right}

-- ---- tables of texts that differ

pub distinct : List (List ℕ) → Bool
distinct [] = true
distinct (t ∷ ts) = not (list_any (bytes_eq t) ts) && distinct ts

not_true : (v : Bool) → not v ≡ true → v ≡ false
not_true true h = cc
not_true false h = refl

any_at : (t : List ℕ) (ts : List (List ℕ)) (i : ℕ) (key : List ℕ) → slice_get ts i ≡ Some key → t ≡ key → list_any (bytes_eq t) ts ≡ true
any_at t [] i key e same = absurd cc
any_at t (u ∷ us) zero key e is = let there : u ≡ key = cc in rw (equal t u (is ∙ sym there)) refl
any_at t (u ∷ us) (suc i) key e is = rw (any_at t us i key e is) (or_right (bytes_eq t u))

pub found_at : (kinds : List TokenKind) (texts : List (List ℕ)) (i : ℕ) (k : TokenKind) (key : List ℕ) → distinct texts ≡ true → slice_get kinds i ≡ Some k → slice_get texts i ≡ Some key
    → found_in (zip kinds texts) key ≡ Some k
unfolding distinct
found_at [] texts i k key d at e = absurd cc
found_at (j ∷ js) [] i k key d at e = absurd cc
found_at (j ∷ js) (t ∷ ts) zero k key d at e =
    let there : t ≡ key = cc in
    let kind : j ≡ k = cc in
    rw (equal key t (sym there)) (ap (λ (x : TokenKind). Some x) kind)
found_at (j ∷ js) (t ∷ ts) (suc i) k key d at e =
    let parts = both (not (list_any (bytes_eq t) ts)) (distinct ts) d in
    let other : bytes_eq key t ≡ false = false_by (bytes_eq key t) (λ h. clash (list_any (bytes_eq t) ts) (any_at t ts i key e (sym (same key t h))) (not_true _ parts.0)) in
    rw other (found_at js ts i k key parts.1 at e)

pub found_none : (kinds : List TokenKind) (texts : List (List ℕ)) (key : List ℕ) → ((i : ℕ) (t : List ℕ) → slice_get texts i ≡ Some t → t ≡ key → ⊥) → found_in (zip kinds texts) key ≡ None
found_none [] texts key h = refl
found_none (j ∷ js) [] key h = refl
found_none (j ∷ js) (t ∷ ts) key h =
    let other : bytes_eq key t ≡ false = false_by (bytes_eq key t) (λ e. h zero t refl (sym (same key t e))) in
    rw other (found_none js ts key (λ i u at. h (suc i) u at))

-- ---- the rows of the reserved words

abbrev texts_of : List Word → List (List ℕ)
texts_of rows = map (λ (word : Word). word.text.now) rows

abbrev numbers_of : List Word → List ℕ
numbers_of rows = map (λ (word : Word). word.number) rows

get_at : {X : Type 0} (xs : List X) (i : ℕ) (d : X) → i < length xs → slice_get xs i ≡ Some (get_or xs i d)
get_at [] i d lt = absurd (omega (arith, lt))
get_at (x ∷ xs) zero d lt = refl
get_at (x ∷ xs) (suc i) d lt = get_at xs i d (omega (arith, lt))

-- a row with its place
row_at : (rows : List Word) (row : Word) (i : ℕ) → i < length rows → get_or rows i row ≡ row → slice_get rows i ≡ Some row
row_at rows row i lt e = get_at rows i row lt ∙ ap (λ (x : Word). Some x) e

text_at : (rows : List Word) (row : Word) (i : ℕ) → slice_get rows i ≡ Some row → slice_get (texts_of rows) i ≡ Some row.text.now
text_at rows row i e = slice_get-map (λ (word : Word). word.text.now) rows i ∙ ap (option_map (λ (word : Word). word.text.now)) e

number_at : (rows : List Word) (row : Word) (i : ℕ) → slice_get rows i ≡ Some row → slice_get (numbers_of rows) i ≡ Some row.number
number_at rows row i e = slice_get-map (λ (word : Word). word.number) rows i ∙ ap (option_map (λ (word : Word). word.number)) e

place_below : (rows : List Word) (row : Word) (i : ℕ) → numbers_of rows ≡ first_numbers 80 → slice_get rows i ≡ Some row → i < 80
place_below rows row i e at =
    let lt : i < length (numbers_of rows) = slice_get_within (numbers_of rows) i row.number (number_at rows row i at) in
    omega (arith, lt, ap length e ∙ length-range_with_len 0 80)

-- the number of a row is its place
place_is : (rows : List Word) (row : Word) (i : ℕ) → numbers_of rows ≡ first_numbers 80 → slice_get rows i ≡ Some row → row.number ≡ i
place_is rows row i e at =
    let below = place_below rows row i e at in
    let within : i < length (range_with_len 0 80) = omega (arith, below, length-range_with_len 0 80) in
    let told : Some row.number ≡ Some (get_or (range_with_len 0 80) i 0) =
    sym (number_at rows row i at) ∙ ap (λ (xs : List ℕ). slice_get xs i) e ∙ get_at (range_with_len 0 80) i 0 within in
    let is : row.number ≡ get_or (range_with_len 0 80) i 0 = cc in
    omega (arith, is, get_or-range_with_len 0 80 i 0 below)

all_differ : distinct keyword_texts ≡ true
unfolding distinct
all_differ = refl

pub kind_found : (rows : List Word) (key : List ℕ) (n : ℕ) (k : TokenKind) → texts_of rows ≡ keyword_texts → numbers_of rows ≡ first_numbers 80 → HasRow rows key n → slice_get keyword_kinds n ≡ Some k
    → found_in keywords key ≡ Some k
kind_found rows key n k texts numbers h at =
    let i = h.there.0 in
    let there = row_at rows h.row i h.there.1 h.there.2 in
    let place : n ≡ i = sym h.number_is ∙ place_is rows h.row i numbers there in
    let text : slice_get keyword_texts i ≡ Some key = ap (λ (xs : List (List ℕ)). slice_get xs i) (sym texts) ∙ text_at rows h.row i there ∙ ap (λ (t : List ℕ). Some t) h.text_is in
    found_at keyword_kinds keyword_texts i k key all_differ (ap (slice_get keyword_kinds) (sym place) ∙ at) text

pub kind_missing : (rows : List Word) (key : List ℕ) → texts_of rows ≡ keyword_texts → HasNoRow rows key → found_in keywords key ≡ None
kind_missing rows key texts h = found_none keyword_kinds keyword_texts key (λ i t at is.
    no_such rows key i t (ap (λ (xs : List (List ℕ)). slice_get xs i) texts ∙ at) h is)
  where
    placed : (rows : List Word) (i : ℕ) (t : List ℕ) → slice_get (texts_of rows) i ≡ Some t → (row : Word) × (i < length rows) × (get_or rows i row ≡ row) × (row.text.now ≡ t)
    placed [] i t e = absurd cc
    placed (w ∷ ws) zero t e = (w, omega arith, refl, cc)
    placed (w ∷ ws) (suc i) t e = let p = placed ws i t e in (p.0, omega (arith, p.1), p.2, p.3)

    no_such : (rows : List Word) (key : List ℕ) (i : ℕ) (t : List ℕ) → slice_get (texts_of rows) i ≡ Some t → HasNoRow rows key → t ≡ key → ⊥
    no_such rows key i t e h is = let p = placed rows i t e in h p.0 (i, p.1, p.2) (p.3 ∙ is)

-- each number of a row has a kind
pub kind_past : (rows : List Word) (key : List ℕ) (n : ℕ) → numbers_of rows ≡ first_numbers 80 → HasRow rows key n → slice_get keyword_kinds n ≡ None → ⊥
kind_past rows key n numbers h none =
    let i = h.there.0 in
    let there = row_at rows h.row i h.there.1 h.there.2 in
    let place : n ≡ i = sym h.number_is ∙ place_is rows h.row i numbers there in
    let below : n < length keyword_kinds = omega (arith, place, place_below rows h.row i numbers there) in
    let some = sym (get_at keyword_kinds n kind.Name below) ∙ none in
    cc
