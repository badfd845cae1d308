-- Separators in a row and at the end, counted byte after byte.
use Rattle.std.proofs.Common.{◌≡◌, ℕ, Bool, true, false, not, ◌&&◌, ◌||◌, List, [], ◌∷◌, refl, ap}
use Rattle.std.specs.Prelude.{nat_eq}
use Rattle.std.specs.List.{list_all}
use Rattle.st_lexer.specs.Bytes.{begins, is_spaced, is_joined}
use Rattle.st_lexer.proofs.Tests.{both}

-- no two underscores in a row and none at the end, behind one or none
abbrev pub goes_well : Bool → List ℕ → Bool
goes_well after [] = not after
goes_well after (b ∷ bs) = not (after && nat_eq b 95) && goes_well (nat_eq b 95) bs

well_after : (b : ℕ) (bs : List ℕ) → goes_well (nat_eq b 95) bs ≡ is_spaced 95 (b ∷ bs)
well_after b [] = refl
well_after b (n ∷ bs) = ap (λ (v : Bool). not (nat_eq b 95 && nat_eq n 95) && v) (well_after n bs)

pub well_from : (bs : List ℕ) → goes_well false bs ≡ is_spaced 95 bs
well_from [] = refl
well_from (b ∷ bs) = well_after b bs

-- ---- bytes with separators between them

pub record Joined (test : ℕ → Bool) (separator : ℕ) (text : List ℕ) : Type 0 where
  pub first : begins test text ≡ true
  pub all : list_all (λ byte. test byte || nat_eq byte separator) text ≡ true
  pub spaced : is_spaced separator text ≡ true

pub joined : (test : ℕ → Bool) (separator : ℕ) (text : List ℕ) → is_joined test separator text ≡ true → Joined test separator text
joined test separator text e =
    let a = both (begins test text) (list_all (λ byte. test byte || nat_eq byte separator) text && is_spaced separator text) e in
    let b = both (list_all (λ byte. test byte || nat_eq byte separator) text) (is_spaced separator text) a.1 in
    record { first = a.0; all = b.0; spaced = b.1 }

pub is_joined_by : (test : ℕ → Bool) (separator : ℕ) (text : List ℕ) → Joined test separator text → is_joined test separator text ≡ true
is_joined_by test separator text j = rw (j.first, j.all) j.spaced
