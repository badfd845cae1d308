-- The milliseconds of parts, read one after the other: what the code's steps give.
use Rattle.std.proofs.Common.{◌≡◌, ℕ, zero, suc, ◌-◌, ◌<◌, ◌≤◌, true, false, leb, ltb, List, length, drop, Option, Some, refl, ap, ◌∙◌, arith}
use Rattle.std.specs.Prelude.{nat_eq}
use Rattle.std.proofs.lemmas.Bool.{le-leb, lt-ltb}
use Rattle.std.proofs.lemmas.List.{length-drop}
use Rattle.st_lexer.specs.declared.times.Part.{Part}
use Rattle.st_lexer.specs.Front.{part_at, link_length}
use Rattle.st_lexer.specs.steps.Readings.{added, read_parts}

-- a part behind which nothing stands
pub last_part : (n above left : ℕ) (bytes : List ℕ) (p : Part) → length bytes < n
    → part_at bytes ≡ Some p
    → p.size < above → p.value ≤ left → nat_eq (length (drop p.length bytes)) 0 ≡ true
    → Some p.value ≡ read_parts n above left bytes
unfolding read_parts
last_part zero above left bytes p lt at size value none = absurd (omega (arith, lt))
last_part (suc n) above left bytes p lt at size value none =
    let s : ltb p.size above ≡ true = lt-ltb p.size above size in
    let v : leb p.value left ≡ true = le-leb p.value left value in
    rw (at, s, v, none) refl

-- a part, a link and further parts
pub parts_behind : (n above left : ℕ) (bytes : List ℕ) (p : Part) (tail : Option ℕ)
    → length bytes < n → part_at bytes ≡ Some p
    → p.size < above → p.value ≤ left → nat_eq (length (drop p.length bytes)) 0 ≡ false
    → p.last ≡ false → 0 < p.length → p.length ≤ length bytes
    → (further : List ℕ) → further ≡ drop (link_length (drop p.length bytes)) (drop p.length bytes)
    → ((m : ℕ) → length further < m → tail ≡ read_parts m p.size (left - p.value) further)
    → added p.value tail ≡ read_parts n above left bytes
unfolding read_parts
parts_behind zero above left bytes p tail lt at size value goes last some within further is rest =
    absurd (omega (arith, lt))
parts_behind
    (suc n) above left bytes p tail lt at size value goes last some within further is rest =
    let s : ltb p.size above ≡ true = lt-ltb p.size above size in
    let v : leb p.value left ≡ true = le-leb p.value left value in
    let behind = drop p.length bytes in
    let shorter : length further < n =
    omega (
      arith,
      lt,
      some,
      within,
      ap length is,
      length-drop (link_length behind) behind,
      length-drop p.length bytes,
    ) in
    rw (at, s, v, goes, last)
    (ap (added p.value) (rest n shorter ∙ ap (read_parts n p.size (left - p.value)) is))
