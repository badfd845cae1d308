-- The parts of a time, read one after the other.
use Rattle.std.proofs.Common.{◌≡◌, ℕ, zero, suc, ◌+◌, ◌-◌, ◌^◌, ◌<◌, ◌≤◌, true, false, leb, ltb, List, length, take, drop, Option, Some, ap, ◌∙◌, arith}
use Rattle.std.proofs.Math.Nat.{pow-succ'}
use Rattle.std.proofs.lemmas.List.{length-drop, take_all}
use Rattle.std.proofs.lemmas.Bool.{le-leb, lt-ltb}
use Rattle.st_lexer.specs.declared.times.Part.{Part}
use Rattle.st_lexer.specs.Bytes.{begins, in_word}
use Rattle.st_lexer.specs.Front.{longer, part_at, parts_at, link_length}

pub ten_pos : (n : ℕ) → 0 < 10 ^ n
ten_pos zero = omega arith
ten_pos (suc n) = rw pow-succ' (omega (arith, ten_pos n))

-- a slice to the end
pub to_end : (xs : List ℕ) (n : ℕ) → take (length xs - n) (drop n xs) ≡ drop n xs
to_end xs n = take_all (length xs - n) (drop n xs) (omega (arith, length-drop n xs))

-- a part, a link and further parts
pub more_parts : (n above left : ℕ) (bytes : List ℕ) (p : Part) (tail : Option ℕ) → length bytes < n → part_at bytes ≡ Some p → p.size < above → p.value ≤ left
    → begins in_word (drop p.length bytes) ≡ true → p.last ≡ false → 0 < p.length → p.length ≤ length bytes
    → (further : List ℕ) → further ≡ drop (p.length + link_length (drop p.length bytes)) bytes
    → ((m : ℕ) → length further < m → tail ≡ parts_at m p.size (left - p.value) further)
    → longer (p.length + link_length (drop p.length bytes)) tail ≡ parts_at n above left bytes
unfolding parts_at
more_parts zero above left bytes p tail lt at size value goes last some within further is rest = absurd (omega (arith, lt))
more_parts (suc n) above left bytes p tail lt at size value goes last some within further is rest =
    let s : ltb p.size above ≡ true = lt-ltb p.size above size in
    let v : leb p.value left ≡ true = le-leb p.value left value in
    let shorter : length further < n = omega (arith, lt, some, within, ap length is, length-drop (p.length + link_length (drop p.length bytes)) bytes) in
    rw (at, s, v, goes, last) (ap (longer (p.length + link_length (drop p.length bytes))) (rest n shorter ∙ ap (parts_at n p.size (left - p.value)) is))
