-- Positions, byte by byte.
use Rattle.std.proofs.Common.{◌≡◌, ℕ, ◌+◌, List, [], ◌∷◌, ◌++◌, length, refl, ap, sym, ◌∙◌, inl, inr, append_assoc, length-append, add_assoc, zero-add, arith, false}
use Rattle.std.specs.Prelude.{nat_eq, if◌then◌else◌}
use Rattle.std.proofs.lemmas.List.{append-nil}
use Rattle.finding_spans.specs.Places.{feeds, IsBehind}

pub first : IsBehind [] 1 1
first = record { lines = []; part = []; bytes = refl; whole = inl refl; one = refl; line_is = refl; column_is = refl }

pub feeds_append : (xs ys : List ℕ) → feeds (xs ++ ys) ≡ feeds xs + feeds ys
feeds_append [] ys = sym (zero-add (feeds ys))
feeds_append (x ∷ xs) ys = ap (λ n. (if nat_eq x 10 then 1 else 0) + n) (feeds_append xs ys) ∙ sym (add_assoc (if nat_eq x 10 then 1 else 0) (feeds xs) (feeds ys))

pub behind_feed : (before : List ℕ) (line column next : ℕ) → next ≡ line + 1 → IsBehind before line column → IsBehind (before ++ 10 ∷ []) next 1
behind_feed before line column next e h =
    let all : feeds before ≡ feeds (h.lines ++ h.part) = ap feeds h.bytes in
    let split : feeds (h.lines ++ h.part) ≡ feeds h.lines + feeds h.part = feeds_append h.lines h.part in
    let more : feeds (before ++ 10 ∷ []) ≡ feeds before + feeds (10 ∷ []) = feeds_append before (10 ∷ []) in
    let one : feeds h.part ≡ 0 = h.one in
    let so_far : line ≡ feeds h.lines + 1 = h.line_is in
    let ten : feeds (10 ∷ []) ≡ 1 = refl in
    record {
      lines = before ++ 10 ∷ [];
      part = [];
      bytes = sym (append-nil (before ++ 10 ∷ []));
      whole = inr (before, refl);
      one = refl;
      line_is = omega arith;
      column_is = refl;
    }

pub no_feed : (byte : ℕ) → nat_eq byte 10 ≡ false → feeds (byte ∷ []) ≡ 0
no_feed byte e = ap (λ b. (if b then 1 else 0) + 0) e

pub behind_byte : (before : List ℕ) (byte line column next : ℕ) → nat_eq byte 10 ≡ false → next ≡ column + 1 → IsBehind before line column → IsBehind (before ++ byte ∷ []) line next
behind_byte before byte line column next b e h =
    let more : feeds (h.part ++ byte ∷ []) ≡ feeds h.part + feeds (byte ∷ []) = feeds_append h.part (byte ∷ []) in
    let none : feeds (byte ∷ []) ≡ 0 = no_feed byte b in
    let one : feeds h.part ≡ 0 = h.one in
    let so_far : column ≡ length h.part + 1 = h.column_is in
    let long : length (h.part ++ byte ∷ []) ≡ length h.part + length (byte ∷ []) = length-append h.part (byte ∷ []) in
    let single : length (byte ∷ []) ≡ 1 = refl in
    record {
      lines = h.lines;
      part = h.part ++ byte ∷ [];
      bytes = ap (λ (l : List ℕ). l ++ byte ∷ []) h.bytes ∙ append_assoc h.lines h.part (byte ∷ []);
      whole = h.whole;
      one = omega arith;
      line_is = h.line_is;
      column_is = omega arith;
    }
