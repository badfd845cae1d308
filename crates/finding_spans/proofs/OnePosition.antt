-- A byte stands in one line and one column.
use Rattle.std.proofs.Common.{◌≡◌, ◌⊎◌, ℕ, ◌+◌, ◌≤◌, List, [], ◌∷◌, ◌++◌, length, refl, sym, ap, ◌∙◌, inl, inr, arith}
use Rattle.finding_spans.specs.Places.{feeds, IsBehind, IsPosition}
use Rattle.finding_spans.proofs.Lines.{feeds_append}

-- no bytes, or bytes that end in a line feed
abbrev AreWhole : List ℕ → Type 0
AreWhole lines = (lines ≡ []) ⊎ ((rest : List ℕ) × (lines ≡ rest ++ 10 ∷ []))

some_feeds : (x : ℕ) (lines : List ℕ) → AreWhole (x ∷ lines) → 1 ≤ feeds (x ∷ lines)
some_feeds x lines (inl e) = absurd cc
some_feeds x lines (inr (rest, e)) =
    let all : feeds (x ∷ lines) ≡ feeds (rest ++ 10 ∷ []) = ap feeds e in
    let split : feeds (rest ++ 10 ∷ []) ≡ feeds rest + feeds (10 ∷ []) = feeds_append rest (10 ∷ []) in
    let ten : feeds (10 ∷ []) ≡ 1 = refl in
    omega arith

later_whole : (x : ℕ) (lines : List ℕ) → AreWhole (x ∷ lines) → AreWhole lines
later_whole x lines (inl e) = absurd cc
later_whole x lines (inr ([], e)) = inl cc
later_whole x lines (inr (y ∷ rest, e)) = inr (rest, cc)

-- bytes without a line feed, behind whole lines, are as many as the others are
one_part : (xs ys p q : List ℕ) → xs ++ p ≡ ys ++ q → AreWhole xs → AreWhole ys → feeds p ≡ 0 → feeds q ≡ 0 → length p ≡ length q
one_part [] [] p q e a b fp fq = ap length e
one_part [] (y ∷ ys) p q e a b fp fq =
    let some = some_feeds y ys b in
    let all : feeds p ≡ feeds ((y ∷ ys) ++ q) = ap feeds e in
    let split : feeds ((y ∷ ys) ++ q) ≡ feeds (y ∷ ys) + feeds q = feeds_append (y ∷ ys) q in
    absurd (omega arith)
one_part (x ∷ xs) [] p q e a b fp fq =
    let some = some_feeds x xs a in
    let all : feeds ((x ∷ xs) ++ p) ≡ feeds q = ap feeds e in
    let split : feeds ((x ∷ xs) ++ p) ≡ feeds (x ∷ xs) + feeds p = feeds_append (x ∷ xs) p in
    absurd (omega arith)
one_part (x ∷ xs) (y ∷ ys) p q e a b fp fq =
    let rest : xs ++ p ≡ ys ++ q = cc in
    one_part xs ys p q rest (later_whole x xs a) (later_whole y ys b) fp fq

all_feeds : (before : List ℕ) (line column : ℕ) → IsBehind before line column → line ≡ feeds before + 1
all_feeds before line column h =
    let all : feeds before ≡ feeds (h.lines ++ h.part) = ap feeds h.bytes in
    let split : feeds (h.lines ++ h.part) ≡ feeds h.lines + feeds h.part = feeds_append h.lines h.part in
    let one : feeds h.part ≡ 0 = h.one in
    let is : line ≡ feeds h.lines + 1 = h.line_is in
    omega arith

pub one_behind : (before : List ℕ) (line column line' column' : ℕ) → IsBehind before line column → IsBehind before line' column' → (line ≡ line') × (column ≡ column')
one_behind before line column line' column' a b = (
  all_feeds before line column a ∙ sym (all_feeds before line' column' b),
  a.column_is ∙ ap (λ n. n + 1) (one_part a.lines b.lines a.part b.part (sym a.bytes ∙ b.bytes) a.whole b.whole a.one b.one) ∙ sym b.column_is,
)

pub one_position : (text : List ℕ) (at at' line column line' column' : ℕ) → at ≡ at' → IsPosition text at line column → IsPosition text at' line' column' → (line ≡ line') × (column ≡ column')
one_position text at at' line column line' column' e a b = one_behind _ line column line' column' a (rw e b)
