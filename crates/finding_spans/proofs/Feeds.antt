-- The line and the column of a byte, by the places of the line feeds.
use Rattle.std.proofs.Common.{◌≡◌, ℕ, zero, suc, ◌+◌, ◌-◌, ◌<◌, ◌≤◌, true, false, ltb, List, [], ◌∷◌, ◌++◌, length, get_or, take, Option, Some, None, refl, ap, sym, ◌∙◌, subst, inl, inr, arith}
use Rattle.std.proofs.lemmas.Bool.{cases_Bool, cond-true, cond-false, lt-ltb, le-ltb, eqb-true}
use Rattle.std.proofs.lemmas.Option.{slice_get-get_or}
use Rattle.std.specs.Prelude.{nat_eq}
use Rattle.std.specs.List.{prefix_len}
use Rattle.std.specs.List.Sorted.{IsNonDecreasingBy, IsPartitionedBy, IsPartitionPoint}
use Rattle.std.proofs.lemmas.List.Sorted.{IsPartitionedBy-ltb}
use Rattle.st_tree.specs.Feeds.{feeds_from}
use Rattle.finding_spans.specs.Places.{feeds, IsBehind}
use Rattle.finding_spans.specs.Searches.{last_of_first}
use Rattle.finding_spans.proofs.Lines.{first, feeds_append, no_feed}
use Rattle.finding_spans.proofs.Points.{point_is, rising_cons}

-- ---- one more byte before those that stand before

feed_before : (before : List ℕ) (line column : ℕ) → IsBehind before line column → IsBehind (10 ∷ before) (line + 1) column
feed_before before line column h =
    let so_far : line ≡ feeds h.lines + 1 = h.line_is in
    record {
      lines = 10 ∷ h.lines;
      part = h.part;
      bytes = ap (λ (l : List ℕ). 10 ∷ l) h.bytes;
      whole = elim h.whole [ inl e ↦ inr ([], ap (λ (l : List ℕ). 10 ∷ l) e) | inr w ↦ inr (10 ∷ w.0, ap (λ (l : List ℕ). 10 ∷ l) w.1) ];
      one = h.one;
      line_is = omega arith;
      column_is = h.column_is;
    }

some_feeds : (rest lines : List ℕ) → lines ≡ rest ++ 10 ∷ [] → 1 ≤ feeds lines
some_feeds rest lines e =
    let all : feeds lines ≡ feeds (rest ++ 10 ∷ []) = ap feeds e in
    let split : feeds (rest ++ 10 ∷ []) ≡ feeds rest + feeds (10 ∷ []) = feeds_append rest (10 ∷ []) in
    let ten : feeds (10 ∷ []) ≡ 1 = refl in
    omega arith

byte_before_first : (byte : ℕ) (before : List ℕ) (column : ℕ) → nat_eq byte 10 ≡ false → IsBehind before 1 column → IsBehind (byte ∷ before) 1 (column + 1)
byte_before_first byte before column b h =
    let so_far : 1 ≡ feeds h.lines + 1 = h.line_is in
    let no_lines : h.lines ≡ [] = elim h.whole [ inl e ↦ e | inr w ↦ let k = some_feeds w.0 h.lines w.1 in absurd (omega arith) ] in
    let none : feeds (byte ∷ []) ≡ 0 = no_feed byte b in
    let more : feeds (byte ∷ h.part) ≡ feeds (byte ∷ []) + feeds h.part = feeds_append (byte ∷ []) h.part in
    let one : feeds h.part ≡ 0 = h.one in
    let at : column ≡ length h.part + 1 = h.column_is in
    record {
      lines = [];
      part = byte ∷ h.part;
      bytes = ap (λ (l : List ℕ). byte ∷ l) (h.bytes ∙ ap (λ (l : List ℕ). l ++ h.part) no_lines);
      whole = inl refl;
      one = omega arith;
      line_is = refl;
      column_is = omega arith;
    }

byte_before_later : (byte : ℕ) (before : List ℕ) (line column : ℕ) → nat_eq byte 10 ≡ false → 2 ≤ line → IsBehind before line column → IsBehind (byte ∷ before) line column
byte_before_later byte before line column b l h =
    let so_far : line ≡ feeds h.lines + 1 = h.line_is in
    let none : feeds (byte ∷ []) ≡ 0 = no_feed byte b in
    let more : feeds (byte ∷ h.lines) ≡ feeds (byte ∷ []) + feeds h.lines = feeds_append (byte ∷ []) h.lines in
    record {
      lines = byte ∷ h.lines;
      part = h.part;
      bytes = ap (λ (l : List ℕ). byte ∷ l) h.bytes;
      whole = elim h.whole [ inl e ↦ let k : feeds h.lines ≡ 0 = ap feeds e in absurd (omega arith) | inr w ↦ inr (byte ∷ w.0, ap (λ (l : List ℕ). byte ∷ l) w.1) ];
      one = h.one;
      line_is = omega arith;
      column_is = h.column_is;
    }

-- ---- the list of feeds

at_feed : (at byte : ℕ) (bytes : List ℕ) → nat_eq byte 10 ≡ true → feeds_from at (byte ∷ bytes) ≡ at ∷ feeds_from (suc at) bytes
at_feed at byte bytes e = cond-true (nat_eq byte 10) (at ∷ feeds_from (suc at) bytes) (feeds_from (suc at) bytes) e

at_byte : (at byte : ℕ) (bytes : List ℕ) → nat_eq byte 10 ≡ false → feeds_from at (byte ∷ bytes) ≡ feeds_from (suc at) bytes
at_byte at byte bytes e = cond-false (nat_eq byte 10) (at ∷ feeds_from (suc at) bytes) (feeds_from (suc at) bytes) e

first_or_later : (at : ℕ) (fs : List ℕ) (j d : ℕ) → ((k : ℕ) → k < length fs → suc at ≤ get_or fs k d) → j < length (at ∷ fs) → at ≤ get_or (at ∷ fs) j d
first_or_later at fs zero d h l = omega arith
first_or_later at fs (suc k) d h l = let m = h k (omega arith) in omega arith

no_earlier : (at : ℕ) (text : List ℕ) (j d : ℕ) → j < length (feeds_from at text) → at ≤ get_or (feeds_from at text) j d
no_earlier at [] j d h = absurd (omega arith)
no_earlier at (byte ∷ bytes) j d h =
    let P : List ℕ → Type 0 = λ fs. j < length fs → at ≤ get_or fs j d in
    elim (cases_Bool (nat_eq byte 10)) [
      | inl e ↦ subst P (sym (at_feed at byte bytes e)) (first_or_later at (feeds_from (suc at) bytes) j d (λ k l. no_earlier (suc at) bytes k d l)) h
      | inr e ↦ subst P (sym (at_byte at byte bytes e)) (λ l. let k = no_earlier (suc at) bytes j d l in omega arith) h
    ]

rising : (at : ℕ) (text : List ℕ) → IsNonDecreasingBy (λ feed. feed) (feeds_from at text)
rising at [] = λ i j d l h. absurd (omega arith)
rising at (byte ∷ bytes) =
    let P : List ℕ → Type 0 = λ fs. IsNonDecreasingBy (λ feed. feed) fs in
    elim (cases_Bool (nat_eq byte 10)) [
      | inl e ↦ subst P (sym (at_feed at byte bytes e)) (rising_cons (λ feed. feed) at (feeds_from (suc at) bytes) (λ j d l. let k = no_earlier (suc at) bytes j d l in omega arith) (rising (suc at) bytes))
      | inr e ↦ subst P (sym (at_byte at byte bytes e)) (rising (suc at) bytes)
    ]

-- how many feeds stand before a place
abbrev pub feeds_before : ℕ → List ℕ → ℕ
feeds_before start fs = prefix_len (λ feed. ltb feed start) fs

none_before : (at start : ℕ) (text : List ℕ) → start ≤ at → feeds_before start (feeds_from at text) ≡ 0
none_before at start [] h = refl
none_before at start (byte ∷ bytes) h =
    elim (cases_Bool (nat_eq byte 10)) [
      | inl e ↦ ap (feeds_before start) (at_feed at byte bytes e) ∙ cond-false (ltb at start) (1 + feeds_before start (feeds_from (suc at) bytes)) 0 (le-ltb at start h)
      | inr e ↦ ap (feeds_before start) (at_byte at byte bytes e) ∙ none_before (suc at) start bytes (omega arith)
    ]

-- how many bytes stand between a place and the last feed before it, or the first place
abbrev column_from : ℕ → ℕ → List ℕ → ℕ → ℕ
column_from at start fs zero = start - at
column_from at start fs (suc n) = start - get_or fs n 0 - 1

feed_step : (at start : ℕ) (before fs : List ℕ) (n : ℕ) → IsBehind before (n + 1) (column_from (suc at) start fs n + 1) → IsBehind (10 ∷ before) (suc n + 1) (column_from at start (at ∷ fs) (suc n) + 1)
feed_step at start before fs zero h =
    let e : start - suc at + 1 ≡ start - at - 1 + 1 = omega arith in
    subst (λ column. IsBehind (10 ∷ before) 2 column) e (feed_before before 1 (start - suc at + 1) h)
feed_step at start before fs (suc n) h =
    let e : suc n + 1 + 1 ≡ suc (suc n) + 1 = omega arith in
    subst (λ line. IsBehind (10 ∷ before) line (start - get_or fs n 0 - 1 + 1)) e (feed_before before (suc n + 1) (start - get_or fs n 0 - 1 + 1) h)

byte_step : (at start byte : ℕ) (before fs : List ℕ) (n : ℕ) → at < start → nat_eq byte 10 ≡ false → IsBehind before (n + 1) (column_from (suc at) start fs n + 1) → IsBehind (byte ∷ before) (n + 1) (column_from at start fs n + 1)
byte_step at start byte before fs zero l b h =
    let e : start - suc at + 1 + 1 ≡ start - at + 1 = omega arith in
    subst (λ column. IsBehind (byte ∷ before) 1 column) e (byte_before_first byte before (start - suc at + 1) b h)
byte_step at start byte before fs (suc n) l b h = byte_before_later byte before (suc n + 1) (start - get_or fs n 0 - 1 + 1) b (omega arith) h

abbrev IsCounted : ℕ → ℕ → List ℕ → List ℕ → Type 0
IsCounted at start before fs = IsBehind before (feeds_before start fs + 1) (column_from at start fs (feeds_before start fs) + 1)

behind_none : (at start : ℕ) (fs : List ℕ) → start ≡ at → feeds_before start fs ≡ 0 → IsCounted at start [] fs
behind_none at start fs e h =
    let column : 1 ≡ start - at + 1 = omega arith in
    subst (λ n. IsBehind [] (n + 1) (column_from at start fs n + 1)) (sym h) (subst (λ n. IsBehind [] 1 n) column first)

behind_feed_too : (at start byte : ℕ) (before fs : List ℕ) → byte ≡ 10 → at < start → IsCounted (suc at) start before fs → IsCounted at start (byte ∷ before) (at ∷ fs)
behind_feed_too at start byte before fs ten l h =
    let counted : feeds_before start (at ∷ fs) ≡ 1 + feeds_before start fs = cond-true (ltb at start) (1 + feeds_before start fs) 0 (lt-ltb at start l) in
    let more : suc (feeds_before start fs) ≡ feeds_before start (at ∷ fs) = omega arith in
    subst (λ b. IsCounted at start (b ∷ before) (at ∷ fs)) (sym ten)
    (subst (λ n. IsBehind (10 ∷ before) (n + 1) (column_from at start (at ∷ fs) n + 1)) more (feed_step at start before fs (feeds_before start fs) h))

behind_count : (text : List ℕ) (at count start : ℕ) → start ≡ at + count → count ≤ length text → IsCounted at start (take count text) (feeds_from at text)
behind_count text at zero start e h = behind_none at start (feeds_from at text) (omega arith) (none_before at start text (omega arith))
behind_count [] at (suc count) start e h = absurd (omega arith)
behind_count (byte ∷ bytes) at (suc count) start e h =
    let ih = behind_count bytes (suc at) count start (omega arith) (omega arith) in
    let P : List ℕ → Type 0 = λ fs. IsCounted at start (byte ∷ take count bytes) fs in
    elim (cases_Bool (nat_eq byte 10)) [
      | inl b ↦ subst P (sym (at_feed at byte bytes b)) (behind_feed_too at start byte (take count bytes) (feeds_from (suc at) bytes) (eqb-true byte 10 b) (omega arith) ih)
      | inr b ↦
          subst P (sym (at_byte at byte bytes b))
          (byte_step at start byte (take count bytes) (feeds_from (suc at) bytes) (feeds_before start (feeds_from (suc at) bytes)) (omega arith) b ih)
    ]

-- the feeds before a place are no more than the bytes
few : (at : ℕ) (text : List ℕ) → length (feeds_from at text) ≤ length text
few at [] = omega arith
few at (byte ∷ bytes) =
    let ih = few (suc at) bytes in
    let P : List ℕ → Type 0 = λ fs. length fs ≤ suc (length bytes) in
    elim (cases_Bool (nat_eq byte 10)) [
      | inl e ↦ subst P (sym (at_feed at byte bytes e)) (omega arith)
      | inr e ↦ subst P (sym (at_byte at byte bytes e)) (omega arith)
    ]

-- the column of a place, by the last feed before it
abbrev pub column_of : Option ℕ → ℕ → ℕ
column_of None start = start
column_of (Some feed) start = start - feed - 1

column_is : (fs : List ℕ) (start n : ℕ) → n ≤ length fs → column_of (last_of_first fs n) start ≡ column_from 0 start fs n
column_is fs start zero h = omega arith
column_is fs start (suc n) h = ap (λ (o : Option ℕ). column_of o start) (slice_get-get_or fs n 0 (omega arith))

c_below_of : (o : Option ℕ) (start : ℕ) → column_of o start ≤ start
c_below_of None start = omega arith
c_below_of (Some feed) start = omega arith

c_below : (start count : ℕ) (fs : List ℕ) (column : ℕ) → column ≡ column_of (last_of_first fs count) start → column ≤ start
c_below start count fs column e = let k = c_below_of (last_of_first fs count) start in omega arith

-- what a search by halves counts gives the position
pub place_counted : (text fs : List ℕ) (start count column line_no column_no : ℕ) → fs ≡ feeds_from 0 text → length text ≤ 1048576 → start ≤ length text → count ≤ length fs
    → (IsPartitionedBy (λ feed. ltb feed start) fs → IsPartitionPoint (λ feed. ltb feed start ≡ true) (λ feed. ltb feed start ≡ false) fs count)
    → column ≡ column_of (last_of_first fs count) start → (count ≤ 1048576 → line_no ≡ count + 1) → (column ≤ 1048576 → column_no ≡ column + 1) → IsBehind (take start text) line_no column_no
place_counted text fs start count column line_no column_no e long within bound point c l m =
    let fs_few : length fs ≤ length text = subst (λ (xs : List ℕ). length xs ≤ length text) (sym e) (few 0 text) in
    let rise : IsNonDecreasingBy (λ feed. feed) fs = subst (λ xs. IsNonDecreasingBy (λ feed. feed) xs) (sym e) (rising 0 text) in
    let is_count : feeds_before start fs ≡ count = point_is (λ feed. ltb feed start) fs count bound (point (IsPartitionedBy-ltb (λ feed. feed) fs start rise)) in
    let counted : IsCounted 0 start (take start text) fs = subst (λ xs. IsCounted 0 start (take start text) xs) (sym e) (behind_count text 0 start start (omega arith) within) in
    let at : column ≡ column_from 0 start fs count = c ∙ column_is fs start count bound in
    let below : column ≤ start = c_below start count fs column c in
    let line : feeds_before start fs + 1 ≡ line_no = ap (λ n. n + 1) is_count ∙ sym (l (omega arith)) in
    let col : column_from 0 start fs (feeds_before start fs) + 1 ≡ column_no = ap (λ n. column_from 0 start fs n + 1) is_count ∙ ap (λ n. n + 1) (sym at) ∙ sym (m (omega arith)) in
    subst (λ x. IsBehind (take start text) x column_no) line (subst (λ y. IsBehind (take start text) (feeds_before start fs + 1) y) col counted)
