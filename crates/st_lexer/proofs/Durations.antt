-- Times: what is read behind the `#` is the rest of one, and each one is read.
use Rattle.std.proofs.Common.{◌≡◌, ℕ, zero, suc, ◌+◌, ◌-◌, ◌*◌, ◌/◌, ◌%◌, ◌^◌, ◌<◌, ◌≤◌, Bool, true, false, cond, ◌&&◌, ltb, leb, List, [], ◌∷◌, ◌++◌, length, map, take, drop, Option, Some, None, refl, sym, ap, subst, ◌∙◌, arith}
use Rattle.std.specs.Prelude.{nat_eq, bytes_eq}
use Rattle.std.specs.List.{list_all, fold, prefix_len, Contains}
use Rattle.std.proofs.lemmas.Bool.{ltb-true, lt-ltb, leb-true, le-leb, eqb-true, eq-eqb}
use Rattle.std.proofs.lemmas.Bool.Decides.{nat_tests}
use Rattle.std.proofs.lemmas.List.{length-append, length-drop}
use Rattle.iec_tables.specs.Letters.{raised}
use Rattle.st_lexer.specs.declared.times.Part.{Part as Seen}
use Rattle.st_lexer.specs.Bytes.{is_alphabetic, is_digit, begins, one_more, value_in}
use Rattle.st_lexer.specs.Times.{Part, units, dotted, part_text, milliseconds, IsPart}
use Rattle.st_lexer.specs.Front.{and_then, whole_length, fraction_at, counted, letters_length, size_in, unit_size, value_on, part_at, above_units}
use Rattle.st_lexer.proofs.Tests.{same, both, clash}
use Rattle.st_lexer.proofs.Runs.{run_passes, run_stops, run_within, run_length, run_longest, run_exact, front_is, take_front, drop_front, append_assoc_, all_append}
use Rattle.st_lexer.proofs.Leads.{is_capital, each_row}
use Rattle.st_lexer.proofs.Raising.{take_raised, drop_raised}

-- ---- the value of digits

-- the number that the digits among the bytes are, behind a value
abbrev pub counted_on : ℕ → List ℕ → ℕ
counted_on value bs = fold (λ v b. cond (is_digit b) (v * 10 + (b - 48)) v) value bs

pub counted_grows : (value : ℕ) (bs : List ℕ) → value ≤ counted_on value bs
counted_grows value [] = omega arith
counted_grows value (b ∷ bs) = by (is_digit b) (counted_grows (cond (is_digit b) (value * 10 + (b - 48)) value) bs)
  where
    by : (t : Bool) → cond t (value * 10 + (b - 48)) value ≤ counted_on (cond t (value * 10 + (b - 48)) value) bs → value ≤ counted_on (cond t (value * 10 + (b - 48)) value) bs
    by true h = omega (arith, h)
    by false h = h

value_by : (value b : ℕ) (bs : List ℕ) (n : ℕ) (t u : Bool) → is_digit b ≡ t → ltb (value * 10 + (b - 48)) (2 ^ 100) ≡ u
    → (value * 10 + (b - 48) < 2 ^ 100 → value_on (value * 10 + (b - 48)) bs ≡ Some n → (n ≡ counted_on (value * 10 + (b - 48)) bs) × (n < 2 ^ 100))
    → (value_on value bs ≡ Some n → (n ≡ counted_on value bs) × (n < 2 ^ 100))
    → cond t (cond u (value_on (value * 10 + (b - 48)) bs) None) (value_on value bs) ≡ Some n → (n ≡ counted_on (cond t (value * 10 + (b - 48)) value) bs) × (n < 2 ^ 100)
value_by value b bs n true true e1 e2 h1 h2 e = h1 (ltb-true (value * 10 + (b - 48)) (2 ^ 100) e2) e
value_by value b bs n true false e1 e2 h1 h2 e = absurd cc
value_by value b bs n false u e1 e2 h1 h2 e = h2 e

pub value_some : (value : ℕ) (bs : List ℕ) (n : ℕ) → value < 2 ^ 100 → value_on value bs ≡ Some n → (n ≡ counted_on value bs) × (n < 2 ^ 100)
unfolding value_on
value_some value [] n lt e = let is : value ≡ n = cc in (sym is, subst (λ (k : ℕ). k < 2 ^ 100) is lt)
value_some value (b ∷ bs) n lt e =
    value_by value b bs n (is_digit b) (ltb (value * 10 + (b - 48)) (2 ^ 100)) refl refl (λ l h. value_some (value * 10 + (b - 48)) bs n l h) (λ h. value_some value bs n lt h) e

found_by : (value b : ℕ) (bs : List ℕ) (t : Bool) → counted_on (cond t (value * 10 + (b - 48)) value) bs < 2 ^ 100
    → (counted_on (value * 10 + (b - 48)) bs < 2 ^ 100 → value_on (value * 10 + (b - 48)) bs ≡ Some (counted_on (value * 10 + (b - 48)) bs))
    → (counted_on value bs < 2 ^ 100 → value_on value bs ≡ Some (counted_on value bs))
    → cond t (cond (ltb (value * 10 + (b - 48)) (2 ^ 100)) (value_on (value * 10 + (b - 48)) bs) None) (value_on value bs) ≡ Some (counted_on (cond t (value * 10 + (b - 48)) value) bs)
found_by value b bs true lt h1 h2 = rw (lt-ltb (value * 10 + (b - 48)) (2 ^ 100) (omega (arith, lt, counted_grows (value * 10 + (b - 48)) bs))) (h1 lt)
found_by value b bs false lt h1 h2 = h2 lt

pub value_found : (value : ℕ) (bs : List ℕ) → counted_on value bs < 2 ^ 100 → value_on value bs ≡ Some (counted_on value bs)
unfolding value_on
value_found value [] lt = refl
value_found value (b ∷ bs) lt = found_by value b bs (is_digit b) lt (value_found (value * 10 + (b - 48)) bs) (value_found value bs)

-- of digits alone it is their value, whatever else stands between
digit_adds : (v b : ℕ) → is_digit b ≡ true → one_more 10 v b ≡ v * 10 + (b - 48)
digit_adds v b e = grind (arith, nat_tests)

pub counted_digits : (value : ℕ) (bs : List ℕ) → list_all is_digit bs ≡ true → counted_on value bs ≡ fold (one_more 10) value bs
counted_digits value [] h = refl
counted_digits value (b ∷ bs) h =
    let parts = both (is_digit b) (list_all is_digit bs) h in
    ap (λ (t : Bool). counted_on (cond t (value * 10 + (b - 48)) value) bs) parts.0 ∙ counted_digits (value * 10 + (b - 48)) bs parts.1
    ∙ ap (λ (v : ℕ). fold (one_more 10) v bs) (sym (digit_adds value b parts.0))

pub counted_append : (value : ℕ) (xs ys : List ℕ) → counted_on value (xs ++ ys) ≡ counted_on (counted_on value xs) ys
counted_append value [] ys = refl
counted_append value (x ∷ xs) ys = counted_append (cond (is_digit x) (value * 10 + (x - 48)) value) xs ys

fold_append : (value : ℕ) (xs ys : List ℕ) → fold (one_more 10) value (xs ++ ys) ≡ fold (one_more 10) (fold (one_more 10) value xs) ys
fold_append value [] ys = refl
fold_append value (x ∷ xs) ys = fold_append (one_more 10 value x) xs ys

-- the dot adds nothing
pub counted_part : (whole fraction : List ℕ) → list_all is_digit whole ≡ true → list_all is_digit fraction ≡ true → counted_on 0 (whole ++ dotted fraction) ≡ value_in 10 (whole ++ fraction)
counted_part whole [] h k = counted_digits 0 (whole ++ []) (all_append is_digit whole [] h refl)
counted_part whole (d ∷ ds) h k =
    counted_append 0 whole (46 ∷ d ∷ ds) ∙ counted_digits (counted_on 0 whole) (d ∷ ds) k ∙ ap (λ (v : ℕ). fold (one_more 10) v (d ∷ ds)) (counted_digits 0 whole h) ∙ sym (fold_append 0 whole (d ∷ ds))

-- ---- units

abbrev pub IsRaised : List ℕ → Type 0
IsRaised bs = map raised bs ≡ bs

unit_row : List ℕ × ℕ → Bool
unit_row row = (begins is_capital row.0 && list_all is_capital row.0) && (leb 1 row.1 && ltb row.1 above_units)

all_units : list_all unit_row units ≡ true
unfolding unit_row
all_units = refl

capital_alphabetic : (b : ℕ) → is_capital b ≡ true → is_alphabetic b ≡ true
capital_alphabetic b e = grind (arith, nat_tests)

capital_no_digit : (b : ℕ) → is_capital b ≡ true → is_digit b ≡ false
capital_no_digit b e = grind (arith, nat_tests)

capital_no_dot : (b : ℕ) → is_capital b ≡ true → nat_eq 46 b ≡ false
capital_no_dot b e = grind (arith, nat_tests)

pub record Unit_ (unit : List ℕ) (size : ℕ) : Type 0 where
  pub letters : list_all is_alphabetic unit ≡ true
  pub some : 0 < length unit
  pub no_digit : (rest : List ℕ) → begins is_digit (unit ++ rest) ≡ false
  pub no_dot : (rest : List ℕ) → begins (nat_eq 46) (unit ++ rest) ≡ false
  pub least : 1 ≤ size
  pub most : size < above_units

all_alphabetic : (t : List ℕ) → list_all is_capital t ≡ true → list_all is_alphabetic t ≡ true
all_alphabetic [] e = refl
all_alphabetic (b ∷ t) e = let parts = both (is_capital b) (list_all is_capital t) e in rw (capital_alphabetic b parts.0) (all_alphabetic t parts.1)

first_no : (test : ℕ → Bool) → ((b : ℕ) → is_capital b ≡ true → test b ≡ false) → (t rest : List ℕ) → begins is_capital t ≡ true → begins test (t ++ rest) ≡ false
first_no test h [] rest e = cc
first_no test h (b ∷ t) rest e = h b e

some_of : (t : List ℕ) → begins is_capital t ≡ true → 0 < length t
some_of [] e = cc
some_of (b ∷ t) e = omega arith

pub unit_is : (unit : List ℕ) (size : ℕ) → Contains units (unit, size) → Unit_ unit size
unfolding unit_row
unit_is unit size h =
    let row = each_row unit_row units (unit, size) all_units h in
    let a = both (begins is_capital unit && list_all is_capital unit) (leb 1 size && ltb size above_units) row in
    let t = both (begins is_capital unit) (list_all is_capital unit) a.0 in
    let n = both (leb 1 size) (ltb size above_units) a.1 in
    record {
      letters = all_alphabetic unit t.1;
      some = some_of unit t.0;
      no_digit = λ rest. first_no is_digit capital_no_digit unit rest t.0;
      no_dot = λ rest. first_no (nat_eq 46) capital_no_dot unit rest t.0;
      least = leb-true 1 size n.0;
      most = ltb-true size above_units n.1;
    }

size_in_there : (rows : List (List ℕ × ℕ)) (t : List ℕ) (size : ℕ) → size_in rows t ≡ Some size → Contains rows (t, size)
size_in_there [] t size e = absurd cc
size_in_there (row ∷ rows) t size e = by (bytes_eq t row.0) refl e (size_in_there rows t size)
  where
    by : (v : Bool) → bytes_eq t row.0 ≡ v → cond v (Some row.1) (size_in rows t) ≡ Some size → (size_in rows t ≡ Some size → Contains rows (t, size)) → Contains (row ∷ rows) (t, size)
    by true is h more =
        let s : row.1 ≡ size = cc in
        (0, omega arith, ap (λ (x : List ℕ). (x, row.1)) (sym (same t row.0 is)) ∙ ap (λ (k : ℕ). (t, k)) s)
    by false is h more = let c = more h in (suc c.0, omega (arith, c.1), c.2)

pub unit_some : (letters : List ℕ) (size : ℕ) → unit_size letters ≡ Some size → Contains units (map raised letters, size)
unfolding unit_size
unit_some letters size e = size_in_there units (map raised letters) size e

pub unit_found : (unit : List ℕ) (size : ℕ) → Contains units (unit, size) → unit_size unit ≡ Some size
unfolding unit_size
unit_found unit size (zero, lt, at) = rw (← ap (λ (r : List ℕ × ℕ). r.0) at, ← ap (λ (r : List ℕ × ℕ). r.1) at) refl
unit_found unit size (suc zero, lt, at) = rw (← ap (λ (r : List ℕ × ℕ). r.0) at, ← ap (λ (r : List ℕ × ℕ). r.1) at) refl
unit_found unit size (suc (suc zero), lt, at) = rw (← ap (λ (r : List ℕ × ℕ). r.0) at, ← ap (λ (r : List ℕ × ℕ). r.1) at) refl
unit_found unit size (suc (suc (suc zero)), lt, at) = rw (← ap (λ (r : List ℕ × ℕ). r.0) at, ← ap (λ (r : List ℕ × ℕ). r.1) at) refl
unit_found unit size (suc (suc (suc (suc zero))), lt, at) = rw (← ap (λ (r : List ℕ × ℕ). r.0) at, ← ap (λ (r : List ℕ × ℕ). r.1) at) refl
unit_found unit size (suc (suc (suc (suc (suc i)))), lt, at) = absurd (omega (arith, lt))

-- ---- one part

-- what stands at the front of bytes that begin with a part
pub record Front_ (q : Part) (bytes rest : List ℕ) : Type 0 where
  pub whole : whole_length bytes ≡ length q.whole
  pub point : fraction_at (drop (whole_length bytes) bytes) ≡ Some (length (dotted q.fraction))
  pub text : take (whole_length bytes + length (dotted q.fraction)) bytes ≡ q.whole ++ dotted q.fraction
  pub behind : drop (whole_length bytes + length (dotted q.fraction)) bytes ≡ q.unit ++ rest

point_by : (fraction unit rest : List ℕ) → list_all is_digit fraction ≡ true → length fraction ≤ 9 → ((r : List ℕ) → begins is_digit (unit ++ r) ≡ false) → ((r : List ℕ) → begins (nat_eq 46) (unit ++ r) ≡ false)
    → fraction_at (dotted fraction ++ (unit ++ rest)) ≡ Some (length (dotted fraction))
point_by [] unit rest h le nd np = rw (np rest) refl
point_by (d ∷ ds) unit rest h le nd np =
    let n : prefix_len is_digit ((d ∷ ds) ++ (unit ++ rest)) ≡ length (d ∷ ds) = run_exact is_digit (d ∷ ds) (unit ++ rest) h (nd rest) in
    let l : leb (suc (length ds)) 9 ≡ true = le-leb (suc (length ds)) 9 le in
    ap counted n ∙ by l
  where
    by : leb (suc (length ds)) 9 ≡ true → counted (suc (length ds)) ≡ Some (suc (suc (length ds)))
    by l = let some : ltb 0 (suc (length ds)) ≡ true = lt-ltb 0 (suc (length ds)) (omega arith) in rw (some, l) refl

no_digit_dotted : (fraction unit rest : List ℕ) → ((r : List ℕ) → begins is_digit (unit ++ r) ≡ false) → begins is_digit (dotted fraction ++ (unit ++ rest)) ≡ false
no_digit_dotted [] unit rest nd = nd rest
no_digit_dotted (d ∷ ds) unit rest nd = refl

pub front_of : (q : Part) (bytes rest : List ℕ) → IsPart q → bytes ≡ part_text q ++ rest → Front_ q bytes rest
front_of q bytes rest is e =
    let u = unit_is q.unit q.size is.unit in
    let tail = dotted q.fraction ++ (q.unit ++ rest) in
    let at : bytes ≡ q.whole ++ tail =
    e ∙ append_assoc_ q.whole (dotted q.fraction ++ q.unit) rest ∙ ap (λ (t : List ℕ). q.whole ++ t) (append_assoc_ (dotted q.fraction) q.unit rest) in
    let f = front_is is_digit bytes q.whole tail at is.whole (no_digit_dotted q.fraction q.unit rest u.no_digit) in
    let both_are : bytes ≡ (q.whole ++ dotted q.fraction) ++ (q.unit ++ rest) = at ∙ sym (append_assoc_ q.whole (dotted q.fraction) (q.unit ++ rest)) in
    let count : whole_length bytes + length (dotted q.fraction) ≡ length (q.whole ++ dotted q.fraction) = omega (arith, f.count, length-append q.whole (dotted q.fraction)) in
    record {
      whole = f.count;
      point = ap fraction_at f.behind ∙ point_by q.fraction q.unit rest is.fraction is.short u.no_digit u.no_dot;
      text = ap (λ (k : ℕ). take k bytes) count ∙ ap (take (length (q.whole ++ dotted q.fraction))) both_are ∙ take_front (q.whole ++ dotted q.fraction) (q.unit ++ rest);
      behind = ap (λ (k : ℕ). drop k bytes) count ∙ ap (drop (length (q.whole ++ dotted q.fraction))) both_are ∙ drop_front (q.whole ++ dotted q.fraction) (q.unit ++ rest);
    }

dotted_less : (fraction : List ℕ) → length (dotted fraction) - 1 ≡ length fraction
dotted_less [] = refl
dotted_less (d ∷ ds) = omega arith

pub part_length : (q : Part) → length (part_text q) ≡ length q.whole + length (dotted q.fraction) + length q.unit
part_length q = omega (arith, length-append q.whole (dotted q.fraction ++ q.unit), length-append (dotted q.fraction) q.unit)

abbrev pub seen_of : Part → Seen
seen_of q = record { length = length q.whole + length (dotted q.fraction) + length q.unit; size = q.size; value = milliseconds q; last = ltb 0 (length (dotted q.fraction)) }

-- a part that stands there whole, of a small number, is read
pub part_found : (q : Part) (bytes rest : List ℕ) → IsPart q → bytes ≡ part_text q ++ rest → begins is_alphabetic rest ≡ false → value_in 10 (q.whole ++ q.fraction) < 2 ^ 100 → part_at bytes ≡ Some (seen_of q)
unfolding part_at
part_found q bytes rest is e stops small =
    let f = front_of q bytes rest is e in
    let u = unit_is q.unit q.size is.unit in
    let g = front_is is_alphabetic (drop (whole_length bytes + length (dotted q.fraction)) bytes) q.unit rest f.behind u.letters stops in
    let size : unit_size (take (letters_length (drop (whole_length bytes + length (dotted q.fraction)) bytes)) (drop (whole_length bytes + length (dotted q.fraction)) bytes)) ≡ Some q.size = ap unit_size g.run ∙ unit_found q.unit q.size is.unit in
    let count : counted_on 0 (q.whole ++ dotted q.fraction) ≡ value_in 10 (q.whole ++ q.fraction) = counted_part q.whole q.fraction is.whole is.fraction in
    let value : value_on 0 (take (whole_length bytes + length (dotted q.fraction)) bytes) ≡ Some (value_in 10 (q.whole ++ q.fraction)) =
    ap (value_on 0) f.text ∙ value_found 0 (q.whole ++ dotted q.fraction) (rw count small) ∙ ap (λ (k : ℕ). Some k) count in
    let some : ltb 0 (length q.whole) ≡ true = lt-ltb 0 (length q.whole) is.some in
    let exact : nat_eq ((value_in 10 (q.whole ++ q.fraction) * q.size) % 10 ^ length q.fraction) 0 ≡ true = eq-eqb _ 0 is.exact in
    rw (f.point, size, value, g.count, f.whole, some, dotted_less q.fraction, exact) refl

-- what reading a part went through
pub record Read (bytes : List ℕ) (p : Seen) : Type 0 where
  pub point : ℕ
  pub size : ℕ
  pub value : ℕ
  pub fraction_is : fraction_at (drop (whole_length bytes) bytes) ≡ Some point
  pub unit_is : unit_size (take (letters_length (drop (whole_length bytes + point) bytes)) (drop (whole_length bytes + point) bytes)) ≡ Some size
  pub value_is : value_on 0 (take (whole_length bytes + point) bytes) ≡ Some value
  pub some : 0 < whole_length bytes
  pub exact : (value * size) % 10 ^ (point - 1) ≡ 0
  pub part_is : p ≡ record { length = whole_length bytes + point + letters_length (drop (whole_length bytes + point) bytes); size = size; value = (value * size) / 10 ^ (point - 1); last = ltb 0 point }

and_then_some : {A B : Type 0} (o : Option A) (f : A → Option B) (b : B) → and_then o f ≡ Some b → (a : A) × (o ≡ Some a) × (f a ≡ Some b)
and_then_some None f b e = absurd cc
and_then_some (Some a) f b e = (a, refl, e)

read_by : (whole point letters size value : ℕ) (p : Seen) (u v : Bool) → ltb 0 whole ≡ u → nat_eq ((value * size) % 10 ^ (point - 1)) 0 ≡ v
    → cond (u && v) (Some (record { length = whole + point + letters; size = size; value = (value * size) / 10 ^ (point - 1); last = ltb 0 point })) None ≡ Some p
    → (0 < whole) × ((value * size) % 10 ^ (point - 1) ≡ 0) × (p ≡ record { length = whole + point + letters; size = size; value = (value * size) / 10 ^ (point - 1); last = ltb 0 point })
read_by whole point letters size value p true true e1 e2 h = (ltb-true 0 whole e1, eqb-true ((value * size) % 10 ^ (point - 1)) 0 e2, cc)
read_by whole point letters size value p true false e1 e2 h = absurd cc
read_by whole point letters size value p false v e1 e2 h = absurd cc

pub read : (bytes : List ℕ) (p : Seen) → part_at bytes ≡ Some p → Read bytes p
unfolding part_at
read bytes p e =
    let a = and_then_some (fraction_at (drop (whole_length bytes) bytes)) _ p e in
    let b = and_then_some (unit_size (take (letters_length (drop (whole_length bytes + a.0) bytes)) (drop (whole_length bytes + a.0) bytes))) _ p a.2 in
    let c = and_then_some (value_on 0 (take (whole_length bytes + a.0) bytes)) _ p b.2 in
    let t = read_by (whole_length bytes) a.0 (letters_length (drop (whole_length bytes + a.0) bytes)) b.0 c.0 p (ltb 0 (whole_length bytes)) (nat_eq ((c.0 * b.0) % 10 ^ (a.0 - 1)) 0) refl refl c.2 in
    record { point = a.0; size = b.0; value = c.0; fraction_is = a.1; unit_is = b.1; value_is = c.1; some = t.0; exact = t.1; part_is = t.2 }

-- a part that stands there is no longer than the one that is read
pub part_bound : (q : Part) (bytes rest : List ℕ) (p : Seen) → IsPart q → bytes ≡ part_text q ++ rest → part_at bytes ≡ Some p → length (part_text q) ≤ p.length
part_bound q bytes rest p is e at =
    let f = front_of q bytes rest is e in
    let u = unit_is q.unit q.size is.unit in
    let r = read bytes p at in
    let same_point : Some r.point ≡ Some (length (dotted q.fraction)) = sym r.fraction_is ∙ f.point in
    let point : r.point ≡ length (dotted q.fraction) = cc in
    let behind : drop (whole_length bytes + r.point) bytes ≡ q.unit ++ rest = ap (λ (k : ℕ). drop (whole_length bytes + k) bytes) point ∙ f.behind in
    let most : length q.unit ≤ letters_length (drop (whole_length bytes + r.point) bytes) = subst (λ (t : List ℕ). length q.unit ≤ letters_length t) (sym behind) (run_longest is_alphabetic q.unit rest u.letters) in
    let count : p.length ≡ whole_length bytes + r.point + letters_length (drop (whole_length bytes + r.point) bytes) = ap (λ (x : Seen). x.length) r.part_is in
    omega (arith, part_length q, f.whole, point, most, count)

-- ---- the part that was read

pub record PartHere (bytes : List ℕ) (p : Seen) (q : Part) : Type 0 where
  pub is : IsPart q
  pub within : p.length ≤ length bytes
  pub text : take p.length bytes ≡ part_text q
  pub count : p.length ≡ length (part_text q)
  pub size : p.size ≡ q.size
  pub value : p.value ≡ milliseconds q
  pub plain : p.last ≡ false → q.fraction ≡ []
  pub stops : begins is_alphabetic (drop p.length bytes) ≡ false

dot_first : (bytes : List ℕ) → begins (nat_eq 46) bytes ≡ true → (rest : List ℕ) × (bytes ≡ 46 ∷ rest)
dot_first [] e = cc
dot_first (b ∷ bytes) e = (bytes, let is : 46 ≡ b = eqb-true 46 b e in ap (λ (x : ℕ). x ∷ bytes) (sym is))

-- the digits behind a dot
pub record Fraction (bytes : List ℕ) (point : ℕ) : Type 0 where
  pub digits : List ℕ
  pub all : list_all is_digit digits ≡ true
  pub short : length digits ≤ 9
  pub point_is : point ≡ length (dotted digits)
  pub text : take point bytes ≡ dotted digits
  pub within : point ≤ length bytes

some_fraction : (rest : List ℕ) (n : ℕ) → n ≡ prefix_len is_digit rest → 0 < n → n ≤ 9 → Fraction (46 ∷ rest) (suc n)
some_fraction rest n e some short = by (take n rest) refl
  where
    all_are : list_all is_digit (take n rest) ≡ true
    all_are = ap (λ (k : ℕ). list_all is_digit (take k rest)) e ∙ run_passes is_digit rest

    len : length (take n rest) ≡ n
    len = ap (λ (k : ℕ). length (take k rest)) e ∙ run_length is_digit rest ∙ sym e

    within_is : suc n ≤ length (46 ∷ rest)
    within_is = omega (arith, e, run_within is_digit rest)

    by : (ds : List ℕ) → take n rest ≡ ds → Fraction (46 ∷ rest) (suc n)
    by [] t = let l : length (take n rest) ≡ 0 = ap length t in absurd (omega (arith, l, len, some))
    by (d ∷ ds) t = record {
      digits = d ∷ ds;
      all = ap (list_all is_digit) (sym t) ∙ all_are;
      short = let l : length (take n rest) ≡ suc (length ds) = ap length t in omega (arith, l, len, short);
      point_is = let l : length (take n rest) ≡ suc (length ds) = ap length t in omega (arith, l, len);
      text = ap (λ (x : List ℕ). 46 ∷ x) t;
      within = within_is;
    }

pub fraction_some : (bytes : List ℕ) (point : ℕ) → fraction_at bytes ≡ Some point → Fraction bytes point
fraction_some bytes point e = by (begins (nat_eq 46) bytes) refl e
  where
    counted_by : (rest : List ℕ) (u v : Bool) → ltb 0 (prefix_len is_digit rest) ≡ u → leb (prefix_len is_digit rest) 9 ≡ v → cond (u && v) (Some (suc (prefix_len is_digit rest))) None ≡ Some point → Fraction (46 ∷ rest) point
    counted_by rest true true e1 e2 h =
        let n : suc (prefix_len is_digit rest) ≡ point = cc in
        subst (λ (k : ℕ). Fraction (46 ∷ rest) k) n (some_fraction rest (prefix_len is_digit rest) refl (ltb-true 0 (prefix_len is_digit rest) e1) (leb-true (prefix_len is_digit rest) 9 e2))
    counted_by rest true false e1 e2 h = absurd cc
    counted_by rest false v e1 e2 h = absurd cc

    by : (v : Bool) → begins (nat_eq 46) bytes ≡ v → cond v (counted (prefix_len is_digit (drop 1 bytes))) (Some 0) ≡ Some point → Fraction bytes point
    by true h k =
        let d = dot_first bytes h in
        let inner : counted (prefix_len is_digit d.0) ≡ Some point = ap (λ (t : List ℕ). counted (prefix_len is_digit (drop 1 t))) (sym d.1) ∙ k in
        subst (λ (t : List ℕ). Fraction t point) (sym d.1) (counted_by d.0 (ltb 0 (prefix_len is_digit d.0)) (leb (prefix_len is_digit d.0) 9) refl refl inner)
    by false h k = let n : 0 ≡ point = cc in subst (λ (k : ℕ). Fraction bytes k) n (record { digits = []; all = refl; short = omega arith; point_is = refl; text = refl; within = omega arith })

pub take_add : (a b : ℕ) (xs : List ℕ) → take (a + b) xs ≡ take a xs ++ take b (drop a xs)
take_add zero b xs = let e : zero + b ≡ b = omega arith in rw e refl
take_add (suc a) b [] = let e : suc a + b ≡ suc (a + b) = omega arith in rw e (by b)
  where
    by : (b : ℕ) → [] ≡ take {A = ℕ} b []
    by zero = refl
    by (suc b) = refl
take_add (suc a) b (x ∷ xs) = let e : suc a + b ≡ suc (a + b) = omega arith in rw e (ap (λ (t : List ℕ). x ∷ t) (take_add a b xs))

pub drop_add : (a b : ℕ) (xs : List ℕ) → drop (a + b) xs ≡ drop b (drop a xs)
drop_add zero b xs = let e : zero + b ≡ b = omega arith in rw e refl
drop_add (suc a) b [] = let e : suc a + b ≡ suc (a + b) = omega arith in rw e (by b)
  where
    by : (b : ℕ) → [] ≡ drop {A = ℕ} b []
    by zero = refl
    by (suc b) = refl
drop_add (suc a) b (x ∷ xs) = let e : suc a + b ≡ suc (a + b) = omega arith in rw e (drop_add a b xs)

pub part_some : (bytes : List ℕ) (p : Seen) → IsRaised bytes → part_at bytes ≡ Some p → (q : Part) × PartHere bytes p q
part_some bytes p raised_is e = (
  q,
  record {
    is = record {
      some = omega (arith, run_length is_digit bytes, r.some);
      whole = run_passes is_digit bytes;
      fraction = fr.all;
      short = fr.short;
      unit = unit_there;
      exact = ap (λ (k : ℕ). (k * r.size) % 10 ^ length fr.digits) (sym value_known) ∙ ap (λ (k : ℕ). (r.value * r.size) % 10 ^ k) (sym less) ∙ r.exact;
    };
    within = omega (arith, count_is, inside, run_within is_alphabetic (drop k bytes), length-drop k bytes);
    text = ap (λ (n : ℕ). take n bytes) count_is ∙ take_add k (letters_length (drop k bytes)) bytes ∙ ap (λ (t : List ℕ). t ++ letters) front_text ∙ append_assoc_ (take w bytes) (dotted fr.digits) letters;
    count = omega (arith, count_is, part_length q, run_length is_digit bytes, fr.point_is, run_length is_alphabetic (drop k bytes));
    size = ap (λ (x : Seen). x.size) r.part_is;
    value = ap (λ (x : Seen). x.value) r.part_is ∙ ap (λ (n : ℕ). (n * r.size) / 10 ^ (r.point - 1)) value_known ∙ ap (λ (n : ℕ). (value_in 10 (take w bytes ++ fr.digits) * r.size) / 10 ^ n) less;
    plain = λ last. plain_by fr.digits (ap (λ (n : ℕ). ltb 0 n) (sym fr.point_is) ∙ ap (λ (x : Seen). x.last) (sym r.part_is) ∙ last);
    stops = ap (λ (n : ℕ). begins is_alphabetic (drop n bytes)) count_is ∙ ap (begins is_alphabetic) (drop_add k (letters_length (drop k bytes)) bytes) ∙ run_stops is_alphabetic (drop k bytes);
  },
)
  where
    r : Read bytes p
    r = read bytes p e

    w : ℕ
    w = whole_length bytes

    k : ℕ
    k = w + r.point

    fr : Fraction (drop w bytes) r.point
    fr = fraction_some (drop w bytes) r.point r.fraction_is

    letters : List ℕ
    letters = take (letters_length (drop k bytes)) (drop k bytes)

    q : Part
    q = record { whole = take w bytes; fraction = fr.digits; unit = letters; size = r.size }

    count_is : p.length ≡ k + letters_length (drop k bytes)
    count_is = ap (λ (x : Seen). x.length) r.part_is

    less : r.point - 1 ≡ length fr.digits
    less = ap (λ (n : ℕ). n - 1) fr.point_is ∙ dotted_less fr.digits

    front_text : take k bytes ≡ take w bytes ++ dotted fr.digits
    front_text = take_add w r.point bytes ∙ ap (λ (t : List ℕ). take w bytes ++ t) fr.text

    value_known : r.value ≡ value_in 10 (take w bytes ++ fr.digits)
    value_known = (value_some 0 (take k bytes) r.value (omega arith) r.value_is).0 ∙ ap (counted_on 0) front_text ∙ counted_part (take w bytes) fr.digits (run_passes is_digit bytes) fr.all

    inside : k ≤ length bytes
    inside = omega (arith, fr.within, length-drop w bytes, run_within is_digit bytes)

    raised_letters : map raised letters ≡ letters
    raised_letters = sym (take_raised (letters_length (drop k bytes)) (drop k bytes)) ∙ ap (take (letters_length (drop k bytes))) (sym (drop_raised k bytes) ∙ ap (drop k) raised_is)

    unit_there : Contains units (letters, r.size)
    unit_there = subst (λ (t : List ℕ). Contains units (t, r.size)) raised_letters (unit_some letters r.size r.unit_is)

    plain_by : (ds : List ℕ) → ltb 0 (length (dotted ds)) ≡ false → ds ≡ []
    plain_by [] h = refl
    plain_by (d ∷ ds) h = absurd (clash (ltb 0 (suc (suc (length ds)))) (lt-ltb 0 (suc (suc (length ds))) (omega arith)) h)
