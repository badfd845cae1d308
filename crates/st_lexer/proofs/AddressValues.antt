-- The parts of addresses: what is read of a whole text are its parts, and each address is read.
use Rattle.std.proofs.Common.{◌≡◌, ℕ, zero, suc, Bool, true, false, cond, not, ◌||◌, ◌⊎◌, inl, inr, List, [], ◌∷◌, ◌++◌, length, map, take, codes, Option, Some, None, refl, sym, ap, subst, ◌∙◌, arith}
use Rattle.std.specs.Prelude.{nat_eq}
use Rattle.std.specs.List.{list_all, Contains}
use Rattle.std.specs.Option.{IfSome, IsSome}
use Rattle.std.proofs.lemmas.Bool.{eqb-true, eq-eqb}
use Rattle.std.proofs.lemmas.List.{take_all, append-nil}
use Rattle.iec_tables.specs.Letters.{raised}
use Rattle.st_lexer.specs.declared.values.Area.{Area}
use Rattle.st_lexer.specs.declared.values.Area.TheVariants as area
use Rattle.st_lexer.specs.declared.values.Width.{Width}
use Rattle.st_lexer.specs.declared.values.Width.TheVariants as width
use Rattle.st_lexer.specs.declared.values.AddressValue.{AddressValue}
use Rattle.st_lexer.specs.Bytes.{is_digit, begins, is_joined}
use Rattle.st_lexer.specs.Texts.{IsAddress}
use Rattle.st_lexer.specs.Front.{found_in, numbers_at, numbers_length}
use Rattle.st_lexer.specs.Values.{areas, widths, IsAddressValue}
use Rattle.st_lexer.specs.steps.Readings.{AddressParts, address_parts, numbers_by, read_numbers, area_by_letter, width_by_letter, by_width, read_width, behind_area, read_address}
use Rattle.st_lexer.proofs.Tables.{distinct, found_there, found_row}
use Rattle.st_lexer.proofs.Spaced.{joined}
use Rattle.st_lexer.proofs.Runs.{cons_first, cons_rest}
use Rattle.st_lexer.proofs.Leads.{each_row, raised_same}
use Rattle.st_lexer.proofs.Raising.{raised_append, raised_digit}
use Rattle.st_lexer.proofs.AddressesAt.{numbers, numbers_longest, numbers_stay, numbers_back, numbers_some, numbers_read}

-- ---- letters

abbrev WidthRow : Type 0
WidthRow = Width × List ℕ

abbrev sizes : List (List ℕ)
sizes = [] ∷ codes "X" ∷ codes "B" ∷ codes "W" ∷ codes "D" ∷ codes "L" ∷ []

width_size : (w : Width) (size : List ℕ) → Contains widths (w, size) → Contains sizes size
width_size w size (zero, lt, at) = (0, omega arith, ap (λ (r : WidthRow). r.1) at)
width_size w size (suc zero, lt, at) = (1, omega arith, ap (λ (r : WidthRow). r.1) at)
width_size w size (suc (suc zero), lt, at) = (2, omega arith, ap (λ (r : WidthRow). r.1) at)
width_size w size (suc (suc (suc zero)), lt, at) = (3, omega arith, ap (λ (r : WidthRow). r.1) at)
width_size w size (suc (suc (suc (suc zero))), lt, at) =
    (4, omega arith, ap (λ (r : WidthRow). r.1) at)
width_size w size (suc (suc (suc (suc (suc zero)))), lt, at) =
    (5, omega arith, ap (λ (r : WidthRow). r.1) at)
width_size w size (suc (suc (suc (suc (suc (suc i))))), lt, at) = absurd (omega (arith, lt))

size_width : (size : List ℕ) → Contains sizes size → (w : Width) × Contains widths (w, size)
size_width size (zero, lt, at) =
    (width.Bit, (0, omega arith, ap (λ (s : List ℕ). (width.Bit, s)) at))
size_width size (suc zero, lt, at) =
    (width.Bit, (1, omega arith, ap (λ (s : List ℕ). (width.Bit, s)) at))
size_width size (suc (suc zero), lt, at) =
    (width.Byte, (2, omega arith, ap (λ (s : List ℕ). (width.Byte, s)) at))
size_width size (suc (suc (suc zero)), lt, at) =
    (width.Word, (3, omega arith, ap (λ (s : List ℕ). (width.Word, s)) at))
size_width size (suc (suc (suc (suc zero))), lt, at) =
    (width.DoubleWord, (4, omega arith, ap (λ (s : List ℕ). (width.DoubleWord, s)) at))
size_width size (suc (suc (suc (suc (suc zero)))), lt, at) =
    (width.LongWord, (5, omega arith, ap (λ (s : List ℕ). (width.LongWord, s)) at))
size_width size (suc (suc (suc (suc (suc (suc i))))), lt, at) = absurd (omega (arith, lt))

-- no letter, which is a bit, or one
size_cases : (w : Width) (size : List ℕ) → Contains widths (w, size)
    → ((size ≡ []) × (w ≡ width.Bit)) ⊎ ((c : ℕ) × (size ≡ c ∷ []))
size_cases w size (zero, lt, at) =
    inl (sym (ap (λ (r : WidthRow). r.1) at), sym (ap (λ (r : WidthRow). r.0) at))
size_cases w size (suc zero, lt, at) = inr (88, sym (ap (λ (r : WidthRow). r.1) at))
size_cases w size (suc (suc zero), lt, at) = inr (66, sym (ap (λ (r : WidthRow). r.1) at))
size_cases w size (suc (suc (suc zero)), lt, at) = inr (87, sym (ap (λ (r : WidthRow). r.1) at))
size_cases w size (suc (suc (suc (suc zero))), lt, at) =
    inr (68, sym (ap (λ (r : WidthRow). r.1) at))
size_cases w size (suc (suc (suc (suc (suc zero)))), lt, at) =
    inr (76, sym (ap (λ (r : WidthRow). r.1) at))
size_cases w size (suc (suc (suc (suc (suc (suc i))))), lt, at) = absurd (omega (arith, lt))

abbrev AreaRow : Type 0
AreaRow = Area × List ℕ

area_letter : (a : Area) (letter : ℕ) → Contains areas (a, letter ∷ [])
    → Contains (codes "IQM") letter
area_letter a letter (zero, lt, at) =
    (0, omega arith, cons_first 73 letter [] [] (ap (λ (r : AreaRow). r.1) at))
area_letter a letter (suc zero, lt, at) =
    (1, omega arith, cons_first 81 letter [] [] (ap (λ (r : AreaRow). r.1) at))
area_letter a letter (suc (suc zero), lt, at) =
    (2, omega arith, cons_first 77 letter [] [] (ap (λ (r : AreaRow). r.1) at))
area_letter a letter (suc (suc (suc i)), lt, at) = absurd (omega (arith, lt))

letter_area : (letter : ℕ) → Contains (codes "IQM") letter
    → (a : Area) × Contains areas (a, letter ∷ [])
letter_area letter (zero, lt, at) =
    (area.Input, (0, omega arith, ap (λ (c : ℕ). (area.Input, c ∷ [])) at))
letter_area letter (suc zero, lt, at) =
    (area.Output, (1, omega arith, ap (λ (c : ℕ). (area.Output, c ∷ [])) at))
letter_area letter (suc (suc zero), lt, at) =
    (area.Memory, (2, omega arith, ap (λ (c : ℕ). (area.Memory, c ∷ [])) at))
letter_area letter (suc (suc (suc i)), lt, at) = absurd (omega (arith, lt))

areas_differ : distinct areas ≡ true
unfolding distinct
areas_differ = refl

widths_differ : distinct widths ≡ true
unfolding distinct
widths_differ = refl

-- no letter of a width is a digit
widths_plain : list_all (λ row. not (begins is_digit row.1)) widths ≡ true
widths_plain = refl

not_true : (v : Bool) → not v ≡ true → v ≡ true → ⊥
not_true true a b = cc
not_true false a b = cc

digit_no_width : (f : ℕ) → is_digit f ≡ true → width_by_letter f ≡ None
digit_no_width f e = by (width_by_letter f) refl
  where
    by : (o : Option Width) → width_by_letter f ≡ o → o ≡ None
    by None at = refl
    by (Some w) at =
        let plain =
        each_row (λ row. not (begins is_digit row.1)) widths (w, raised f ∷ []) widths_plain
        (found_there widths (raised f ∷ []) w at) in
        absurd (not_true (is_digit (raised f)) plain (raised_digit f ∙ e))

-- ---- numbers

abbrev Triple : Area → Width → List ℕ → AddressParts
Triple a w numbers = (a, w, numbers)

record Numbered (a : Area) (w : Width) (bytes : List ℕ) (p : AddressParts) : Type 0 where
  pub area_is : a ≡ p.0
  pub width_is : w ≡ p.1
  pub numbers_are : bytes ≡ p.2
  pub are_numbers : is_joined is_digit 46 bytes ≡ true

numbered_some : (a : Area) (w : Width) (bytes : List ℕ) (p : AddressParts)
    → read_numbers a w bytes ≡ Some p → Numbered a w bytes p
numbered_some a w bytes p e = by (numbers_at bytes) refl e
  where
    whole : (n : ℕ) (v : Bool) → numbers_at bytes ≡ Some n → nat_eq n (length bytes) ≡ v
        → cond v (Some (a, w, bytes)) None ≡ Some p → Numbered a w bytes p
    whole n true at is h =
        let same : n ≡ length bytes = eqb-true n (length bytes) is in
        let all : take n bytes ≡ bytes = take_all n bytes (omega (arith, same)) in
        let made : Triple a w bytes ≡ p = cc in
        record {
          area_is = ap (λ (x : AddressParts). x.0) made;
          width_is = ap (λ (x : AddressParts). x.1) made;
          numbers_are = ap (λ (x : AddressParts). x.2) made;
          are_numbers = ap (is_joined is_digit 46) (sym all) ∙ (numbers_some bytes n at).1;
        }
    whole n false at is h = absurd cc

    by : (o : Option ℕ) → numbers_at bytes ≡ o → numbers_by a w bytes o ≡ Some p
        → Numbered a w bytes p
    by None at h = absurd cc
    by (Some n) at h = whole n (nat_eq n (length bytes)) at refl h

numbered_found : (a : Area) (w : Width) (bytes : List ℕ) → is_joined is_digit 46 bytes ≡ true
    → read_numbers a w bytes ≡ Some (a, w, bytes)
numbered_found a w bytes e =
    let j = joined is_digit 46 bytes e in
    let none : bytes ++ [] ≡ bytes = append-nil bytes in
    let read : numbers_at bytes ≡ Some (numbers_length bytes) =
    ap numbers_at (sym none) ∙ numbers_read bytes [] e
    ∙ ap (λ (t : List ℕ). Some (numbers_length t)) none in
    let most = numbers_longest bytes [] j.all j.spaced in
    let count : numbers_length bytes ≡ length bytes =
    omega (arith, most, ap numbers_length none, (numbers bytes).within) in
    let is : nat_eq (numbers_length bytes) (length bytes) ≡ true =
    eq-eqb (numbers_length bytes) (length bytes) count in
    rw (read, is) refl

-- ---- addresses

made : (letter : ℕ) (size rest : List ℕ) (a : Area) (w : Width) (p : AddressParts)
    → Contains areas (a, raised letter ∷ []) → Contains widths (w, map raised size)
    → Numbered a w rest p
    → IsAddressValue (37 ∷ letter ∷ (size ++ rest)) p.0 p.1 p.2
made letter size rest a w p there sized n = record {
  address = record {
    area = raised letter;
    size = map raised size;
    numbers = rest;
    text_is =
        ap (λ (t : List ℕ). 37 ∷ raised letter ∷ t)
        (raised_append size rest
        ∙ ap (λ (t : List ℕ). map raised size ++ t)
        (numbers_stay rest (joined is_digit 46 rest n.are_numbers).all));
    is_area = area_letter a (raised letter) there;
    is_size = width_size w (map raised size) sized;
    are_numbers = n.are_numbers;
  };
  is_area = subst (λ (x : Area). Contains areas (x, raised letter ∷ [])) n.area_is there;
  is_width = subst (λ (x : Width). Contains widths (x, map raised size)) n.width_is sized;
  numbers_are = sym n.numbers_are;
}

located_some : (letter : ℕ) (rest : List ℕ) (a : Area) (p : AddressParts)
    → Contains areas (a, raised letter ∷ []) → read_width a rest ≡ Some p
    → IsAddressValue (37 ∷ letter ∷ rest) p.0 p.1 p.2
located_some letter [] a p there e = absurd cc
located_some letter (f ∷ numbers) a p there e = by (width_by_letter f) refl e
  where
    by : (o : Option Width) → width_by_letter f ≡ o → by_width a o (f ∷ numbers) numbers ≡ Some p
        → IsAddressValue (37 ∷ letter ∷ f ∷ numbers) p.0 p.1 p.2
    by None at h =
        made letter [] (f ∷ numbers) a width.Bit p there (0, omega arith, refl)
        (numbered_some a width.Bit (f ∷ numbers) p h)
    by (Some w) at h =
        made letter (f ∷ []) numbers a w p there (found_there widths (raised f ∷ []) w at)
        (numbered_some a w numbers p h)

pub address_some : (text : List ℕ) (p : AddressParts) → read_address text ≡ Some p
    → IsAddressValue text p.0 p.1 p.2
address_some [] p e = absurd cc
address_some (first ∷ []) p e = absurd (by (nat_eq first 37) e)
  where
    by : (v : Bool) → cond v None None ≡ Some p → ⊥
    by true h = cc
    by false h = cc
address_some (first ∷ letter ∷ rest) p e = by (nat_eq first 37) refl e
  where
    in_area : (o : Option Area) → area_by_letter letter ≡ o → behind_area o rest ≡ Some p
        → IsAddressValue (37 ∷ letter ∷ rest) p.0 p.1 p.2
    in_area None at h = absurd cc
    in_area (Some a) at h =
        located_some letter rest a p (found_there areas (raised letter ∷ []) a at) h

    by : (v : Bool) → nat_eq first 37 ≡ v
        → cond v (behind_area (area_by_letter letter) rest) None ≡ Some p
        → IsAddressValue (first ∷ letter ∷ rest) p.0 p.1 p.2
    by true is h =
        subst (λ (b : ℕ). IsAddressValue (b ∷ letter ∷ rest) p.0 p.1 p.2)
        (sym (eqb-true first 37 is)) (in_area (area_by_letter letter) refl h)
    by false is h = absurd cc

located_found : (rest : List ℕ) (a : Area) (w : Width) (size ns : List ℕ)
    → map raised rest ≡ size ++ ns → Contains widths (w, size) → is_joined is_digit 46 ns ≡ true
    → read_width a rest ≡ Some (a, w, ns)
located_found rest a w size ns e sized n = by (size_cases w size sized)
  where
    all : list_all (λ b. is_digit b || nat_eq b 46) ns ≡ true
    all = (joined is_digit 46 ns n).all

    bare : (xs : List ℕ) → xs ≡ ns → begins is_digit xs ≡ true
        → read_width a xs ≡ Some (a, width.Bit, ns)
    bare [] same first = absurd cc
    bare (f ∷ xs) same first =
        rw (digit_no_width f first)
        (numbered_found a width.Bit (f ∷ xs) (ap (is_joined is_digit 46) same ∙ n)
        ∙ ap (λ (t : List ℕ). Some (a, width.Bit, t)) same)

    lettered : (xs : List ℕ) (c : ℕ) → map raised xs ≡ c ∷ ns → size ≡ c ∷ []
        → read_width a xs ≡ Some (a, w, ns)
    lettered [] c h one = absurd cc
    lettered (f ∷ xs) c h one =
        let same : xs ≡ ns = numbers_back xs ns (cons_rest (raised f) c (map raised xs) ns h) all in
        let letter : raised f ≡ c = cons_first (raised f) c (map raised xs) ns h in
        let there : Contains widths (w, raised f ∷ []) =
        subst (λ (s : List ℕ). Contains widths (w, s))
        (one ∙ ap (λ (x : ℕ). x ∷ []) (sym letter)) sized in
        rw (found_row widths (raised f ∷ []) w widths_differ there)
        (numbered_found a w xs (ap (is_joined is_digit 46) same ∙ n)
        ∙ ap (λ (t : List ℕ). Some (a, w, t)) same)

    by : ((size ≡ []) × (w ≡ width.Bit)) ⊎ ((c : ℕ) × (size ≡ c ∷ []))
        → read_width a rest ≡ Some (a, w, ns)
    by (inl (none, bit)) =
        let same : rest ≡ ns = numbers_back rest ns (e ∙ ap (λ (t : List ℕ). t ++ ns) none) all in
        bare rest same (ap (begins is_digit) same ∙ (joined is_digit 46 ns n).first)
        ∙ ap (λ (x : Width). Some (a, x, ns)) (sym bit)
    by (inr (c, one)) = lettered rest c (e ∙ ap (λ (t : List ℕ). t ++ ns) one) one

found_by : (text : List ℕ) (a : Area) (w : Width) (letter : ℕ) (size ns : List ℕ)
    → map raised text ≡ 37 ∷ letter ∷ (size ++ ns) → Contains areas (a, letter ∷ [])
    → Contains widths (w, size)
    → is_joined is_digit 46 ns ≡ true → read_address text ≡ Some (a, w, ns)
found_by [] a w letter size ns e there sized n = absurd cc
found_by (p ∷ []) a w letter size ns e there sized n = let h =
    cons_rest (raised p) 37 [] (letter ∷ (size ++ ns)) e in absurd cc
found_by (p ∷ b ∷ rest) a w letter size ns e there sized n =
    let first : p ≡ 37 =
    raised_same p 37
    (cons_first (raised p) 37 (raised b ∷ map raised rest) (letter ∷ (size ++ ns)) e) refl in
    let behind = cons_rest (raised p) 37 (raised b ∷ map raised rest) (letter ∷ (size ++ ns)) e in
    let second : raised b ≡ letter =
    cons_first (raised b) letter (map raised rest) (size ++ ns) behind in
    let more : map raised rest ≡ size ++ ns =
    cons_rest (raised b) letter (map raised rest) (size ++ ns) behind in
    let is : nat_eq p 37 ≡ true = eq-eqb p 37 first in
    let in_area : area_by_letter b ≡ Some a =
    ap (λ (c : ℕ). found_in areas (c ∷ [])) second
    ∙ found_row areas (letter ∷ []) a areas_differ there in
    rw (is, in_area) (located_found rest a w size ns more sized n)

pub address_found : (text : List ℕ) (a : Area) (w : Width) (ns : List ℕ)
    → IsAddressValue text a w ns → read_address text ≡ Some (a, w, ns)
address_found text a w ns v =
    found_by text a w v.address.area v.address.size v.address.numbers v.address.text_is v.is_area
    v.is_width v.address.are_numbers ∙ ap (λ (t : List ℕ). Some (a, w, t)) (sym v.numbers_are)

-- ---- each address has its parts

abbrev HasParts : List ℕ → AddressParts → Type 0
HasParts text p = IsAddressValue text p.0 p.1 p.2

pub some_address : (text : List ℕ) → IsAddress text → (p : AddressParts) × HasParts text p
some_address text is =
    let a = letter_area is.area is.is_area in
    let w = size_width is.size is.is_size in (
      (a.0, w.0, is.numbers),
      record { address = is; is_area = a.1; is_width = w.1; numbers_are = refl },
    )

pub one_address : (text : List ℕ) (p q : AddressParts) → HasParts text p → HasParts text q → p ≡ q
one_address text p q x y = let e : Some p ≡ Some q =
    sym (address_found text p.0 p.1 p.2 x) ∙ address_found text q.0 q.1 q.2 y in cc

-- ---- what is answered

pub if_address : (text : List ℕ) (answer : Option AddressValue)
    → address_parts answer ≡ read_address text
    → IfSome answer (λ v. IsAddressValue text v.area v.width v.numbers.now)
if_address text None e = search
if_address text (Some v) e = address_some text (v.area, v.width, v.numbers.now) (sym e)

pub is_address : (text : List ℕ) (answer : Option AddressValue)
    → address_parts answer ≡ read_address text → IsAddress text → IsSome answer
is_address text (Some v) e is = search
is_address text None e is =
    let p = some_address text is in
    let h : None ≡ Some p.0 = e ∙ address_found text p.0.0 p.0.1 p.0.2 p.1 in
    absurd cc
