-- How many elements dimensions have together.
use Rattle.std.proofs.Common.{◌≡◌, ℕ, zero, suc, ◌+◌, ◌*◌, ◌<◌, ◌≤◌, List, [], ◌∷◌, length, get_or, drop, Option, Some, None, refl, sym, ap, ◌∙◌, add-one, drop-cons, arith}
use Rattle.std.proofs.Math.Nat.{one-le-mul, mul_assoc}
use Rattle.std.proofs.lemmas.Nat.{mul-le}
use Rattle.declared_types.specs.declared.forms.Dim.{Dim}
use Rattle.declared_types.specs.Specifications.{max_elements, length_of, count_of}
use Rattle.declared_types.specs.steps.Telling.{counted}

pub some : (ds : List Dim) → 1 ≤ count_of ds
some [] = omega arith
some (d ∷ ds) = one-le-mul (omega arith) (some ds)

pub too_large : (n : ℕ) → max_elements < n → None ≡ counted n
too_large n h = grind (arith)

pub fitting : (n : ℕ) → n ≤ max_elements → Some n ≡ counted n
fitting n h = grind (arith)

parted : (ds : List Dim) (i : ℕ) (d : Dim) → i < length ds → d ≡ get_or ds i d
    → drop i ds ≡ d ∷ drop (i + 1) ds
parted ds i d lt is = rw add-one (drop-cons ds i d lt ∙ ap (λ y. y ∷ drop (suc i) ds) (sym is))

cut : (ds : List Dim) (i : ℕ) (d : Dim) → i < length ds → d ≡ get_or ds i d
    → count_of (drop i ds) ≡ length_of d * count_of (drop (i + 1) ds)
cut ds i d lt is = ap count_of (parted ds i d lt is)

-- one more dimension
pub one_more : (ds : List Dim) (i : ℕ) (d : Dim) (c : ℕ) → i < length ds → d ≡ get_or ds i d
    → count_of ds ≡ c * count_of (drop i ds)
    → count_of ds ≡ (c * length_of d) * count_of (drop (i + 1) ds)
one_more ds i d c lt is e = e ∙ ap (λ n. c * n) (cut ds i d lt is)
    ∙ sym (mul_assoc c (length_of d) (count_of (drop (i + 1) ds)))

-- where those so far are too many, all are
pub above : (n c r : ℕ) → n ≡ c * r → 1 ≤ r → max_elements < c → max_elements < n
above n c r e one h = rw e (omega (arith, h, mul-le c 1 c r (omega arith) one))

none_above : (n : ℕ) → None ≡ counted n → max_elements < n
none_above n h = grind (arith)

some_within : (n m : ℕ) → Some m ≡ counted n → (m ≡ n) × (n ≤ max_elements)
some_within n m h = grind (arith)

get_at : (ds : List Dim) (i : ℕ) (x : Dim) → i < length ds → get_or ds i x ≡ get_or ds i (get_or ds i x)
get_at [] i x lt = absurd (omega (arith, lt))
get_at (d ∷ ds) zero x lt = refl
get_at (d ∷ ds) (suc i) x lt = get_at ds i x (omega (arith, lt))

pub stops : (ds : List Dim) (i : ℕ) (x : Dim) (c : ℕ) (r : Option ℕ) → i < length ds
    → count_of ds ≡ c * count_of (drop i ds) → r ≡ counted (c * length_of (get_or ds i x))
    → r ≡ None → None ≡ counted (count_of ds)
stops ds i x c r lt e told none =
    let d : Dim = get_or ds i x in
    too_large (count_of ds)
    (above (count_of ds) (c * length_of d) (count_of (drop (i + 1) ds))
    (one_more ds i d c lt (get_at ds i x lt) e)
    (some (drop (i + 1) ds)) (none_above (c * length_of d) (sym none ∙ told)))

pub goes : (ds : List Dim) (i : ℕ) (x : Dim) (c m : ℕ) (r : Option ℕ) → i < length ds
    → ((count_of ds ≡ c * count_of (drop i ds)) × (1 ≤ c) × (c ≤ max_elements))
    → r ≡ counted (c * length_of (get_or ds i x)) → r ≡ Some m
    → (count_of ds ≡ m * count_of (drop (i + 1) ds)) × (1 ≤ m) × (m ≤ max_elements)
goes ds i x c m r lt h told found =
    let d : Dim = get_or ds i x in
    let w = some_within (c * length_of d) m (sym found ∙ told) in
    record {
      0 = one_more ds i d c lt (get_at ds i x lt) h.0
          ∙ ap (λ n. n * count_of (drop (i + 1) ds)) (sym w.0);
      1 = rw w.0 (one-le-mul h.1 (omega arith));
      2 = rw w.0 w.1;
    }
