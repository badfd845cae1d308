-- The front of a list whose bytes pass a test.
use Rattle.std.proofs.Common.{◌≡◌, ℕ, suc, ◌+◌, ◌≤◌, Bool, true, false, cond, List, [], ◌∷◌, ◌++◌, length, take, drop, refl, sym, ap, ◌∙◌, arith}
use Rattle.std.specs.List.{list_all, prefix_len}
use Rattle.std.proofs.lemmas.List.{length-take, take-append-drop}
use Rattle.std.proofs.lemmas.List.Sums.{prefix_len-le-length}
use Rattle.st_lexer.specs.Bytes.{begins}
use Rattle.st_lexer.proofs.Tests.{both}

run_passes_by : (p : ℕ → Bool) (b : ℕ) (bs : List ℕ) (v : Bool) → p b ≡ v → list_all p (take (prefix_len p bs) bs) ≡ true → list_all p (take (cond v (1 + prefix_len p bs) 0) (b ∷ bs)) ≡ true
run_passes_by p b bs true is h = let e : 1 + prefix_len p bs ≡ suc (prefix_len p bs) = omega arith in rw (e, is) h
run_passes_by p b bs false is h = refl

pub run_passes : (p : ℕ → Bool) (bs : List ℕ) → list_all p (take (prefix_len p bs) bs) ≡ true
run_passes p [] = refl
run_passes p (b ∷ bs) = run_passes_by p b bs (p b) refl (run_passes p bs)

run_stops_by : (p : ℕ → Bool) (b : ℕ) (bs : List ℕ) (v : Bool) → p b ≡ v → begins p (drop (prefix_len p bs) bs) ≡ false → begins p (drop (cond v (1 + prefix_len p bs) 0) (b ∷ bs)) ≡ false
run_stops_by p b bs true is h = let e : 1 + prefix_len p bs ≡ suc (prefix_len p bs) = omega arith in rw e h
run_stops_by p b bs false is h = is

pub run_stops : (p : ℕ → Bool) (bs : List ℕ) → begins p (drop (prefix_len p bs) bs) ≡ false
run_stops p [] = refl
run_stops p (b ∷ bs) = run_stops_by p b bs (p b) refl (run_stops p bs)

pub run_within : (p : ℕ → Bool) (bs : List ℕ) → prefix_len p bs ≤ length bs
run_within p bs = prefix_len-le-length p bs

pub run_length : (p : ℕ → Bool) (bs : List ℕ) → length (take (prefix_len p bs) bs) ≡ prefix_len p bs
run_length p bs = omega (arith, length-take (prefix_len p bs) bs, run_within p bs)

-- bytes that pass are no more than the run
pub run_longest : (p : ℕ → Bool) (xs rest : List ℕ) → list_all p xs ≡ true → length xs ≤ prefix_len p (xs ++ rest)
run_longest p [] rest h = omega arith
run_longest p (x ∷ xs) rest h = let parts = both (p x) (list_all p xs) h in rw parts.0 (omega (arith, run_longest p xs rest parts.1))

-- bytes that pass, up to one that doesn't, are the run
pub run_exact : (p : ℕ → Bool) (xs rest : List ℕ) → list_all p xs ≡ true → begins p rest ≡ false → prefix_len p (xs ++ rest) ≡ length xs
run_exact p [] [] h e = refl
run_exact p [] (r ∷ rest) h e = rw e refl
run_exact p (x ∷ xs) rest h e = let parts = both (p x) (list_all p xs) h in rw parts.0 (omega (arith, run_exact p xs rest parts.1 e))

pub take_front : (xs rest : List ℕ) → take (length xs) (xs ++ rest) ≡ xs
take_front [] rest = refl
take_front (x ∷ xs) rest = ap (λ (t : List ℕ). x ∷ t) (take_front xs rest)

pub drop_front : (xs rest : List ℕ) → drop (length xs) (xs ++ rest) ≡ rest
drop_front [] rest = refl
drop_front (x ∷ xs) rest = drop_front xs rest

-- the run and what follows it, where the bytes are known to be such a front
pub record Front (p : ℕ → Bool) (bytes xs rest : List ℕ) : Type 0 where
  pub count : prefix_len p bytes ≡ length xs
  pub run : take (prefix_len p bytes) bytes ≡ xs
  pub behind : drop (prefix_len p bytes) bytes ≡ rest

pub front_is : (p : ℕ → Bool) (bytes xs rest : List ℕ) → bytes ≡ xs ++ rest → list_all p xs ≡ true → begins p rest ≡ false → Front p bytes xs rest
front_is p bytes xs rest e h stops =
    let n : prefix_len p bytes ≡ length xs = ap (prefix_len p) e ∙ run_exact p xs rest h stops in
    record {
      count = n;
      run = ap (λ (k : ℕ). take k bytes) n ∙ ap (take (length xs)) e ∙ take_front xs rest;
      behind = ap (λ (k : ℕ). drop k bytes) n ∙ ap (drop (length xs)) e ∙ drop_front xs rest;
    }

-- the bytes, cut behind their run
pub run_split : (p : ℕ → Bool) (bytes : List ℕ) → bytes ≡ take (prefix_len p bytes) bytes ++ drop (prefix_len p bytes) bytes
run_split p bytes = sym (take-append-drop (prefix_len p bytes) bytes)

pub split_at : (n : ℕ) (bytes : List ℕ) → bytes ≡ take n bytes ++ drop n bytes
split_at n bytes = sym (take-append-drop n bytes)

-- all pass a wider test
pub all_wider : (p q : ℕ → Bool) → ((b : ℕ) → p b ≡ true → q b ≡ true) → (xs : List ℕ) → list_all p xs ≡ true → list_all q xs ≡ true
all_wider p q h [] e = refl
all_wider p q h (x ∷ xs) e = let parts = both (p x) (list_all p xs) e in rw (h x parts.0) (all_wider p q h xs parts.1)

pub all_append : (p : ℕ → Bool) (xs ys : List ℕ) → list_all p xs ≡ true → list_all p ys ≡ true → list_all p (xs ++ ys) ≡ true
all_append p [] ys h k = k
all_append p (x ∷ xs) ys h k = let parts = both (p x) (list_all p xs) h in rw parts.0 (all_append p xs ys parts.1 k)

pub all_of_append : (p : ℕ → Bool) (xs ys : List ℕ) → list_all p (xs ++ ys) ≡ true → (list_all p xs ≡ true) × (list_all p ys ≡ true)
all_of_append p [] ys h = (refl, h)
all_of_append p (x ∷ xs) ys h =
    let parts = both (p x) (list_all p (xs ++ ys)) h in
    let more = all_of_append p xs ys parts.1 in
    (rw parts.0 more.0, more.1)

-- ---- lists

pub append_assoc_ : (xs ys zs : List ℕ) → (xs ++ ys) ++ zs ≡ xs ++ (ys ++ zs)
append_assoc_ [] ys zs = refl
append_assoc_ (x ∷ xs) ys zs = ap (λ (t : List ℕ). x ∷ t) (append_assoc_ xs ys zs)

pub cons_first : (b c : ℕ) (bs cs : List ℕ) → b ∷ bs ≡ c ∷ cs → b ≡ c
cons_first b c bs cs e = cc

pub cons_rest : (b c : ℕ) (bs cs : List ℕ) → b ∷ bs ≡ c ∷ cs → bs ≡ cs
cons_rest b c bs cs e = cc

-- two fronts of one list, of one length, are one
pub same_front : (xs ys r s : List ℕ) → xs ++ r ≡ ys ++ s → length xs ≡ length ys → xs ≡ ys
same_front [] [] r s e n = refl
same_front [] (y ∷ ys) r s e n = absurd (omega (arith, n))
same_front (x ∷ xs) [] r s e n = absurd (omega (arith, n))
same_front (x ∷ xs) (y ∷ ys) r s e n =
    let first = cons_first x y (xs ++ r) (ys ++ s) e in
    let more = same_front xs ys r s (cons_rest x y (xs ++ r) (ys ++ s) e) (omega (arith, n)) in
    ap (λ (z : ℕ). z ∷ xs) first ∙ ap (λ (zs : List ℕ). y ∷ zs) more
