-- What the queue of waiting units and the lists of readers keep.
use Rattle.std.proofs.Common.{◌≡◌, ◌≢◌, ℕ, zero, suc, ◌+◌, ◌<◌, ◌≤◌, Bool, true, false, cond, List, [], ◌∷◌, ◌++◌, length, get_or, arith, refl, sym, subst, ap, ◌∙◌, inl, inr, ⊎_elim, get_or-set_other, length-append, add-one, append-nil, replicate, take}
use Rattle.std.specs.Prelude.{◌⊎◌, slice_set}
use Rattle.std.specs.List.{Contains, filter, range_with_len}
use Rattle.std.proofs.lemmas.List.{length-set, length-replicate, get_or_push, get_or_past, take_more}
use Rattle.std.proofs.Math.ListN.{get_or-append}
use Rattle.std.proofs.lemmas.List.Elements.{filter-append, Contains-append_left, Contains-append_right, Contains-push_cases}
use Rattle.least_table.specs.System.{Meaning, readers_of}
use Rattle.least_table.proofs.Ranges.{in_range, below_range}
use Rattle.least_table.specs.steps.Worklist.{AreMarked, IsQueued}

one_of : (k n : ℕ) → (k ≡ n) ⊎ (k ≢ n)
one_of k n = grind arith

pub first_in : (x : ℕ) (xs : List ℕ) → Contains (x ∷ xs) x
first_in x xs = (0, omega arith, refl)

later_in : (x y : ℕ) (xs : List ℕ) → Contains xs y → Contains (x ∷ xs) y
later_in x y xs c = (suc c.0, omega (arith, c.1), c.2)

pub in_either : (x y : ℕ) (xs : List ℕ) → Contains (x ∷ xs) y → (x ≡ y) ⊎ Contains xs y
in_either x y xs (zero, l, e) = inl e
in_either x y xs (suc k, l, e) = inr (k, omega arith, e)

-- ---- the first unit is taken, and its mark

pub taken : (marks : List Bool) (unit : ℕ) (queue : List ℕ) → AreMarked marks (unit ∷ queue)
    → AreMarked (slice_set marks unit false) queue
taken marks unit queue m = record {
  inside =
      λ other c. let l : other < length marks = m.inside other (later_in unit other queue c) in
      omega (arith, length-set marks unit false);
  waiting = λ other e. ⊎_elim
      (λ (s : other ≡ unit).
      absurd (let off : get_or (slice_set marks unit false) other false ≡ false = subst (λ (n : ℕ). get_or (slice_set marks unit false) n false ≡ false) (sym s) (off marks unit) in cc))
      (λ (ne : other ≢ unit). ⊎_elim
      (λ (s : unit ≡ other). absurd (ne (sym s)))
      (λ (c : Contains queue other). c)
      (in_either unit other queue (m.waiting other (sym (get_or-set_other marks unit other false false ne) ∙ e))))
      (one_of other unit);
}
  where
    off : (marks : List Bool) (unit : ℕ) → get_or (slice_set marks unit false) unit false ≡ false
    off [] unit = refl
    off (b ∷ bs) zero = refl
    off (b ∷ bs) (suc unit) = off bs unit

-- ---- a unit is put behind

pub queued_new : (unit : ℕ) (queue : List ℕ) → IsQueued (unit ∷ []) queue (queue ++ unit ∷ [])
queued_new unit queue = record {
  kept = λ other c. Contains-append_left queue (unit ∷ []) other c;
  put = λ other c. Contains-append_right queue (unit ∷ []) other c;
  longer = omega (arith, length-append queue (unit ∷ []));
  bounded = omega (arith, length-append queue (unit ∷ []));
}

pub queued_already : (unit : ℕ) (queue : List ℕ) → Contains queue unit → IsQueued (unit ∷ []) queue queue
queued_already unit queue w = record {
  kept = λ other c. c;
  put =
      λ other c. ⊎_elim (λ (e : unit ≡ other). subst (λ (n : ℕ). Contains queue n) e w)
      (λ (d : Contains [] other). absurd (omega (arith, d.1))) (in_either unit other [] c);
  longer = omega arith;
  bounded = omega arith;
}

pub marked_new : (marks : List Bool) (unit : ℕ) (queue : List ℕ) → unit < length marks → AreMarked marks queue
    → AreMarked (slice_set marks unit true) (queue ++ unit ∷ [])
marked_new marks unit queue l m = record {
  inside = λ other c. ⊎_elim
      (λ (d : Contains queue other). let k : other < length marks = m.inside other d in
      omega (arith, length-set marks unit true))
      (λ (e : unit ≡ other). omega (arith, length-set marks unit true))
      (Contains-push_cases queue unit other c);
  waiting = λ other e. ⊎_elim
      (λ (s : other ≡ unit). subst (λ (n : ℕ). Contains (queue ++ unit ∷ []) n) (sym s)
      (Contains-append_right queue (unit ∷ []) unit (first_in unit [])))
      (λ (ne : other ≢ unit). Contains-append_left queue (unit ∷ []) other
      (m.waiting other (sym (get_or-set_other marks unit other true false ne) ∙ e)))
      (one_of other unit);
}

pub queued_none : (queue : List ℕ) → IsQueued [] queue queue
queued_none queue =
    record {
      kept = λ other c. c;
      put = λ other c. absurd (omega (arith, c.1));
      longer = omega arith;
      bounded = omega arith;
    }

pub queued_more : (units : List ℕ) (unit : ℕ) (before between after : List ℕ) → IsQueued units before between
    → IsQueued (unit ∷ []) between after
    → IsQueued (units ++ unit ∷ []) before after
queued_more units unit before between after p q = record {
  kept = λ other c. q.kept other (p.kept other c);
  put = λ other c. ⊎_elim
      (λ (d : Contains units other). q.kept other (p.put other d))
      (λ (e : unit ≡ other). q.put other (subst (λ (n : ℕ). Contains (unit ∷ []) n) e (first_in unit [])))
      (Contains-push_cases units unit other c);
  longer = omega (arith, p.longer, q.longer);
  bounded = omega (arith, p.bounded, q.bounded, length-append units (unit ∷ []));
}

-- ---- ranges, and filters of them

range_suc : (a n : ℕ) → range_with_len a (suc n) ≡ range_with_len a n ++ (a + n) ∷ []
range_suc a zero = ap (λ (k : ℕ). k ∷ []) (omega arith)
range_suc a (suc n) =
    ap (λ (xs : List ℕ). a ∷ xs) (range_suc (a + 1) n ∙ ap (λ (k : ℕ). range_with_len (a + 1) n ++ k ∷ [])
    (omega arith))

pub range_more : (n : ℕ) → range_with_len 0 (n + 1) ≡ range_with_len 0 n ++ n ∷ []
range_more n = rw add-one (range_suc 0 n ∙ ap (λ (k : ℕ). range_with_len 0 n ++ k ∷ []) (omega arith))

pub filter_yes : (p : ℕ → Bool) (n : ℕ) → p n ≡ true
    → filter p (range_with_len 0 (n + 1)) ≡ filter p (range_with_len 0 n) ++ n ∷ []
filter_yes p n e =
    ap (λ (xs : List ℕ). filter p xs) (range_more n)
    ∙ filter-append p (range_with_len 0 n) (n ∷ [])
    ∙ ap (λ (b : Bool). filter p (range_with_len 0 n) ++ cond b (n ∷ []) []) e

pub filter_no : (p : ℕ → Bool) (n : ℕ) → p n ≡ false
    → filter p (range_with_len 0 (n + 1)) ≡ filter p (range_with_len 0 n)
filter_no p n e =
    ap (λ (xs : List ℕ). filter p xs) (range_more n)
    ∙ filter-append p (range_with_len 0 n) (n ∷ [])
    ∙ ap (λ (b : Bool). filter p (range_with_len 0 n) ++ cond b (n ∷ []) []) e
    ∙ append-nil (filter p (range_with_len 0 n))

-- ---- the lists of readers, as far as they are made

pub record AreFirstReaders (m : Meaning) (readers : List (List ℕ)) (n : ℕ) : Type 0 where
  pub entries : length readers ≡ n
  pub each : (entry : ℕ) → entry < n → get_or readers entry [] ≡ readers_of m entry

pub readers_none : (m : Meaning) → AreFirstReaders m [] 0
readers_none m = record { entries = refl; each = λ entry l. absurd (omega arith) }

pub readers_more : (m : Meaning) (readers : List (List ℕ)) (n : ℕ) (units : List ℕ) → AreFirstReaders m readers n
    → units ≡ readers_of m n
    → AreFirstReaders m (readers ++ units ∷ []) (n + 1)
readers_more m readers n units r e = record {
  entries = omega (arith, length-append readers (units ∷ []), r.entries);
  each = λ entry l. ⊎_elim
      (λ (s : entry ≡ n).
      subst (λ (k : ℕ). get_or (readers ++ units ∷ []) k [] ≡ readers_of m k) (sym s)
      (get_or_push readers units [] n r.entries ∙ e))
      (λ (ne : entry ≢ n).
      let low : entry < n = omega arith in
      get_or-append readers (units ∷ []) [] entry (omega (arith, r.entries)) ∙ r.each entry low)
      (one_of entry n);
}

-- ---- all units wait

pub marked_all : (n : ℕ) → AreMarked (replicate n true) (range_with_len 0 n)
marked_all n = record {
  inside = λ unit c. let l : unit < n = below_range n unit c in omega (arith, length-replicate n true);
  waiting = λ unit e. ⊎_elim
      (λ (l : unit < n). in_range n unit l)
      (λ (l : n ≤ unit).
      absurd (let past : get_or (replicate n true) unit false ≡ false = get_or_past (replicate n true) unit false (omega (arith, length-replicate n true)) in cc))
      (inside_or unit n);
}
  where
    inside_or : (k n : ℕ) → (k < n) ⊎ (n ≤ k)
    inside_or k n = grind arith

-- ---- units of a list put behind in turn

pub queued_next : (units : List ℕ) (i : ℕ) (before between after : List ℕ) → i < length units
    → IsQueued (take i units) before between
    → IsQueued (get_or units i 0 ∷ []) between after → IsQueued (take (i + 1) units) before after
queued_next units i before between after l p q =
    rw (take_more units i 0 l) (queued_more (take i units) (get_or units i 0) before between after p q)
