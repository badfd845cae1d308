-- Laws of rows of intervals, place by place.
use Rattle.std.proofs.Common.{◌≡◌, ◌≢◌, ℕ, zero, suc, ◌+◌, ◌*◌, ◌^◌, ◌<◌, ◌≤◌, Bool, true, false, List, [], ◌∷◌, length, refl, sym, ◌∙◌, subst, arith, ⊎_elim, replicate, lit<, FitsSigned}
use mir.Syntax.{w128}
use mathlib.Core.Logic.{inl, inr}
use Rattle.std.specs.Int.{int_min, int_max}
use Rattle.std.specs.Prelude.{◌⊎◌, ℤ, pos, negsuc, ◌≤ℤ◌, ◌<ℤ◌, ◌+ℤ◌, ◌-ℤ◌, neg_ℤ, unsigned_abs}
use Rattle.std.proofs.lemmas.Int.{ints, clamps}
use Rattle.interval_domain.specs.Interval.{Interval, Empty, Span, is_within, hull}
use Rattle.cycle_analysis.specs.Pass.{at, put}
use Rattle.cycle_analysis.specs.Rows.{room, rooms, Mapped, Raising}
use Rattle.cycle_analysis.proofs.Intervals.{at-put_same, at-put_other}

pub mapped_none : (f : ℕ → Interval) (is : List Interval) → Mapped f is is zero
mapped_none f is = record { done = λ k h. absurd (omega arith); rest = λ k h. refl }

pub mapped_more : (f : ℕ → Interval) (initial now : List Interval) (place : ℕ) (j : Interval) → place < length now → j ≡ f place → Mapped f initial now place
    → Mapped f initial (put now place j) (place + 1)
mapped_more f initial now place j h e m = record {
  done = λ k l. ⊎_elim
      (λ (s : k ≡ place). subst (λ n. at (put now place j) n ≡ f n) (sym s) (at-put_same now place j h ∙ e))
      (λ (ne : k ≢ place). at-put_other now place k j ne ∙ m.done k (omega arith))
      (grind arith);
  rest = λ k l. let ne : k ≢ place = omega arith in at-put_other now place k j ne ∙ m.rest k (omega arith);
}

-- where nothing has to be put
pub mapped_same : (f : ℕ → Interval) (initial now : List Interval) (place : ℕ) → at now place ≡ f place → Mapped f initial now place
    → Mapped f initial now (place + 1)
mapped_same f initial now place e m = record {
  done = λ k l. ⊎_elim
      (λ (s : k ≡ place). subst (λ n. at now n ≡ f n) (sym s) e)
      (λ (ne : k ≢ place). m.done k (omega arith))
      (grind arith);
  rest = λ k l. m.rest k (omega arith);
}

abs_is : (z : ℤ) → pos 0 ≤ℤ z → pos (unsigned_abs z) ≡ z
abs_is (pos n) h = refl
abs_is (negsuc n) h = absurd (omega (arith, ints))

less_by : (x y z w : ℕ) (c d a b : ℤ) → pos x ≡ c → pos y ≡ d → pos z ≡ a → pos w ≡ b → (c +ℤ d) <ℤ (a +ℤ b) → x + y < z + w
less_by x y z w c d a b p q r s l = omega (arith, ints)

room_fewer : (m : ℕ) (a b c d : ℤ) → neg_ℤ (pos m) ≤ℤ c → d ≤ℤ pos m → c ≤ℤ a → b ≤ℤ d → (c <ℤ a) ⊎ (b <ℤ d)
    → unsigned_abs (c +ℤ pos m) + unsigned_abs (pos m -ℤ d) < unsigned_abs (a +ℤ pos m) + unsigned_abs (pos m -ℤ b)
room_fewer m a b c d p q r s w =
    less_by _ _ _ _ (c +ℤ pos m) (pos m -ℤ d) (a +ℤ pos m) (pos m -ℤ b)
    (abs_is (c +ℤ pos m) (omega (arith, ints))) (abs_is (pos m -ℤ d) (omega (arith, ints))) (abs_is (a +ℤ pos m) (omega (arith, ints))) (abs_is (pos m -ℤ b) (omega (arith, ints)))
    (⊎_elim (λ (h : c <ℤ a). omega (arith, ints)) (λ (h : b <ℤ d). omega (arith, ints)) w)

room_below : (m n x y : ℕ) (c d : ℤ) → pos x ≡ c +ℤ pos m → pos y ≡ pos m -ℤ d → c ≤ℤ pos m → neg_ℤ (pos m) ≤ℤ d → 4 * m < n → x + y < n
room_below m n x y c d p q r s l = omega (arith, ints)

room_some : (c d : ℤ) → neg_ℤ (pos (2 ^ 127)) ≤ℤ c → c ≤ℤ pos (2 ^ 127) → neg_ℤ (pos (2 ^ 127)) ≤ℤ d → d ≤ℤ pos (2 ^ 127)
    → unsigned_abs (c +ℤ pos (2 ^ 127)) + unsigned_abs (pos (2 ^ 127) -ℤ d) < 2 ^ 130
room_some c d p q r s =
    room_below (2 ^ 127) (2 ^ 130) _ _ c d (abs_is (c +ℤ pos (2 ^ 127)) (omega (arith, ints))) (abs_is (pos (2 ^ 127) -ℤ d) (omega (arith, ints))) q r (lit< tt)

outside : (a b c d : ℤ) → is_within (Span c d) (Span a b) ≡ false → (c <ℤ a) ⊎ (b <ℤ d)
outside a b c d e = grind (arith, ints)

-- a join that is larger, of bounds that the code can hold, leaves less room
pub room_less : (old other : Interval) (low high : ℤ) → is_within other old ≡ false → hull old other ≡ Span low high
    → neg_ℤ (pos (2 ^ 127)) ≤ℤ low → low ≤ℤ pos (2 ^ 127) → neg_ℤ (pos (2 ^ 127)) ≤ℤ high → high ≤ℤ pos (2 ^ 127)
    → room (hull old other) < room old
room_less Empty other low high w e p q r s = rw e (room_some low high p q r s)
room_less (Span a b) Empty low high w e p q r s = absurd (grind arith)
room_less (Span a b) (Span c d) low high w e p q r s =
    room_fewer (2 ^ 127) a b (int_min a c) (int_max b d)
    (let f : int_min a c ≡ low = cc in rw f p)
    (let f : int_max b d ≡ high = cc in rw f s)
    (omega (arith, ints, clamps)) (omega (arith, ints, clamps))
    (⊎_elim (λ (h : c <ℤ a). inl (omega (arith, ints, clamps))) (λ (h : b <ℤ d). inr (omega (arith, ints, clamps))) (outside a b c d w))

pub rooms_put : (is : List Interval) (k : ℕ) (j : Interval) → k < length is → room j < room (at is k) → rooms (put is k j) < rooms is
rooms_put [] k j h l = absurd (omega arith)
rooms_put (i ∷ is) zero j h l = omega arith
rooms_put (i ∷ is) (suc k) j h l = let r : rooms (put is k j) < rooms is = rooms_put is k j (omega arith) l in omega arith

-- lists of one length that agree at each place
pub at_all : (is js : List Interval) → length is ≡ length js → ((k : ℕ) → k < length is → at is k ≡ at js k) → is ≡ js
at_all [] [] e h = refl
at_all [] (j ∷ js) e h = absurd (omega arith)
at_all (i ∷ is) [] e h = absurd (omega arith)
at_all (i ∷ is) (j ∷ js) e h =
    let first : i ≡ j = h zero (omega arith) in
    let rest : is ≡ js = at_all is js (omega arith) (λ k l. h (suc k) (omega arith)) in
    cc

pub at_past : (is : List Interval) (k : ℕ) → length is ≤ k → at is k ≡ Empty
at_past [] k h = refl
at_past (i ∷ is) zero h = absurd (omega arith)
at_past (i ∷ is) (suc k) h = at_past is k (omega arith)

pub at_empties : (n k : ℕ) → at (replicate n Empty) k ≡ Empty
at_empties zero k = refl
at_empties (suc n) zero = refl
at_empties (suc n) (suc k) = at_empties n k

pub raise_more : (f : ℕ → Interval) (initial now next : List Interval) (place : ℕ) (grown after : Bool) (old j : Interval) → place < length now → old ≡ at now place → j ≡ f place
    → room j < room old → next ≡ put now place j → after ≡ true → Raising f initial now place grown → Raising f initial next (place + 1) after
raise_more f initial now next place grown after old j h o e l n g m = rw (n, g) (record {
  value = mapped_more f initial now place j h e m.value;
  stays = λ b. absurd (cc);
  smaller = λ b. all grown refl;
})
  where
    less : rooms (put now place j) < rooms now
    less = rooms_put now place j h (subst (λ (i : Interval). room j < room i) o l)

    all : (b : Bool) → grown ≡ b → rooms (put now place j) < rooms initial
    all true e = let s : rooms now < rooms initial = m.smaller e in let t : rooms (put now place j) < rooms now = less in omega arith
    all false e = subst (λ (is : List Interval). rooms (put now place j) < rooms is) (m.stays e) less

pub raise_same : (f : ℕ → Interval) (initial now next : List Interval) (place : ℕ) (grown after : Bool) → at now place ≡ f place
    → next ≡ now → after ≡ grown → Raising f initial now place grown → Raising f initial next (place + 1) after
raise_same f initial now next place grown after e n g m = rw (n, g) (record {
  value = mapped_same f initial now place e m.value;
  stays = m.stays;
  smaller = m.smaller;
})

pub fits_range : (z : ℤ) → FitsSigned w128 z → (neg_ℤ (pos (2 ^ 127)) ≤ℤ z) × (z ≤ℤ pos (2 ^ 127))
fits_range (pos n) h = let g : n < 2 ^ 127 = h.sfits in (omega (arith, ints), omega (arith, ints))
fits_range (negsuc n) h = let g : n < 2 ^ 127 = h.sfits in (omega (arith, ints), omega (arith, ints))
