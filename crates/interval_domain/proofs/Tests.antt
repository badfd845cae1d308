-- Truth values that occur, and the laws of comparisons and cuts.
use Rattle.std.proofs.Common.{◌≡◌, inl, inr, ◌↔◌, IsTrue, Bool, true, false, not, ◌||◌, if◌then◌else◌, ℤ, pos, ◌≤ℤ◌, ◌<ℤ◌, ◌+ℤ◌, ◌-ℤ◌, int_le, int_lt, arith, subst, sym, refl, ap, ◌∙◌}
use Rattle.std.specs.Int.{int_max, int_min}
use Rattle.std.specs.Ordering.{int_eq}
use Rattle.std.proofs.lemmas.Int.{ints, clamps, by_lt_z}
use Rattle.std.proofs.lemmas.Bool.{cases_Bool, or_cases}
use Rattle.interval_domain.specs.declared.relation.Compare.{Compare}
use Rattle.interval_domain.specs.declared.relation.Compare.TheVariants.{Less, LessEqual, Greater, GreaterEqual, Equal, NotEqual}
use Rattle.interval_domain.specs.Interval.{Interval, Empty, Span, Holds, IsWithin, IsOrdered}
use Rattle.interval_domain.specs.Comparison.{test_of, opposite, Occurs, bounds_allow, may_hold, cut_bounds, cut_row, without, MeetsCutLaws}
use Rattle.interval_domain.proofs.Laws.{span-holds, span-within}
use Rattle.interval_domain.proofs.Between.{holds-within, span-in}
use Rattle.interval_domain.proofs.Bounds.{ordered-low, ordered-high}
use Rattle.interval_domain.proofs.Orders.{lt-yes, lt-no, le-yes, le-no, lt-is, le-is, eq-is, eq-yes, eq-no, and-is, through}
use Rattle.interval_domain.proofs.Strict.{GrowsTwo, grows-where}

-- ---- truth values

not-is : (b : Bool) → not b ≡ true → b ≡ false
not-is true h = cc
not-is false h = refl

or-right : (a b : Bool) → b ≡ true → (a || b) ≡ true
or-right true b h = refl
or-right false b h = h

or-left : (a b : Bool) → a ≡ true → (a || b) ≡ true
or-left a b h = rw h refl

-- ---- what occurs

allowed : (op : Compare) (a b c d x y : ℤ) → a ≤ℤ x → x ≤ℤ b → c ≤ℤ y → y ≤ℤ d → test_of op x y ≡ true
    → bounds_allow op a b c d ≡ true
allowed Less a b c d x y h k l m t = let s : x <ℤ y = lt-is x y t in lt-yes a d (omega (arith, ints))
allowed LessEqual a b c d x y h k l m t = let s : x ≤ℤ y = le-is x y t in le-yes a d (omega (arith, ints))
allowed Greater a b c d x y h k l m t = let s : y <ℤ x = lt-is y x t in lt-yes c b (omega (arith, ints))
allowed GreaterEqual a b c d x y h k l m t = let s : y ≤ℤ x = le-is y x t in le-yes c b (omega (arith, ints))
allowed Equal a b c d x y h k l m t =
    let s : x ≡ y = eq-is x y t in rw (le-yes a d (omega (arith, ints)), le-yes c b (omega (arith, ints))) refl
allowed NotEqual a b c d x y h k l m t =
    by_lt_z a d
    (λ s. or-left (int_lt a d) (int_lt c b) (lt-yes a d s))
    (λ s. by_lt_z c b
    (λ u. or-right (int_lt a d) (int_lt c b) (lt-yes c b u))
    (λ u. let same : x ≡ y = omega (arith, ints) in let w : true ≡ false = sym (eq-yes x y same) ∙ not-is
    (int_eq x y) t in cc))

pub may_hold-from : (op : Compare) (i j : Interval) → Occurs op i j true → may_hold op i j ≡ true
may_hold-from op Empty j (x, y, h, k, t) = absurd h
may_hold-from op (Span a b) Empty (x, y, h, k, t) = absurd k
may_hold-from op (Span a b) (Span c d) (x, y, h, k, t) = allowed op a b c d x y h.0 h.1 k.0 k.1 t

different-no : (a b : ℤ) → a <ℤ b → not (int_eq a b) ≡ true
different-no a b h = ap not (eq-no a b (λ e. absurd (omega (arith, ints))))

different-back : (a b : ℤ) → b <ℤ a → not (int_eq a b) ≡ true
different-back a b h = ap not (eq-no a b (λ e. absurd (omega (arith, ints))))

occurring : (op : Compare) (a b c d : ℤ) → a ≤ℤ b → c ≤ℤ d → bounds_allow op a b c d ≡ true
    → Occurs op (Span a b) (Span c d) true
occurring Less a b c d o p t = (a, d, ordered-low a b o, ordered-high c d p, t)
occurring LessEqual a b c d o p t = (a, d, ordered-low a b o, ordered-high c d p, t)
occurring Greater a b c d o p t = (b, c, ordered-high a b o, ordered-low c d p, t)
occurring GreaterEqual a b c d o p t = (b, c, ordered-high a b o, ordered-low c d p, t)
occurring Equal a b c d o p t =
    let both = and-is (int_le a d) (int_le c b) t in
    let h : a ≤ℤ d = le-is a d both.0 in
    let k : c ≤ℤ b = le-is c b both.1 in (
      int_max a c,
      int_max a c,
      (omega (arith, ints, clamps), omega (arith, ints, clamps)),
      (omega (arith, ints, clamps), omega (arith, ints, clamps)),
      eq-yes (int_max a c) (int_max a c) refl,
    )
occurring NotEqual a b c d o p t =
    elim (or_cases (int_lt a d) (int_lt c b) t) [
      | inl e ↦ (a, d, ordered-low a b o, ordered-high c d p, different-no a d (lt-is a d e))
      | inr e ↦ (b, c, ordered-high a b o, ordered-low c d p, different-back b c (lt-is c b e))
    ]

pub may_hold-occurs : (op : Compare) (i j : Interval) → IsOrdered i → IsOrdered j → may_hold op i j ≡ true
    → Occurs op i j true
may_hold-occurs op Empty j o p t = cc
may_hold-occurs op (Span a b) Empty o p t = cc
may_hold-occurs op (Span a b) (Span c d) o p t = occurring op a b c d o p t

-- ---- the opposite comparison

lt-opposite : (x y : ℤ) → int_le y x ≡ not (int_lt x y)
lt-opposite x y =
    by_lt_z x y (λ s. rw (lt-yes x y s) (le-no y x s)) (λ s. rw (le-yes y x s) (ap not (sym (lt-no x y s))))

le-opposite : (x y : ℤ) → int_lt y x ≡ not (int_le x y)
le-opposite x y = back (int_lt y x) (int_le x y) (lt-opposite y x)
  where
    back : (a b : Bool) → b ≡ not a → a ≡ not b
    back true b e = sym (ap not e)
    back false b e = sym (ap not e)

not-not : (b : Bool) → b ≡ not (not b)
not-not true = refl
not-not false = refl

opposite-test : (op : Compare) (x y : ℤ) → test_of (opposite op) x y ≡ not (test_of op x y)
opposite-test Less x y = lt-opposite x y
opposite-test LessEqual x y = le-opposite x y
opposite-test Greater x y = lt-opposite y x
opposite-test GreaterEqual x y = le-opposite y x
opposite-test Equal x y = refl
opposite-test NotEqual x y = not-not (int_eq x y)

turned : (op : Compare) (i j : Interval) → Occurs (opposite op) i j true → Occurs op i j false
turned op i j (x, y, h, k, t) = (x, y, h, k, not-is (test_of op x y) (sym (opposite-test op x y) ∙ t))

turned-back : (op : Compare) (i j : Interval) → Occurs op i j false → Occurs (opposite op) i j true
turned-back op i j (x, y, h, k, t) = (x, y, h, k, opposite-test op x y ∙ ap not t)

-- ---- the clauses of a comparison

pub yes-occurs : (op : Compare) (i j : Interval) (f : Bool) → IsOrdered i × IsOrdered j → f ≡ may_hold op i j
    → IsTrue f ↔ Occurs op i j true
yes-occurs op i j f o e = (λ t. may_hold-occurs op i j o.0 o.1 (sym e ∙ t), λ h. e ∙ may_hold-from op i j h)

pub no-occurs : (op : Compare) (i j : Interval) (f : Bool) → IsOrdered i × IsOrdered j
    → f ≡ may_hold (opposite op) i j → IsTrue f ↔ Occurs op i j false
no-occurs op i j f o e = (
  λ t. turned op i j (may_hold-occurs (opposite op) i j o.0 o.1 (sym e ∙ t)),
  λ h. e ∙ may_hold-from
      (opposite op) i j (turned-back op i j h),
)

occurs-larger : (op : Compare) (i j k l : Interval) → IsWithin i k → IsWithin j l → Occurs op i j true
    → Occurs op k l true
occurs-larger op i j k l p q (x, y, h, m, t) = (x, y, holds-within i k x p h, holds-within j l y q m, t)

may_hold-larger : (op : Compare) (i j k l : Interval) → IsOrdered i × IsOrdered j → IsWithin i k → IsWithin j l
    → may_hold op i j ≡ true → may_hold op k l ≡ true
may_hold-larger op i j k l o p q t =
    may_hold-from op k l (occurs-larger op i j k l p q (may_hold-occurs op i j o.0 o.1 t))

pub flags-larger : (op : Compare) (i j : Interval) (f g : Bool) → IsOrdered i × IsOrdered j → f ≡ may_hold op i j
    → g ≡ may_hold (opposite op) i j
    → (k l : Interval) → IsWithin i k → IsWithin j l → (IsTrue f → IsTrue (may_hold op k l))
    × (IsTrue g → IsTrue (may_hold (opposite op) k l))
flags-larger op i j f g o e u k l p q =
    (λ t. may_hold-larger op i j k l o p q (sym e ∙ t), λ t. may_hold-larger (opposite op) i j k l o p q (sym u ∙ t))

-- ---- cuts

low-off : (a x number : ℤ) → a ≤ℤ x → (x ≡ number → ⊥) → (if int_eq a number then a +ℤ pos 1 else a) ≤ℤ x
low-off a x number h n =
    elim (cases_Bool (int_eq a number)) [
      | inl e ↦ let same : a ≡ number =
          eq-is a number e in rw e (by_lt_z a x (λ s. omega (arith, ints))
          (λ s. absurd (n (let t : x ≡ number = omega (arith, ints) in t))))
      | inr e ↦ rw e h
    ]

high-off : (b x number : ℤ) → x ≤ℤ b → (x ≡ number → ⊥) → x ≤ℤ (if int_eq b number then b -ℤ pos 1 else b)
high-off b x number h n =
    elim (cases_Bool (int_eq b number)) [
      | inl e ↦ let same : b ≡ number =
          eq-is b number e in rw e (by_lt_z x b (λ s. omega (arith, ints))
          (λ s. absurd (n (let t : x ≡ number = omega (arith, ints) in t))))
      | inr e ↦ rw e h
    ]

held-different : (a b c d x y : ℤ) → a ≤ℤ x → x ≤ℤ b → c ≤ℤ y → y ≤ℤ d → not (int_eq x y) ≡ true
    → Holds (cut_bounds NotEqual a b c d) x
held-different a b c d x y h k l m t =
    elim (cases_Bool (int_eq c d)) [
      | inl e ↦
          let same : c ≡ d = eq-is c d e in
          let there : y ≡ c = omega (arith, ints) in
          let off : x ≡ c → ⊥ = λ f.
          absurd (let w : true ≡ false = sym (eq-yes x y (f ∙ sym there)) ∙ not-is (int_eq x y) t in cc) in
          rw e (span-holds (if int_eq a c then a +ℤ pos 1 else a) (if int_eq b c then b -ℤ pos 1 else b) x
          (low-off a x c h off) (high-off b x c k off))
      | inr e ↦ rw e (span-holds a b x h k)
    ]

held-cut-bounds : (op : Compare) (a b c d x y : ℤ) → a ≤ℤ x → x ≤ℤ b → c ≤ℤ y → y ≤ℤ d → test_of op x y ≡ true
    → Holds (cut_bounds op a b c d) x
held-cut-bounds Less a b c d x y h k l m t =
    let s : x <ℤ y = lt-is x y t in span-holds a (int_min b (d -ℤ pos 1)) x h (omega (arith, ints, clamps))
held-cut-bounds LessEqual a b c d x y h k l m t =
    let s : x ≤ℤ y = le-is x y t in span-holds a (int_min b d) x h (omega (arith, ints, clamps))
held-cut-bounds Greater a b c d x y h k l m t =
    let s : y <ℤ x = lt-is y x t in span-holds (int_max a (c +ℤ pos 1)) b x (omega (arith, ints, clamps)) k
held-cut-bounds GreaterEqual a b c d x y h k l m t =
    let s : y ≤ℤ x = le-is y x t in span-holds (int_max a c) b x (omega (arith, ints, clamps)) k
held-cut-bounds Equal a b c d x y h k l m t =
    let s : x ≡ y = eq-is x y t in span-holds (int_max a c) (int_min b d) x (omega (arith, ints, clamps))
    (omega (arith, ints, clamps))
held-cut-bounds NotEqual a b c d x y h k l m t = held-different a b c d x y h k l m t

held-cut : (op : Compare) (i j : Interval) (x y : ℤ) → Holds i x → Holds j y → test_of op x y ≡ true
    → Holds (cut_row op i j) x
held-cut op Empty j x y h k t = absurd h
held-cut op (Span a b) Empty x y h k t = absurd k
held-cut op (Span a b) (Span c d) x y h k t = held-cut-bounds op a b c d x y h.0 h.1 k.0 k.1 t

low-up : (a number : ℤ) → a ≤ℤ (if int_eq a number then a +ℤ pos 1 else a)
low-up a number =
    elim (cases_Bool (int_eq a number)) [ inl e ↦ rw e (omega (arith, ints)) | inr e ↦ rw e (omega (arith, ints)) ]

high-down : (b number : ℤ) → (if int_eq b number then b -ℤ pos 1 else b) ≤ℤ b
high-down b number =
    elim (cases_Bool (int_eq b number)) [ inl e ↦ rw e (omega (arith, ints)) | inr e ↦ rw e (omega (arith, ints)) ]

within-different : (a b c d : ℤ) → IsWithin (cut_bounds NotEqual a b c d) (Span a b)
within-different a b c d =
    elim (cases_Bool (int_eq c d)) [
      | inl e ↦ rw e (span-in (if int_eq a c then a +ℤ pos 1 else a) (if int_eq b c then b -ℤ pos 1 else b) a b
          (low-up a c) (high-down b c))
      | inr e ↦ rw e (span-in a b a b (omega (arith, ints)) (omega (arith, ints)))
    ]

within-bounds : (op : Compare) (a b c d : ℤ) → IsWithin (cut_bounds op a b c d) (Span a b)
within-bounds Less a b c d =
    span-in a (int_min b (d -ℤ pos 1)) a b (omega (arith, ints)) (omega (arith, ints, clamps))
within-bounds LessEqual a b c d = span-in a (int_min b d) a b (omega (arith, ints)) (omega (arith, ints, clamps))
within-bounds Greater a b c d =
    span-in (int_max a (c +ℤ pos 1)) b a b (omega (arith, ints, clamps)) (omega (arith, ints))
within-bounds GreaterEqual a b c d = span-in (int_max a c) b a b (omega (arith, ints, clamps)) (omega (arith, ints))
within-bounds Equal a b c d =
    span-in (int_max a c) (int_min b d) a b (omega (arith, ints, clamps)) (omega (arith, ints, clamps))
within-bounds NotEqual a b c d = within-different a b c d

within-cut : (op : Compare) (i j : Interval) → IsWithin (cut_row op i j) i
within-cut op Empty j = tt
within-cut op (Span a b) Empty = tt
within-cut op (Span a b) (Span c d) = within-bounds op a b c d

low-larger : (e a number : ℤ) → e ≤ℤ a
    → (if int_eq e number then e +ℤ pos 1 else e) ≤ℤ (if int_eq a number then a +ℤ pos 1 else a)
low-larger e a number h =
    elim (cases_Bool (int_eq a number)) [
      | inl u ↦ rw u
          (elim (cases_Bool (int_eq e number)) [
            | inl v ↦ rw v (omega (arith, ints))
            | inr v ↦ rw v
                (omega (arith, ints))
          ])
      | inr u ↦ rw u (low-off e a number h (λ same. let w : true ≡ false = sym (eq-yes a number same) ∙ u in cc))
    ]

high-larger : (b f number : ℤ) → b ≤ℤ f
    → (if int_eq b number then b -ℤ pos 1 else b) ≤ℤ (if int_eq f number then f -ℤ pos 1 else f)
high-larger b f number h =
    elim (cases_Bool (int_eq b number)) [
      | inl u ↦ rw u
          (elim (cases_Bool (int_eq f number)) [
            | inl v ↦ rw v (omega (arith, ints))
            | inr v ↦ rw v
                (omega (arith, ints))
          ])
      | inr u ↦ rw u (high-off f b number h (λ same. let w : true ≡ false = sym (eq-yes b number same) ∙ u in cc))
    ]

without-larger : (a b e f number : ℤ) → e ≤ℤ a → b ≤ℤ f → IsWithin (without a b number) (without e f number)
without-larger a b e f number h k =
    span-within (if int_eq a number then a +ℤ pos 1 else a) (if int_eq b number then b -ℤ pos 1 else b)
    (if int_eq e number then e +ℤ pos 1 else e) (if int_eq f number then f -ℤ pos 1 else f) (low-larger e a number h)
    (high-larger b f number k)

different-larger : (a b c d e f g n : ℤ) → c ≤ℤ d → e ≤ℤ a → b ≤ℤ f → g ≤ℤ c → d ≤ℤ n
    → IsWithin (cut_bounds NotEqual a b c d) (cut_bounds NotEqual e f g n)
different-larger a b c d e f g n o h k l m =
    elim (cases_Bool (int_eq g n)) [
      | inl u ↦
          let same : g ≡ n = eq-is g n u in
          let single : int_eq c d ≡ true = eq-yes c d (omega (arith, ints)) in
          let number : g ≡ c = omega (arith, ints) in
          rw (u, single) (subst (λ (z : ℤ). IsWithin (without a b c) (without e f z)) (sym number)
          (without-larger a b e f c h k))
      | inr u ↦
          rw u (elim (cases_Bool (int_eq c d)) [
            | inl v ↦
                rw v (span-within (if int_eq a c then a +ℤ pos 1 else a) (if int_eq b c then b -ℤ pos 1 else b) e f
                (through e a (if int_eq a c then a +ℤ pos 1 else a) h (low-up a c))
                (through (if int_eq b c then b -ℤ pos 1 else b) b f (high-down b c) k))
            | inr v ↦ rw v (span-within a b e f h k)
          ])
    ]

bounds-larger : (op : Compare) (a b c d e f g n : ℤ) → c ≤ℤ d → e ≤ℤ a → b ≤ℤ f → g ≤ℤ c → d ≤ℤ n
    → IsWithin (cut_bounds op a b c d) (cut_bounds op e f g n)
bounds-larger Less a b c d e f g n o h k l m =
    span-within a (int_min b (d -ℤ pos 1)) e (int_min f (n -ℤ pos 1)) h (omega (arith, ints, clamps))
bounds-larger LessEqual a b c d e f g n o h k l m =
    span-within a (int_min b d) e (int_min f n) h (omega (arith, ints, clamps))
bounds-larger Greater a b c d e f g n o h k l m =
    span-within (int_max a (c +ℤ pos 1)) b (int_max e (g +ℤ pos 1)) f (omega (arith, ints, clamps)) k
bounds-larger GreaterEqual a b c d e f g n o h k l m =
    span-within (int_max a c) b (int_max e g) f (omega (arith, ints, clamps)) k
bounds-larger Equal a b c d e f g n o h k l m =
    span-within (int_max a c) (int_min b d) (int_max e g) (int_min f n) (omega (arith, ints, clamps))
    (omega (arith, ints, clamps))
bounds-larger NotEqual a b c d e f g n o h k l m = different-larger a b c d e f g n o h k l m

larger-cut : (op : Compare) (i j : Interval) → IsOrdered j → GrowsTwo (cut_row op) i j
larger-cut op i j o k l =
    grows-where (cut_bounds op) (λ i k. Unit {0}) (λ j l. IsOrdered j)
    (λ a b c d e f g n u. bounds-larger op a b c d e f g n) i j k l tt o

pub laws-cut : (op : Compare) (i j out : Interval) → IsOrdered j → out ≡ cut_row op i j → MeetsCutLaws op i j out
laws-cut op i j out o e =
    subst (λ (out : Interval). MeetsCutLaws op i j out) (sym e)
    (record { held = held-cut op i j; within = within-cut op i j; larger = larger-cut op i j o })
