-- What a unit joins that gives something for one entry alone.
use Rattle.std.proofs.Common.{◌≡◌, ◌≢◌, ℕ, ◌<◌, Bool, true, false, nat_eq, length, arith, sym, subst, ap, ◌∙◌, ⊎_elim, get_or-set_same, get_or-set_other}
use Rattle.std.specs.Prelude.{if◌then◌else◌, slice_set}
use Rattle.std.proofs.lemmas.List.{length-set}
use Rattle.std.proofs.lemmas.Bool.Decides.{nat_tests}
use Rattle.interval_domain.specs.Interval.{Interval, Empty, hull}
use Rattle.least_table.specs.System.{Intervals, at, IsJoined}
use Rattle.least_table.proofs.Within.{hull_empty}

nat_eq_other : (k n : ℕ) → k ≢ n → nat_eq k n ≡ false
nat_eq_other k n ne = grind (arith, nat_tests)

nat_eq_same : (n : ℕ) → nat_eq n n ≡ true
nat_eq_same n = grind (arith, nat_tests)

pub joined_one : (given : ℕ → Interval) (old new : Intervals) (to : ℕ) (i : Interval) → to < length old
    → ((entry : ℕ) → given entry ≡ (if nat_eq entry to then i else Empty))
    → new ≡ slice_set old to (hull (at old to) i) → IsJoined given old new
joined_one given old new to i h g e = rw e (record {
  entries = length-set old to (hull (at old to) i);
  each = λ entry l. ⊎_elim
      (λ (s : entry ≡ to).
      subst (λ (n : ℕ). at (slice_set old to (hull (at old to) i)) n ≡ hull (at old n) (given n)) (sym s)
      (get_or-set_same old to (hull (at old to) i) Empty h
      ∙ ap (λ (j : Interval). hull (at old to) j)
      (sym (g to ∙ ap (λ (b : Bool). if b then i else Empty) (nat_eq_same to)))))
      (λ (ne : entry ≢ to).
      get_or-set_other old to entry (hull (at old to) i) Empty ne
      ∙ sym (hull_empty (at old entry))
      ∙ ap (λ (j : Interval). hull (at old entry) j)
      (sym (g entry ∙ ap (λ (b : Bool). if b then i else Empty) (nat_eq_other entry to ne))))
      (grind arith);
})
