-- Runs, one evaluation longer.
use Rattle.std.proofs.Common.{◌≡◌, ℕ, ◌+◌, ◌<◌, List, [], ◌∷◌, ◌++◌, length, replicate, arith, refl, sym, subst, length-append}
use Rattle.interval_domain.specs.Interval.{Empty}
use Rattle.least_table.specs.System.{Meaning, Intervals, IsJoined, IsRun, IsFoundBy}

pub found_none : (m : Meaning) (before entries : ℕ) → entries ≡ length m.widest → IsFoundBy m before before (replicate entries Empty)
found_none m before entries e = subst (λ (n : ℕ). IsFoundBy m before before (replicate n Empty)) (sym e) ([], refl, omega arith)

run_more : (m : Meaning) (units : List ℕ) (unit : ℕ) (start table next : Intervals) → IsRun m units start table
    → unit < m.units → IsJoined (m.gives unit table) table next → IsRun m (units ++ unit ∷ []) start next
run_more m [] unit start table next e u j =
    (u, (next, subst (λ (t : Intervals). IsJoined (m.gives unit t) t next) e j, refl))
run_more m (first ∷ units) unit start table next (f, (middle, k, r)) u j =
    (f, (middle, k, run_more m units unit middle table next r u j))

pub found_more : (m : Meaning) (unit before after more : ℕ) (table next : Intervals) → IsFoundBy m before after table
    → unit < m.units → IsJoined (m.gives unit table) table next → more ≡ after + 1 → IsFoundBy m before more next
found_more m unit before after more table next (units, r, e) u j f = (
  units ++ unit ∷ [],
  run_more m units unit (replicate (length m.widest) Empty) table next r u j,
  omega (arith, length-append units (unit ∷ [])),
)
