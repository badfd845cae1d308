-- Which declarations wait for which: a step on the way.
use Rattle.std.specs.Prelude.{◌≡◌, ℕ, ◌<◌, Bool, not, ◌&&◌, List, [], ◌∷◌, ◌++◌, cond, flat_map, length, get_or, nat_eq, nat_lt}
use Rattle.reference_graph.specs.Graph.{Rows, targets}

-- a target in another component
abbrev pub is_apart : List ℕ → ℕ → ℕ → Bool
is_apart numbers a b =
    nat_lt b (length numbers) && not (nat_eq (get_or numbers a 0) (get_or numbers b 0))

abbrev pub if_apart : List ℕ → ℕ → ℕ → List ℕ
if_apart numbers a b = cond (is_apart numbers a b) (b ∷ []) []

abbrev pub apart : List ℕ → ℕ → List ℕ → List ℕ
apart numbers a row = flat_map (if_apart numbers a) row

abbrev pub waits_of : Rows → List ℕ → Rows → List ℕ → ℕ → List ℕ
waits_of leads in_leads values in_all a =
    apart in_leads a (targets leads a) ++ apart in_all a (targets values a)

-- the first rows, n of them
pub record AreWaits (leads : Rows) (in_leads : List ℕ) (values : Rows) (in_all : List ℕ) (n : ℕ) (waits : Rows) : Type 0 where
  pub nodes : length waits ≡ n
  pub rows : (a : ℕ) → a < n → targets waits a ≡ waits_of leads in_leads values in_all a
