-- How the stored lists stand for the rows of a graph.
use Rattle.std.proofs.Common.{◌≡◌, ℕ, zero, suc, ◌+◌, ◌-◌, ◌<◌, ◌≤◌, List, [], ◌∷◌, ◌++◌, length, get_or, take, drop, arith, refl, sym, subst, ap, ◌∙◌, length-drop, add-one}
use Rattle.std.specs.List.{slice_range}
use Rattle.std.proofs.lemmas.List.{take-append-le, drop-append-le, take_rest, get_or_default}
use Rattle.reference_graph.specs.Graph.{Rows, with_target}
use Rattle.reference_graph.specs.Graph as graphs
use Rattle.reference_graph.specs.steps.Stored.{rows, AreStarts}

pub length_rows : (starts stored : List ℕ) → length (rows starts stored) ≡ length starts
length_rows [] stored = refl
length_rows (start ∷ starts) stored = ap suc (length_rows starts stored)

next_start : (starts : List ℕ) (end d : ℕ) → get_or (starts ++ end ∷ []) 0 d ≡ get_or starts 0 end
next_start [] end d = refl
next_start (start ∷ starts) end d = refl

-- a range that lies before what is added
range_before : (xs more : List ℕ) (from to : ℕ) → from ≤ to → to ≤ length xs → slice_range (xs ++ more) from to ≡ slice_range xs from to
range_before xs more from to a b =
    let l : from ≤ length xs = omega arith in
    ap (λ (ys : List ℕ). take (to - from) ys) (drop-append-le from xs more l)
    ∙ take-append-le (to - from) (drop from xs) more (omega (arith, length-drop from xs))

-- a range to the end
range_to_end : (xs more : List ℕ) (from : ℕ) → from ≤ length xs → slice_range (xs ++ more) from (length (xs ++ more)) ≡ slice_range xs from (length xs) ++ more
range_to_end xs more from l =
    take_rest (xs ++ more) from ∙ drop-append-le from xs more l ∙ ap (λ (ys : List ℕ). ys ++ more) (sym (take_rest xs from))

pub rows_add : (starts stored more : List ℕ) → AreStarts starts (length stored)
    → rows (starts ++ length stored ∷ []) (stored ++ more) ≡ rows starts stored ++ more ∷ []
rows_add [] stored more s =
    ap (λ (row : List ℕ). row ∷ []) (range_to_end stored more (length stored) (omega arith) ∙ ap (λ (row : List ℕ). row ++ more) (none stored))
  where
    none : (xs : List ℕ) → slice_range xs (length xs) (length xs) ≡ []
    none xs = let zero : length xs - length xs ≡ 0 = omega arith in ap (λ (n : ℕ). take n (drop (length xs) xs)) zero
rows_add (start ∷ starts) stored more s =
    let first : slice_range (stored ++ more) start (get_or (starts ++ length stored ∷ []) 0 (length (stored ++ more))) ≡ slice_range stored start (get_or starts 0 (length stored)) =
    ap (λ (end : ℕ). slice_range (stored ++ more) start end) (next_start starts (length stored) (length (stored ++ more)))
    ∙ range_before stored more start (get_or starts 0 (length stored)) s.0 s.1 in
    ap (λ (row : List ℕ). row ∷ rows (starts ++ length stored ∷ []) (stored ++ more)) first
    ∙ ap (λ (rest : Rows). slice_range stored start (get_or starts 0 (length stored)) ∷ rest) (rows_add starts stored more s.2)

pub rows_edge : (starts stored : List ℕ) (b : ℕ) → AreStarts starts (length stored) → rows starts (stored ++ b ∷ []) ≡ with_target (rows starts stored) b
rows_edge [] stored b s = refl
rows_edge (start ∷ []) stored b s = ap (λ (row : List ℕ). row ∷ []) (range_to_end stored (b ∷ []) start s.0)
rows_edge (start ∷ next ∷ starts) stored b s =
    ap (λ (row : List ℕ). row ∷ rows (next ∷ starts) (stored ++ b ∷ [])) (range_before stored (b ∷ []) start next s.0 s.1)
    ∙ ap (λ (rest : Rows). slice_range stored start next ∷ rest) (rows_edge (next ∷ starts) stored b s.2)

-- the end moves on
pub starts_longer : (starts : List ℕ) (end longer : ℕ) → end ≤ longer → AreStarts starts end → AreStarts starts longer
starts_longer [] end longer l s = tt
starts_longer (start ∷ []) end longer l s = (omega (arith, s.0), omega arith, tt)
starts_longer (start ∷ next ∷ starts) end longer l s = (s.0, omega (arith, s.1), starts_longer (next ∷ starts) end longer l s.2)

pub starts_add : (starts : List ℕ) (end : ℕ) → AreStarts starts end → AreStarts (starts ++ end ∷ []) end
starts_add [] end s = (omega arith, omega arith, tt)
starts_add (start ∷ starts) end s =
    (subst (λ (n : ℕ). start ≤ n) (sym (next_start starts end end)) s.0, subst (λ (n : ℕ). n ≤ end) (sym (next_start starts end end)) s.1, starts_add starts end s.2)

-- the row of a node lies between
pub record IsRow (g : Rows) (stored : List ℕ) (a start end : ℕ) : Type 0 where
  pub order : start ≤ end
  pub within : end ≤ length stored
  pub row : slice_range stored start end ≡ graphs.targets g a

pub row_at : (starts stored : List ℕ) (a : ℕ) → AreStarts starts (length stored) → a < length starts
    → IsRow (rows starts stored) stored a (get_or starts a 0) (get_or starts (suc a) (length stored))
row_at [] stored a s l = absurd (omega arith)
row_at (start ∷ starts) stored zero s l = record { order = s.0; within = s.1; row = refl }
row_at (start ∷ starts) stored (suc a) s l =
    let r = row_at starts stored a s.2 (omega arith) in record { order = r.order; within = r.within; row = r.row }

-- a node with its targets is added, and a target to the last node
pub node_added : (starts stored : List ℕ) (g : Rows) (more starts' stored' : List ℕ) → AreStarts starts (length stored) → rows starts stored ≡ g
    → starts' ≡ starts ++ length stored ∷ [] → stored' ≡ stored ++ more → rows starts' stored' ≡ g ++ more ∷ []
node_added starts stored g more starts' stored' s v e f =
    rw (e, f) (rows_add starts stored more s ∙ ap (λ (h : Rows). h ++ more ∷ []) v)

pub target_added : (starts stored : List ℕ) (g : Rows) (b : ℕ) (stored' : List ℕ) → AreStarts starts (length stored) → rows starts stored ≡ g
    → stored' ≡ stored ++ b ∷ [] → rows starts stored' ≡ with_target g b
target_added starts stored g b stored' s v f = rw f (rows_edge starts stored b s ∙ ap (λ (h : Rows). with_target h b) v)

pub starts_added : (starts : List ℕ) (end longer : ℕ) (starts' : List ℕ) → AreStarts starts end → end ≤ longer → starts' ≡ starts ++ end ∷ []
    → AreStarts starts' longer
starts_added starts end longer starts' s l e = rw e (starts_longer (starts ++ end ∷ []) end longer l (starts_add starts end s))

pub node_stored : (starts stored : List ℕ) (g : Rows) (a : ℕ) → rows starts stored ≡ g → a < length g → a < length starts
node_stored starts stored g a v l = omega (arith, length_rows starts stored, ap (λ (h : Rows). length h) v)

pub row_of : (starts stored xs : List ℕ) (g : Rows) (a start end len : ℕ) → AreStarts starts (length stored) → rows starts stored ≡ g → a < length g
    → xs ≡ starts → len ≡ length stored → start ≡ get_or starts a start → end ≡ get_or xs (a + 1) len → IsRow g stored a start end
row_of starts stored xs g a start end len s v l x n e f =
    let l' : a < length starts = node_stored starts stored g a v l in
    let first : start ≡ get_or starts a 0 = e ∙ get_or_default starts a start 0 l' in
    let last : end ≡ get_or starts (suc a) (length stored) =
    f ∙ ap (λ (ys : List ℕ). get_or ys (a + 1) len) x ∙ ap (λ (d : ℕ). get_or starts (a + 1) d) n
    ∙ ap (λ (k : ℕ). get_or starts k (length stored)) (add-one a) in
    subst (λ (h : Rows). IsRow h stored a start end) v
    (subst (λ (k : ℕ). IsRow (rows starts stored) stored a k end) (sym first)
    (subst (λ (k : ℕ). IsRow (rows starts stored) stored a (get_or starts a 0) k) (sym last) (row_at starts stored a s l')))
