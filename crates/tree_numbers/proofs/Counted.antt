-- Nodes numbered one after the other.
use Rattle.std.proofs.Common.{◌≡◌, ℕ, zero, suc, ◌+◌, List, [], ◌∷◌, map, length, Some, slice_get, ◌++◌, refl, sym, ap, ◌∙◌, append_assoc, arith}
use Rattle.std.proofs.lemmas.List.{append-nil, length-append}
use Rattle.std.specs.Option.{option_map}
use Rattle.st_tree.specs.declared.node.Node.{Node}
use Rattle.tree_numbers.specs.declared.numbers.Counting.{Counting}
use Rattle.tree_numbers.specs.NumberedAt.{numbered_at}
use Rattle.tree_numbers.specs.steps.Turns.{each}
use Rattle.tree_numbers.specs.steps.Counted.{counted}

-- the first bytes of nodes
abbrev starts_of : List Node → List ℕ
starts_of ns = map (λ node. node.start) ns

pub counted_rest : (ns : List Node) (c : Counting) →
    (each (map counted ns) c).1
    ≡ record { comments = c.comments; starts = c.starts ++ starts_of ns }
counted_rest [] c =
    ap (λ (l : List ℕ). record { comments = c.comments; starts = l }) (sym (append-nil c.starts))
counted_rest (x ∷ ns) c =
    counted_rest ns (counted x c).1
    ∙ ap (λ (l : List ℕ). record { comments = c.comments; starts = l })
    (append_assoc c.starts (x.start ∷ []) (starts_of ns))

pub counted_at : (ns : List Node) (c : Counting) (k : ℕ) →
    slice_get (each (map counted ns) c).0 k
    ≡ option_map (numbered_at c.comments (length c.starts + k)) (slice_get ns k)
counted_at [] c k = refl
counted_at (x ∷ ns) c zero = ap (λ n. Some (numbered_at c.comments n x)) (omega arith)
counted_at (x ∷ ns) c (suc k) =
    counted_at ns (counted x c).1 k
    ∙ ap (λ n. option_map (numbered_at c.comments n) (slice_get ns k))
    (omega (arith, length-append c.starts (x.start ∷ [])))

-- some nodes, and then others
abbrev pub and_then : List Node → List Node × Counting → List Node × Counting
and_then ms r = (r.0 ++ (each (map counted ms) r.1).0, (each (map counted ms) r.1).1)

pub counted_append : (ns ms : List Node) (c : Counting) →
    each (map counted (ns ++ ms)) c ≡ and_then ms (each (map counted ns) c)
counted_append [] ms c = refl
counted_append (x ∷ ns) ms c =
    ap (λ (r : List Node × Counting). ((counted x c).0 ∷ r.0, r.1))
    (counted_append ns ms (counted x c).1)
