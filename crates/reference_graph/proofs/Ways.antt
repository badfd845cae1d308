-- Ways in graphs.
use Rattle.std.proofs.Common.{◌≡◌, ℕ, ◌<◌, List, [], length, get_or, arith, sym, subst, inl, inr, ⊎_elim}
use Rattle.std.specs.List.{Contains}
use Rattle.std.proofs.lemmas.List.{get_or_past}
use Rattle.reference_graph.specs.Graph.{Rows, Edge, IsTransposed}
use Rattle.reference_graph.specs.Reach.{Reaches, AreMutual}
use Rattle.reference_graph.specs.Reach.Reaches.{edge, way}
use Rattle.reference_graph.proofs.Places.{below_or_not}

-- a way, and a way or an edge behind it
pub both : (g : Rows) (a b c : ℕ) → Reaches g a b → Reaches g b c → Reaches g a c
both g a b c (edge e) q = way e q
both g a b c (way {b = d} e p) q = way e (both g d b c p q)

pub then_edge : (g : Rows) (a b c : ℕ) → Reaches g a b → Edge g b c → Reaches g a c
then_edge g a b c p e = both g a b c p (edge e)

pub mutual_turned : (g : Rows) (a b : ℕ) → AreMutual g a b → AreMutual g b a
mutual_turned g a b m = ⊎_elim
    (λ (s : a ≡ b). inl (sym s))
    (λ (p : Reaches g a b × Reaches g b a). inr (p.1, p.0))
    m

pub mutual_both : (g : Rows) (a b c : ℕ) → AreMutual g a b → AreMutual g b c → AreMutual g a c
mutual_both g a b c m n = ⊎_elim
    (λ (s : a ≡ b). subst (λ (x : ℕ). AreMutual g x c) (sym s) n)
    (λ (p : Reaches g a b × Reaches g b a). ⊎_elim
    (λ (s : b ≡ c). subst (λ (x : ℕ). AreMutual g a x) s m)
    (λ (q : Reaches g b c × Reaches g c b). inr (both g a b c p.0 q.0, both g c b a q.1 p.1))
    n)
    m

-- ways of the transposed graph are ways turned round
pub turned : (g t : Rows) (a b : ℕ) → IsTransposed g t → Reaches t a b → Reaches g b a
turned g t a b w (edge e) = edge (w.back b a e)
turned g t a b w (way {b = c} e p) = then_edge g b c a (turned g t c b w p) (w.back c a e)

pub transposed_back : (g t : Rows) → IsTransposed g t → IsTransposed t g
transposed_back g t w = record { nodes = sym w.nodes; forth = λ a b e. w.back b a e; back = λ a b e. w.forth b a e }

-- both ends of an edge are nodes
pub from_node : (g : Rows) (a b : ℕ) → Edge g a b → a < length g
from_node g a b e = ⊎_elim
    (λ (l : a < length g). l)
    (λ l. absurd (let none : get_or g a [] ≡ [] = get_or_past g a [] l in
    let c : Contains [] b = subst (λ (row : List ℕ). Contains row b) none e.1 in omega (arith, c.1)))
    (below_or_not a (length g))

pub reaches_node : (g : Rows) (a b : ℕ) → Reaches g a b → a < length g
reaches_node g a b (edge e) = from_node g a b e
reaches_node g a b (way {b = c} e p) = from_node g a c e

pub mutual_transposed : (g t : Rows) (a b : ℕ) → IsTransposed g t → AreMutual t a b → AreMutual g a b
mutual_transposed g t a b w m = ⊎_elim
    (λ (s : a ≡ b). inl s)
    (λ (p : Reaches t a b × Reaches t b a). inr (turned g t b a w p.1, turned g t a b w p.0))
    m
