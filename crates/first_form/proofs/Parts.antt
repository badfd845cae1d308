-- Where nodes are numbered one after the other, so are the first of them, and those behind.
use Rattle.std.proofs.Common.{◌≡◌, ℕ, suc, ◌+◌, List, [], ◌∷◌, ◌++◌, length, sym, subst, add-zero, arith}
use Rattle.st_tree.specs.declared.node.Node.{Node}
use Rattle.first_form.specs.Nodes.{CountsFrom}

pub counts_left : (n : ℕ) (xs ys : List Node) → CountsFrom n (xs ++ ys) → CountsFrom n xs
counts_left n [] ys h = tt
counts_left n (x ∷ xs) ys h = (h.0, counts_left (suc n) xs ys h.1)

pub counts_right : (n : ℕ) (xs ys : List Node) → CountsFrom n (xs ++ ys)
    → CountsFrom (n + length xs) ys
counts_right n [] ys h = subst (λ m. CountsFrom m ys) (sym (add-zero n)) h
counts_right n (x ∷ xs) ys h =
    let e : suc n + length xs ≡ n + length (x ∷ xs) = omega arith in
    subst (λ m. CountsFrom m ys) e (counts_right (suc n) xs ys h.1)
