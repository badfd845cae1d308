-- What a comparison of lists of bytes says, as its answer.
use Rattle.std.proofs.Common.{◌≡◌, ℕ, Bool, true, false, List, sym, refl, true≢false}
use Rattle.std.specs.Prelude.{◌↔◌, IsTrue, bytes_eq}
use Rattle.std.proofs.lemmas.Bool.{false_from_ne_true}
use Rattle.std.proofs.lemmas.Slice.Eq.{bytes_eq-Decides}

pub decided : (b : Bool) (xs ys : List ℕ) → IsTrue b ↔ (xs ≡ ys) → b ≡ bytes_eq xs ys
decided true xs ys h = sym ((bytes_eq-Decides xs ys).1 (h.0 refl))
decided false xs ys h =
    sym (false_from_ne_true (bytes_eq xs ys)
    (λ e. true≢false (sym (h.1 ((bytes_eq-Decides xs ys).0 e)))))
