-- The turns of a loop over names, each compared with those behind it.
use Rattle.std.proofs.Common.{◌≡◌, ℕ, ◌+◌, ◌-◌, ◌<◌, List, length, get_or, take, drop, sym, ap, ◌∙◌}
use Rattle.std.specs.Prelude.{flat_map}
use Rattle.std.proofs.lemmas.List.{take_rest}
use Rattle.st_tree.specs.declared.expression.Identifier.{Identifier}
use Rattle.link_faults.specs.First.{after}
use Rattle.link_faults.specs.declared.fault.Faults.{Faults}
use Rattle.link_faults.proofs.Tells as told
use Rattle.body_rules.specs.Surroundings.{Here}
use Rattle.body_rules.specs.Charts.{again, all_again}
use Rattle.body_rules.proofs.Turns.{cut}

pub again_turn : (h : Here) (items : List Identifier) (i : ℕ) (e : Identifier) (old mid new : Faults)
    → i < length items → e ≡ get_or items i e
    → after old (all_again h items) ≡ after mid (all_again h (drop i items))
    → new ≡ after mid (flat_map (again h e)
    (take (length items - (i + 1)) (drop (i + 1) items)))
    → after old (all_again h items) ≡ after new (all_again h (drop (i + 1) items))
again_turn h items i e old mid new lt is so_far noted =
    let rest = drop (i + 1) items in
    let here : new ≡ after mid (flat_map (again h e) rest) =
    noted ∙ ap (λ xs. after mid (flat_map (again h e) xs)) (take_rest items (i + 1)) in
    so_far ∙ ap (λ ys. after mid (all_again h ys)) (cut items i e lt is)
    ∙ told.after_append mid (flat_map (again h e) rest) (all_again h rest)
    ∙ ap (λ m. after m (all_again h rest)) (sym here)
