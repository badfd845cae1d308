-- Parts one after the other, each with the counter that the one before it left.
use Rattle.std.specs.Prelude.{List, [], ◌∷◌, Option, Some, None}
use Rattle.tree_numbers.specs.declared.numbers.Counting.{Counting}

-- with this counter, this is made, and that counter is left
abbrev pub Turn : Type 0 → Type 0
Turn A = Counting → A × Counting

abbrev pub kept : {A : Type 0} → A → Turn A
kept x s = (x, s)

abbrev pub turn1 : {A R : Type 0} → (A → R) → Turn A → Turn R
turn1 make f s = (make (f s).0, (f s).1)

abbrev pub turn2 : {A B R : Type 0} → (A → B → R) → Turn A → Turn B → Turn R
turn2 make f g s = (make (f s).0 (g (f s).1).0, (g (f s).1).1)

abbrev pub turn3 : {A B C R : Type 0} → (A → B → C → R) → Turn A → Turn B → Turn C → Turn R
turn3 make f g h s = (make (f s).0 (g (f s).1).0 (h (g (f s).1).1).0, (h (g (f s).1).1).1)

abbrev pub turn4 : {A B C D R : Type 0} → (A → B → C → D → R)
    → Turn A → Turn B → Turn C → Turn D → Turn R
turn4 make f g h i s =
    let two = h (g (f s).1).1 in
    (make (f s).0 (g (f s).1).0 two.0 (i two.1).0, (i two.1).1)

abbrev pub turn5 : {A B C D E R : Type 0} → (A → B → C → D → E → R)
    → Turn A → Turn B → Turn C → Turn D → Turn E → Turn R
turn5 make f g h i j s =
    let two = h (g (f s).1).1 in
    (make (f s).0 (g (f s).1).0 two.0 (i two.1).0 (j (i two.1).1).0, (j (i two.1).1).1)

abbrev pub paired : {A B : Type 0} → A → B → A × B
paired x y = (x, y)

abbrev pub each : {A : Type 0} → List (Turn A) → Turn (List A)
each [] s = ([], s)
each (f ∷ fs) s = ((f s).0 ∷ (each fs (f s).1).0, (each fs (f s).1).1)

abbrev pub perhaps : {A : Type 0} → Option (Turn A) → Turn (Option A)
perhaps None s = (None, s)
perhaps (Some f) s = (Some (f s).0, (f s).1)
