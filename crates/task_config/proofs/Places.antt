-- The places of names among the cells.
use Rattle.std.proofs.Common.{◌≡◌, ℕ, Bool, false, List, [], ◌∷◌, ◌++◌, Option, Some, None, length, append_assoc, append-nil, not, refl, sym, ap, ◌∙◌, subst, arith}
use Rattle.std.specs.Prelude.{ℤ, map, flat_map, position, bytes_eq, codes, is_some, if◌then◌else◌}
use Rattle.std.proofs.lemmas.Grind.{common_steps, flat_map-append}
use Rattle.std.proofs.lemmas.List.Folds.{position_or_len_push}
use Rattle.std.proofs.lemmas.List.{map-append}
use Rattle.std.proofs.lemmas.List.Sums.{prefix_len-le-length}
use Rattle.std.proofs.lemmas.Slice.Eq.{bytes_eq-Decides}
use Rattle.iec_tables.specs.declared.elem.Elem.{Elem}
use Rattle.first_form.specs.declared.tree.Identifier.{Identifier}
use Rattle.first_form.specs.declared.tree.Unit.{Unit as SourceUnit}
use Rattle.st_tree.specs.declared.code.CellInfo.{CellInfo}
use Rattle.st_tree.specs.declared.code.TaskCode.{TaskCode}
use Rattle.st_tree.specs.Code.{reading}
use Rattle.task_config.specs.Plan.{cell_of, unit_cells}
use Rattle.task_config.specs.Written.{place_among, with_place, written_body, IsWrittenTask, AreTasks}

-- the first place in a list with one more item
pub position_push : {X : Type 0} (p : X → Bool) (xs : List X) (y : X) → position p (xs ++ y ∷ []) ≡ (if is_some (position p xs) then position p xs else (if p y then Some (length xs) else None))
position_push p xs y =
    let b = prefix_len-le-length (λ x. not (p x)) xs in
    grind (arith, common_steps, position_or_len_push p xs y, b)

pub one_more_place : (cells : List CellInfo) (elem : Elem) (identifier : Identifier) (q : List ℕ)
    → with_place (place_among cells) identifier.name (length cells) q ≡ place_among (cells ++ cell_of elem identifier ∷ []) q
one_more_place cells elem identifier q =
    let k = position_push (λ cell. bytes_eq (codes "MAIN." ++ q) cell.path) cells (cell_of elem identifier) in
    let a = bytes_eq-Decides identifier.name q in
    let b = bytes_eq-Decides q identifier.name in
    grind (arith, k, a, b)

pub one_more_name : (old new : List ℕ → Option ℕ) (cells : List CellInfo) (elem : Elem) (identifier : Identifier) → ((q : List ℕ) → new q ≡ with_place old identifier.name (length cells) q)
    → old ≡ place_among cells → new ≡ place_among (cells ++ cell_of elem identifier ∷ [])
one_more_name old new cells elem identifier h e i q = (h q ∙ ap (λ place. with_place place identifier.name (length cells) q) e ∙ one_more_place cells elem identifier q) i

pub one_more_task : (units : List SourceUnit) (tasks : List TaskCode) (unit : SourceUnit) (task : TaskCode) → AreTasks units tasks → IsWrittenTask unit task → AreTasks (units ++ unit ∷ []) (tasks ++ task ∷ [])
one_more_task [] [] unit task h w = (w, tt)
one_more_task [] (t ∷ tasks) unit task h w = absurd h
one_more_task (u ∷ units) [] unit task h w = absurd h
one_more_task (u ∷ units) (t ∷ tasks) unit task h w = (h.0, one_more_task units tasks unit task h.1 w)

pub only_task : (unit : SourceUnit) (tasks : List TaskCode) → AreTasks (unit ∷ []) tasks → (task : TaskCode) × ((tasks ≡ task ∷ []) × IsWrittenTask unit task)
only_task unit [] h = absurd h
only_task unit (t ∷ []) h = (t, (refl, h.0))
only_task unit (t ∷ (t2 ∷ tasks)) h = absurd h.1

pub names_step : (old new : List ℕ → Option ℕ) (cells more : List CellInfo) (elem : Elem) (identifier : Identifier) (name : List ℕ) (place : ℕ) (cell : CellInfo)
    → name ≡ identifier.name → place ≡ length cells → cell ≡ cell_of elem identifier → more ≡ cells ++ cell ∷ []
    → ((q : List ℕ) → new q ≡ with_place old name place q) → old ≡ place_among cells → new ≡ place_among more
names_step old new cells more elem identifier name place cell en ep ec em h e =
    one_more_name old new cells elem identifier
    (λ q. h q ∙ ap (λ (n : List ℕ). with_place old n place q) en ∙ ap (λ (k : ℕ). with_place old identifier.name k q) ep) e
    ∙ ap place_among (sym (em ∙ ap (λ (x : CellInfo). cells ++ x ∷ []) ec))

pub new_place : (place : List ℕ → Option ℕ) (name : List ℕ) (at : ℕ) (q : List ℕ) → is_some (place name) ≡ false → (if bytes_eq name q then Some at else place q) ≡ with_place place name at q
new_place place name at q e = ap (λ (b : Bool). if b then place q else (if bytes_eq name q then Some at else place q)) (sym e)

pub tasks_step : (units us : List SourceUnit) (tasks ts : List TaskCode) (unit : SourceUnit) (task : TaskCode)
    → us ≡ units ++ unit ∷ [] → ts ≡ tasks ++ task ∷ [] → AreTasks units tasks → task.cells ≡ unit_cells unit
    → reading task.code ≡ written_body (place_among task.cells) unit.body → AreTasks us ts
tasks_step units us tasks ts unit task eu et h cells code =
    subst (λ (x : List SourceUnit). AreTasks x ts) (sym eu) (subst (λ (x : List TaskCode). AreTasks (units ++ unit ∷ []) x) (sym et)
    (one_more_task units tasks unit task h (record { cells = cells; code = code ∙ ap (λ (x : List CellInfo). written_body (place_among x) unit.body) cells })))

pub cells_step : (f : Identifier → CellInfo) (before cells more : List CellInfo) (xs ys : List Identifier) (x : Identifier) (cell : CellInfo)
    → cells ≡ before ++ map f xs → more ≡ cells ++ cell ∷ [] → cell ≡ f x → ys ≡ xs ++ x ∷ [] → more ≡ before ++ map f ys
cells_step f before cells more xs ys x cell e m c y =
    let k = map-append f xs (x ∷ []) in
    let a = append_assoc before (map f xs) (f x ∷ []) in
    cc

pub literals_step : (f : SourceUnit → List ℤ) (before more : List ℤ) (xs ys : List SourceUnit) (x : SourceUnit)
    → before ≡ flat_map f xs → more ≡ before ++ f x → ys ≡ xs ++ x ∷ [] → more ≡ flat_map f ys
literals_step f before more xs ys x e m y =
    let k = flat_map-append f xs (x ∷ []) in
    let n = append-nil (f x) in
    cc
