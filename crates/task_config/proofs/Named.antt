-- A name of a unit has a place among its cells, and it is the same as that among the names.
use Rattle.std.proofs.Common.{◌≡◌, length, ◌<◌, ℕ, true, List, [], ◌∷◌, ◌++◌, Some, refl, sym, ap, ◌∙◌, arith}
use Rattle.std.specs.Prelude.{Bool, map, flat_map, codes, position, bytes_eq}
use Rattle.std.specs.List.{position_or_len, list_any}
use Rattle.std.proofs.lemmas.List.{map-append}
use Rattle.std.proofs.lemmas.List.Quantifiers.{position-Some}
use Rattle.std.proofs.lemmas.List.Concat.{flat_map-cons}
use Rattle.iec_tables.specs.declared.elem.Elem.{Elem}
use Rattle.first_form.specs.declared.tree.Identifier.{Identifier}
use Rattle.first_form.specs.declared.tree.Decl.{Decl}
use Rattle.first_form.specs.declared.tree.Section.{Section}
use Rattle.first_form.specs.declared.tree.Unit.{Unit as SourceUnit}
use Rattle.st_tree.specs.declared.code.CellInfo.{CellInfo}
use Rattle.std.proofs.lemmas.Option.{none-some}
use Rattle.std.proofs.lemmas.Grind.{common_steps}
use Rattle.first_form.specs.Names.{unit_names}
use Rattle.task_config.specs.Plan.{cell_of, decl_cells, unit_cells}
use Rattle.task_config.specs.Written.{place_among}

-- what passes has a place
len_there : {X : Type 0} (p : X → Bool) (xs : List X) → list_any p xs ≡ true → position_or_len p xs < length xs
len_there p [] h = cc
len_there p (x ∷ xs) h = grind (arith, common_steps, len_there p xs)

pub place_there : {X : Type 0} (p : X → Bool) (xs : List X) → list_any p xs ≡ true → (k : ℕ) × (position p xs ≡ Some k)
place_there p xs h =
    let l = len_there p xs h in
    (position_or_len p xs, grind (arith, common_steps))

pub place_within : {X : Type 0} (p : X → Bool) (xs : List X) (k : ℕ) → position p xs ≡ Some k → k < length xs
place_within p [] k e = absurd (none-some k e)
place_within p (x ∷ xs) k e = (position-Some p (x ∷ xs) k x e).0

len_map : {X : Type 0} (p : X → Bool) (xs : List X) → position_or_len (λ b. b) (map p xs) ≡ position_or_len p xs
len_map p [] = refl
len_map p (x ∷ xs) = let ih = len_map p xs in cc

map_len : {X : Type 0} (p : X → Bool) (xs : List X) → length (map p xs) ≡ length xs
map_len p [] = refl
map_len p (x ∷ xs) = let ih = map_len p xs in cc

position_map : {X : Type 0} (p : X → Bool) (xs : List X) → position (λ b. b) (map p xs) ≡ position p xs
position_map p xs = let a = len_map p xs in let b = map_len p xs in cc

flat_same : {X Y Z : Type 0} (p : Y → Bool) (r : Z → Bool) (f : X → List Y) (g : X → List Z) → ((x : X) → map p (f x) ≡ map r (g x)) → (xs : List X) → map p (flat_map f xs) ≡ map r (flat_map g xs)
flat_same p r f g h [] = refl
flat_same p r f g h (x ∷ xs) =
    ap (map p) (flat_map-cons f x xs) ∙ map-append p (f x) (flat_map f xs) ∙ ap (λ (b : List Bool). b ++ map p (flat_map f xs)) (h x) ∙ ap (λ (b : List Bool). map r (g x) ++ b) (flat_same p r f g h xs)
    ∙ sym (map-append r (g x) (flat_map g xs)) ∙ sym (ap (map r) (flat_map-cons g x xs))

decl_same : (q : List ℕ) (elem : Elem) (ids : List Identifier) → map (λ (cell : CellInfo). bytes_eq (codes "MAIN." ++ q) cell.path) (map (cell_of elem) ids) ≡ map (bytes_eq q) (map (λ (identifier : Identifier). identifier.name) ids)
decl_same q elem [] = refl
decl_same q elem (x ∷ ids) = ap (λ (b : List Bool). bytes_eq q x.name ∷ b) (decl_same q elem ids)

-- a test of a cell's name passes where that of the name does
marks : (unit : SourceUnit) (q : List ℕ) → map (λ (cell : CellInfo). bytes_eq (codes "MAIN." ++ q) cell.path) (unit_cells unit) ≡ map (bytes_eq q) (unit_names unit)
marks unit q =
    let p : CellInfo → Bool = λ cell. bytes_eq (codes "MAIN." ++ q) cell.path in
    flat_same p (bytes_eq q) (λ (section : Section). flat_map decl_cells section.decls) (λ (section : Section). flat_map (λ (decl : Decl). map (λ (identifier : Identifier). identifier.name) decl.names) section.decls)
    (λ section. flat_same p (bytes_eq q) decl_cells (λ (decl : Decl). map (λ (identifier : Identifier). identifier.name) decl.names) (λ decl. decl_same q decl.spec.elem decl.names) section.decls) unit.sections

pub place_names : (unit : SourceUnit) (q : List ℕ) → place_among (unit_cells unit) q ≡ position (bytes_eq q) (unit_names unit)
place_names unit q =
    sym (position_map (λ cell. bytes_eq (codes "MAIN." ++ q) cell.path) (unit_cells unit)) ∙ ap (position (λ b. b)) (marks unit q) ∙ position_map (bytes_eq q) (unit_names unit)

-- there is a cell for each name
pub cells_count : (unit : SourceUnit) → length (unit_names unit) ≡ length (unit_cells unit)
cells_count unit =
    sym (map_len (bytes_eq []) (unit_names unit)) ∙ sym (ap (length {A = Bool}) (marks unit [])) ∙ map_len (λ (cell : CellInfo). bytes_eq (codes "MAIN." ++ []) cell.path) (unit_cells unit)
