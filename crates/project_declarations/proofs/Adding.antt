-- Rows that are added one after the other.
use Rattle.std.proofs.Common.{◌≡◌, ◌∙◌, ℕ, suc, ◌+◌, List, [], ◌∷◌, ◌++◌, length}
use Rattle.std.proofs.Common.{ap, sym, refl, subst, arith}
use Rattle.std.specs.Prelude.{map, flat_map}
use Rattle.std.proofs.lemmas.List.{append_assoc, append-nil, map-append, length-map, length-append}
use Rattle.std.proofs.lemmas.Grind.{flat_map-append}
use Rattle.st_tree.specs.declared.node.Node.{Node}
use Rattle.st_tree.specs.declared.expression.Identifier.{Identifier}
use Rattle.st_tree.specs.declared.file.SourceTree.{SourceTree}
use Rattle.st_tree.specs.declared.file.Unit.{Unit}
use Rattle.project_declarations.specs.declared.scopes.TheConstants as scope
use Rattle.project_declarations.specs.declared.rows.What.TheVariants as what
use Rattle.project_declarations.specs.Named.{Named, named, site_of, each_from, values_of}
use Rattle.project_declarations.specs.Named.{unit_names}
use Rattle.project_declarations.specs.Declarations.{Declaration, Placed, joined, placed}
use Rattle.project_declarations.specs.Declarations.{unit_decls, units_from, outer_decls, outer_names}
use Rattle.project_declarations.specs.Declarations.{outer_decls_from, outer_names_from}
use Rattle.project_declarations.specs.Declarations.{decls_of_units, names_of_units}
use Rattle.project_declarations.specs.Rows.{Adds, AddsUnits, bare_unit}
use Rattle.project_declarations.specs.Rows.{units_in, decls_in, names_in}
use Rattle.project_declarations.specs.declared.collected.Collected.{Collected}

pub adds_nothing : (c : Collected) → Adds c c [] [] []
adds_nothing c = record {
  units_are = sym (append-nil (units_in c));
  decls_are = sym (append-nil (decls_in c));
  names_are = sym (append-nil (names_in c));
}

more : {A : Type 0} (a b c xs ys : List A) → b ≡ a ++ xs → c ≡ b ++ ys → c ≡ a ++ (xs ++ ys)
more a b c xs ys h k = k ∙ ap (λ l. l ++ ys) h ∙ append_assoc a xs ys

pub adds_more :
    {a b c : Collected} {us vs : List Placed} {ds es : List Declaration} {ns ms : List Named}
    → Adds a b us ds ns → Adds b c vs es ms → Adds a c (us ++ vs) (ds ++ es) (ns ++ ms)
adds_more {a} {b} {c} {us} {vs} {ds} {es} {ns} {ms} h k = record {
  units_are = more (units_in a) (units_in b) (units_in c) us vs h.units_are k.units_are;
  decls_are = more (decls_in a) (decls_in b) (decls_in c) ds es h.decls_are k.decls_are;
  names_are = more (names_in a) (names_in b) (names_in c) ns ms h.names_are k.names_are;
}

-- the same declarations and names in another form
retold : {a c : Collected} {us : List Placed} {ds es : List Declaration} {ns ms : List Named}
    → Adds a c us ds ns → es ≡ ds → ms ≡ ns → Adds a c us es ms
retold {a} {c} h d n = record {
  units_are = h.units_are;
  decls_are = h.decls_are ∙ ap (λ l. decls_in a ++ l) (sym d);
  names_are = h.names_are ∙ ap (λ l. names_in a ++ l) (sym n);
}

flat_map-next : {A B : Type 0} (f : A → List B) (done next : List A) (x : A)
    → next ≡ done ++ x ∷ [] → flat_map f next ≡ flat_map f done ++ f x
flat_map-next f done next x e =
    ap (flat_map f) e ∙ flat_map-append f done (x ∷ [])
    ∙ ap (λ l. flat_map f done ++ l) (append-nil (f x))

-- the next turn of a loop that adds the rows of each of a list
pub adds_each : {X : Type 0} (f : X → List Declaration) (g : X → List Named) {a b c : Collected}
    (done next : List X) (x : X) → next ≡ done ++ x ∷ []
    → Adds a b [] (flat_map f done) (flat_map g done) → Adds b c [] (f x) (g x)
    → Adds a c [] (flat_map f next) (flat_map g next)
adds_each f g done next x e h k =
    retold (adds_more h k) (flat_map-next f done next x e) (flat_map-next g done next x e)

-- the next turn of a loop that adds one name for each of a list
pub adds_name : {X : Type 0} (g : X → Named) {a b c : Collected} (done next : List X) (x : X)
    → next ≡ done ++ x ∷ [] → Adds a b [] [] (map g done) → Adds b c [] [] (g x ∷ [])
    → Adds a c [] [] (map g next)
adds_name g done next x e h k =
    retold (adds_more h k) refl (ap (map g) e ∙ map-append g done (x ∷ []))

each_from-append : {A B : Type 0} (f : ℕ → A → B) (k n : ℕ) (xs ys : List A)
    → n ≡ k + length xs → each_from f k (xs ++ ys) ≡ each_from f k xs ++ each_from f n ys
each_from-append f k n [] ys e = ap (λ m. each_from f m ys) (omega arith)
each_from-append f k n (x ∷ xs) ys e =
    ap (λ l. f k x ∷ l) (each_from-append f (suc k) n xs ys (omega arith))

-- the next turn of a loop that adds the values of an enumeration
pub adds_value : (file : ℕ) (node : Node) {a b c : Collected} (done next : List Identifier)
    (x : Identifier) (k : ℕ) → next ≡ done ++ x ∷ [] → k ≡ length done
    → Adds a b [] [] (values_of file node done)
    → Adds b c [] [] (named file scope.VALUES x (what.Value (site_of file node) k) ∷ [])
    → Adds a c [] [] (values_of file node next)
adds_value file node done next x k e count h m =
    let value = λ (n : ℕ) (y : Identifier).
    named file scope.VALUES y (what.Value (site_of file node) n) in
    retold (adds_more h m) refl
    (ap (each_from value 0) e ∙ each_from-append value 0 k done (x ∷ []) (omega arith))

joined-each : {A B : Type 0} (f : ℕ → A → List B) (k n : ℕ) (xs ys : List A) → n ≡ k + length xs
    → joined (each_from f k (xs ++ ys)) ≡ joined (each_from f k xs) ++ joined (each_from f n ys)
joined-each f k n xs ys e =
    ap joined (each_from-append f k n xs ys e)
    ∙ flat_map-append (λ l. l) (each_from f k xs) (each_from f n ys)

joined-next : {A B : Type 0} (f : ℕ → A → List B) (k n : ℕ) (xs next : List A) (x : A)
    → next ≡ xs ++ x ∷ [] → n ≡ k + length xs
    → joined (each_from f k next) ≡ joined (each_from f k xs) ++ f n x
joined-next f k n xs next x e count =
    ap (λ l. joined (each_from f k l)) e ∙ joined-each f k n xs (x ∷ []) count
    ∙ ap (λ l. joined (each_from f k xs) ++ l) (append-nil (f n x))

-- the next turn of a loop over files that adds the rows of each
pub adds_file : {a b c : Collected} (done next : List SourceTree) (x : SourceTree) (k : ℕ)
    → next ≡ done ++ x ∷ [] → k ≡ length done
    → Adds a b [] (outer_decls_from 0 done) (outer_names_from 0 done)
    → Adds b c [] (outer_decls k x) (outer_names k x)
    → Adds a c [] (outer_decls_from 0 next) (outer_names_from 0 next)
adds_file done next x k e count h m =
    retold (adds_more h m)
    (joined-next outer_decls 0 k done next x e (omega arith))
    (joined-next outer_names 0 k done next x e (omega arith))

abbrev declared_by : ℕ → Placed → List Declaration
declared_by = λ k x. unit_decls x.file k x.unit

abbrev named_by : ℕ → Placed → List Named
named_by = λ k x. unit_names x.file k x.unit

abbrev units_before : Collected → ℕ
units_before c = length c.units.items

-- as many units as there were, and these
counted : {a b : Collected} (us : List Placed) → AddsUnits a b us
    → units_before b ≡ units_before a + length us
counted {a} {b} us h =
    sym (length-map b.units.items bare_unit) ∙ ap length h.units_are
    ∙ length-append (units_in a) us ∙ ap (λ n. n + length us) (length-map a.units.items bare_unit)

-- units behind units
pub adds_units : {a b c : Collected} (us vs : List Placed)
    → AddsUnits a b us → AddsUnits b c vs → AddsUnits a c (us ++ vs)
adds_units {a} {b} us vs h m =
    retold (adds_more h m)
    (joined-each declared_by (units_before a) (units_before b) us vs (counted us h))
    (joined-each named_by (units_before a) (units_before b) us vs (counted us h))

-- one unit more
pub adds_unit : {b c : Collected} (x : Placed)
    → Adds b c (x ∷ []) (declared_by (units_before b) x) (named_by (units_before b) x)
    → AddsUnits b c (x ∷ [])
adds_unit {b} x h =
    retold h (append-nil (declared_by (units_before b) x)) (append-nil (named_by (units_before b) x))

-- the next turn of a loop over the units of a file
pub adds_next_unit : (file : ℕ) {a b c : Collected} (done next : List Unit) (x : Unit) (k : ℕ)
    → next ≡ done ++ x ∷ [] → k ≡ length b.units.items → AddsUnits a b (map (placed file) done)
    → Adds b c (placed file x ∷ []) (unit_decls file k x) (unit_names file k x)
    → AddsUnits a c (map (placed file) next)
adds_next_unit file {a} {b} {c} done next x k e count h m =
    let unit = placed file x in
    let one : AddsUnits b c (unit ∷ []) = adds_unit unit
    (subst (λ (n : ℕ). Adds b c (unit ∷ []) (declared_by n unit) (named_by n unit)) count m) in
    subst (λ l. AddsUnits a c l)
    (sym (ap (map (placed file)) e ∙ map-append (placed file) done (x ∷ [])))
    (adds_units (map (placed file) done) (unit ∷ []) h one)

-- the next turn of a loop over files that adds their units
pub adds_next_file : {a b c : Collected} (done next : List SourceTree) (x : SourceTree) (k : ℕ)
    → next ≡ done ++ x ∷ [] → k ≡ length done → AddsUnits a b (units_from 0 done)
    → AddsUnits b c (map (placed k) x.units) → AddsUnits a c (units_from 0 next)
adds_next_file {a} {b} {c} done next x k e count h m =
    let units = λ (n : ℕ) (tree : SourceTree). map (placed n) tree.units in
    subst (λ l. AddsUnits a c l) (sym (joined-next units 0 k done next x e (omega arith)))
    (adds_units (units_from 0 done) (units k x) h m)
