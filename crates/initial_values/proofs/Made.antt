-- Loops over what is written for the parts of an array or of a structure.
use Rattle.std.proofs.Common.{◌≡◌, ℕ, suc, ◌+◌, ◌-◌, ◌<◌, ◌≤◌, Bool, true, false, nat_le, List, [], ◌∷◌, ◌++◌, length, get_or, drop, map, Option, Some, None, Ok, Err, IfOk, OnOk, refl, sym, ap, ◌∙◌, subst, add-one, drop-cons, append_assoc, arith}
use Rattle.std.specs.Prelude.{if◌then◌else◌, Result}
use Rattle.std.specs.Option.{option_to_list, option_map}
use Rattle.std.proofs.lemmas.List.{drop_all, length-append}
use Rattle.st_tree.specs.declared.node.Node.{Node}
use Rattle.link_faults.specs.First.{after}
use Rattle.link_faults.specs.Checked.{Checked, Good, Bad, faults, bind, Tells}
use Rattle.link_faults.specs.declared.fault.Faults.{Faults}
use Rattle.expression_types.specs.Lists.{faults_of}
use Rattle.expression_types.specs.steps.Several.{still_good}
use Rattle.declared_types.specs.Around.{Around}
use Rattle.declared_types.specs.Ranges.{all_of}
use Rattle.declared_types.specs.steps.Telling.{TellsList}
use Rattle.declared_types.specs.declared.given.Given.{Given}
use Rattle.declared_types.specs.declared.given.Initial.{Initial}
use Rattle.declared_types.specs.declared.forms.ArrayForm.{ArrayForm}
use Rattle.declared_types.specs.BareForms.{Field}
use Rattle.declared_types.proofs.Lists.{LeftList, next_good, next_bad, end_good, end_bad}
use Rattle.declared_types.proofs.Told.{list_told}
use Rattle.initial_values.proofs.Told.{bind_some, bind_none}
use Rattle.link_faults.proofs.Tells.{after_append}
use Rattle.link_faults.specs.declared.code.LinkCode.TheVariants as code
use Rattle.link_faults.specs.declared.fault.LinkFault.{LinkFault}
use Rattle.declared_types.specs.declared.given.Initial.TheVariants as initial
use Rattle.declared_types.specs.Ranges.{wrong_at}
use Rattle.project_declarations.specs.Declarations.{joined}
use Rattle.initial_values.specs.declared.written.Run.{Run}
use Rattle.initial_values.specs.declared.written.Part.{Part}
use Rattle.initial_values.specs.declared.written.FieldAt.{FieldAt}
use Rattle.initial_values.specs.declared.written.Written.{Written}
use Rattle.st_tree.specs.declared.declaration.Init.{Init}
use Rattle.st_tree.specs.declared.declaration.Init.TheOpen.{FieldInit-F}
use Rattle.st_tree.specs.declared.declaration.Item.{Item}
use Rattle.st_tree.specs.declared.declaration.FieldInit.{FieldInit, rolls-FieldInit', fold-roll-FieldInit, map-FieldInit}
use Rattle.initial_values.specs.Initials.{Ground, initial_value, item_value, field_value, init_in, item_in, field_in, Made, At, ItemRead, FieldRead, run_of, run_made, runs_made, all_told, all_rows, total_of, part_for, parts_made, taken_after, field_named, none_taken, with_row, elements, elements_told, array_value, fields_row, structure_parts}
use Rattle.initial_values.specs.steps.Telling.{Writes, room, room_after, kept, known_elements, rows_of, initial_of, fields_row as known_row}

-- what is told, and which rows are added, by all is that by those that are left, after the others
pub record LeftMade {A : Type 0} (xs ys : List (Made A)) (rows0 rows : List Written)
    (old mid : Faults) (so_far : Bool) (found : List A) : Type 0 where
  pub told : LeftList (all_told xs) (all_told ys) old mid so_far found
  pub rows_are : rows0 ++ all_rows xs ≡ rows ++ all_rows ys

no_more : {A : Type 0} (xs : List A) → xs ++ [] ≡ xs
no_more [] = refl
no_more (x ∷ xs) = ap (λ ys. x ∷ ys) (no_more xs)

next_any : {A : Type 0} (xs ys : List (Checked A)) (y : Checked A) (old mid new : Faults)
    (all : Bool) (found : List A) (r : Option A) → LeftList xs (y ∷ ys) old mid all found
    → Tells y mid new r → LeftList xs ys old new (still_good all r) (found ++ option_to_list r)
next_any xs ys y old mid new all found (Some a) left t =
    next_good xs ys y old mid new all found a left t
next_any {A = A} xs ys y old mid new all found None left t =
    let P : List A → Type 0 = λ fs. LeftList xs ys old new false fs in
    subst P (sym (no_more found)) (next_bad xs ys y old mid new all found left t)

next_made : {A : Type 0} (xs ys : List (Made A)) (m : Made A) (rows0 rows rows' : List Written)
    (old mid new : Faults) (all : Bool) (found : List A) (r : Option A)
    → LeftMade xs (m ∷ ys) rows0 rows old mid all found → Writes m rows rows' mid new r
    → LeftMade xs ys rows0 rows' old new (still_good all r) (found ++ option_to_list r)
next_made xs ys m rows0 rows rows' old mid new all found r left w =
    record {
      told = next_any (all_told xs) (all_told ys) m.told old mid new all found r left.told w.told;
      rows_are = left.rows_are ∙ sym (append_assoc rows m.rows (all_rows ys))
          ∙ ap (λ rs. rs ++ all_rows ys) (sym w.rows_are);
    }

cut : {E : Type 0} (items : List E) (i : ℕ) (e : E) → i < length items → e ≡ get_or items i e
    → drop i items ≡ e ∷ drop (i + 1) items
cut items i e lt is = rw add-one (drop-cons items i e lt ∙ ap (λ y. y ∷ drop (suc i) items) (sym is))

-- ---- arrays

run_told : (count : ℕ) (x : Checked Initial) (old new : Faults) (r : Option Initial)
    → Tells x old new r → Tells (bind x (λ v. Good (run_of count v))) old new (option_map (run_of count) r)
run_told count (Good v) old new r t =
    record { first = t.first; answer = ap (option_map (run_of count)) t.answer }
run_told count (Bad fs) old new r t =
    record { first = t.first; answer = ap (option_map (run_of count)) t.answer }

run_writes : (count : ℕ) (m : Made Initial) (rows rows' : List Written) (old new : Faults)
    (r : Option Initial) → Writes m rows rows' old new r
    → Writes (run_made count m) rows rows' old new (option_map (run_of count) r)
run_writes count m rows rows' old new r w =
    record { told = run_told count m.told old new r w.told; rows_are = w.rows_are }

longer : (rows rows' : List Written) (m : Made Initial) → rows' ≡ rows ++ m.rows
    → length rows + length m.rows ≡ length rows'
longer rows rows' m e = sym (ap length e ∙ length-append rows m.rows)

run_step : (element : Given) (xs : List (Made Run)) (x : ItemRead) (items : List ItemRead)
    (rows0 rows rows' : List Written) (old mid new : Faults) (all : Bool) (found : List Run)
    (r : Option Initial)
    → LeftMade xs (runs_made element (length rows) (x ∷ items)) rows0 rows old mid all found
    → Writes (x.value element (length rows)) rows rows' mid new r
    → LeftMade xs (runs_made element (length rows') items) rows0 rows' old new
    (still_good all (option_map (run_of x.count) r)) (found ++ option_to_list (option_map (run_of x.count) r))
run_step element xs x items rows0 rows rows' old mid new all found r left w =
    let m : Made Initial = x.value element (length rows) in
    let P : ℕ → Type 0 =
    λ n. LeftMade xs (runs_made element n items) rows0 rows' old new
    (still_good all (option_map (run_of x.count) r))
    (found ++ option_to_list (option_map (run_of x.count) r)) in
    subst P (longer rows rows' m w.rows_are)
    (next_made xs (runs_made element (length rows + length m.rows) items) (run_made x.count m) rows0
    rows rows' old mid new all found (option_map (run_of x.count) r) left
    (run_writes x.count m rows rows' mid new r w))

room_both : (k c n : ℕ) → room k (c + n) ≡ room_after (room k c) n
room_both k c n = grind (arith)

room_step : (left : Option ℕ) (c n : ℕ) → room_after left (c + n) ≡ room_after (room_after left c) n
room_step None c n = refl
room_step (Some k) c n = room_both k c n

-- what the loop over an array's items keeps
pub record LeftRuns (element : Given) (whole rest : List ItemRead) (count : ℕ)
    (rows0 rows : List Written) (old mid : Faults) (all : Bool) (found : List Run) (left : Option ℕ)
    : Type 0 where
  pub made : LeftMade (runs_made element (length rows0) whole) (runs_made element (length rows) rest)
      rows0 rows old mid all found
  pub room_is : room count (total_of whole) ≡ room_after left (total_of rest)

pub runs_step : {E : Type 0} (f : E → ItemRead) (items : List E) (i : ℕ) (e : E) (element : Given)
    (count : ℕ) (rows0 rows rows' : List Written) (old mid new : Faults) (all next : Bool)
    (found more : List Run) (left left' : Option ℕ) (n : ℕ) (r : Option Initial)
    → i < length items → e ≡ get_or items i e
    → LeftRuns element (map f items) (map f (drop i items)) count rows0 rows old mid all found left
    → Writes ((f e).value element (length rows)) rows rows' mid new r
    → n ≡ (f e).count
    → next ≡ still_good all (option_map (run_of n) r)
    → more ≡ found ++ option_to_list (option_map (run_of n) r)
    → left' ≡ room_after left n
    → LeftRuns element (map f items) (map f (drop (i + 1) items)) count rows0 rows' old new next more left'
runs_step {E = E} f items i e element count rows0 rows rows' old mid new all next found more left left' n r lt is inv w same good adds lefts =
    let x : ItemRead = f e in
    let rest : List ItemRead = map f (drop (i + 1) items) in
    let whole : List ItemRead = map f items in
    let P : List E → Type 0 =
    λ ys. LeftRuns element whole (map f ys) count rows0 rows old mid all found left in
    let here : LeftRuns element whole (x ∷ rest) count rows0 rows old mid all found left =
    subst P (cut items i e lt is) inv in
    let counts : ℕ → ℕ → Type 0 =
    λ k m. room_after left (k + total_of rest) ≡ room_after (room_after left m) (total_of rest) in
    rw (good, adds, lefts, same) (record {
      made = run_step element (runs_made element (length rows0) whole) x rest rows0 rows rows' old mid
          new all found r here.made w;
      room_is = here.room_is ∙ room_step left x.count (total_of rest);
    })

-- ---- the end of a loop

left_end : {A : Type 0} (xs : List (Checked A)) (old new : Faults) (all : Bool) (found : List A)
    → LeftList xs [] old new all found → TellsList xs old new (kept all found)
left_end xs old new true found left =
    record { first = sym left.first; list = end_good xs found left.all (left.list ∙ no_more found) }
left_end xs old new false found left =
    record { first = sym left.first; list = end_bad xs left.all }

at_number : (before : ℕ) (rows inner : List Written) → before ≡ length rows
    → length (rows ++ inner) ≡ before + length inner
at_number before rows inner same = length-append rows inner ∙ ap (λ n. n + length inner) (sym same)

row_adds : (before : ℕ) (told : Checked Written) (rows inner : List Written) (old new : Faults)
    (r : Option Written) → Tells told old new r → before ≡ length rows
    → Writes (with_row before inner told) rows ((rows ++ inner) ++ rows_of r) old new
    (initial_of (length (rows ++ inner)) r)
row_adds before (Good row) rows inner old new r t same =
    record {
      told = record {
        first = t.first;
        answer = ap (initial_of (length (rows ++ inner))) t.answer
            ∙ ap (λ n. Some (initial.Written (record { 0 = n }))) (at_number before rows inner same);
      };
      rows_are = ap (λ x. (rows ++ inner) ++ rows_of x) t.answer
          ∙ append_assoc rows inner (row ∷ []);
    }
row_adds before (Bad fs) rows inner old new r t same =
    record {
      told = record { first = t.first; answer = ap (initial_of (length (rows ++ inner))) t.answer };
      rows_are = ap (λ x. (rows ++ inner) ++ rows_of x) t.answer ∙ no_more (rows ++ inner);
    }

row_ok : {E : Type 0} (before : ℕ) (told : Checked Written) (rows0 inner rows new_rows : List Written)
    (result : Result (Option Initial) E) (old new : Faults) (r : Option Written)
    → before ≡ length rows0 → rows0 ++ inner ≡ rows ++ [] → Tells told old new r
    → OnOk result (new_rows ≡ rows ++ rows_of r)
    → IfOk result (λ it. it ≡ initial_of (length rows) r)
    → IfOk result (λ it. Writes (with_row before inner told) rows0 new_rows old new it)
row_ok before told rows0 inner rows new_rows (Ok it) old new r same is t adds gives =
    let P : List Written → Type 0 =
    λ rs. Writes (with_row before inner told) rows0 (rs ++ rows_of r) old new (initial_of (length rs) r) in
    rw (adds, gives) (subst P (is ∙ no_more rows) (row_adds before told rows0 inner old new r t same))
row_ok before told rows0 inner rows new_rows (Err x) old new r same is t adds gives = tt

elements_by : (b : Bool) (o : Around) (node : Node) (a : ArrayForm) (total : ℕ)
    (runs : List (Checked Run)) (old mid new : Faults) (left : Option ℕ) (ds : Option (List Run))
    (r : Option Written) → (if b then Some (a.count - total) else None) ≡ left
    → TellsList runs old mid ds → Tells (known_elements o node a left ds) mid new r
    → Tells (if b then bind (all_of runs) (elements a total)
    else Bad (faults_of runs ++ faults {A = Written} (wrong_at o node code.BadBound))) old new r
elements_by true o node a total runs old mid new left (Some gs) r is t u =
    let P : Option ℕ → Type 0 = λ l. Tells (known_elements o node a l (Some gs)) mid new r in
    bind_some (all_of runs) (elements a total) old mid new gs r (list_told runs old mid (Some gs) t)
    (subst P (sym is) u)
elements_by true o node a total runs old mid new left None r is t u =
    let P : Option ℕ → Type 0 = λ l. Tells (known_elements o node a l None) mid new r in
    let v : Tells {A = Written} (Bad []) mid new r = subst P (sym is) u in
    let none : Tells (bind (all_of runs) (elements a total)) old mid None =
    bind_none (all_of runs) (elements a total) old mid (list_told runs old mid None t) in
    record { first = v.first ∙ none.first; answer = v.answer ∙ none.answer }
elements_by false o node a total runs old mid new left ds r is t u =
    let P : Option ℕ → Type 0 = λ l. Tells (known_elements o node a l ds) mid new r in
    let v : Tells {A = Written} (wrong_at o node code.BadBound) mid new r = subst P (sym is) u in
    let hs : List LinkFault = faults {A = Written} (wrong_at o node code.BadBound) in
    record {
      first = v.first ∙ ap (λ m. after m hs) t.first ∙ sym (after_append old (faults_of runs) hs);
      answer = v.answer;
    }

room_none : (k : ℕ) → room k 0 ≡ Some k
room_none k = grind (arith)

room_zero : (left : Option ℕ) → room_after left 0 ≡ left
room_zero None = refl
room_zero (Some k) = room_none k

pub runs_end : {E F : Type 0} (o : Around) (node : Node) (f : F → ItemRead) (items : List F) (i : ℕ)
    (a : ArrayForm) (rows0 rows new_rows : List Written) (result : Result (Option Initial) E)
    (old mid new : Faults) (all : Bool) (found : List Run) (left : Option ℕ) (row : Option Written)
    → length items ≤ i
    → LeftRuns a.element (map f items) (map f (drop i items)) a.count rows0 rows old mid all found left
    → Tells (known_elements o node a left (kept all found)) mid new row
    → OnOk result (new_rows ≡ rows ++ rows_of row)
    → IfOk result (λ it. it ≡ initial_of (length rows) row)
    → IfOk result (λ it. Writes (array_value o node (Some a) (map f items) (length rows0)) rows0 new_rows old new it)
runs_end {E = E} {F = F} o node f items i a rows0 rows new_rows result old mid new all found left row le inv u adds gives =
    let whole : List ItemRead = map f items in
    let P : List F → Type 0 =
    λ ys. LeftRuns a.element whole (map f ys) a.count rows0 rows old mid all found left in
    let done : LeftRuns a.element whole [] a.count rows0 rows old mid all found left =
    subst P (drop_all i items le) inv in
    let runs : List (Made Run) = runs_made a.element (length rows0) whole in
    row_ok (length rows0) (elements_told o node a (total_of whole) (all_told runs)) rows0 (all_rows runs)
    rows new_rows result old new row refl done.made.rows_are
    (elements_by (nat_le (total_of whole) a.count) o node a (total_of whole) (all_told runs) old mid new
    left (kept all found) row (done.room_is ∙ room_zero left)
    (left_end (all_told runs) old mid all found done.made.told) u)
    adds gives

-- ---- structures

part_step : (o : Around) (fields : List Field) (xs : List (Made Part)) (x : FieldRead)
    (rest : List FieldRead) (rows0 rows rows' : List Written) (taken : List Bool)
    (old mid new : Faults) (all : Bool) (found : List Part) (r : Option Part)
    → LeftMade xs (parts_made o fields (length rows) taken (x ∷ rest)) rows0 rows old mid all found
    → Writes (part_for o (length rows) taken x (field_named fields x.name.name)) rows rows' mid new r
    → LeftMade xs (parts_made o fields (length rows')
    (taken_after taken (field_named fields x.name.name)) rest) rows0 rows' old new
    (still_good all r) (found ++ option_to_list r)
part_step o fields xs x rest rows0 rows rows' taken old mid new all found r left w =
    let at : Option FieldAt = field_named fields x.name.name in
    let m : Made Part = part_for o (length rows) taken x at in
    let P : ℕ → Type 0 =
    λ n. LeftMade xs (parts_made o fields n (taken_after taken at) rest) rows0 rows' old new
    (still_good all r) (found ++ option_to_list r) in
    subst P (sym (ap length w.rows_are ∙ length-append rows m.rows))
    (next_made xs (parts_made o fields (length rows + length m.rows) (taken_after taken at) rest) m rows0
    rows rows' old mid new all found r left w)

pub parts_step : {F : Type 0} (o : Around) (fields : List Field) (f : F → FieldRead)
    (list : List F) (i : ℕ) (e : F) (rows0 rows rows' : List Written) (taken taken' : List Bool)
    (old mid new : Faults) (all next : Bool) (found more : List Part) (at : Option FieldAt)
    (r : Option Part) (read : List Bool) → read ≡ taken → i < length list → e ≡ get_or list i e
    → LeftMade (parts_made o fields (length rows0) (none_taken fields) (map f list))
    (parts_made o fields (length rows) taken (map f (drop i list))) rows0 rows old mid all found
    → at ≡ field_named fields (f e).name.name
    → Writes (part_for o (length rows) read (f e) at) rows rows' mid new r
    → next ≡ still_good all r → more ≡ found ++ option_to_list r → taken' ≡ taken_after taken at
    → LeftMade (parts_made o fields (length rows0) (none_taken fields) (map f list))
    (parts_made o fields (length rows') taken' (map f (drop (i + 1) list))) rows0 rows' old new next more
parts_step {F = F} o fields f list i e rows0 rows rows' taken taken' old mid new all next found more at r read reads lt is inv named w good adds takes =
    let xs : List (Made Part) = parts_made o fields (length rows0) (none_taken fields) (map f list) in
    let P : List F → Type 0 =
    λ ys. LeftMade xs (parts_made o fields (length rows) taken (map f ys)) rows0 rows old mid all found in
    rw (good, adds, takes, named)
    (part_step o fields xs (f e) (map f (drop (i + 1) list)) rows0 rows rows' taken old mid new all found r
    (subst P (cut list i e lt is) inv)
    (subst (λ (x : Option FieldAt). Writes (part_for o (length rows) taken (f e) x) rows rows' mid new r) named
    (subst (λ (x : List Bool). Writes (part_for o (length rows) x (f e) at) rows rows' mid new r) reads w)))

fields_told : (b : Bool) (fields : List Field) (parts : List (Checked Part)) (old mid : Faults)
    (found : List Part) → TellsList parts old mid (kept b found)
    → Tells (bind (all_of parts) (fields_row fields)) old mid (known_row fields b found)
fields_told true fields parts old mid found t =
    bind_some (all_of parts) (fields_row fields) old mid mid found (known_row fields true found)
    (list_told parts old mid (Some found) t) (record { first = refl; answer = refl })
fields_told false fields parts old mid found t =
    bind_none (all_of parts) (fields_row fields) old mid (list_told parts old mid None t)

pub parts_end : {E F : Type 0} (o : Around) (fields : List Field) (f : F → FieldRead)
    (list : List F) (i : ℕ) (rows0 rows new_rows : List Written) (taken : List Bool)
    (result : Result (Option Initial) E) (old mid : Faults) (all : Bool) (found : List Part)
    (row : Option Written) (read : List Part)
    → length list ≤ i
    → LeftMade (parts_made o fields (length rows0) (none_taken fields) (map f list))
    (parts_made o fields (length rows) taken (map f (drop i list))) rows0 rows old mid all found
    → read ≡ found → row ≡ known_row fields all read
    → OnOk result (new_rows ≡ rows ++ rows_of row)
    → IfOk result (λ it. it ≡ initial_of (length rows) row)
    → IfOk result (λ it. Writes (structure_parts fields (length rows0)
    (parts_made o fields (length rows0) (none_taken fields) (map f list))) rows0 new_rows old mid it)
parts_end {E = E} {F = F} o fields f list i rows0 rows new_rows taken result old mid all found row read le inv reads is adds gives =
    let parts : List (Made Part) = parts_made o fields (length rows0) (none_taken fields) (map f list) in
    let P : List F → Type 0 =
    λ ys. LeftMade parts (parts_made o fields (length rows) taken (map f ys)) rows0 rows old mid all found in
    let done : LeftMade parts [] rows0 rows old mid all found = subst P (drop_all i list le) inv in
    let Q : Option Written → Type 0 =
    λ x. Tells (bind (all_of (all_told parts)) (fields_row fields)) old mid x in
    row_ok (length rows0) (bind (all_of (all_told parts)) (fields_row fields)) rows0 (all_rows parts) rows
    new_rows result old mid row refl done.rows_are
    (subst Q (sym (is ∙ ap (known_row fields all) reads)) (fields_told all fields (all_told parts) old mid found
    (left_end (all_told parts) old mid all found done.told)))
    adds gives

-- ---- the name of a field, as it is read

rolled_field : (g : Ground) (y : FieldInit-F Init Item FieldInit) →
    field_value g (record { node = y.node; name = y.name; value = y.value })
    ≡ field_in (map-FieldInit Init Item FieldInit (At Initial) ItemRead FieldRead (initial_value g)
    (item_value g) (field_value g) y)
unfolding initial_value item_value field_value
rolled_field g y =
    ap (field_value g) (sym (rolls-FieldInit' y))
    ∙ fold-roll-FieldInit (At Initial) ItemRead FieldRead (init_in g) (item_in g) field_in y

pub field_name : (g : Ground) (y : FieldInit) → (field_value g y).name ≡ y.name
field_name g y =
    ap (λ (r : FieldRead). r.name)
    (rolled_field g (record { node = y.node; name = y.name; value = y.value }))

-- ---- faults of several parts

pub faults_step : {E : Type 0} (f : E → List LinkFault) (items : List E) (i : ℕ) (e : E)
    (old mid new : Faults) → i < length items → e ≡ get_or items i e
    → after old (joined (map f items)) ≡ after mid (joined (map f (drop i items)))
    → new ≡ after mid (f e)
    → after old (joined (map f items)) ≡ after new (joined (map f (drop (i + 1) items)))
faults_step f items i e old mid new lt is inv noted =
    inv ∙ ap (λ ys. after mid (joined (map f ys))) (cut items i e lt is)
    ∙ after_append mid (f e) (joined (map f (drop (i + 1) items)))
    ∙ ap (λ m. after m (joined (map f (drop (i + 1) items)))) (sym noted)
