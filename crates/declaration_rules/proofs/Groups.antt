-- Fields of structures.
use Rattle.std.proofs.Common.{◌≡◌, ℕ, suc, ◌+◌, ◌<◌, ◌≤◌, max, Bool, true, false, ◌&&◌, List, [], ◌∷◌, ◌++◌, length, get_or, drop, map, Option, Some, None, Ok, Err, IfOk, OnOk, refl, sym, ap, ◌∙◌, subst, add-one, drop-cons, append_assoc, arith}
use Rattle.std.specs.Prelude.{if◌then◌else◌, Result}
use Rattle.std.proofs.lemmas.List.{drop_all, length-append}
use Rattle.st_tree.specs.declared.node.Node.{Node}
use Rattle.st_tree.specs.declared.expression.Identifier.{Identifier}
use Rattle.st_tree.specs.declared.file.Fields.{Fields}
use Rattle.link_faults.specs.First.{after}
use Rattle.link_faults.specs.Checked.{Checked, Good, Bad, faults, answer, bind, Tells}
use Rattle.link_faults.specs.declared.fault.Faults.{Faults}
use Rattle.link_faults.proofs.Tells.{after_append}
use Rattle.expression_types.specs.Lists.{are_good, faults_of}
use Rattle.expression_types.specs.steps.Several.{still_good}
use Rattle.project_declarations.specs.Declarations.{joined}
use Rattle.declared_types.specs.Ranges.{goods, all_of}
use Rattle.declared_types.specs.BareForms.{BareForm, Field, Structure, bare_field, bare_forms}
use Rattle.declared_types.specs.declared.given.Given.{Given}
use Rattle.declared_types.specs.declared.forms.FieldForm.{FieldForm}
use Rattle.declared_types.specs.declared.forms.Form.{Form}
use Rattle.declared_types.proofs.Told.{bare_length, list_told}
use Rattle.declared_types.proofs.Lists.{end_good, end_bad}
use Rattle.declaration_rules.proofs.Told.{bind_some, bind_none}
use Rattle.initial_values.specs.declared.written.Written.{Written}
use Rattle.declaration_rules.specs.Declarations.{Surroundings, FieldGroup, variable, group_at, groups, fields_of, all_groups, forms_in, rows_in, size_of, structure_given, structure_fields, with_fields, structure_of, structure}
use Rattle.declaration_rules.specs.steps.Telling.{Gives, known_fields, known_structure, structure_rows, structure_under}

-- ---- sizes

some : (fs : List Field) → 1 ≤ size_of fs
some [] = omega arith
some (f ∷ fs) = omega (arith, some fs)

pub not_below : (fs : List Field) → size_of fs ≡ max 1 (size_of fs)
not_below fs = omega (arith, some fs)

pub size_end : (fields : List FieldForm) (i size : ℕ) → length fields ≤ i
    → size_of (map bare_field fields) ≡ max size (size_of (map bare_field (drop i fields)))
    → 1 ≤ size → size ≡ size_of (map bare_field fields)
size_end fields i size le e one =
    let P : List FieldForm → Type 0 = λ fs. size_of (map bare_field fields) ≡ max size (size_of (map bare_field fs)) in
    omega (arith, one, subst P (drop_all i fields le) e)

-- ---- the loop over the groups of fields

no_more : {A : Type 0} (xs : List A) → xs ++ [] ≡ xs
no_more [] = refl
no_more (x ∷ xs) = ap (λ ys. x ∷ ys) (no_more xs)

and_false : (b : Bool) → (b && false) ≡ false
and_false true = refl
and_false false = refl

and_true : (b : Bool) → (b && true) ≡ b
and_true true = refl
and_true false = refl

-- what is told by all, and which rows and fields they add, is that of those that are left, after the others
pub record LeftGroups (xs ys : List FieldGroup) (forms0 forms : List Form) (rows0 rows : List Written)
    (old mid : Faults) (so_far : Bool) (found : List Field) : Type 0 where
  pub first : after old (faults_of (all_groups xs)) ≡ after mid (faults_of (all_groups ys))
  pub all : are_good (all_groups xs) ≡ (so_far && are_good (all_groups ys))
  pub list : joined (goods (all_groups xs)) ≡ found ++ joined (goods (all_groups ys))
  pub forms_are : bare_forms forms0 ++ forms_in xs ≡ bare_forms forms ++ forms_in ys
  pub rows_are : rows0 ++ rows_in xs ≡ rows ++ rows_in ys

abbrev given_fields : List Identifier → Checked Given → Checked (List Field)
given_fields names x = bind x (λ given. Good (fields_of given names))

firsts : (names : List Identifier) (x : Checked Given) (ys : List (Checked (List Field)))
    (mid new : Faults) → new ≡ after mid (faults x)
    → after mid (faults_of (given_fields names x ∷ ys)) ≡ after new (faults_of ys)
firsts names (Good a) ys mid new e = ap (λ m. after m (faults_of ys)) (sym e)
firsts names (Bad fs) ys mid new e =
    after_append mid fs (faults_of ys) ∙ ap (λ m. after m (faults_of ys)) (sym e)

alls : (names : List Identifier) (x : Checked Given) (ys : List (Checked (List Field))) (so_far : Bool)
    → (so_far && are_good (given_fields names x ∷ ys)) ≡ (still_good so_far (answer x) && are_good ys)
alls names (Good a) ys so_far = refl
alls names (Bad fs) ys so_far = and_false so_far

lists : (names : List Identifier) (x : Checked Given) (ys : List (Checked (List Field)))
    (found : List Field) → found ++ joined (goods (given_fields names x ∷ ys))
    ≡ (found ++ known_fields (answer x) names) ++ joined (goods ys)
lists names (Good a) ys found = sym (append_assoc found (fields_of a names) (joined (goods ys)))
lists names (Bad fs) ys found = ap (λ zs. zs ++ joined (goods ys)) (sym (no_more found))

next_of : (xs ys : List FieldGroup) (g : FieldGroup) (forms0 forms forms' : List Form)
    (rows0 rows rows' : List Written) (old mid new : Faults) (so_far : Bool) (found : List Field)
    → LeftGroups xs (g ∷ ys) forms0 forms rows0 rows old mid so_far found
    → Gives g.made forms forms' rows rows' mid new (answer g.made.told)
    → LeftGroups xs ys forms0 forms' rows0 rows' old new (still_good so_far (answer g.made.told))
    (found ++ known_fields (answer g.made.told) g.names)
next_of xs ys g forms0 forms forms' rows0 rows rows' old mid new so_far found left t =
    record {
      first = left.first ∙ firsts g.names g.made.told (all_groups ys) mid new t.told.first;
      all = left.all ∙ alls g.names g.made.told (all_groups ys) so_far;
      list = left.list ∙ lists g.names g.made.told (all_groups ys) found;
      forms_are = left.forms_are ∙ sym (append_assoc (bare_forms forms) g.made.forms (forms_in ys))
          ∙ ap (λ fs. fs ++ forms_in ys) (sym t.forms_are);
      rows_are = left.rows_are ∙ sym (append_assoc rows g.made.rows (rows_in ys))
          ∙ ap (λ rs. rs ++ rows_in ys) (sym t.rows_are);
    }

next_group : (xs ys : List FieldGroup) (g : FieldGroup) (forms0 forms forms' : List Form)
    (rows0 rows rows' : List Written) (old mid new : Faults) (so_far : Bool) (found : List Field)
    (r : Option Given) → LeftGroups xs (g ∷ ys) forms0 forms rows0 rows old mid so_far found
    → Gives g.made forms forms' rows rows' mid new r
    → LeftGroups xs ys forms0 forms' rows0 rows' old new (still_good so_far r)
    (found ++ known_fields r g.names)
next_group xs ys g forms0 forms forms' rows0 rows rows' old mid new so_far found r left t =
    let P : Option Given → Type 0 = λ o. Gives g.made forms forms' rows rows' mid new o in
    let Q : Option Given → Type 0 =
    λ o. LeftGroups xs ys forms0 forms' rows0 rows' old new (still_good so_far o)
    (found ++ known_fields o g.names) in
    subst Q (sym t.told.answer)
    (next_of xs ys g forms0 forms forms' rows0 rows rows' old mid new so_far found left
    (subst P t.told.answer t))

cut : {E : Type 0} (items : List E) (i : ℕ) (e : E) → i < length items → e ≡ get_or items i e
    → drop i items ≡ e ∷ drop (i + 1) items
cut items i e lt is = rw add-one (drop-cons items i e lt ∙ ap (λ y. y ∷ drop (suc i) items) (sym is))

abbrev pub InGroups : Surroundings → List Fields → ℕ → List Form → List Form → List Written
    → List Written → Faults → Faults → Bool → List Field → Type 0
InGroups s list i forms0 forms rows0 rows old mid all found =
    LeftGroups (groups s (bare_forms forms0) (length rows0) list)
    (groups s (bare_forms forms) (length rows) (drop i list)) forms0 forms rows0 rows old mid all found

pub group_step : (s : Surroundings) (list : List Fields) (i : ℕ) (e : Fields)
    (forms0 forms forms' : List Form) (rows0 rows rows' : List Written) (old mid new : Faults)
    (all next : Bool) (found more : List Field) (r : Option Given) (names : List Identifier)
    → i < length list → e ≡ get_or list i e
    → InGroups s list i forms0 forms rows0 rows old mid all found
    → Gives (variable s false (bare_forms forms) (length rows) e.spec e.init) forms forms' rows rows' mid new r
    → names ≡ e.names → next ≡ still_good all r → more ≡ found ++ known_fields r names
    → InGroups s list (i + 1) forms0 forms' rows0 rows' old new next more
group_step s list i e forms0 forms forms' rows0 rows rows' old mid new all next found more r names lt is inv t named good adds =
    let xs : List FieldGroup = groups s (bare_forms forms0) (length rows0) list in
    let g : FieldGroup = group_at s (bare_forms forms) (length rows) e in
    let P : List Fields → Type 0 =
    λ ys. LeftGroups xs (groups s (bare_forms forms) (length rows) ys) forms0 forms rows0 rows old mid all found in
    let F : List BareForm → Type 0 =
    λ fs. LeftGroups xs (groups s fs (length rows + length g.made.rows) (drop (i + 1) list)) forms0 forms'
    rows0 rows' old new (still_good all r) (found ++ known_fields r e.names) in
    let N : ℕ → Type 0 =
    λ n. LeftGroups xs (groups s (bare_forms forms') n (drop (i + 1) list)) forms0 forms'
    rows0 rows' old new (still_good all r) (found ++ known_fields r e.names) in
    rw (good, adds, named)
    (subst N (sym (ap length t.rows_are ∙ length-append rows g.made.rows))
    (subst F (sym t.forms_are)
    (next_group xs (groups s (bare_forms forms ++ g.made.forms) (length rows + length g.made.rows)
    (drop (i + 1) list)) g forms0 forms forms' rows0 rows rows' old mid new all found r
    (subst P (cut list i e lt is) inv) t)))

-- ---- the structure's row

fields_good : (xs : List (Checked (List Field))) (old mid : Faults) (found : List Field)
    → after old (faults_of xs) ≡ mid → are_good xs ≡ true → joined (goods xs) ≡ found
    → Tells (bind (all_of xs) (λ fss. Good (joined fss))) old mid (Some found)
fields_good xs old mid found first all list =
    bind_some (all_of xs) (λ fss. Good (joined fss)) old mid mid (goods xs) (Some found)
    (list_told xs old mid (Some (goods xs))
    (record { first = sym first; list = end_good xs (goods xs) all refl }))
    (record { first = refl; answer = ap (λ fs. Some fs) (sym list) })

fields_bad : (xs : List (Checked (List Field))) (old mid : Faults)
    → after old (faults_of xs) ≡ mid → are_good xs ≡ false
    → Tells (bind (all_of xs) (λ fss. Good (joined fss))) old mid None
fields_bad xs old mid first all =
    bind_none (all_of xs) (λ fss. Good (joined fss)) old mid
    (list_told xs old mid None (record { first = sym first; list = end_bad xs all }))

fields_told : (twice all : Bool) (xs : List (Checked (List Field))) (old mid : Faults)
    (found : List Field) → after old (faults_of xs) ≡ mid → are_good xs ≡ all
    → joined (goods xs) ≡ found
    → Tells (if twice then Bad (faults_of xs) else bind (all_of xs) (λ fss. Good (joined fss)))
    old mid (known_structure all twice found)
fields_told true true xs old mid found first good list = record { first = sym first; answer = refl }
fields_told true false xs old mid found first good list = record { first = sym first; answer = refl }
fields_told false true xs old mid found first good list = fields_good xs old mid found first good list
fields_told false false xs old mid found first good list = fields_bad xs old mid first good

at_number : (before : ℕ) (forms mid : List Form) (inner : List BareForm)
    → before ≡ length (bare_forms forms)
    → bare_forms mid ≡ bare_forms forms ++ inner → length mid ≡ before + length inner
at_number before forms mid inner same is =
    sym (bare_length mid) ∙ ap length is ∙ length-append (bare_forms forms) inner
    ∙ ap (λ n. n + length inner) (sym same)

fields_add : (before : ℕ) (told : Checked (List Field)) (forms mid forms' : List Form)
    (inner : List BareForm) (rows rows' more : List Written) (old new : Faults)
    (r : Option (List Field)) → Tells told old new r → before ≡ length (bare_forms forms)
    → bare_forms mid ≡ bare_forms forms ++ inner
    → bare_forms forms' ≡ bare_forms mid ++ structure_rows r → rows' ≡ rows ++ more
    → Gives (with_fields before inner more told) forms forms' rows rows' old new
    (structure_under (length mid) r)
fields_add before (Good fields) forms mid forms' inner rows rows' more old new r t same is adds rows_are =
    record {
      told = record {
        first = t.first;
        answer = ap (structure_under (length mid)) t.answer
            ∙ ap (λ n. Some (structure_given n fields)) (at_number before forms mid inner same is);
      };
      forms_are = adds ∙ ap (λ x. bare_forms mid ++ structure_rows x) t.answer
          ∙ ap (λ fs. fs ++ (Structure fields ∷ [])) is
          ∙ append_assoc (bare_forms forms) inner (Structure fields ∷ []);
      rows_are = rows_are;
    }
fields_add before (Bad fs) forms mid forms' inner rows rows' more old new r t same is adds rows_are =
    record {
      told = record { first = t.first; answer = ap (structure_under (length mid)) t.answer };
      forms_are = adds ∙ ap (λ x. bare_forms mid ++ structure_rows x) t.answer ∙ no_more (bare_forms mid) ∙ is;
      rows_are = rows_are;
    }

structure_gives : (s : Surroundings) (node : Node) (twice : Bool) (xs : List FieldGroup)
    (forms0 forms forms' : List Form) (rows0 rows : List Written) (old mid : Faults) (all : Bool)
    (found : List Field) → LeftGroups xs [] forms0 forms rows0 rows old mid all found
    → twice ≡ s.has_field_twice node
    → bare_forms forms' ≡ bare_forms forms ++ structure_rows (known_structure all twice found)
    → Gives (structure_of s (length (bare_forms forms0)) node xs) forms0 forms' rows0 rows old mid
    (structure_under (length forms) (known_structure all twice found))
structure_gives s node twice xs forms0 forms forms' rows0 rows old mid all found left same adds =
    let P : Bool → Type 0 =
    λ b. Tells (if b then Bad (faults_of (all_groups xs)) else bind (all_of (all_groups xs)) (λ fss. Good (joined fss)))
    old mid (known_structure all twice found) in
    fields_add (length (bare_forms forms0)) (structure_fields s node xs) forms0 forms forms' (forms_in xs)
    rows0 rows (rows_in xs) old mid (known_structure all twice found)
    (subst P same (fields_told twice all (all_groups xs) old mid found left.first
    (left.all ∙ and_true all) (left.list ∙ no_more found)))
    refl (sym (left.forms_are ∙ no_more (bare_forms forms))) adds (sym (left.rows_are ∙ no_more rows))

pub structure_ok : {E : Type 0} (s : Surroundings) (node : Node) (twice : Bool) (list : List Fields)
    (i : ℕ) (forms0 forms forms' : List Form) (rows0 rows : List Written) (old mid : Faults)
    (all : Bool) (found : List Field) (result : Result (Option Given) E) → length list ≤ i
    → InGroups s list i forms0 forms rows0 rows old mid all found
    → twice ≡ s.has_field_twice node
    → OnOk result (bare_forms forms' ≡ bare_forms forms ++ structure_rows (known_structure all twice found))
    → IfOk result (λ it. it ≡ structure_under (length forms) (known_structure all twice found))
    → IfOk result (λ it. Gives (structure s (bare_forms forms0) (length rows0) node list) forms0 forms'
    rows0 rows old mid it)
structure_ok s node twice list i forms0 forms forms' rows0 rows old mid all found (Ok it) le inv same adds is =
    let xs : List FieldGroup = groups s (bare_forms forms0) (length rows0) list in
    let P : List Fields → Type 0 =
    λ ys. LeftGroups xs (groups s (bare_forms forms) (length rows) ys) forms0 forms rows0 rows old mid all found in
    rw is (structure_gives s node twice xs forms0 forms forms' rows0 rows old mid all found
    (subst P (drop_all i list le) inv) same adds)
structure_ok s node twice list i forms0 forms forms' rows0 rows old mid all found (Err x) le inv same adds is = tt
