-- What is told of parts that stand together: the lemmas of faults, under names of this crate.
use Rattle.std.proofs.Common.{◌≡◌, ℕ, Bool, true, false, List, [], ◌∷◌, ◌++◌, Option, Some, None, refl, Ok, Err, IfOk, sym, ap, ◌∙◌, subst, length, append_assoc, ◌+◌}
use Rattle.std.proofs.lemmas.List.{length-append}
use Rattle.std.specs.Prelude.{if◌then◌else◌, Result}
use Rattle.st_tree.specs.declared.expression.Address.{Address}
use Rattle.st_tree.specs.declared.declaration.Init.{Init}
use Rattle.st_tree.specs.declared.declaration.Decl.{Decl}
use Rattle.link_faults.specs.First.{after}
use Rattle.link_faults.specs.Checked.{Checked, Good, Bad, faults, answer, bind, Tells}
use Rattle.link_faults.specs.declared.code.LinkCode.TheVariants as code
use Rattle.link_faults.specs.declared.fault.LinkFault.{LinkFault}
use Rattle.link_faults.specs.declared.fault.Faults.{Faults}
use Rattle.link_faults.proofs.Tells as told
use Rattle.declared_types.proofs.Told.{bare_length}
use Rattle.declared_types.specs.Ranges.{wrong_at}
use Rattle.declared_types.specs.Specifications as types
use Rattle.declared_types.specs.steps.Telling.{Makes}
use Rattle.declared_types.specs.declared.given.Given.{Given}
use Rattle.declared_types.specs.BareForms.{BareForm, bare_forms}
use Rattle.declared_types.specs.declared.forms.Form.{Form}
use Rattle.initial_values.specs.Nodes.{init_node}
use Rattle.initial_values.specs.Initials as values
use Rattle.initial_values.specs.declared.written.Written.{Written}
use Rattle.initial_values.specs.steps.Telling.{Writes}
use Rattle.declaration_rules.specs.Declarations.{Surroundings, Made, with_value, not_constant, if_written, with_init, held, at_address, located, initialised, without_rows}
use Rattle.declaration_rules.specs.steps.Telling.{Gives, known_value, known_if, known_at}

pub bind_some : {A B : Type 0} (x : Checked A) (k : A → Checked B) (old mid new : Faults) (a : A)
    (r : Option B) → Tells x old mid (Some a) → Tells (k a) mid new r → Tells (bind x k) old new r
bind_some = told.bind_some

pub bind_none : {A B : Type 0} (x : Checked A) (k : A → Checked B) (old new : Faults)
    → Tells x old new None → Tells (bind x k) old new None
bind_none = told.bind_none

-- a rule beside what was told before
told_more : {A : Type 0} (fs gs : List LinkFault) (old mid new : Faults) (r : Option A)
    → mid ≡ after old fs → Tells {A = A} (Bad gs) mid new r → Tells {A = A} (Bad (fs ++ gs)) old new r
told_more fs gs old mid new r is t =
    record {
      first = t.first ∙ ap (λ m. after m gs) is ∙ sym (told.after_append old fs gs);
      answer = t.answer;
    }

told_after : {A B : Type 0} (a : B) (y : Checked A) (old mid new : Faults) (r : Option A) (o : Option B)
    → Tells (Good a) old mid o → Tells y mid new r → Tells y old new r
told_after a y old mid new r o t u =
    record { first = u.first ∙ ap (λ m. after m (faults y)) t.first; answer = u.answer }

-- ---- initial values

read_by : (b : Bool) (s : Surroundings) (forms : List BareForm) (before : ℕ) (i : Init)
    (x : Checked Given) (rows rows' : List Written) (old mid new : Faults) (r : Option Given)
    → Tells x old mid (answer x)
    → Writes (if b then values.without_rows (wrong_at s.around (init_node i) code.NotConstant)
    else known_value s forms before i (answer x)) rows rows' mid new r
    → Writes (if b then not_constant s i x else with_value s forms before i x) rows rows' old new r
read_by true s forms before i x rows rows' old mid new r t w =
    record {
      told = told_more (faults x) (faults {A = Given} (wrong_at s.around (init_node i) code.NotConstant))
          old mid new r t.first w.told;
      rows_are = w.rows_are;
    }
read_by false s forms before i (Good a) rows rows' old mid new r t w =
    record {
      told = told_after a (with_value s forms before i (Good a)).told old mid new r (Some a) t w.told;
      rows_are = w.rows_are;
    }
read_by false s forms before i (Bad fs) rows rows' old mid new r t w =
    record {
      told = told_more fs (values.alone s.around i) old mid new r t.first w.told;
      rows_are = w.rows_are;
    }

read_of : (s : Surroundings) (forms : List BareForm) (before : ℕ) (i : Option Init)
    (x : Checked Given) (rows rows' : List Written) (old mid new : Faults) (r : Option Given)
    → Tells x old mid (answer x)
    → Writes (known_if s forms before i (answer x)) rows rows' mid new r
    → Writes (if_written s forms before i x) rows rows' old new r
read_of s forms before None (Good a) rows rows' old mid new r t w =
    record {
      told = told_after a (Good a) old mid new r (Some a) t w.told;
      rows_are = w.rows_are;
    }
read_of s forms before None (Bad fs) rows rows' old mid new r t w =
    record {
      told = record { first = w.told.first ∙ t.first; answer = w.told.answer };
      rows_are = w.rows_are;
    }
read_of s forms before (Some i) x rows rows' old mid new r t w =
    read_by (s.leads_back i) s forms before i x rows rows' old mid new r t w

read_told : (s : Surroundings) (forms : List BareForm) (before : ℕ) (i : Option Init)
    (x : Checked Given) (given : Option Given) (rows rows' : List Written) (old mid new : Faults)
    (r : Option Given) → Tells x old mid given
    → Writes (known_if s forms before i given) rows rows' mid new r
    → Writes (if_written s forms before i x) rows rows' old new r
read_told s forms before i x given rows rows' old mid new r t w =
    let P : Option Given → Type 0 = λ g. Tells x old mid g in
    let Q : Option Given → Type 0 =
    λ g. Writes (known_if s forms before i g) rows rows' mid new r in
    read_of s forms before i x rows rows' old mid new r (subst P t.answer t) (subst Q t.answer w)

variable_gives : (s : Surroundings) (forms forms' read : List Form) (before : ℕ) (i : Option Init)
    (m : types.Made) (given : Option Given) (rows rows' : List Written) (old mid new : Faults)
    (r : Option Given) → Makes m forms forms' old mid given → read ≡ forms'
    → Writes (known_if s (bare_forms read) before i given) rows rows' mid new r
    → Gives (with_init s (bare_forms forms) before i m) forms forms' rows rows' old new r
variable_gives s forms forms' read before i m given rows rows' old mid new r t reads w =
    let Q : List BareForm → Type 0 = λ fs. Writes (known_if s fs before i given) rows rows' mid new r in
    let here : Writes (if_written s (bare_forms forms ++ m.forms) before i m.told) rows rows' old new r =
    read_told s (bare_forms forms ++ m.forms) before i m.told given rows rows' old mid new r t.told
    (subst Q (ap bare_forms reads ∙ t.forms_are) w) in
    record { told = here.told; forms_are = t.forms_are; rows_are = here.rows_are }

pub variable_ok : {E : Type 0} (s : Surroundings) (forms forms' read : List Form) (before : ℕ)
    (i : Option Init) (m : ℕ → types.Made) (given : Option Given) (rows rows' : List Written)
    (old mid new : Faults) (result : Result (Option Given) E)
    → Makes (m (length forms)) forms forms' old mid given → read ≡ forms'
    → IfOk result (λ it. Writes (known_if s (bare_forms read) before i given) rows rows' mid new it)
    → IfOk result (λ it. Gives (with_init s (bare_forms forms) before i (m (length (bare_forms forms))))
    forms forms' rows rows' old new it)
variable_ok s forms forms' read before i m given rows rows' old mid new (Ok it) t reads w =
    let P : ℕ → Type 0 = λ n. Makes (m n) forms forms' old mid given in
    variable_gives s forms forms' read before i (m (length (bare_forms forms))) given rows rows' old mid
    new it (subst P (sym (bare_length forms)) t) reads w
variable_ok s forms forms' read before i m given rows rows' old mid new (Err x) t reads w = tt

-- ---- addresses

at_of : (s : Surroundings) (b : Bool) (d : Decl) (a : Option Address) (x : Checked Given)
    (old mid new : Faults) (r : Option Given) → Tells x old mid (answer x)
    → Tells (known_at s b d a (answer x)) mid new r → Tells (at_address s b d a x) old new r
at_of s b d None (Good g) old mid new r t u = told_after g (Good g) old mid new r (Some g) t u
at_of s b d None (Bad fs) old mid new r t u =
    record { first = u.first ∙ t.first; answer = u.answer }
at_of s true d (Some a) (Good g) old mid new r t u =
    told_after g (held s a d.names g) old mid new r (Some g) t u
at_of s true d (Some a) (Bad fs) old mid new r t u =
    record { first = u.first ∙ t.first; answer = u.answer }
at_of s false d (Some a) (Good g) old mid new r t u =
    told_after g (wrong_at s.around d.node code.OutOfProfile) old mid new r (Some g) t u
at_of s false d (Some a) (Bad fs) old mid new r t u =
    told_more fs (faults {A = Given} (wrong_at s.around d.node code.OutOfProfile)) old mid new r t.first u

pub located_gives : (s : Surroundings) (b : Bool) (d : Decl) (m : Made) (given : Option Given)
    (forms forms' : List Form) (rows rows' : List Written) (old mid new : Faults) (r : Option Given)
    → Gives m forms forms' rows rows' old mid given
    → Tells (known_at s b d d.address given) mid new r
    → Gives (located s b d m) forms forms' rows rows' old new r
located_gives s b d m given forms forms' rows rows' old mid new r t u =
    let P : Option Given → Type 0 = λ g. Tells m.told old mid g in
    let Q : Option Given → Type 0 = λ g. Tells (known_at s b d d.address g) mid new r in
    record {
      told = at_of s b d d.address m.told old mid new r (subst P t.told.answer t.told)
          (subst Q t.told.answer u);
      forms_are = t.forms_are;
      rows_are = t.rows_are;
    }

-- ---- data types

no_more : {A : Type 0} (xs : List A) → xs ++ [] ≡ xs
no_more [] = refl
no_more (x ∷ xs) = ap (λ ys. x ∷ ys) (no_more xs)

initialised_gives : (s : Surroundings) (forms forms' read : List Form) (i : Option Init)
    (m : Made) (given : Option Given) (rows rows' rows'' : List Written) (old mid new : Faults)
    (r : Option Given) → Gives m forms forms' rows rows' old mid given → read ≡ forms'
    → Writes (known_if s (bare_forms read) (length rows') i given) rows' rows'' mid new r
    → Gives (initialised s (bare_forms forms) (length rows) i m) forms forms' rows rows'' old new r
initialised_gives s forms forms' read i m given rows rows' rows'' old mid new r t reads w =
    let before : ℕ = length rows + length m.rows in
    let Q : List BareForm → Type 0 =
    λ fs. Writes (known_if s fs (length rows') i given) rows' rows'' mid new r in
    let N : ℕ → Type 0 =
    λ n. Writes (known_if s (bare_forms forms ++ m.forms) n i given) rows' rows'' mid new r in
    let here : Writes (if_written s (bare_forms forms ++ m.forms) before i m.told) rows' rows'' old new r =
    read_told s (bare_forms forms ++ m.forms) before i m.told given rows' rows'' old mid new r t.told
    (subst N (ap length t.rows_are ∙ length-append rows m.rows)
    (subst Q (ap bare_forms reads ∙ t.forms_are) w)) in
    let more : List Written = (if_written s (bare_forms forms ++ m.forms) before i m.told).rows in
    record {
      told = here.told;
      forms_are = t.forms_are;
      rows_are = here.rows_are ∙ ap (λ rs. rs ++ more) t.rows_are ∙ append_assoc rows m.rows more;
    }

pub initialised_ok : {E : Type 0} (s : Surroundings) (forms forms' read : List Form) (i : Option Init)
    (m : Made) (given : Option Given) (rows rows' rows'' : List Written) (old mid new : Faults)
    (result : Result (Option Given) E) → Gives m forms forms' rows rows' old mid given → read ≡ forms'
    → IfOk result (λ it. Writes (known_if s (bare_forms read) (length rows') i given) rows' rows'' mid new it)
    → IfOk result (λ it. Gives (initialised s (bare_forms forms) (length rows) i m) forms forms' rows
    rows'' old new it)
initialised_ok s forms forms' read i m given rows rows' rows'' old mid new (Ok it) t reads w =
    initialised_gives s forms forms' read i m given rows rows' rows'' old mid new it t reads w
initialised_ok s forms forms' read i m given rows rows' rows'' old mid new (Err x) t reads w = tt

pub bare_ok : {E : Type 0} (forms forms' : List Form) (rows : List Written) (old new : Faults)
    (m : ℕ → types.Made) (result : Result (Option Given) E)
    → IfOk result (λ it. Makes (m (length forms)) forms forms' old new it)
    → IfOk result (λ it. Gives (without_rows (m (length (bare_forms forms)))) forms forms' rows rows old new it)
bare_ok forms forms' rows old new m (Ok it) t =
    let P : ℕ → Type 0 = λ n. Gives (without_rows (m n)) forms forms' rows rows old new it in
    subst P (sym (bare_length forms))
    (record { told = t.told; forms_are = t.forms_are; rows_are = sym (no_more rows) })
bare_ok forms forms' rows old new m (Err x) t = tt
