-- One declaration after the other.
use Rattle.std.proofs.Common.{◌≡◌, ℕ, Bool, false, List, ◌++◌, length, map, Option, refl, ap, ◌∙◌, subst, slice_set}
use Rattle.st_tree.specs.declared.expression.Identifier.{Identifier}
use Rattle.st_tree.specs.declared.declaration.Decl.{Decl}
use Rattle.link_faults.specs.Checked.{answer}
use Rattle.link_faults.specs.declared.fault.Faults.{Faults}
use Rattle.expression_types.specs.Lists.{TellsAll}
use Rattle.expression_types.specs.steps.Several.{where_all}
use Rattle.project_declarations.specs.Declarations.{Declaration}
use Rattle.declared_types.specs.BareForms.{BareForm, bare_forms}
use Rattle.declared_types.specs.declared.forms.Form.{Form}
use Rattle.declared_types.specs.declared.given.Given.{Given}
use Rattle.initial_values.specs.declared.written.Written.{Written}
use Rattle.declaration_rules.specs.Declarations.{Surroundings, Made, variables}
use Rattle.declaration_rules.specs.steps.Telling.{Gives}
use Rattle.declared_names.specs.Project.{Project, Known, Here, known, here}
use Rattle.declared_project.specs.Surrounding.{surroundings, early}
use Rattle.declared_project.specs.Declaring.{external_name, external, declare}
use Rattle.declared_project.specs.Computing as spec
use Rattle.declared_project.proofs.Names.{with_all_told}

-- ---- names of globals

pub external_gives : (k : Known) (s : Surroundings) (forms forms' fs : List Form)
    (rows rows' : List Written) (old mid new : Faults) (d : Decl) (r o : Option Given) (all : Bool)
    (names : List Identifier)
    → Gives (variables s false false (bare_forms forms) (length rows) d) forms forms' rows rows' old mid r
    → fs ≡ forms' → names ≡ d.names
    → TellsAll (map (external_name k s (bare_forms fs) r) names) mid new all → o ≡ where_all all r
    → Gives (external k s (bare_forms forms) (length rows) d) forms forms' rows rows' old new o
external_gives k s forms forms' fs rows rows' old mid new d r o all names t fs_is named told same =
    let m : Made = variables s false false (bare_forms forms) (length rows) d in
    let N : List Identifier → Type 0 =
    λ ns. TellsAll (map (external_name k s (bare_forms fs) r) ns) mid new all in
    let F : List Form → Type 0 =
    λ gs. TellsAll (map (external_name k s (bare_forms gs) r) d.names) mid new all in
    let B : List BareForm → Type 0 =
    λ bs. TellsAll (map (external_name k s bs r) d.names) mid new all in
    let R : Option Given → Type 0 =
    λ g. TellsAll (map (external_name k s (bare_forms forms ++ m.forms) g) d.names) mid new all in
    record {
      told =
          with_all_told m.told
          (map (external_name k s (bare_forms forms ++ m.forms) (answer m.told)) d.names) old mid new r o all
          t.told
          (subst R t.told.answer (subst B t.forms_are (subst F fs_is (subst N named told)))) same;
      forms_are = t.forms_are;
      rows_are = t.rows_are;
    }

-- ---- one more

pub row_computed : (p : Project) (n : ℕ) (d : Declaration) (k : Known) (h : Here)
    (given gs given' : List (Option Given)) (forms forms' : List Form) (rows rows' : List Written)
    (old new : Faults) (r : Option Given) → k ≡ known p gs → gs ≡ given → h ≡ here n d
    → Gives (declare k (surroundings (early k h) k h) (bare_forms forms) (length rows) d) forms forms'
    rows rows' old new r
    → given' ≡ slice_set given n r
    → record { given = given'; forms = bare_forms forms'; rows = rows' }
    ≡ spec.with_made (record { given = given; forms = bare_forms forms; rows = rows }) n
    (spec.made p (record { given = given; forms = bare_forms forms; rows = rows }) n d)
row_computed p n d k h given gs given' forms forms' rows rows' old new r known_is given_is here_is t set =
    let c : spec.Computed = record { given = given; forms = bare_forms forms; rows = rows } in
    let K : Known → Type 0 =
    λ x. Gives (declare x (surroundings (early x h) x h) (bare_forms forms) (length rows) d) forms forms'
    rows rows' old new r in
    let H : Here → Type 0 =
    λ x. Gives (declare (known p given) (surroundings (early (known p given) x) (known p given) x)
    (bare_forms forms) (length rows) d) forms forms' rows rows' old new r in
    let done = subst H here_is (subst K (known_is ∙ ap (known p) given_is) t) in
    let sets : given' ≡ slice_set given n (answer (spec.made p c n d).told) =
    set ∙ ap (slice_set given n) done.told.answer in
    rw (sets, done.forms_are, done.rows_are) refl
