-- What the declarations of a project give, each computed from what those before it in an order give.
-- Their faults are told where they are read once all are known.
use Rattle.std.specs.Prelude.{ℕ, List, [], ◌∷◌, ◌++◌, length, replicate, slice_get, slice_set, Option, Some, None}
use Rattle.link_faults.specs.Checked.{answer}
use Rattle.project_declarations.specs.Declarations.{Declaration}
use Rattle.declared_types.specs.BareForms.{BareForm}
use Rattle.declared_types.specs.declared.given.Given.{Given}
use Rattle.initial_values.specs.declared.written.Written.{Written}
use Rattle.declaration_rules.specs.Declarations.{Made}
use Rattle.declared_names.specs.Project.{Project, Known, Here, known, here}
use Rattle.declared_names.specs.Shapes.{first_forms}
use Rattle.declared_project.specs.Surrounding.{surroundings, early}
use Rattle.declared_project.specs.Declaring.{declare}

-- what declarations give as far as it is computed: by the number of each, none where it holds a fault or
-- isn't computed yet; and the rows of both tables
pub record Computed : Type 0 where
  pub given : List (Option Given)
  pub forms : List BareForm
  pub rows : List Written

-- before any is computed
abbrev pub nothing_yet : Project → Computed
nothing_yet p =
    record { given = replicate (length p.decls) None; forms = first_forms p; rows = [] }

abbrev pub made_early : Known → Here → Computed → Declaration → Made
made_early k h c d = declare k (surroundings (early k h) k h) c.forms (length c.rows) d

abbrev pub made : Project → Computed → ℕ → Declaration → Made
made p c n d = made_early (known p c.given) (here n d) c d

abbrev pub with_made : Computed → ℕ → Made → Computed
with_made c n m =
    record {
      given = slice_set c.given n (answer m.told);
      forms = c.forms ++ m.forms;
      rows = c.rows ++ m.rows;
    }

abbrev pub with_declaration : Project → Computed → ℕ → Option Declaration → Computed
with_declaration p c n None = c
with_declaration p c n (Some d) = with_made c n (made p c n d)

-- one declaration more
abbrev pub turn : Project → Computed → ℕ → Computed
turn p c n = with_declaration p c n (slice_get p.decls n)

abbrev pub computed_from : Project → Computed → List ℕ → Computed
computed_from p c [] = c
computed_from p c (n ∷ ns) = computed_from p (turn p c n) ns

-- what all give, in this order
abbrev pub computed : Project → List ℕ → Computed
computed p order = computed_from p (nothing_yet p) order
