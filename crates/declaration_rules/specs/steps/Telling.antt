-- What a call tells of a declaration that adds rows to both tables: a step on the way.
use Rattle.std.specs.Prelude.{◌≡◌, ℕ, Bool, true, false, if◌then◌else◌, List, [], ◌∷◌, ◌++◌, Option, Some, None}
use Rattle.link_faults.specs.declared.code.LinkCode.TheVariants as code
use Rattle.link_faults.specs.Checked.{Checked, Good, Bad, Tells, unusable}
use Rattle.link_faults.specs.declared.fault.Faults.{Faults}
use Rattle.iec_tables.specs.declared.elem.Elem.{Elem}
use Rattle.st_tree.specs.declared.node.Node.{Node}
use Rattle.st_tree.specs.declared.expression.Address.{Address}
use Rattle.st_tree.specs.declared.expression.Identifier.{Identifier}
use Rattle.st_tree.specs.declared.declaration.Init.{Init}
use Rattle.st_tree.specs.declared.declaration.Decl.{Decl}
use Rattle.declared_types.specs.Around.{Around}
use Rattle.declared_types.specs.Ranges.{wrong_at}
use Rattle.declared_types.specs.declared.given.Given.{Given}
use Rattle.declared_types.specs.BareForms.{BareForm, Field, Structure, bare_forms}
use Rattle.declared_types.specs.declared.forms.Form.{Form}
use Rattle.initial_values.specs.Nodes.{init_node}
use Rattle.initial_values.specs.Initials as values
use Rattle.initial_values.specs.declared.written.Written.{Written}
use Rattle.declaration_rules.specs.Declarations.{Surroundings, Made, held, with_value, fields_of, structure_given}

pub record Gives (x : Made) (forms forms' : List Form) (rows rows' : List Written)
    (old new : Faults) (result : Option Given) : Type 0 where
  pub told : Tells x.told old new result
  pub forms_are : bare_forms forms' ≡ bare_forms forms ++ x.forms
  pub rows_are : rows' ≡ rows ++ x.rows

abbrev pub around_of : Around → (List ℕ → ℕ) → (Init → Bool)
    → (Node → Bool) → (List ℕ → Elem → Bool) → Surroundings
around_of around repeats leads twice holds =
    record {
      around = around;
      repeats = repeats;
      leads_back = leads;
      has_field_twice = twice;
      address_holds = holds;
    }

-- what is known of a type, with an initial value
abbrev pub known_value : Surroundings → List BareForm → ℕ → Init → Option Given → values.Made Given
known_value s forms before i None = values.without_rows (Bad (values.alone s.around i))
known_value s forms before i (Some g) = with_value s forms before i (Good g)

abbrev pub known_written : Surroundings → List BareForm → ℕ → Init → Option Given → values.Made Given
known_written s forms before i given =
    if s.leads_back i then values.without_rows (wrong_at s.around (init_node i) code.NotConstant)
    else known_value s forms before i given

abbrev pub known_if : Surroundings → List BareForm → ℕ → Option Init → Option Given → values.Made Given
known_if s forms before None None = values.without_rows unusable
known_if s forms before None (Some g) = values.without_rows (Good g)
known_if s forms before (Some i) given = known_written s forms before i given

-- what is known of a type, at an address or at none
abbrev pub known_at : Surroundings → Bool → Decl → Option Address → Option Given → Checked Given
known_at s may_stand d None None = unusable
known_at s may_stand d None (Some g) = Good g
known_at s true d (Some a) None = unusable
known_at s true d (Some a) (Some g) = held s a d.names g
known_at s false d (Some a) given = wrong_at s.around d.node code.OutOfProfile

-- the fields of a group, where its specification gives something
abbrev pub known_fields : Option Given → List Identifier → List Field
known_fields None names = []
known_fields (Some given) names = fields_of given names

-- the row of a structure, and what it gives under a number
abbrev pub known_structure : Bool → Bool → List Field → Option (List Field)
known_structure true false fields = Some fields
known_structure true true fields = None
known_structure false twice fields = None

abbrev pub structure_rows : Option (List Field) → List BareForm
structure_rows None = []
structure_rows (Some fields) = Structure fields ∷ []

abbrev pub structure_under : ℕ → Option (List Field) → Option Given
structure_under k None = None
structure_under k (Some fields) = Some (structure_given k fields)
