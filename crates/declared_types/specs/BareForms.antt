-- The rows of the table of forms as what they say, without where names of fields lie.
use Rattle.std.specs.Prelude.{ℕ, List, map}
use Rattle.standard_names.specs.declared.block.StandardBlock.{StandardBlock}
use Rattle.project_declarations.specs.declared.rows.UnitNo.{UnitNo}
use Rattle.declared_types.specs.declared.given.Given.{Given}
use Rattle.declared_types.specs.declared.forms.ArrayForm.{ArrayForm}
use Rattle.declared_types.specs.declared.forms.FieldForm.{FieldForm}
use Rattle.declared_types.specs.declared.forms.Form.{Form}
use Rattle.declared_types.specs.declared.forms.Form.TheVariants as form

-- a field of a structure, by its name as it is written
pub record Field : Type 0 where
  pub name : List ℕ
  pub given : Given

-- what a type that isn't elementary is
pub data BareForm : Type 0 where
  Standard : StandardBlock → BareForm
  Block : UnitNo → BareForm
  -- with so many values
  Enumeration : ℕ → BareForm
  Array : ArrayForm → BareForm
  Structure : List Field → BareForm

abbrev pub bare_field : FieldForm → Field
bare_field f = record { name = f.name.now; given = f.given }

abbrev pub bare_form : Form → BareForm
bare_form (form.Standard block) = Standard block
bare_form (form.Block unit) = Block unit
bare_form (form.Enumeration count) = Enumeration count
bare_form (form.Array a) = Array a
bare_form (form.Structure fields) = Structure (map bare_field fields)

abbrev pub bare_forms : List Form → List BareForm
bare_forms forms = map bare_form forms
