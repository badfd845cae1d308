-- What a call tells of an initial value that adds rows to the table of written values: a step on the way.
use Rattle.std.specs.Prelude.{◌≡◌, ℕ, ◌-◌, Bool, true, false, map, nat_le, if◌then◌else◌, List, [], ◌∷◌, ◌++◌, Option, Some, None}
use Rattle.link_faults.specs.Checked.{Checked, Good, Tells, unusable}
use Rattle.link_faults.specs.declared.code.LinkCode.TheVariants as code
use Rattle.link_faults.specs.declared.fault.Faults.{Faults}
use Rattle.st_tree.specs.declared.node.Node.{Node}
use Rattle.declared_types.specs.Around.{Around}
use Rattle.declared_types.specs.Ranges.{wrong_at}
use Rattle.declared_types.specs.declared.forms.ArrayForm.{ArrayForm}
use Rattle.declared_types.specs.declared.given.Initial.{Initial}
use Rattle.initial_values.specs.declared.written.Run.{Run}
use Rattle.initial_values.specs.declared.written.Written.{Written}
use Rattle.initial_values.specs.declared.written.Written.TheVariants as written
use Rattle.declared_types.specs.declared.forms.Form.{Form}
use Rattle.declared_types.specs.declared.given.Initial.TheVariants as initial
use Rattle.declared_types.specs.BareForms.{Field, bare_forms}
use Rattle.initial_values.specs.declared.written.Part.{Part}
use Rattle.initial_values.specs.Initials.{Made, Ground, run_of, own_value, written_over}

-- the rows are added, the first fault is kept, and this is the answer
pub record Writes {A : Type 0} (x : Made A) (rows rows' : List Written) (old new : Faults)
    (result : Option A) : Type 0 where
  pub told : Tells x.told old new result
  pub rows_are : rows' ≡ rows ++ x.rows

-- how many elements are left, where there aren't more values than elements
abbrev pub room : ℕ → ℕ → Option ℕ
room count total = if nat_le total count then Some (count - total) else None

abbrev pub room_after : Option ℕ → ℕ → Option ℕ
room_after None count = None
room_after (Some left) count = room left count

-- a list that is whole
abbrev pub kept : {A : Type 0} → Bool → List A → Option (List A)
kept true xs = Some xs
kept false xs = None

-- the row of an array's value: with how many elements are left, and the runs of the others
abbrev pub filled : ArrayForm → ℕ → Option (List Run) → Checked Written
filled a left None = unusable
filled a left (Some runs) = Good (written.Elements (runs ++ (run_of left a.element.value ∷ [])))

abbrev pub known_elements : Around → Node → ArrayForm → Option ℕ → Option (List Run) → Checked Written
known_elements o node a None runs = wrong_at o node code.BadBound
known_elements o node a (Some left) runs = filled a left runs

abbrev pub rows_of : Option Written → List Written
rows_of None = []
rows_of (Some row) = row ∷ []

abbrev pub initial_of : ℕ → Option Written → Option Initial
initial_of k None = None
initial_of k (Some row) = Some (initial.Written (record { 0 = k }))

abbrev pub ground : Around → (List ℕ → ℕ) → List Form → Ground
ground around repeats forms = record { around = around; repeats = repeats; forms = bare_forms forms }

abbrev pub fields_row : List Field → Bool → List Part → Option Written
fields_row fields true parts =
    Some (written.Fields (written_over (map own_value fields) parts))
fields_row fields false parts = None
