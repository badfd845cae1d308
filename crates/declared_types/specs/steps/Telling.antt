-- What a call tells of a specification that adds rows to the table of forms: a step on the way.
use Rattle.std.specs.Prelude.{◌≡◌, ℕ, nat_le, nat_lt, if◌then◌else◌, List, [], ◌∷◌, ◌++◌, Option, Some, None}
use Rattle.std.specs.declared.vec.Vec.{Vec}
use Rattle.link_faults.specs.First.{after}
use Rattle.link_faults.specs.Checked.{Checked, Good, Tells, answer, unusable}
use Rattle.link_faults.specs.declared.fault.Faults.{Faults}
use Rattle.declared_types.specs.declared.given.Given.{Given}
use Rattle.declared_types.specs.declared.forms.Form.{Form}
use Rattle.expression_types.specs.Lists.{faults_of, with_all}
use Rattle.st_tree.specs.declared.node.Node.{Node}
use Rattle.st_tree.specs.declared.declaration.Range.{Range}
use Rattle.link_faults.specs.declared.code.LinkCode.TheVariants as code
use Rattle.declared_types.specs.Around.{Around}
use Rattle.declared_types.specs.BareForms.{bare_forms}
use Rattle.declared_types.specs.Ranges.{all_of, bounds, wrong_at}
use Rattle.declared_types.specs.Specifications.{Made, max_dims, max_elements, narrowed_type, small_array, array_given}
use Rattle.declared_types.specs.declared.forms.Dim.{Dim}
use Rattle.declared_types.specs.declared.forms.ArrayForm.{ArrayForm}
use Rattle.declared_types.specs.declared.forms.Form.TheVariants as form
use Rattle.declared_types.specs.declared.outside.ConstantPlace.TheVariants as place

-- the rows are added, the first fault is kept, and this is the answer
pub record Makes (x : Made) (forms forms' : List Form) (old new : Faults) (result : Option Given)
    : Type 0 where
  pub told : Tells x.told old new result
  pub forms_are : bare_forms forms' ≡ bare_forms forms ++ x.forms

-- What a call tells of several parts: the first fault after it, and their list where all are good.
pub record TellsList {A : Type 0} (xs : List (Checked A)) (old new : Faults)
    (result : Option (List A)) : Type 0 where
  pub first : new ≡ after old (faults_of xs)
  pub list : result ≡ answer (all_of xs)

-- a number of elements that aren't too many
abbrev pub counted : ℕ → Option ℕ
counted n = if nat_le n max_elements then Some n else None

abbrev pub items_in : {A G : Type 0} → Option (Vec A G) → Option (List A)
items_in None = None
items_in (Some v) = Some v.items

-- what is known of a type, with a range of its own or none
abbrev pub narrowed_known : Around → Node → Option Range → Option Given → Checked Given
narrowed_known o node None None = unusable
narrowed_known o node None (Some given) = Good given
narrowed_known o node (Some range) None = with_all unusable (bounds o place.Any range ∷ [])
narrowed_known o node (Some range) (Some given) = narrowed_type o node range given.ty

abbrev pub on_both : {A B C : Type 0} → Option A → Option B → (A → B → Checked C) → Checked C
on_both (Some a) (Some b) rule = rule a b
on_both (Some a) None rule = unusable
on_both None b rule = unusable

-- an array over so many ranges, with what is known of their dimensions and of its element
abbrev pub known_array : Around → Node → ℕ → Option (List Dim) → Option Given → Checked ArrayForm
known_array o node ranges dims element =
    if nat_lt max_dims ranges then wrong_at o node code.BadBound
    else on_both dims element (small_array o node)

-- the row of an array, where there is one, and what the array gives under a number
abbrev pub rows_of : Option ArrayForm → List Form
rows_of None = []
rows_of (Some a) = form.Array a ∷ []

abbrev pub given_of : ℕ → Option ArrayForm → Option Given
given_of k None = None
given_of k (Some a) = Some (array_given k a)
