-- The inputs of a function of the standard as three, of which one with fewer inputs has the first ones:
-- steps on the way.
use Rattle.std.specs.Prelude.{ℕ, zero, suc, true, ◌<◌, ◌+◌, List, [], ◌∷◌, Option, Some, None}
use Rattle.standard_names.specs.declared.function.StandardFunction.{StandardFunction}
use Rattle.standard_names.specs.declared.function.StandardFunction.TheVariants as function
use Rattle.link_faults.specs.Checked.{Checked, unusable}
use Rattle.expression_types.specs.Rules.{varying}
use Rattle.expression_types.specs.Reads.{Read, ReadArgument}
use Rattle.expression_types.specs.Shared.{Operand}
use Rattle.expression_types.specs.declared.judged.ExprType.{ExprType}
use Rattle.expression_types.specs.declared.judged.Judged.{Judged}
use Rattle.expression_types.specs.declared.judged.Standing.{Standing}
use Rattle.expression_types.specs.declared.standard_inputs.Places.{Places}

-- as many as the function has inputs
abbrev pub listed : {A : Type 0} → StandardFunction → A → A → A → List A
listed function.Abs x y z = x ∷ []
listed function.Min x y z = x ∷ y ∷ []
listed function.Max x y z = x ∷ y ∷ []
listed function.Limit x y z = x ∷ y ∷ z ∷ []
listed function.Sel x y z = x ∷ y ∷ z ∷ []
listed function.Shl x y z = x ∷ y ∷ []
listed function.Shr x y z = x ∷ y ∷ []
listed function.Rol x y z = x ∷ y ∷ []
listed function.Ror x y z = x ∷ y ∷ []
listed (function.Convert from to) x y z = x ∷ []

abbrev pub places_listed : StandardFunction → Places → List ℕ
places_listed f p = listed f p.first p.second p.third

abbrev pub one_listed : Places → List ℕ
one_listed p = p.first ∷ []

abbrev pub two_listed : Places → List ℕ
two_listed p = p.first ∷ p.second ∷ []

abbrev pub three_listed : Places → List ℕ
three_listed p = p.first ∷ p.second ∷ p.third ∷ []

-- the place stands in a list of that length
abbrev pub IsIn : ℕ → Option ℕ → Type 0
IsIn n None = Unit {0}
IsIn n (Some p) = p < n

abbrev pub AreIn : ℕ → Option Places → Type 0
AreIn n None = Unit {0}
AreIn n (Some p) = (p.first < n) × (p.second < n) × (p.third < n)

-- a place counted from a later one
abbrev pub further : ℕ → Option ℕ → Option ℕ
further n None = None
further n (Some p) = Some (n + p)

-- ---- values

abbrev pub no_value : Read
no_value =
    record {
      node = record { number = record { 0 = 0 }; start = 0; end = 0 };
      holds = λ t. true;
      settled = λ t. unusable;
      judged = unusable;
    }

-- the value of the argument at a place, where there is one
abbrev pub value_or : List ReadArgument → ℕ → Read
value_or [] p = no_value
value_or (a ∷ rest) zero = a.value
value_or (a ∷ rest) (suc p) = value_or rest p

-- ---- operands

abbrev pub two_of : Read → Judged → Read → Judged → List Operand
two_of x i y j = record { read = x; judged = i } ∷ record { read = y; judged = j } ∷ []

abbrev pub three_of : Read → Judged → Read → Judged → Read → Judged → List Operand
three_of x i y j z k =
    record { read = x; judged = i } ∷ record { read = y; judged = j } ∷
    record { read = z; judged = k } ∷ []

-- operands with one more, where all are there
abbrev pub with_operand : Read → Option Judged → Option (List Operand) → Option (List Operand)
with_operand x None os = None
with_operand x (Some j) None = None
with_operand x (Some j) (Some os) = Some (record { read = x; judged = j } ∷ os)

-- a rule is asked where all operands are there
abbrev pub of_operands : {A : Type 0} → Option (List Operand) → (List Operand → Checked A) → Checked A
of_operands None rule = unusable
of_operands (Some os) rule = rule os

-- a call of the type of a value that is there, and one of a type of its own
abbrev pub its_type : Standing → Option Judged → Option Judged
its_type c None = None
its_type c (Some j) = Some (varying c j.ty)

abbrev pub this_type : Standing → ExprType → Option Judged → Option Judged
this_type c t None = None
this_type c t (Some j) = Some (varying c t)
