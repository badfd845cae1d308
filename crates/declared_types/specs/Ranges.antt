-- The bounds of ranges. Source: IEC 61131-3, subrange and array declarations: both bounds are constant,
-- and the lower one isn't above the upper one.
use Rattle.std.specs.Prelude.{int_le, List, [], ◌∷◌, if◌then◌else◌}
use Rattle.st_tree.specs.declared.node.Node.{Node}
use Rattle.st_tree.specs.declared.node.Site.{Site}
use Rattle.st_tree.specs.declared.code.Number.{Number}
use Rattle.st_tree.specs.declared.declaration.Range.{Range}
use Rattle.link_faults.specs.declared.code.LinkCode.{LinkCode}
use Rattle.link_faults.specs.declared.code.LinkCode.TheVariants as code
use Rattle.link_faults.specs.Checked.{Checked, Good, Bad, wrong, provided, both}
use Rattle.expression_types.specs.Lists.{are_good, faults_of}
use Rattle.declared_types.specs.Around.{Around}
use Rattle.declared_types.specs.declared.forms.Dim.{Dim}
use Rattle.declared_types.specs.declared.outside.ConstantPlace.{ConstantPlace}

abbrev pub site_of : Around → Node → Site
site_of o node = record { file = o.file; node = node.number }

abbrev pub wrong_at : {A : Type 0} → Around → Node → LinkCode → Checked A
wrong_at o node fault = wrong (site_of o node) fault

abbrev pub in_order : Around → Node → Number → Number → Checked Dim
in_order o node a b =
    provided (int_le a.value b.value) (record { low = a.value; high = b.value }) (site_of o node)
    code.BadBound

-- the bounds of a range, each at that place
abbrev pub bounds : Around → ConstantPlace → Range → Checked Dim
bounds o p r = both (o.constant p r.lower) (o.constant p r.upper) (in_order o r.node)

-- the good ones of several parts
abbrev pub goods : {A : Type 0} → List (Checked A) → List A
goods [] = []
goods (Good a ∷ xs) = a ∷ goods xs
goods (Bad fs ∷ xs) = goods xs

-- several parts that stand side by side, where none of them holds a fault
abbrev pub all_of : {A : Type 0} → List (Checked A) → Checked (List A)
all_of xs = if are_good xs then Good (goods xs) else Bad (faults_of xs)
