-- CASE: the selector is elementary or an enumeration, and each label is a constant of its type. Source:
-- IEC 61131-3, selection statements; which faults stand is this profile's. Labels may overlap.
use Rattle.std.specs.Prelude.{ℕ, int_le, Bool, true, false, List, flat_map, Option, Some, None}
use Rattle.iec_tables.specs.declared.elem.Elem.{Elem}
use Rattle.st_tree.specs.declared.node.Node.{Node}
use Rattle.st_tree.specs.declared.code.Number.{Number}
use Rattle.st_tree.specs.declared.expression.Identifier.{Identifier}
use Rattle.st_tree.specs.declared.expression.Expr.{Expr}
use Rattle.st_tree.specs.declared.statement.Label.{Label}
use Rattle.st_tree.specs.declared.statement.Point.{Point}
use Rattle.st_tree.specs.declared.statement.Point.TheVariants as point
use Rattle.link_faults.specs.Checked.{Checked, Good, faults, provided, bind, both, unusable}
use Rattle.link_faults.specs.declared.code.LinkCode.TheVariants as code
use Rattle.link_faults.specs.declared.fault.LinkFault.{LinkFault}
use Rattle.expression_types.specs.Rules.{site_of, wrong_at, used, value_of_type, typed_literal, known_number}
use Rattle.expression_types.specs.Types.{in_range}
use Rattle.expression_types.specs.Reads.{fits_elem}
use Rattle.expression_types.specs.Judge.{placed}
use Rattle.expression_types.specs.declared.judged.ExprType.{ExprType}
use Rattle.expression_types.specs.declared.judged.ExprType.TheVariants as ty
use Rattle.expression_types.specs.declared.judged.Judged.{Judged}
use Rattle.expression_types.specs.declared.judged.Place.TheVariants as place
use Rattle.expression_types.specs.declared.meaning.ShapeNo.{ShapeNo}
use Rattle.body_rules.specs.Surroundings.{Here}
use Rattle.body_rules.specs.Told.{anywhere, constant, node_of}
use Rattle.body_rules.specs.declared.labels.Selector.{Selector}
use Rattle.body_rules.specs.declared.labels.Selector.TheVariants as selector

-- ---- the selector

abbrev pub selected_shape : Here → Expr → ShapeNo → Checked Selector
selected_shape h e shape =
    provided (h.meanings.parts.is_enumeration shape) (selector.Enumeration shape)
    (site_of (anywhere h.file) (node_of h e)) code.WrongType

abbrev pub selected_type : Here → Expr → ExprType → Checked Selector
selected_type h e (ty.Elem t) = Good (selector.Elem t)
selected_type h e (ty.Other shape) = selected_shape h e shape
selected_type h e ty.Loose = wrong_at (anywhere h.file) (node_of h e) code.WrongType

abbrev pub selected : Here → Expr → Checked Selector
selected h e =
    bind (placed h.meanings (anywhere h.file) place.Any e) (λ j. selected_type h e j.ty)

-- what labels are compared with; where the selector holds a fault, they may be of any type
abbrev pub known_selector : Option Selector → Selector
known_selector None = selector.Unknown
known_selector (Some s) = s

-- ---- labels

abbrev pub fits_enumeration : Here → ShapeNo → ExprType → Bool
fits_enumeration h shape (ty.Other other) = h.meanings.names.is_same shape other
fits_enumeration h shape (ty.Elem t) = false
fits_enumeration h shape ty.Loose = false

abbrev pub fits_label : Here → Selector → ExprType → Bool
fits_label h selector.Unknown t = true
fits_label h (selector.Elem s) t = fits_elem s t
fits_label h (selector.Enumeration shape) t = fits_enumeration h shape t

abbrev pub fitting_type : Here → Selector → Node → ExprType → Number → Checked Number
fitting_type h s node t z =
    provided (fits_label h s t) z (site_of (constant h.file) node) code.WrongType

-- a label that isn't constant holds a fault, and its type breaks no rule
abbrev pub fitting : Here → Selector → Node → Judged → Checked Number
fitting h s node j =
    bind (known_number (constant h.file) node j.number) (fitting_type h s node j.ty)

abbrev pub fitted : Here → Selector → Node → Checked Judged → Checked Number
fitted h s node x = bind x (fitting h s node)

abbrev pub untyped : Option Number → Checked Number
untyped None = unusable
untyped (Some z) = Good z

abbrev pub number_in : Here → Elem → Node → Option Number → Checked Number
number_in h t node None = wrong_at (constant h.file) node code.WrongType
number_in h t node (Some z) =
    provided (in_range t z.value) z (site_of (constant h.file) node) code.WrongType

-- a number without a type takes that of an elementary selector, where it is in range
abbrev pub number_label : Here → Selector → Node → Option Number → Checked Number
number_label h selector.Unknown node z = untyped z
number_label h (selector.Elem t) node z = number_in h t node z
number_label h (selector.Enumeration shape) node z = wrong_at (constant h.file) node code.WrongType

abbrev pub typed_number : Here → Node → List ℕ → Checked Judged
typed_number h node text =
    typed_literal (constant h.file) node (h.meanings.names.typed_literal text)

abbrev pub typed_label : Here → Selector → Node → List ℕ → Checked Number
typed_label h s node text = fitted h s node (typed_number h node text)

abbrev pub name_label : Here → Selector → Node → List ℕ → Checked Number
name_label h s node name =
    fitted h s node (used (constant h.file) node (h.meanings.names.seen name))

-- `type#value`
abbrev pub value_label : Here → Selector → Node → Identifier → Identifier → Checked Number
value_label h s node name v =
    fitted h s node (value_of_type (constant h.file) node name.node v.node
    (h.meanings.names.type_value name.name v.name))

-- the number that a label names
abbrev pub point_number : Here → Selector → Point → Checked Number
point_number h s (point.Number node negative text) =
    number_label h s node (h.meanings.names.literal negative text)
point_number h s (point.Typed node text) = typed_label h s node text
point_number h s (point.Name i) = name_label h s i.node i.name
point_number h s (point.Value node name v) = value_label h s node name v

abbrev pub rising : Here → Node → Number → Number → Checked Number
rising h node first last =
    provided (int_le first.value last.value) last (site_of (constant h.file) node) code.BadBound

abbrev pub pair : Here → Selector → Node → Point → Point → Checked Number
pair h s node first last = both (point_number h s first) (point_number h s last) (rising h node)

-- a label, or a range of labels from the first to one that isn't below it
abbrev pub range : Here → Selector → Node → Point → Option Point → Checked Number
range h s node first None = point_number h s first
range h s node first (Some last) = pair h s node first last

abbrev pub label : Here → Selector → Label → List LinkFault
label h s l = faults (range h s l.node l.first l.last)

abbrev pub labels : Here → Selector → List Label → List LinkFault
labels h s ls = flat_map (label h s) ls
