-- FOR: its variable, and the values from which and to which it counts, and by which. Source: IEC 61131-3,
-- iteration statements; which faults stand is this profile's.
use Rattle.std.specs.Prelude.{pos, Bool, not, if◌then◌else◌, List, [], ◌++◌, Option, Some, None}
use Rattle.std.specs.Ordering.{int_eq}
use Rattle.iec_tables.specs.declared.elem.Elem.{Elem}
use Rattle.st_tree.specs.declared.code.Number.{Number}
use Rattle.st_tree.specs.declared.expression.Identifier.{Identifier}
use Rattle.st_tree.specs.declared.expression.Expr.{Expr}
use Rattle.st_tree.specs.declared.statement.Counter.{Counter}
use Rattle.link_faults.specs.Checked.{Checked, Good, faults, answer, provided, bind, unusable}
use Rattle.link_faults.specs.declared.code.LinkCode.TheVariants as code
use Rattle.link_faults.specs.declared.fault.LinkFault.{LinkFault}
use Rattle.expression_types.specs.Rules.{site_of, wrong_at}
use Rattle.expression_types.specs.Judge.{constant_number}
use Rattle.expression_types.specs.declared.judged.Place.{Place}
use Rattle.expression_types.specs.declared.judged.Place.TheVariants as place
use Rattle.body_rules.specs.Loops.{Loop, counts}
use Rattle.body_rules.specs.Surroundings.{Here}
use Rattle.body_rules.specs.Told.{anywhere, node_of, expression}
use Rattle.body_rules.specs.declared.outside.CounterVariable.{CounterVariable}
use Rattle.body_rules.specs.declared.outside.CounterVariable.TheVariants as variable

-- the variable of a FOR isn't the one of a loop around
abbrev pub uncounted : Here → List Loop → Identifier → Elem → Checked Elem
uncounted h loops i t =
    if counts loops i.name then wrong_at (anywhere h.file) i.node code.NotAssignable else Good t

abbrev pub counter_of : Here → List Loop → Identifier → CounterVariable → Checked Elem
counter_of h loops i variable.Unknown = wrong_at (anywhere h.file) i.node code.Unknown
counter_of h loops i variable.Faulty = unusable
counter_of h loops i variable.NoCounter = wrong_at (anywhere h.file) i.node code.WrongType
counter_of h loops i variable.NotAssignable = wrong_at (anywhere h.file) i.node code.NotAssignable
counter_of h loops i (variable.Is t) = uncounted h loops i t

abbrev pub counter_type : Here → List Loop → Identifier → Checked Elem
counter_type h loops i = counter_of h loops i (h.around.counter i.name)

-- where the variable has no type, neither do the places of its values
abbrev pub counter_place : Option Elem → Place
counter_place None = place.Any
counter_place (Some t) = place.Elem t

abbrev pub is_zero : Number → Bool
is_zero z = int_eq z.value (pos 0)

abbrev pub nonzero : Here → Expr → Number → Checked Number
nonzero h e z =
    provided (not (is_zero z)) z (site_of (anywhere h.file) (node_of h e)) code.BadBound

-- the step is constant, and isn't 0
abbrev pub step_number : Here → Place → Expr → Checked Number
step_number h p e = bind (constant_number h.meanings h.file p e) (nonzero h e)

abbrev pub step : Here → Place → Option Expr → List LinkFault
step h p None = []
step h p (Some e) = faults (step_number h p e)

abbrev pub counted : Here → Counter → Place → List LinkFault
counted h c p = expression h p c.first ++ (expression h p c.last ++ step h p c.step)

abbrev pub counted_at : Here → Counter → Option Elem → List LinkFault
counted_at h c t = counted h c (counter_place t)

abbrev pub counter : Here → List Loop → Counter → List LinkFault
counter h loops c =
    faults (counter_type h loops c.variable)
    ++ counted_at h c (answer (counter_type h loops c.variable))
