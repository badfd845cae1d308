-- What stands in the parentheses of tasks. Source: IEC 61131-3, tasks, as this profile narrows
-- them: a task has a priority, a constant from 0 to 65,535, and may have an interval and a single
-- trigger, which needn't be constant.
use Rattle.std.specs.Prelude.{ℕ, ℤ, pos, int_le, Bool, true, false, ◌&&◌, not, if◌then◌else◌}
use Rattle.std.specs.Prelude.{List, [], ◌∷◌, ◌++◌, take, codes}
use Rattle.std.specs.List.{list_any}
use Rattle.std.specs.Str.{bytes_eq}
use Rattle.iec_tables.specs.Words.{raised_all}
use Rattle.iec_tables.specs.declared.elem.Elem.TheVariants as elem
use Rattle.st_tree.specs.declared.code.Number.{Number}
use Rattle.st_tree.specs.declared.expression.Expr.{Expr}
use Rattle.st_tree.specs.declared.file.Parameter.{Parameter}
use Rattle.st_tree.specs.declared.file.Task.{Task}
use Rattle.link_faults.specs.Checked.{Checked, faults, bind, provided}
use Rattle.link_faults.specs.declared.code.LinkCode.TheVariants as code
use Rattle.link_faults.specs.declared.fault.LinkFault.{LinkFault}
use Rattle.expression_types.specs.Meanings.{Meanings}
use Rattle.expression_types.specs.Judge.{read, placed, constant_number, must_be_constant}
use Rattle.expression_types.specs.declared.judged.Place.{Place}
use Rattle.expression_types.specs.declared.judged.Place.TheVariants as place
use Rattle.expression_types.specs.declared.judged.Standing.{Standing}
use Rattle.project_declarations.specs.Named.{each_from, site_of}
use Rattle.project_declarations.specs.Declarations.{joined}
use Rattle.unit_rules.specs.Noted.{fault_at, fault_where}
use Rattle.unit_rules.specs.declared.parameters.ParameterKind.{ParameterKind}
use Rattle.unit_rules.specs.declared.parameters.ParameterKind.TheVariants as kind

-- letter case does not tell names apart
abbrev pub same_names : List ℕ → List ℕ → Bool
same_names a b = bytes_eq (raised_all a) (raised_all b)

-- ---- the three parameters

abbrev pub kind_of : List ℕ → ParameterKind
kind_of name =
    if same_names name (codes "PRIORITY") then kind.Priority
    else if same_names name (codes "INTERVAL") then kind.Interval
    else if same_names name (codes "SINGLE") then kind.Single
    else kind.Other

abbrev pub parameter_kind : Parameter → ParameterKind
parameter_kind x = kind_of x.name.name

-- ---- their values

abbrev pub is_priority : Number → Bool
is_priority z = int_le (pos 0) z.value && int_le z.value (pos 65535)

abbrev pub in_priorities : Meanings → ℕ → Expr → Number → Checked Number
in_priorities m file e z =
    provided (is_priority z) z (site_of file (read m (must_be_constant file) e).node) code.BadBound

abbrev pub priority : Meanings → ℕ → Expr → Checked Number
priority m file e = bind (constant_number m file place.Integer e) (in_priorities m file e)

abbrev pub priority_faults : Meanings → ℕ → Expr → List LinkFault
priority_faults m file e = faults (priority m file e)

abbrev pub may_vary : ℕ → Standing
may_vary file = record { file = file; constant = false }

abbrev pub value_faults : Meanings → ℕ → Place → Expr → List LinkFault
value_faults m file p e = faults (placed m (may_vary file) p e)

-- a parameter that tasks don't have is unknown; its value is judged all the same
abbrev pub unknown_faults : Meanings → ℕ → Parameter → List LinkFault
unknown_faults m file x =
    fault_at file x.name.node code.Unknown ∷ value_faults m file place.Any x.value

abbrev pub kind_faults : Meanings → ℕ → Parameter → ParameterKind → List LinkFault
kind_faults m file x kind.Priority = priority_faults m file x.value
kind_faults m file x kind.Interval = value_faults m file (place.Elem elem.Time) x.value
kind_faults m file x kind.Single = value_faults m file (place.Elem elem.Bool) x.value
kind_faults m file x kind.Other = unknown_faults m file x

-- ---- parameters given before

-- one of the parameters has the name
abbrev pub is_given : List Parameter → List ℕ → Bool
is_given xs name = list_any (λ x. same_names x.name.name name) xs

abbrev pub twice_faults : ℕ → List Parameter → Parameter → List LinkFault
twice_faults file before x =
    fault_where (is_given before x.name.name) (fault_at file x.name.node code.Twice)

-- ---- tasks

-- the parameter at a place among all parameters of its task
abbrev pub parameter_faults : Meanings → ℕ → List Parameter → ℕ → Parameter → List LinkFault
parameter_faults m file xs at x =
    twice_faults file (take at xs) x ++ kind_faults m file x (parameter_kind x)

abbrev pub parameters_faults : Meanings → ℕ → List Parameter → List LinkFault
parameters_faults m file xs = joined (each_from (parameter_faults m file xs) 0 xs)

-- a task without a priority
abbrev pub lacks_faults : ℕ → Task → List LinkFault
lacks_faults file x =
    fault_where (not (is_given x.parameters (codes "PRIORITY")))
    (fault_at file x.node code.WrongCall)

abbrev pub task_faults : Meanings → ℕ → Task → List LinkFault
task_faults m file x = parameters_faults m file x.parameters ++ lacks_faults file x
