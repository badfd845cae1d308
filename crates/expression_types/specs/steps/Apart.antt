-- One of the names of arguments beside the later ones: a step on the way.
use Rattle.std.specs.Prelude.{Bool, true, if◌then◌else◌, List, Option}
use Rattle.st_tree.specs.declared.expression.Identifier.{Identifier}
use Rattle.expression_types.specs.Meanings.{Function}
use Rattle.expression_types.specs.Inputs.{is_enable, is_new, without_enables, written_place}

-- EN or ENO, or the name of an input which none of the later ones gives again
abbrev pub is_apart_from : Function → Option Identifier → List (Option Identifier) → Bool
is_apart_from f name later =
    if is_enable f.declared name then true
    else is_new f.inputs (without_enables f.declared later) (written_place f.inputs name)
