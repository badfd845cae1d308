use Rattle.std.proofs.Common.{◌≡◌, ◌++◌, map, take}
use Rattle.project_meanings.specs.Signatures as spec
use Rattle.project_meanings.specs.Rows.{bare_inputs}
use Rattle.project_meanings.proofs.signatures.add_names.Given as goal

abbrev pub invariant-loop-x : goal.invariant-loop-x
invariant-loop-x l =
    bare_inputs l.rows.items
    ≡ bare_inputs l.fn.rows.items ++ map (spec.input_named l.number) (take l.x-index l.names)
