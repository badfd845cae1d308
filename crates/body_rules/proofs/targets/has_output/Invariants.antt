use Rattle.std.proofs.Common.{◌≡◌, drop}
use Rattle.body_rules.specs.Surroundings.{here}
use Rattle.body_rules.specs.Targets.{has_output}
use Rattle.body_rules.proofs.targets.has_output.Given as goal

abbrev pub invariant-loop-part : goal.invariant-loop-part
invariant-loop-part g l =
    let o = l.outside in
    let h = here (g.B.Names.names o) (g.B.Meaning.parts o) (g.B.Bodies.around o) l.file in
    has_output h l.parts l.initial.ty ≡ has_output h (drop l.part-index l.parts) l.ty
