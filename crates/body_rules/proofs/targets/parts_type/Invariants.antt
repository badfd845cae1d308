use Rattle.std.proofs.Common.{◌≡◌, drop}
use Rattle.body_rules.specs.Surroundings.{here}
use Rattle.body_rules.specs.Targets.{parts_type}
use Rattle.body_rules.proofs.targets.parts_type.Given as goal

abbrev pub invariant-loop-part : goal.invariant-loop-part
invariant-loop-part g l =
    let o = l.outside in
    let h = here (g.B.Names.names o) (g.B.Meaning.parts o) (g.B.Bodies.around o) l.file in
    parts_type h l.parts l.initial.ty ≡ parts_type h (drop l.part-index l.parts) l.ty
