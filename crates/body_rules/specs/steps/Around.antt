-- The loops around, as the code has them.
use Rattle.std.specs.Prelude.{List, [], ◌∷◌}
use Rattle.body_rules.specs.Loops.{Loop, Plain, Counting}
use Rattle.body_rules.specs.declared.loops.Loops.{Loops, Outermost, Within', Counting'}

abbrev pub around : Loops → List Loop
around Outermost = []
around (Within' p outer) = Plain ∷ around outer
around (Counting' name p outer) = Counting name.now ∷ around outer
