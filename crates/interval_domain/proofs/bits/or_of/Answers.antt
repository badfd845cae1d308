use Rattle.std.proofs.Common.{◌≡◌, ℤ, ℕ, pos, bit_or, unsigned_abs, FitsSigned, to_z, subst, sym}
use Rattle.std.proofs.lemmas.Int.{to_z-of_z, to_z_pos}
use mir.Syntax.{w128}
use Rattle.interval_domain.specs.Bits.{or_of}
use Rattle.interval_domain.proofs.Patterns.{or-fits}
use Rattle.interval_domain.proofs.bits.or_of.Goals as goal

pub overflow_cast-result-3 : goal.overflow_cast-result-3
overflow_cast-result-3 c =
    let x = to_z-of_z w128 c.args.x c.ranges.x in
    let y = to_z-of_z w128 c.args.y c.ranges.y in
    subst (λ (z : ℤ). FitsSigned w128 z) (λ n. pos (bit_or (unsigned_abs (sym x n)) (unsigned_abs (sym y n))))
    (or-fits c.args.x c.args.y (c.requires.left, c.ranges.x) (c.requires.right, c.ranges.y))

pub returns : goal.returns
returns c =
    let x = to_z-of_z w128 c.args.x c.ranges.x in
    let y = to_z-of_z w128 c.args.y c.ranges.y in
    let fits = or-fits c.args.x c.args.y (c.requires.left, c.ranges.x) (c.requires.right, c.ranges.y) in
    subst (λ (m : ℕ). to_z w128 m ≡ or_of c.args.x c.args.y)
    (λ n. bit_or (unsigned_abs (sym x n)) (unsigned_abs (sym y n)))
    (to_z_pos w128 (bit_or (unsigned_abs c.args.x) (unsigned_abs c.args.y)) fits.sfits)
