use Rattle.std.proofs.Common.{◌≡◌, ℤ, pos, ◌-◌, ◌*◌, ◌%◌, ◌^◌, ◌<◌, ◌≤◌, unsigned_abs, FitsSigned, to_z, subst, sym}
use Rattle.std.specs.Int.Count.{count_leading_zeros}
use Rattle.std.proofs.lemmas.Int.{to_z-of_z}
use mir.Syntax.{w128}
use Rattle.interval_domain.specs.Bits.{ones_above}
use Rattle.interval_domain.proofs.Patterns.{shift-below, shifted-some, shifted-fits, shifted-is, ones_above-is}
use Rattle.interval_domain.proofs.bits.ones_above.Goals as goal

pub overflow_shl-result : goal.overflow_shl-result
overflow_shl-result c =
    let e = to_z-of_z w128 c.args.z c.ranges.z in
    subst (λ (z : ℤ). 128 - count_leading_zeros 128 (unsigned_abs z) < 128) (sym e)
    (shift-below c.args.z (c.requires, c.ranges.z))

pub overflow_sub-result : goal.overflow_sub-result
overflow_sub-result c =
    let e = to_z-of_z w128 c.args.z c.ranges.z in
    subst (λ (z : ℤ). 1 ≤ 1 * 2 ^ (128 - count_leading_zeros 128
    (unsigned_abs z)) % 340282366920938463463374607431768211456) (sym e)
    (shifted-some c.args.z (c.requires, c.ranges.z))

pub overflow_cast-result-2 : goal.overflow_cast-result-2
overflow_cast-result-2 c =
    let e = to_z-of_z w128 c.args.z c.ranges.z in
    subst (λ (z : ℤ). FitsSigned w128 (pos
    (1 * 2 ^ (128 - count_leading_zeros 128 (unsigned_abs z)) % 340282366920938463463374607431768211456 - 1))) (sym e)
    (shifted-fits c.args.z (c.requires, c.ranges.z))

pub returns-clause-value : goal.returns-clause-value
returns-clause-value c =
    let e = to_z-of_z w128 c.args.z c.ranges.z in
    subst (λ (z : ℤ). to_z w128 (1 * 2 ^
    (128 - count_leading_zeros 128
    (unsigned_abs z)) % 340282366920938463463374607431768211456 - 1) ≡ ones_above c.args.z) (sym e)
    (shifted-is c.args.z (c.requires, c.ranges.z))

pub returns-clause-least : goal.returns-clause-least
returns-clause-least c =
    let value : goal.returns-clause-value = returns-clause-value in
    ones_above-is c.args.z _ (c.requires, c.ranges.z) (value c)
