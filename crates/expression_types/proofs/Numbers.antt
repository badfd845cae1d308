-- Numbers past 128 bits are in no type's range.
use Rattle.std.proofs.Common.{rules, ◌≡◌, ◌^◌, ℤ, pos, Bool, true, false, Some, None, refl, arith, subst}
use Rattle.std.proofs.lemmas.Int.{ints}
use Rattle.std.proofs.lemmas.Bool.{and_parts}
use Rattle.std.specs.Prelude.{FitsSigned, int_le, ◌≤ℤ◌, neg_ℤ}
use Rattle.std.specs.Int.{w128}
use Rattle.iec_tables.specs.declared.elem.Elem.{Elem}
use Rattle.iec_tables.specs.Types.{low_of, high_of}
use Rattle.st_tree.specs.declared.code.Number.{Number}
use Rattle.link_faults.specs.declared.code.LinkCode.TheVariants as code
use Rattle.expression_types.specs.Types.{in_range}
use Rattle.expression_types.specs.Rules.{outcome, own, known}
use Rattle.expression_types.specs.steps.Exact.{IsExact}
use Rattle.expression_types.specs.declared.judged.ExprType.TheVariants as ty
use Rattle.expression_types.specs.declared.judged.Standing.{Standing}

at_most : (a b : ℤ) → int_le a b ≡ true → a ≤ℤ b
at_most a b h = grind (arith, ints)

-- all types have numbers of 65 bits
within : (l h z : ℤ) → neg_ℤ (pos (2 ^ 64)) ≤ℤ l → h ≤ℤ pos (2 ^ 64) → l ≤ℤ z → z ≤ℤ h → FitsSigned w128 z
within l h z a b c d = grind (arith, ints)

low_within : (t : Elem) → neg_ℤ (pos (2 ^ 64)) ≤ℤ low_of t
low_within t = search rules

high_within : (t : Elem) → high_of t ≤ℤ pos (2 ^ 64)
high_within t = search rules

small : (t : Elem) (z : ℤ) → in_range t z ≡ true → FitsSigned w128 z
small t z e =
    let two = and_parts (int_le (low_of t) z) (int_le z (high_of t)) e in
    within (low_of t) (high_of t) z (low_within t) (high_within t)
    (at_most (low_of t) z two.0) (at_most z (high_of t) two.1)

none_by : (c : Standing) (t : Elem) (z : ℤ) (b : Bool) → in_range t z ≡ b → IsExact None z
    → own c (ty.Elem t) code.BadBound ≡ outcome c t z
none_by c t z true e far = absurd (far (small t z e))
none_by c t z false e far = rw e refl

pub outcome_none : (c : Standing) (t : Elem) (z : ℤ) → IsExact None z
    → own c (ty.Elem t) code.BadBound ≡ outcome c t z
outcome_none c t z far = none_by c t z (in_range t z) refl far

pub outcome_some : (c : Standing) (t : Elem) (n : Number) (z : ℤ) → in_range t n.value ≡ true
    → IsExact (Some n) z → known (ty.Elem t) n ≡ outcome c t z
outcome_some c t n z is e =
    let P : ℤ → Type 0 = λ y. known (ty.Elem t) n ≡ outcome c t y in
    subst P e (rw is refl)

pub outcome_out : (c : Standing) (t : Elem) (n : Number) (z : ℤ) → in_range t n.value ≡ false
    → IsExact (Some n) z → own c (ty.Elem t) code.BadBound ≡ outcome c t z
outcome_out c t n z is e =
    let P : ℤ → Type 0 = λ y. own c (ty.Elem t) code.BadBound ≡ outcome c t y in
    subst P e (rw is refl)
