-- Which operator a name stands for. Source: IEC 61131-3; the code has one call for each operator, here they
-- are told by their rows.
use Rattle.iec_tables.specs.declared.elem.Elem.{Elem}
use Rattle.iec_tables.specs.Types.{width_of}
use Rattle.interval_bench.specs.declared.operation.Operation.{Operation}
use Rattle.interval_bench.specs.declared.operation.Operation.TheVariants.{Add, Sub, Mul, Div, Mod, Neg, Abs, Min, Max, Limit, Sel, Convert, And, Or, Xor, Not, Shl, Shr, Rol, Ror}
use Rattle.interval_domain.specs.Interval.{Interval}
use Rattle.interval_domain.specs.Operators.{add_raw, sub_raw}
use Rattle.interval_domain.specs.Arithmetic.{mul_raw, div_raw, modulo_row, neg_raw, abs_raw}
use Rattle.interval_domain.specs.Selection.{min_row, max_row, limit_row, sel_row}
use Rattle.interval_domain.specs.Bits.{patterns_in, and_row, or_row, xor_row, not_row}
use Rattle.interval_domain.specs.Shifts.{shl_row, shr_row, rol_row, ror_row}

-- the raw result of two operands of a type; a third operand is the second
abbrev pub raw_of : Operation → Elem → Interval → Interval → Interval
raw_of Add t a b = add_raw a b
raw_of Sub t a b = sub_raw a b
raw_of Mul t a b = mul_raw a b
raw_of Div t a b = div_raw a b
raw_of Mod t a b = modulo_row a b
raw_of Neg t a b = neg_raw a
raw_of Abs t a b = abs_raw a
raw_of Min t a b = min_row a b
raw_of Max t a b = max_row a b
raw_of Limit t a b = limit_row b a b
raw_of Sel t a b = sel_row a b b
raw_of Convert t a b = a
raw_of And t a b = and_row (patterns_in (width_of t) a) (patterns_in (width_of t) b)
raw_of Or t a b = or_row (patterns_in (width_of t) a) (patterns_in (width_of t) b)
raw_of Xor t a b = xor_row (patterns_in (width_of t) a) (patterns_in (width_of t) b)
raw_of Not t a b = not_row t (patterns_in (width_of t) a)
raw_of Shl t a b = shl_row (width_of t) (patterns_in (width_of t) a) b
raw_of Shr t a b = shr_row (width_of t) (patterns_in (width_of t) a) b
raw_of Rol t a b = rol_row (width_of t) (patterns_in (width_of t) a) b
raw_of Ror t a b = ror_row (width_of t) (patterns_in (width_of t) a) b
