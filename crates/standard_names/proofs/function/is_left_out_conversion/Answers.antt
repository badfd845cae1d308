use Rattle.std.proofs.Common.{inl, inr, sym, true≢false}
use Rattle.iec_tables.specs.Words.{raised_all}
use Rattle.standard_names.proofs.Rows.{not_so}
use Rattle.standard_names.proofs.Names.{conversion-made, conversion-parts, no-conversion}
use Rattle.standard_names.proofs.function.is_left_out_conversion.Goals as goal

pub returns-then-is_left_out_type_name : goal.returns-then-is_left_out_type_name
returns-then-is_left_out_type_name c =
    let s = raised_all c.args.name.now in
    let x = raised_all c.in-Some.from.now in
    let y = raised_all c.in-Some.to.now in
    let left = c.is_left_out_type_name.ensures.0 c.if-is_left_out_type_name.true in (
      λ t. conversion-made s x y c.in-Some.ensures (inr left) (c.is_type_name.ensures.0 t) (inl left),
      λ r. c.is_type_name.ensures.1 (conversion-parts s x y c.in-Some.ensures r).1,
    )

pub returns-then-is_left_out_type_name-2 : goal.returns-then-is_left_out_type_name-2
returns-then-is_left_out_type_name-2 c =
    let s = raised_all c.args.name.now in
    let x = raised_all c.in-Some.from.now in
    let y = raised_all c.in-Some.to.now in
    let left = c.is_left_out_type_name-else-is_left_out_type_name.ensures.0 c.if-is_left_out_type_name-2.true in
    let typed = c.is_type_name-then-is_left_out_type_name-2.ensures in (
      λ t. conversion-made s x y c.in-Some.ensures (typed.0 t) (inr left) (inr left),
      λ r. typed.1 (conversion-parts s x y c.in-Some.ensures r).0,
    )

pub returns-else-is_left_out_type_name-2 : goal.returns-else-is_left_out_type_name-2
returns-else-is_left_out_type_name-2 c =
    let s = raised_all c.args.name.now in
    let x = raised_all c.in-Some.from.now in
    let y = raised_all c.in-Some.to.now in
    let second = c.is_left_out_type_name-else-is_left_out_type_name in
    let not_first = not_so c.is_left_out_type_name.result c.is_left_out_type_name.ensures c.if-is_left_out_type_name.false in
    let not_second = not_so second.result second.ensures c.if-is_left_out_type_name-2.false in (
      λ t. absurd (not_second (second.ensures.0 t)),
      λ r. elim (conversion-parts s x y c.in-Some.ensures r).2 [ inl a ↦ absurd (not_first a) | inr b ↦ second.ensures.1 b ],
    )

pub returns-in-None : goal.returns-in-None
returns-in-None c = (λ t. absurd (true≢false (sym t)), λ r. absurd (no-conversion (raised_all c.args.name.now) c.in-None.ensures r))
