use Rattle.std.proofs.Common.{◌≡◌, ◌<◌, ◌+◌, ◌*◌, ◌-◌, ◌∷◌, Bool, true, false, None, Some, cond, sym, ap, ◌∙◌, arith}
use Rattle.first_form.specs.FirstForm.{is_decimal, is_short, number_of}
use Rattle.first_form.proofs.Digits.{short_from, one_digit, too_great}
use Rattle.first_form.proofs.numbers.short_number.Goals as goal

pub returns-then-value-gt-MAX_NUMBER : goal.returns-then-value-gt-MAX_NUMBER
returns-then-value-gt-MAX_NUMBER c =
    let value = c.digit.value * 10 + (c.in-Some.byte.now - 48) in
    let great : 32767 < value = omega arith in
    let is : is_decimal c.in-Some.byte.now ≡ true = cc in
    let whole : c.digit.rest.now ≡ c.in-Some.byte.now ∷ c.in-Some.others.now =
    c.in-Some.ensures.cases.0 in
    let long : is_short c.args.digits.now ≡ false =
    sym c.digit.invariant.told ∙ ap (short_from c.digit.value) whole ∙ one_digit c.digit.value
    c.in-Some.byte.now c.in-Some.others.now is ∙ too_great value c.in-Some.others.now great in
    sym (ap (λ (b : Bool). cond b (Some (number_of c.args.digits.now)) None) long)
