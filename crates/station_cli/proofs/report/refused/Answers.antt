use Rattle.std.proofs.Common.{rules, ◌≡◌, ℕ, List, length, refl, ap, subst, ◌∙◌, arith}
use Rattle.finding_spans.specs.Places.{IsPosition}
use Rattle.finding_spans.specs.declared.report.Verdict.TheVariants as verdict
use Rattle.station_cli.proofs.report.refused.Goals as goal

pub returns : goal.returns
returns c fault within =
    let position = c.line_of-position.result in
    let same : c.bytes-bytes.result.now ≡ c.args.text.now = c.bytes-bytes.ensures.value in
    let at : c.min.result ≡ c.args.fault.at = omega (arith, c.min.ensures, within, ap length same) in
    record {
      code = c.args.fault.code;
      at = c.args.fault.at;
      line = position.line;
      column = position.column;
      fault = fault;
      position = subst (λ (bytes : List ℕ). IsPosition bytes c.args.fault.at position.line position.column) same
          (subst (λ (a : ℕ). IsPosition c.bytes-bytes.result.now a position.line position.column) at c.line_of-position.ensures);
      verdict_is = ap (λ (file : List ℕ). verdict.Refused (record { file = file; line = position.line; column = position.column; code = c.args.fault.code })) (c.in_ok-name_of.ensures ∙ c.as_bytes.ensures.value);
      counted = search rules;
      waived = refl;
    }
