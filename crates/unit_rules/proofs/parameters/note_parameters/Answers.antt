use Rattle.std.proofs.Common.{arith, ap, ◌∙◌}
use Rattle.unit_rules.specs.Parameters.{kind_of}
use Rattle.unit_rules.proofs.Noting.{noted_at}
use Rattle.unit_rules.proofs.GivenBefore.{noted_parameter, given_more}
use Rattle.unit_rules.proofs.parameters.note_parameters.Goals as goal

pub loop-parameter-preserved : goal.loop-parameter-preserved
loop-parameter-preserved g c =
    let xs = c.args.parameters.now in
    let k = c.loop-parameter.parameter-index in
    let x = c.parameter-item.result in
    let is = c.kind_of-kind.ensures ∙ ap kind_of c.bytes.ensures in
    let before = c.loop-parameter.invariant.given in
    record {
      noted = noted_at _ xs k x _ _ _ (omega arith) c.parameter-item.is
          c.loop-parameter.invariant.noted
          (noted_parameter _ _ xs k x _ _ _ _ before is c.note_parameter.ensures);
      given = given_more xs k x _ _ _ (omega arith) c.parameter-item.is before is
          c.and_given-given.ensures;
    }
