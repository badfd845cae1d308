use Rattle.std.proofs.Common.{◌≡◌, length, take, arith, ap, ◌∙◌, below_more}
use Rattle.iec_tables.specs.Words.{raised_all}
use Rattle.standard_names.proofs.Joining.{cut-parts, front-long, raised-rest, nowhere}
use Rattle.standard_names.proofs.joint.cut.Goals as goal

pub returns-in-Some : goal.returns-in-Some
returns-in-Some c =
    let name = c.args.name.now in
    let at = c.loop-at.at in
    let long : length (raised_all (take at name)) ≡ at = front-long name at (omega arith) in
    record {
      parts = cut-parts name c.in-Some.rest.now at c.in-Some.ensures;
      first = λ k l. c.loop-at.invariant k (omega (arith, long));
    }

pub loop-at-preserved : goal.loop-at-preserved
loop-at-preserved c = below_more _ _ c.loop-at.invariant (λ j. c.in_default.ensures (ap (take 4) (raised-rest c.args.name.now c.loop-at.at) ∙ j))

pub returns : goal.returns
returns c = nowhere c.args.name.now c.loop-at.at c.loop-at.invariant c.loop-at-test.false
