use Rattle.std.proofs.Common.{◌≡◌, refl, arith, nat_eq, false}
use Rattle.std.proofs.lemmas.Bool.Decides.{nat_tests}
use Rattle.finding_spans.proofs.Lines.{behind_feed, behind_byte}
use Rattle.finding_spans.proofs.span.behind.Goals as goal

pub returns-then-byte-eq10-clause-behind : goal.returns-then-byte-eq10-clause-behind
returns-then-byte-eq10-clause-behind c = λ before h. rw c.if-byte-eq10.true (behind_feed before _ _ _ refl h)

pub returns-else-byte-eq10-clause-behind : goal.returns-else-byte-eq10-clause-behind
returns-else-byte-eq10-clause-behind c =
    let other : nat_eq c.args.byte 10 ≡ false = grind (arith, nat_tests) in
    λ before h. behind_byte before _ _ _ _ other refl h
