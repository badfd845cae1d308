-- The parts of the line, one after the other.
use Rattle.std.proofs.Common.{append_assoc}
use Rattle.report_text.proofs.text_report.put_refusal.Goals as goal

pub returns : goal.returns
returns c =
    simp append_assoc (simp append_assoc at (rw (c.in_ok-put_fault.ensures, c.in_ok-put-2.ensures, c.in_ok-put_place.ensures, c.in_ok-put.ensures, c.bytes.ensures) at c.put-3.ensures))
