-- The value so far, and what is still to be read, decide as the whole does.
use Rattle.std.proofs.Common.{◌≡◌, ◌≤◌, length}
use Rattle.first_form.specs.FirstForm.{is_short, number_of}
use Rattle.first_form.proofs.Digits.{short_from, worth}
use Rattle.first_form.proofs.numbers.short_number.Given as goal

abbrev pub invariant-digit : goal.invariant-digit
invariant-digit l = record {
  small : l.value ≤ 32767;
  told : short_from l.value l.rest ≡ is_short l.digits;
  worth : worth l.value l.rest ≡ number_of l.digits;
}

abbrev pub decreases-digit : goal.decreases-digit
decreases-digit l = length l.rest
