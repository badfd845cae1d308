use Rattle.first_form.proofs.Sound.{one_form, sound}
use Rattle.first_form.proofs.law.form_laws.Goals as goal

pub returns-clause-one : goal.returns-clause-one
returns-clause-one c = one_form

pub returns-clause-sound : goal.returns-clause-sound
returns-clause-sound c = sound
