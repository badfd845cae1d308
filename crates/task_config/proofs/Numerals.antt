-- A numeral that fits is kept as it is.
use Rattle.std.proofs.Common.{◌≡◌, ◌<◌, ◌^◌, ℕ, refl, arith}
use Rattle.std.proofs.lemmas.Grind.{common_steps}
use Rattle.first_form.specs.declared.tree.Literal.{Literal as Numeral}
use Rattle.task_config.specs.Plan.{numeral_value}
use Rattle.task_config.specs.Written.{kept_value, kept_size}

size_same : (size : ℕ) → size < 2 ^ 127 → kept_size size ≡ size
size_same size h = grind (arith, common_steps)

pub value_same : (numeral : Numeral) → numeral.size < 2 ^ 127 → kept_value numeral ≡ numeral_value numeral
value_same numeral h = rw (size_same numeral.size h) refl
