-- The numbers of scopes. Source: this profile: units, types and the names of the standard share one
-- scope; global variables, values of enumerations, addresses, tasks and program lines have one each;
-- each unit has one for its variables, one for the steps of its body and one for its actions.
use Rattle.std.specs.Prelude.{ℕ, ◌+◌, ◌*◌}

abbrev pub of_unit : ℕ → ℕ → ℕ
of_unit first unit = unit * 3 + first

abbrev pub locals : ℕ → ℕ
locals = of_unit 6

abbrev pub steps : ℕ → ℕ
steps = of_unit 7

abbrev pub actions : ℕ → ℕ
actions = of_unit 8
