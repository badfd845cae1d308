-- A rule on the answers of two parts: a step on the way.
use Rattle.std.specs.Prelude.{Option, Some, None}
use Rattle.link_faults.specs.Checked.{Checked, unusable}

abbrev pub of_both : {A B C : Type 0} → Option A → Option B → (A → B → Checked C) → Checked C
of_both (Some a) (Some b) rule = rule a b
of_both (Some a) None rule = unusable
of_both None b rule = unusable
