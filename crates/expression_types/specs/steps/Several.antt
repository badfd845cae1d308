-- Answers of several parts that stand side by side: a step on the way.
use Rattle.std.specs.Prelude.{Bool, true, false, Option, Some, None}

-- whether all are good, one more of them
abbrev pub still_good : {A : Type 0} → Bool → Option A → Bool
still_good all (Some a) = all
still_good all None = false

-- the answer, where those beside it are good, too
abbrev pub where_all : {A : Type 0} → Bool → Option A → Option A
where_all true answer = answer
where_all false answer = None
