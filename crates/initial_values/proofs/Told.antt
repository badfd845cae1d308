-- What is told of parts that stand together: the lemmas of faults, under names of this crate.
use Rattle.std.proofs.Common.{Option, Some, None}
use Rattle.link_faults.specs.Checked.{Checked, bind, Tells}
use Rattle.link_faults.specs.declared.fault.Faults.{Faults}
use Rattle.link_faults.proofs.Tells as told

pub bind_some : {A B : Type 0} (x : Checked A) (k : A → Checked B) (old mid new : Faults) (a : A)
    (r : Option B) → Tells x old mid (Some a) → Tells (k a) mid new r → Tells (bind x k) old new r
bind_some = told.bind_some

pub bind_none : {A B : Type 0} (x : Checked A) (k : A → Checked B) (old new : Faults)
    → Tells x old new None → Tells (bind x k) old new None
bind_none = told.bind_none
