-- What is told of a part of a project: what it is, or its faults. A part that uses what is faulty
-- elsewhere has none of its own. Source: this profile: a part that holds a fault is nothing, and breaks
-- no rule outside itself.
use Rattle.std.specs.Prelude.{◌≡◌, Bool, if◌then◌else◌, List, [], ◌∷◌, ◌++◌, Option, Some, None}
use Rattle.st_tree.specs.declared.node.Site.{Site}
use Rattle.link_faults.specs.First.{after}
use Rattle.link_faults.specs.declared.code.LinkCode.{LinkCode}
use Rattle.link_faults.specs.declared.fault.LinkFault.{LinkFault}
use Rattle.link_faults.specs.declared.fault.Faults.{Faults}

pub data Checked (A : Type 0) : Type 0 where
  Good : A → Checked A
  Bad : List LinkFault → Checked A

abbrev pub faults : {A : Type 0} → Checked A → List LinkFault
faults (Good a) = []
faults (Bad fs) = fs

abbrev pub answer : {A : Type 0} → Checked A → Option A
answer (Good a) = Some a
answer (Bad fs) = None

-- a use of what is faulty
abbrev pub unusable : {A : Type 0} → Checked A
unusable = Bad []

-- one fault
abbrev pub wrong : {A : Type 0} → Site → LinkCode → Checked A
wrong site code = Bad (record { site = site; code = code } ∷ [])

-- it is so, where the test holds; else the fault
abbrev pub provided : {A : Type 0} → Bool → A → Site → LinkCode → Checked A
provided test a site code = if test then Good a else wrong site code

-- a rule that is asked only of a part without faults
abbrev pub bind : {A B : Type 0} → Checked A → (A → Checked B) → Checked B
bind (Good a) rule = rule a
bind (Bad fs) rule = Bad fs

-- a rule on two parts: the faults of both stand, and the rule is asked only where there are none
abbrev pub both : {A B C : Type 0} → Checked A → Checked B → (A → B → Checked C) → Checked C
both (Good a) y rule = bind y (rule a)
both (Bad fs) y rule = Bad (fs ++ faults y)

-- What a call tells of a part: the first fault after it, and its answer.
pub record Tells {A : Type 0} (x : Checked A) (old new : Faults) (result : Option A) : Type 0 where
  pub first : new ≡ after old (faults x)
  pub answer : result ≡ answer x
