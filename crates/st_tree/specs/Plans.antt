-- The names of the reasons for which a project isn't analysed. Source: this profile.
use Rattle.std.specs.Prelude.{ℕ, List, codes}
use Rattle.st_tree.specs.declared.plan.PlanRefusal.{PlanRefusal}
use Rattle.st_tree.specs.declared.plan.PlanRefusal.TheVariants.{NotBuilt}

abbrev pub name_of : PlanRefusal → List ℕ
name_of NotBuilt = codes "NotBuilt"
