-- The names that count, as the code has them.
use Rattle.declaration_order.specs.declared.graphs.Wanted.{Wanted}
use Rattle.declaration_order.specs.declared.graphs.Wanted.TheVariants as wants
use Rattle.declaration_order.specs.Leads as spec

abbrev pub wanted_of : Wanted → spec.Wanted
wanted_of wants.Leads = spec.leads
wanted_of wants.LeadsByType = spec.leads_by_type
wanted_of wants.NamesAValue = spec.names_a_value
wanted_of wants.Names = spec.names
