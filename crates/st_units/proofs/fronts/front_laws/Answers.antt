use Rattle.std.proofs.Common.{refl}
use Rattle.st_expr.proofs.Exactness.{exact_expression}
use Rattle.st_statements.proofs.StatementExactness.{exact_statements}
use Rattle.sfc_text.proofs.Forms.{form_sfc}
use Rattle.st_units.proofs.FrontAnswers.{front_laws}
use Rattle.st_units.proofs.fronts.front_laws.Goals as goal

pub returns-clause-expressions : goal.returns-clause-expressions
returns-clause-expressions c = front_laws exact_expression refl

pub returns-clause-lists : goal.returns-clause-lists
returns-clause-lists c = front_laws exact_statements refl

pub returns-clause-charts : goal.returns-clause-charts
returns-clause-charts c = front_laws form_sfc.exact refl
