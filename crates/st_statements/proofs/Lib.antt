pub mod SimpleStatements
pub mod LabelForms
pub mod ReadingForms
mod NamedStatements
mod CaseBranches
mod SameStatements
pub mod StatementExactness
