-- How a code is turned round: steps.
pub mod CodeCopies
pub mod steps
