-- Steps on the way from the code to the definitions: Answers, Numbering, Chains, Known.
pub mod Answers
pub mod Numbering
pub mod Chains
pub mod Known
