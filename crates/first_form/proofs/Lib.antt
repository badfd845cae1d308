-- That parts of numbered nodes are numbered: Parts. That the numbers determine a tree: OneTree. The
-- steps of the code: Counting, Known, Made, Chains,
-- Digits, Units. What holds of the form: Sound.
pub mod Parts
pub mod OneTree
pub mod Counting
pub mod Known
pub mod Made
pub mod Chains
pub mod Digits
pub mod Units
pub mod Sound
