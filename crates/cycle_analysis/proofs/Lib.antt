-- Rows of intervals and the code of a pass: Indices, Going. The theorems over all runs: Lists, Intervals, Invariant, Steps, Runs, Steady. The answer of `solve`: Rows, Monotone, Rounds. The alarms of a log: Sites, Told, Rising.
pub mod Indices
pub mod Rows
pub mod Going
pub mod Lists
pub mod Intervals
pub mod Invariant
pub mod Steps
pub mod Runs
pub mod Steady
pub mod Monotone
pub mod Rounds
pub mod Sites
pub mod Told
pub mod Rising
pub mod OneTable
