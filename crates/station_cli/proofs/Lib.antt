-- That a run is complete: Complete. That a report on a tree is the defined one: Lists, Statements,
-- Holders, Entries, RangeLines, Planned, Alarms, Made. What stands under it of the tree: Trees,
-- Within, Parsed. That a report holds of each run: Runs, Says. That it is one: OneAlarms,
-- OneRanges, OneVerdict, OneReport. How a call ends: Reported.
pub mod Complete
pub mod Lists
pub mod Statements
pub mod Holders
pub mod Entries
pub mod RangeLines
pub mod Planned
pub mod Alarms
pub mod Made
pub mod Trees
pub mod Within
pub mod Parsed
pub mod Runs
pub mod Says
pub mod OneAlarms
pub mod OneRanges
pub mod OneVerdict
pub mod OneReport
pub mod Reported
