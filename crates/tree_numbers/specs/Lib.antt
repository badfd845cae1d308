-- How trees are counted through: steps.
pub mod NodeLists
pub mod Bare
pub mod NumberedAt
pub mod Numbers
pub mod Laws
pub mod steps
