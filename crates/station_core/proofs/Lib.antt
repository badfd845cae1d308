mod Callers
mod Lawful
mod Outcomes
mod Replies
