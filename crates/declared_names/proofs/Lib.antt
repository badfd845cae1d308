mod Scopes
mod Runs
