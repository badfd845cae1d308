mod Same
mod Inputs
mod Scopes
