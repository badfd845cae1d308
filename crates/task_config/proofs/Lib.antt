-- What the code builds: Written, Places. That it is what the definitions say: Named, Numerals, Exact, Literals, Steady, Planned. The operators of a body: Operators, Apart, Held.
pub mod Lists
pub mod Written
pub mod Places
pub mod Named
pub mod Numerals
pub mod Exact
pub mod Literals
pub mod Steady
pub mod Planned
pub mod Operators
pub mod Apart
pub mod Held
