pub mod ReversedTwice
