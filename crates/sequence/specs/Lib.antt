-- Calls one after the other, and what demand 3 says of them.
pub mod Calls
pub mod Sequence
