-- Calls on one relay device in any order, what was heard of them, and what holds of them all.
pub mod Calls
pub mod Heard
pub mod Sequence
