-- Calls one after the other on a table with its queues, and what is claimed of them.
pub mod Calls
pub mod Sequence
pub mod Fresh
