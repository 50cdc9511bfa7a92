-- Feeding a run to a state of listening.
pub mod Inner
