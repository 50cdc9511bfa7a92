-- The judging of a recorded exchange, in the order of the rules.
pub mod Exchange
pub mod Restarts
pub mod View
pub mod Inner
