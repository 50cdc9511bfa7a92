-- A whole capture, exchange after exchange.
pub mod Walk
pub mod Runs
