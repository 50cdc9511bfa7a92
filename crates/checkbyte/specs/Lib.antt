-- The eBUS check byte, rules E1 and E2, and the same bit by bit.
pub mod Check
pub mod BitByBit
pub mod Inner
