-- The device table, and when it is valid.
pub mod Table
pub mod Slots
