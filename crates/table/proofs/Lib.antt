-- Laws of the table.
pub mod Meaning
pub mod Slots
