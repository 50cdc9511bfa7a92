-- The data of a reply, rule E17.
pub mod Data
