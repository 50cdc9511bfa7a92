-- The refusals by name, an answer as numbers, and what a call that writes gives.
pub mod Number
pub mod Numbers
pub mod Output
