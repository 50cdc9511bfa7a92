-- Listening to an exchange: the state, and what becomes of it.
pub mod Listening
