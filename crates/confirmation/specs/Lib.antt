-- What a poll confirms.
pub mod Confirmation
