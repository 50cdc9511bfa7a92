-- The worked examples W1 to W14.
pub mod Rows
