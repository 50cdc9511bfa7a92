-- The proof of the worked examples.
pub mod All
