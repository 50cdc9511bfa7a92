-- Telegrams as they are written.
pub mod Sending
