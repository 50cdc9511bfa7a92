-- Telegrams as they are read, in the order of the rules.
pub mod Telegram
pub mod View
pub mod Inner
