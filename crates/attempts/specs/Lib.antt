-- One attempt at a command or a reply.
pub mod Attempt
pub mod Looks
pub mod View
pub mod Inner
