-- One poll of the devices for events, the calls that make it, and what only private contracts need.
pub mod Poll
pub mod Calls
pub mod Inner
