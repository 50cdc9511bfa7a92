-- A law of confirmation: valid queues stay valid.
pub mod Kept
