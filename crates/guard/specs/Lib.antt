-- The guard before every call.
pub mod Guard
