-- The event queues of the devices, and when they are valid.
pub mod Queues
