-- A new event for a device.
pub mod Event
