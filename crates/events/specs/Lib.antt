-- Events: their bytes, one at a position of any bytes, and those that bytes are from end to end; and the ids of devices.
pub mod Events
