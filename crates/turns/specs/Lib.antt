-- One request to the devices, the rank of a device, and that other mark bits would do as well.
pub mod Request
pub mod Rank
pub mod MarkBits
pub mod Inner
