-- The contest of devices on the bus, over keys as plain numbers: it knows no table.
pub mod Contest
pub mod Prefix
pub mod Smallest
