-- Railbus packets: their digits, their layout, how they are read and written, and that both agree.
pub mod Hex
pub mod Layout
pub mod Reading
pub mod Writing
pub mod RoundTrip
