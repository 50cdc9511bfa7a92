-- A framed message with parameters; what the scan frames of Fast Modbus have in common, and what their head check finds.
pub mod Framing
pub mod Layout
pub mod Head
