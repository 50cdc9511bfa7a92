-- The register step that every check is made of, the Modbus check, and its bit-by-bit rule as the public routine has it.
pub mod Register
pub mod Check
pub mod BitByBit
