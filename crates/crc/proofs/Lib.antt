-- Laws of a register over the direction and the width, and what follows for the Modbus check.
pub mod Xor
pub mod Register
pub mod Table
pub mod Byte
pub mod Fitting
pub mod Pairs
pub mod BitByBit
