-- Laws of the eBUS check byte that belong to no one function.
pub mod CheckByte
pub mod BitByBit
pub mod Worked
