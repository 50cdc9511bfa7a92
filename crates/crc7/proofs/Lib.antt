-- Laws of the CRC7: what a character does to the register, and that it is the bit-by-bit rule.
pub mod Character
pub mod BitByBit
