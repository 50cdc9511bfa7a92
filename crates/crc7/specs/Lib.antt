-- The CRC7 of Railbus and its checksum, and the same bit by bit.
pub mod Check
pub mod BitByBit
