-- Laws that every crate above cites: cases of a test, lists that are read and filled from their start, and numbers that
-- pass a test.
pub mod Cases
pub mod Filling
pub mod Tests
pub mod All
pub mod Position
pub mod Counting
pub mod Behind
pub mod Std
