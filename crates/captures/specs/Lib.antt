-- Where the exchanges of a capture stand.
pub mod Capture
