-- Laws of requests: the reader's outcomes, and that a frame and its reader are inverse to each other.
pub mod ReaderOutcomes
pub mod RoundTrip
pub mod Worked
