-- Laws of the request of event polling: the reader's outcomes, and that the frame and its reader are inverse to each other.
pub mod ReaderOutcomes
pub mod RoundTrip
pub mod Worked
