-- Laws of what comes back: the reader's outcomes, how many events a packet lists, and that a frame and its reader are inverse to
-- each other.
pub mod ReaderOutcomes
pub mod Listings
pub mod RoundTrip
pub mod Worked
