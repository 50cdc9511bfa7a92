-- Laws of answers: the FF before them, the reader's outcomes, that a frame and its reader are inverse to each other, and the
-- lengths that the crates above count on.
pub mod LeadingFill
pub mod ReaderOutcomes
pub mod FrameLengths
pub mod BehindFill
pub mod Carried
pub mod RoundTrip
pub mod Worked
