-- The request of event polling: its frame, how it is read and written, and that both agree.
pub mod Layout
pub mod Reading
pub mod Writing
pub mod RoundTrip
